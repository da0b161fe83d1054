-- The list of call record numbers (request R-10). Assumes nothing.
use Rattle.std.specs.Prelude.{ℕ, List, length}
use Rattle.canonical.specs.Order.{in_order}
use Rattle.canonical.specs.Rows.{CallRow, call_key, call_at, numbers}

-- "A list of call record numbers, by action and then state" (R-10).
unfoldable pub call_list : List CallRow → List ℕ
unfolding numbers in_order
call_list calls = in_order (λ i. call_key (call_at calls i)) (numbers 0 (length calls))
