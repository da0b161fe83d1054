-- The refusal of a lookup of its own, 35 (request R-10); it has 40 too, of the path. Assumes nothing.
use Rattle.std.specs.Prelude.{ℕ}

-- 35: a list of calls with fewer places than calls, or a place read that is not below the call count.
abbrev pub lookup_refusals : record { bad_call_list : ℕ }
lookup_refusals = record { bad_call_list = 35 }
