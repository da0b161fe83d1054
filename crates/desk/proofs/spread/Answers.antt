-- `spread` meets its contract: three stores, four words by their quarters, one store. Assumes nothing.
use mathlib.Core.List.{[]}
use Prim.Native.Nat.{ℕ, ◌+◌, ◌*◌, ◌≤◌}
use mathlib.Core.List.{List, ◌∷◌}
use lib.ListN.{length, get_or, set}
use Rattle.records.specs.Records.{answer_width}
use Rattle.desk.specs.Desk.{packed_width, Written}
use native.Mathlib.Omega.{arith}
use Rattle.desk.proofs.AnswerLaws.{written_three, written_store, written_append}
use Rattle.desk.proofs.spread.Goals as goal

-- The first three words of record x.
headed : (words : List ℕ) (x : ℕ) → answer_width * x + 20 ≤ length words
    → Written words (answer_width * x) (get_or words (packed_width * x) 0 ∷ get_or words (packed_width * x + 1) 0 ∷ get_or words (packed_width * x + 2) 0 ∷ [])
    (set (set (set words (answer_width * x) (get_or words (packed_width * x) 0)) (answer_width * x + 1) (get_or words (packed_width * x + 1) 0))
    (answer_width * x + 2) (get_or words (packed_width * x + 2) 0))
headed words x fits = written_three words (answer_width * x) _ _ _ (omega arith)

pub returns : goal.returns
returns c = let a = c.args in let w0 = headed a.answers.now a.x (omega arith) in let w1 = written_append w0 c.put_quarters.ensures in let w2 = written_append w1 c.put_quarters-2.ensures in let w3 = written_append w2 c.put_quarters-3.ensures in let w4 = written_append w3 c.put_quarters-4.ensures in written_store _ w4 (omega arith)
