-- Laws of tables that hold the same rows: where the one holds exactly the calls and answers of a run, the other does, and two that do hold the same.
-- Assumes nothing.
use Prim.Native.Nat.{ℕ, ◌<◌}
use mathlib.Core.Path.{sym, ◌∙◌}
use Rattle.steps.specs.State.{State}
use Rattle.steps.specs.Counting.{Exactly}
use Rattle.records.specs.Finished.{call_rows, answer_rows}
use Rattle.records.proofs.Growth.{Tables, HeldCall, CallsOnce}
use Rattle.matching.specs.Matching.{SameRows}
use Rattle.matching.proofs.Pairs.{paired_exactly, exactly_paired}
use Rattle.matching.proofs.RunLaws.{row_parts, row_of_parts}

module _ {t e : Tables} {P : ℕ × State → Type 0} {Q : ℕ × State × State → Type 0} where
  pub same_rows_exactly : SameRows t e → Exactly P (call_rows e.calls) → Exactly Q (answer_rows e.calls e.answers)
      → Exactly P (call_rows t.calls) × Exactly Q (answer_rows t.calls t.answers)
  same_rows_exactly s p q = (paired_exactly s.calls p, paired_exactly s.answers q)

  pub exactly_same_rows : Exactly P (call_rows t.calls) → Exactly P (call_rows e.calls) → Exactly Q (answer_rows t.calls t.answers)
      → Exactly Q (answer_rows e.calls e.answers) → SameRows t e
  exactly_same_rows p p' q q' = record { calls = exactly_paired p p'; answers = exactly_paired q q' }

-- What it says of the calls, told as of calls held.
module _ {t e : Tables} (s : SameRows t e) where
  pub same_rows_held : (i : ℕ) → i < t.calls.count → HeldCall e (t.calls.action i, t.calls.state i)
  same_rows_held i l = let (j, u, v) = s.calls.held i l in let (a, d) = row_parts (sym v) in (j, u, record { has_action = a; has_state = d })

  pub same_rows_all : (j : ℕ) → j < e.calls.count → HeldCall t (e.calls.action j, e.calls.state j)
  same_rows_all j l = let (i, u, v) = s.calls.all j l in let (a, d) = row_parts v in (i, u, record { has_action = a; has_state = d })

  pub same_rows_once : CallsOnce t.calls
  same_rows_once i j a D l h u v =
      s.calls.once i j l h (row_of_parts (u.has_action ∙ sym v.has_action) (u.has_state ∙ sym v.has_state))
