-- The rows of one or two goals, given as records of 2 and 19 words (request R-14). Read by the proofs alone. Assumes nothing.
use Rattle.std.specs.Prelude.{ℕ, ◌*◌, ◌≤◌, ◌≡◌, Bool, true, false, List, length, get_or}
use Rattle.steps.specs.State.{State}
use Rattle.records.specs.Records.{Bodies, room}
use Rattle.records.proofs.Growth.{tables}
use Rattle.tabling.proofs.Evidence.{Among}
use Rattle.tabling.proofs.Closed.{Whole}
use Rattle.tabling.proofs.Adding.{Outgrown}
use Rattle.stowing.specs.Stowing.{call_words, answer_words, plain_calls, plain_answers}

-- Both tables hold the rows of these roots and nothing else, each answer justified, and 0 past them; or there are more calls or answers than places,
-- and the tables may hold anything.
pub record RowsGiven (bodies : Bodies) (roots : List (ℕ × State)) (most : ℕ) (calls answers calls' answers' : List ℕ)
    (full : Bool) (n m : ℕ) : Type 0 where
  pub calls_long : length calls' ≡ length calls
  pub answers_long : length answers' ≡ length answers
  pub calls_fit : full ≡ false → n ≤ room call_words (length calls)
  pub answers_fit : full ≡ false → m ≤ most
  pub whole : full ≡ false → Whole bodies (Among roots) 0 (tables (plain_calls calls' n) (plain_answers answers' m))
  pub calls_past : full ≡ false → (p : ℕ) → call_words * n ≤ p → get_or calls' p 0 ≡ 0
  pub answers_past : full ≡ false → (p : ℕ) → answer_words * m ≤ p → get_or answers' p 0 ≡ 0
  pub outgrown : full ≡ true → Outgrown bodies (Among roots) (room call_words (length calls)) most
