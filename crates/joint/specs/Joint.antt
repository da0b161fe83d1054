-- The roots of one or two goals, and what is left where the tables are filled with their rows. Assumes nothing.
use Rattle.std.specs.Prelude.{ℕ, ◌≡◌, Bool, true, false, cond, List, [], ◌∷◌, ◌++◌, length}
use Rattle.steps.specs.State.{State}
use Rattle.steps.specs.Run.{Goal}
use Rattle.records.specs.Records.{Calls, Bodies, room, call_width}
use Rattle.records.specs.Storage.{CallPut}
use Rattle.records.specs.Bodies.{second_goal}
use Rattle.tabling.proofs.Evidence.{Among}
use Rattle.tabling.proofs.Closed.{Whole}
use Rattle.tabling.proofs.Adding.{Outgrown}
use Rattle.invariants.proofs.Going.{Kept, Indexed, in_words}

-- This root alone, or none where its goal does not stand.
abbrev pub root_if : Bool → ℕ → State → List (ℕ × State)
root_if stands a D = cond stands ((a, D) ∷ []) []

-- The roots of the goals that stand, each from its start: the first party's, then the second's.
abbrev pub roots_of : Bool → Bool → State → State → List (ℕ × State)
roots_of first second start start' = root_if first Goal start ++ root_if second second_goal start'

-- A root's call is put in, of round 0, if its goal stands; or else the calls stay.
pub record RootPut (stands : Bool) (places : ℕ) (calls : Calls) (a : ℕ) (D : State) (calls' : Calls) (row : ℕ) (full : Bool) : Type 0 where
  pub put : stands ≡ true → CallPut places calls a D 0 calls' row full
  pub spared : stands ≡ false → (full ≡ false) × (calls' ≡ calls)

-- The words lent keep their lengths. Their records and indexes are in order and every record is closed under all answers, or there are more
-- calls or answers than places.
pub record RowsFilled (bodies : Bodies) (roots : List (ℕ × State)) (most : ℕ) (calls list answers calls' list' answers' : List ℕ)
    (full : Bool) (n m : ℕ) : Type 0 where
  pub calls_long : length calls' ≡ length calls
  pub list_long : length list' ≡ length list
  pub answers_long : length answers' ≡ length answers
  pub kept : full ≡ false → Kept most calls' list' n answers' m
  pub indexed : full ≡ false → Indexed most calls' list' n answers' m
  pub whole : full ≡ false → Whole bodies (Among roots) 0 (in_words calls' n answers' m)
  pub outgrown : full ≡ true → Outgrown bodies (Among roots) (room call_width (length calls)) most
