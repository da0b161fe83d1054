-- What a party's run alone gives, and the list of ends then, by the cases of `Shared` that are its own: 30, 31 and no refusal (request R-14). Read by
-- the proofs alone. Assumes nothing.
use Rattle.std.specs.Prelude.{ℕ, ◌<◌, ◌≤◌, ◌≡◌, Bool, true, false, List, ◌++◌, length, drop}
use Rattle.steps.specs.State.{State}
use Rattle.steps.specs.Run.{Run, Call, Answer, End}
use Rattle.steps.specs.Counting.{Exactly, Rising}
use Rattle.sharing.specs.Parties.{Account}
use Rattle.sharing.specs.Charged.{Exceeds}

-- The run is within the limits of this account, and has so many ends, calls and answers.
pub record Within (run : Run) (limits : Account) (e n m : ℕ) : Type 0 where
  pub fits : ¬ Exceeds run limits
  pub calls : List (ℕ × State)
  pub calls_all : Exactly (Call run) calls
  pub calls_many : n ≡ length calls
  pub answers : List (ℕ × State × State)
  pub answers_all : Exactly (Answer run) answers
  pub answers_many : m ≡ length answers
  pub ends : List State
  pub ends_all : Exactly (End run) ends
  pub ends_many : e ≡ length ends

-- What is told of the run, over a list of ends.
pub data RanAlone (run : Run) (limits : Account) (full : Bool) (e n m : ℕ) (list list' : List ℕ) : Type 0 where
  -- It exceeds the limits: the list is unchanged.
  over : full ≡ true → Exceeds run limits → list' ≡ list → RanAlone run limits full e n m list list'
  -- The list has fewer places than there are ends: it is unchanged.
  short : full ≡ false → Within run limits e n m → length list < e → list' ≡ list → RanAlone run limits full e n m list list'
  -- The ends are listed in rising order, followed by what the list held.
  listed : full ≡ false → (t : Within run limits e n m) → e ≤ length list → Rising t.ends → list' ≡ t.ends ++ drop e list
      → RanAlone run limits full e n m list list'
