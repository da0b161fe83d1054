-- The states that a deduction of the logic passes through, and lists of states that go on by one update at a time. Assumes nothing.
use Rattle.std.specs.Prelude.{ℕ, ◌+◌}
use mathlib.Core.List.{List, [], ◌∷◌, ◌++◌}
use Rattle.steps.specs.State.{State, added, removed}
use Rattle.steps.specs.Step.{Book}
use Rattle.steps.specs.Deduction.{Sequent, Move, queries, inserts, deletes, calls, denies, Deduction, done, move}

module _ {book : Book} where
  -- What a move adds to the states: an update the state that it leads to, any other move nothing.
  unfoldable pub move_states : {S T : Sequent} → Move book S T → List State
  move_states (queries h) = []
  move_states (inserts {D} {p}) = added D p ∷ []
  move_states (deletes {D} {p}) = removed D p ∷ []
  move_states (calls r m e) = []
  move_states (denies h) = []

  -- The states of a deduction after its first.
  unfoldable pub states : {S T : Sequent} → Deduction book S T → List State
  unfolding move_states
  states done = []
  states (move m d) = move_states m ++ states d

  -- How many updates it has.
  unfoldable pub move_updates : {S T : Sequent} → Move book S T → ℕ
  move_updates (queries h) = 0
  move_updates inserts = 1
  move_updates deletes = 1
  move_updates (calls r m e) = 0
  move_updates (denies h) = 0

  unfoldable pub updates : {S T : Sequent} → Deduction book S T → ℕ
  unfolding move_updates
  updates done = 0
  updates (move m d) = move_updates m + updates d

-- Two states one update apart, also where it leaves the state as it was.
pub data Updated (D : State) : State → Type 0 where
  gains : (p : ℕ) → Updated D (added D p)
  loses : (p : ℕ) → Updated D (removed D p)

-- The states after D, each one update from the one before, end in D'.
pub data Chain : State → List State → State → Type 0 where
  ends : {D : State} → Chain D [] D
  next : {D E D' : State} {rest : List State} → Updated D E → Chain E rest D' → Chain D (E ∷ rest) D'
