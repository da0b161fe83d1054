-- Deductions: figure 4 of source document 000 for ground rules, with insert and delete as the elementary updates, and the step of request R-2.
-- Assumes nothing.
use Rattle.std.specs.Prelude.{ℕ, ◌≡◌, true, false}
use mathlib.Core.List.{[], ◌∷◌, ◌++◌, Memᴰ}
use Rattle.steps.specs.State.{State, holds, added, removed}
use Rattle.steps.specs.Step.{query, insert, delete, call, deny, Body, Rule, Book}

-- "A sequent is a state and the steps still to do."
infix 20 ◌⊢◌
pub data Sequent : Type 0 where
  ◌⊢◌ : State → Body → Sequent

-- The moves, by the step in front, each a rule of figure 4 read from its conclusion to its premise. Where none fits there is no continuation.
pub data Move (book : Book) : Sequent → Sequent → Type 0 where
  -- "A query of p in front: goes on in the same state if p holds" (Querying the database).
  queries : {D : State} {p : ℕ} {rest : Body} → holds D p ≡ true → Move book (D ⊢ query p ∷ rest) (D ⊢ rest)
  -- "Insert p: goes on in the state with p added" (Performing elementary updates).
  inserts : {D : State} {p : ℕ} {rest : Body} → Move book (D ⊢ insert p ∷ rest) (added D p ⊢ rest)
  -- "Delete p: goes on in the state with p removed" (Performing elementary updates).
  deletes : {D : State} {p : ℕ} {rest : Body} → Move book (D ⊢ delete p ∷ rest) (removed D p ⊢ rest)
  -- "A call of action a in front: is replaced by the body of any one rule whose head is a" (Applying transaction definitions).
  calls : {D : State} {a : ℕ} {rest : Body} (r : Rule) → Memᴰ r book → r.head ≡ a → Move book (D ⊢ call a ∷ rest) (D ⊢ r.body ++ rest)
  -- Request R-2: "goes on in the same state exactly if the fluent does not hold".
  denies : {D : State} {p : ℕ} {rest : Body} → holds D p ≡ false → Move book (D ⊢ deny p ∷ rest) (D ⊢ rest)

-- A deduction "goes on by any finite number of the moves above".
pub data Deduction (book : Book) : Sequent → Sequent → Type 0 where
  done : {S : Sequent} → Deduction book S S
  move : {S T U : Sequent} → Move book S T → Deduction book T U → Deduction book S U

-- "The final states of a body at a state are those of its complete deductions": nothing is left to do (the axiom of figure 4).
abbrev pub Final : Book → State → Body → State → Type 0
Final book D body D' = Deduction book (D ⊢ body) (D' ⊢ [])

-- "A deduction comes to call a at D if it reaches a sequent with state D and a call of a in front. It need not be completable."
abbrev pub ComesToCall : Book → State → Body → ℕ → State → Type 0
ComesToCall book D body a D' = (rest : Body) × Deduction book (D ⊢ body) (D' ⊢ call a ∷ rest)
