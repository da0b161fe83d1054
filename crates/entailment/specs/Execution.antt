-- The execution path of a deduction (001, theorem 4.6). Assumes nothing.
use Rattle.std.specs.Prelude.{◌≡◌}
use Rattle.steps.specs.State.{State}
use Rattle.steps.specs.Step.{Body, Book}
use Rattle.steps.specs.Deduction.{◌⊢◌, queries, inserts, deletes, calls, denies, Deduction, done, move, Final}
use Rattle.entailment.specs.Path.{Path, ⟨◌⟩, ◌▷◌}

module _ {book : Book} where
  -- The state it begins with, and one state more for each update, also where it is the same state (R-3 of document 02). Queries and calls add none.
  unfoldable pub execution : {D D' : State} {xs ys : Body} → Deduction book (D ⊢ xs) (D' ⊢ ys) → Path
  execution {D} done = ⟨ D ⟩
  execution (move (queries h) d) = execution d
  execution (move (inserts {D}) d) = D ▷ execution d
  execution (move (deletes {D}) d) = D ▷ execution d
  execution (move (calls r m e) d) = execution d
  execution (move (denies h) d) = execution d

-- A complete deduction of the body carries it out along the path.
abbrev pub Along : Book → Path → Body → Type 0
Along book π body = (D : State) × (D' : State) × (d : Final book D body D') × (execution d ≡ π)
