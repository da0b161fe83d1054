-- What the contracts of private functions speak of: the steps that can run, and a table cleared. Assumes nothing.
use Rattle.std.specs.Prelude.{ℕ, ◌<◌, ◌≤◌, ◌≡◌, List, get_or, length, take}
use Rattle.steps.specs.State.{State}
use Rattle.steps.specs.Step.{Step, query}
use Rattle.steps.specs.Elementary.{on, stuck, elementary}
use Rattle.marking.specs.Marking.{left_by}

-- The first `runs` steps can run and no more: they leave a state, and the next step, if there is one, cannot run there.
pub record Ran (steps : List Step) (start : State) (runs : ℕ) : Type 0 where
  pub within : runs ≤ length steps
  pub state : State
  pub left : left_by (take runs steps) start ≡ on state
  pub stops : runs < length steps → elementary (get_or steps runs (query 0)) state ≡ stuck

-- The first 4,096 words are 0, the words past them as before.
pub record Cleared (before after : List ℕ) : Type 0 where
  pub size : length after ≡ length before
  pub none : (n : ℕ) → n < 4096 → get_or after n 0 ≡ 0
  pub past : (n : ℕ) → 4096 ≤ n → get_or after n 0 ≡ get_or before n 0
