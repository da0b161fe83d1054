-- The bodies that a round need not look at for a call record, since they are of other actions. Read by the proofs alone. Assumes nothing.
use Rattle.std.specs.Prelude.{ℕ, ◌/◌, ◌≡◌, Bool, false, List, [], length}
use Rattle.steps.specs.Widths.{rule_width}
use Rattle.records.specs.Bodies.{number_at, bodies_with}

-- The k-th body, of the rules and the goals behind them, is not one of the action.
abbrev pub Other : List ℕ → Bool → Bool → ℕ → ℕ → Type 0
Other rules first second k a = (bodies_with rules first second [] []).fits (number_at (length rules / rule_width) k) a ≡ false
