-- `past_body` meets its contract: the bodies from it on were looked at. Assumes nothing.
use Prim.Native.Nat.{ℕ, ◌+◌, ◌/◌, ◌<◌, ◌≤◌}
use lib.ListN.{length}
use Rattle.steps.specs.Widths.{rule_width}
use Rattle.filling.specs.Others.{Other}
use Rattle.filling.proofs.past_body.Given as goal

abbrev pub invariant-loop-k : goal.invariant-loop-k
invariant-loop-k l = (j : ℕ) → l.k ≤ j → j < length l.rules / rule_width + 1 → Other l.rules l.goals.first l.goals.second j l.action
