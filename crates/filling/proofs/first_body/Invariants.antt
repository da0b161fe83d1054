-- `first_body` meets its contract: the bodies before it were looked at. Assumes nothing.
use Prim.Native.Nat.{ℕ, ◌<◌}
use Rattle.filling.specs.Others.{Other}
use Rattle.filling.proofs.first_body.Given as goal

abbrev pub invariant-loop-k : goal.invariant-loop-k
invariant-loop-k l = (j : ℕ) → j < l.k → Other l.rules l.goals.first l.goals.second j l.action
