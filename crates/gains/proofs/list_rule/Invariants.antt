-- At most 4,096 calls are listed. Assumes nothing.
use Prim.Native.Nat.{◌≤◌}
use Rattle.gains.proofs.list_rule.Given as goal

abbrev pub invariant-loop-p : goal.invariant-loop-p
invariant-loop-p l = l.listed ≤ 4096
