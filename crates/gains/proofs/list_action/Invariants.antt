-- At most 4,096 calls are listed. Assumes nothing.
use Prim.Native.Nat.{◌≤◌}
use Rattle.gains.proofs.list_action.Given as goal

abbrev pub invariant-loop-r : goal.invariant-loop-r
invariant-loop-r l = l.listed ≤ 4096
