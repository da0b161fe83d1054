-- At most 4,096 calls are listed. Assumes nothing.
use Prim.Native.Nat.{◌≤◌}
use Rattle.gains.proofs.list_calls.Given as goal

abbrev pub invariant-loop-action : goal.invariant-loop-action
invariant-loop-action l = l.listed ≤ 4096
