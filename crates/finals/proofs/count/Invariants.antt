-- As many are found as records before x are of the call record. Assumes nothing.
use Rattle.std.proofs.Common.{◌≡◌, length}
use Rattle.desk.specs.Desk.{packed_answers}
use Rattle.finals.specs.Finals.{finals_below}
use Rattle.finals.proofs.count.Given as goal

abbrev pub invariant-loop-x : goal.invariant-loop-x
invariant-loop-x l = l.found ≡ length (finals_below (packed_answers l.answers l.m) l.row l.x)
