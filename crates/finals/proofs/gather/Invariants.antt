-- The final states of the records before x stand at the head of the list. Assumes nothing.
use Rattle.std.proofs.Common.{◌≤◌, length}
use Rattle.desk.specs.Desk.{packed_answers}
use Rattle.finals.proofs.Listing.{Gathered}
use Rattle.finals.proofs.gather.Given as goal

abbrev pub invariant-loop-x : goal.invariant-loop-x
invariant-loop-x l = (l.found ≤ length l.initial.list) × Gathered (packed_answers l.answers l.m) l.row l.initial.list l.x l.list l.found
