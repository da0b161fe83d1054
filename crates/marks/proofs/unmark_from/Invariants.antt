-- `unmark_from` meets its contract. The invariant: the records before i are unmarked. Assumes nothing.
use Rattle.marks.specs.Marks.{Unmarked}
use Rattle.marks.proofs.unmark_from.Given as goal

abbrev pub invariant-loop-i : goal.invariant-loop-i
invariant-loop-i l = Unmarked l.n0 l.i l.initial.calls l.calls
