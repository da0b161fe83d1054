-- The records below n that have places are written. Assumes nothing.
use Rattle.cells.specs.Numbers.{numbers}
use Rattle.unfolding.proofs.Walk.{lent}
use Rattle.unfolding.proofs.Writing.{Written}
use Rattle.path.proofs.write.write_all.Given as goal

abbrev pub invariant-loop-n : goal.invariant-loop-n
invariant-loop-n l =
    let it = lent l.plain l.rules l.goal l.second l.calls l.answers in
    Written it (numbers l.offsets) l.n l.initial.list l.list
