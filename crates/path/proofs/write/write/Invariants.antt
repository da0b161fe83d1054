-- The walk stands at place q and the next state at its own place, and the states so far are written. Assumes nothing.
use lib.ListN.{get_or}
use Rattle.cells.specs.Numbers.{numbers}
use Rattle.unfolding.proofs.Walk.{lent}
use Rattle.unfolding.proofs.Places.{Along}
use Rattle.unfolding.proofs.Writing.{Wrote}
use Rattle.path.proofs.write.write.Given as goal

abbrev pub invariant-loop-q : goal.invariant-loop-q
invariant-loop-q l =
    let it = lent l.plain l.rules l.goal l.second l.calls l.answers in
    record { along : Along it l.n (get_or (numbers l.offsets) l.n 0) l.q l.state l.at; wrote : Wrote it (numbers l.offsets) l.n l.at l.initial.list l.list }
