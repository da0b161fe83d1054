-- The walk stands at place q and the next state at its own place, and the records used so far have theirs. Assumes nothing.
use lib.ListN.{get_or}
use Rattle.cells.specs.Numbers.{numbers}
use Rattle.unfolding.proofs.Walk.{lent}
use Rattle.unfolding.proofs.Places.{Along, Laying}
use Rattle.path.proofs.place.place.Given as goal

abbrev pub invariant-loop-q : goal.invariant-loop-q
invariant-loop-q l =
    let it = lent l.plain l.rules l.goal l.second l.calls l.answers in
    record { along : Along it l.n (get_or (numbers l.initial.offsets) l.n 0) l.q l.state l.at; laid : Laying it l.n l.q (numbers l.initial.offsets) (numbers l.offsets) }
