-- The count so far and what is left make up what was left. Assumes nothing.
use Rattle.unfolding.proofs.Walk.{lent}
use Rattle.unfolding.proofs.Frames.{Tallied}
use Rattle.path.proofs.count.tally.Given as goal

abbrev pub invariant-loop-q : goal.invariant-loop-q
invariant-loop-q l =
    let it = lent l.plain l.rules l.goal l.second l.calls l.answers in
    Tallied it l.n l.step l.found l.q l.sum
