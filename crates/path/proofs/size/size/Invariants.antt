-- The count so far and what is left make up the whole. Assumes nothing.
use Rattle.unfolding.proofs.Walk.{lent}
use Rattle.unfolding.proofs.Sizes.{Counted}
use Rattle.path.proofs.size.size.Given as goal

abbrev pub invariant-loop-q : goal.invariant-loop-q
invariant-loop-q l =
    let it = lent l.plain l.rules l.goal l.second l.calls l.answers in
    Counted it l.n l.q l.state l.sum l.cap
