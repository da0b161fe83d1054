-- What the steps passed stand for. Assumes nothing.
use Rattle.unfolding.proofs.Walk.{lent}
use Rattle.unfolding.proofs.Leads.{Partly}
use Rattle.path.specs.Inner.{down_to}
use Rattle.path.proofs.link.lead.Given as goal

abbrev pub invariant-loop-q : goal.invariant-loop-q
invariant-loop-q l =
    let it = lent l.plain l.rules l.goal l.second l.calls l.answers in
    Partly it l.n l.q (down_to l.to)
