-- The state is the one that the walk comes to, and what the steps passed add is written. Assumes nothing.
use mathlib.Core.Path.{◌≡◌}
use Rattle.unfolding.proofs.Walk.{lent}
use Rattle.unfolding.proofs.Rests.{state_at}
use Rattle.unfolding.proofs.Unrolling.{Ran}
use Rattle.path.proofs.unroll.run.Given as goal

abbrev pub invariant-loop-q : goal.invariant-loop-q
invariant-loop-q l =
    let it = lent l.plain l.rules l.goal l.second l.calls l.answers in
    record { state : l.state ≡ state_at it l.n l.q; ran : Ran it l.n l.step l.found l.q l.at l.initial.list l.list }
