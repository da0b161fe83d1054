-- `runs_of` meets its contract. Assumes nothing.
use mathlib.Core.Path.{◌≡◌, sym, ap}
use lib.ListN.{length}
use Rattle.steps.specs.Elementary.{on}
use Rattle.steps.specs.Next.{onward}
use Rattle.marking.specs.Marking.{left_by}
use Rattle.marking.proofs.Places.{left_next, ran_stops, ran_all}
use native.Mathlib.Omega.{arith}
use Rattle.marking.proofs.runs_of.Goals as goal

pub loop-i-init : goal.loop-i-init
unfolding left_by
loop-i-init c = ap on (sym c.of-state.ensures)

pub returns-in-None : goal.returns-in-None
unfolding onward
returns-in-None c = ran_stops c.args.recorded.now _ c.loop-i.i c.loop-i.invariant c.loop-i-test.true (sym c.in-None.ensures)

pub loop-i-preserved : goal.loop-i-preserved
unfolding onward
loop-i-preserved c = left_next c.args.recorded.now _ c.loop-i.i c.loop-i.invariant c.loop-i-test.true (sym c.in-Some.ensures)

pub returns : goal.returns
returns c =
    let e : c.loop-i.i ≡ length c.args.recorded.now = omega arith in
    rw (← e) (ran_all c.args.recorded.now _ c.loop-i.i c.loop-i.invariant e)
