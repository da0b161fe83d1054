-- `walk_on` meets its contract. Assumes nothing.
use Prim.Native.Nat.{◌+◌, ◌≤◌}
use native.Mathlib.Omega.{arith}
use mathlib.Core.Path.{ap}
use lib.ListN.{length}
use Rattle.steps.proofs.WordLaws.{words_short}
use Rattle.gains.proofs.Gaining.{came_step, came_all, noted_more, ready_noted, ready_added}
use Rattle.gains.proofs.walk_on.Goals as goal

pub loop-p-init : goal.loop-p-init
loop-p-init c =
    let (ready, count, l, came) = c.requires in
    let (less, put) = c.note-new.ensures in
    record {
      few = l;
      noted = noted_more _ _ _ _ c.args.r c.args.from c.args.found ready.noted l (omega arith) came put;
      came = λ j lj b. came j lj (less j b);
    }

pub loop-p-preserved : goal.loop-p-preserved
loop-p-preserved c =
    let (ready, count, lf, start) = c.requires in
    let (less, put) = c.note-new-in-loop-p.ensures in
    let e = c.rule_steps-body.ensures in
    let few = ready.walkable.counts _ count in
    let inv = c.loop-p.invariant in
    let short : c.loop-p.p + 1 ≤ 16 = omega (arith, ap length e, few, words_short c.args.rules.now c.args.r) in
    let next = came_step _ _ _ _ ready.sound c.args.r c.loop-p.p c.loop-p.new c.spread-next.result (omega (arith, ap length e)) inv.came (rw e at c.spread-next.ensures.only) in
    record {
      few = short;
      noted = noted_more _ _ _ _ c.args.r (c.loop-p.p + 1) c.spread-next.result inv.noted short (omega arith) next put;
      came = λ j lj b. next j lj (less j b);
    }

pub returns-then-add : goal.returns-then-add
returns-then-add c =
    let (ready, count, lf, start) = c.requires in
    let inv = c.loop-p.invariant in
    ready_added _ _ _ _ c.args.r (ready_noted _ _ _ _ ready inv.noted) count c.add.ensures
    (came_all _ _ _ _ c.args.r c.loop-p.p c.loop-p.new (omega (arith, ap length c.rule_steps-body.ensures)) inv.came)
