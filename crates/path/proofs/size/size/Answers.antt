-- `size` meets its contract. Assumes nothing.
use Prim.Native.Nat.{◌<◌}
use native.Mathlib.Omega.{arith}
use mathlib.Core.Path.{ap}
use lib.ListN.{length}
use Rattle.checks.proofs.WidthLaws.{answer_within}
use Rattle.unfolding.proofs.Walk.{lent, words_at, stands_first, stands_goes}
use Rattle.unfolding.proofs.Sizes.{counted_none, counted_more, counted_all, turned_small}
use Rattle.path.proofs.size.size.Goals as goal

pub steps_of-steps-requires : goal.steps_of-steps-requires
steps_of-steps-requires c = c.requires.0

pub start-state-requires : goal.start-state-requires
start-state-requires c = c.requires.0.readable

pub loop-q-init : goal.loop-q-init
loop-q-init c = rw c.start-state.ensures (counted_none _ (stands_first _ c.requires.0 (omega arith)))

pub evidence_of-used-requires : goal.evidence_of-used-requires
evidence_of-used-requires c = (answer_within c.args.plain c.args.n c.requires.0.readable.long (omega arith), omega (arith, c.steps_of-steps.ensures.1))

pub take_step-t-requires : goal.take_step-t-requires
take_step-t-requires c =
    let a = c.args in
    let it = lent a.plain a.rules.now a.goal.now a.second.now a.calls.now a.answers.now in
    let i = c.loop-q.invariant in
    let l : c.loop-q.q < length (words_at it a.n) = omega (arith, ap length c.steps_of-steps.ensures.0, c.loop-q-test.true) in
    (c.requires.0.readable, c.requires.1, rw (c.steps_of-steps.ensures.0, c.evidence_of-used.ensures) (stands_goes it a.n _ _ l i.stands))

pub overflow_add-sum : goal.overflow_add-sum
overflow_add-sum c = omega (arith, c.loop-q.invariant.most, turned_small _ c.requires.3 c.take_step-t.ensures, c.requires.2)

pub loop-q-preserved : goal.loop-q-preserved
loop-q-preserved c =
    let a = c.args in
    let it = lent a.plain a.rules.now a.goal.now a.second.now a.calls.now a.answers.now in
    let i = c.loop-q.invariant in
    let l : c.loop-q.q < length (words_at it a.n) = omega (arith, ap length c.steps_of-steps.ensures.0, c.loop-q-test.true) in
    rw c.min-sum.ensures (counted_more it a.n _ _ _ _ i l c.requires.3 (rw (c.steps_of-steps.ensures.0, c.evidence_of-used.ensures) at c.take_step-t.ensures))

pub returns : goal.returns
returns c =
    let a = c.args in
    let it = lent a.plain a.rules.now a.goal.now a.second.now a.calls.now a.answers.now in
    let i = c.loop-q.invariant in
    counted_all it a.n _ _ _ _ i (omega (arith, ap length c.steps_of-steps.ensures.0))
