-- `tally` meets its contract. Assumes nothing.
use Prim.Native.Nat.{◌<◌}
use native.Mathlib.Omega.{arith}
use mathlib.Core.Path.{◌≡◌, ap}
use lib.ListN.{length}
use Rattle.checks.proofs.WidthLaws.{answer_within}
use Rattle.unfolding.proofs.Walk.{lent, leads_below, words_at, evidence_at, added_by}
use Rattle.unfolding.proofs.Rests.{goes_at}
use Rattle.unfolding.proofs.Frames.{tallied_none, tallied_more, large_call}
use Rattle.path.proofs.count.tally.Goals as goal

pub steps_of-steps-requires : goal.steps_of-steps-requires
steps_of-steps-requires c = c.requires.0

pub loop-q-init : goal.loop-q-init
loop-q-init c = tallied_none _ _ _ _

pub evidence_of-used-requires : goal.evidence_of-used-requires
evidence_of-used-requires c = (answer_within c.args.plain c.args.n c.requires.0.readable.long (omega arith), omega (arith, c.steps_of-steps.ensures.1))

pub size_by-size-requires : goal.size_by-size-requires
size_by-size-requires c k =
    let a = c.args in
    let it = lent a.plain a.rules.now a.goal.now a.second.now a.calls.now a.answers.now in
    let i = c.loop-q.invariant in
    let l : c.loop-q.q < length (words_at it a.n) = omega (arith, ap length c.steps_of-steps.ensures.0, c.loop-q-test.true) in
    omega (arith, c.evidence_of-used.ensures, leads_below (rw c.steps_of-steps.ensures.0 at k) (goes_at it c.requires.0 a.n (omega arith) _ l), c.requires.1)

pub returns-then-cap-size : goal.returns-then-cap-size
returns-then-cap-size c =
    let a = c.args in
    let it = lent a.plain a.rules.now a.goal.now a.second.now a.calls.now a.answers.now in
    let i = c.loop-q.invariant in
    let l : c.loop-q.q < length (words_at it a.n) = omega (arith, ap length c.steps_of-steps.ensures.0, c.loop-q-test.true) in
    let size = rw (c.steps_of-steps.ensures.0, c.evidence_of-used.ensures) at c.size_by-size.ensures in
    let k = large_call it c.requires.0 a.n (omega arith) _ l c.requires.4 size c.requires.2 c.if-cap-size.true in
    let below = leads_below k (goes_at it c.requires.0 a.n (omega arith) _ l) in (
      record {
        further = omega arith;
        within = omega arith;
        short = omega (arith, c.steps_of-steps.ensures.1);
        small = omega (arith, below, c.evidence_of-used.ensures);
        ends = λ e. absurd (omega arith);
        called = λ r e. (
            let same : r ≡ evidence_at it a.n c.loop-q.q = omega (arith, c.evidence_of-used.ensures) in
            (l, omega (arith, c.steps_of-steps.ensures.1), k, omega (arith, below), ap (added_by it) same));
      },
      i,
    )

pub overflow_add-sum : goal.overflow_add-sum
overflow_add-sum c = omega (arith, c.requires.3, c.requires.6, c.loop-q.invariant.small, c.loop-q-test.true, c.steps_of-steps.ensures.1, c.if-cap-size.false)

pub loop-q-preserved : goal.loop-q-preserved
loop-q-preserved c =
    let a = c.args in
    let it = lent a.plain a.rules.now a.goal.now a.second.now a.calls.now a.answers.now in
    let i = c.loop-q.invariant in
    let l : c.loop-q.q < length (words_at it a.n) = omega (arith, ap length c.steps_of-steps.ensures.0, c.loop-q-test.true) in
    let size = rw (c.steps_of-steps.ensures.0, c.evidence_of-used.ensures) at c.size_by-size.ensures in
    tallied_more it c.requires.0 a.n (omega arith) _ l c.requires.4 size (omega arith) (omega arith) c.if-cap-size.false i

pub returns : goal.returns
returns c =
    let i = c.loop-q.invariant in
    let all = ap length c.steps_of-steps.ensures.0 in
    let e : c.loop-q.q ≡ length c.steps_of-steps.result.now = omega (arith, all, c.requires.5) in (
      record {
        further = omega (arith, all, c.requires.5);
        within = omega (arith, all);
        short = c.steps_of-steps.ensures.1;
        small = omega arith;
        ends = λ z. omega (arith, all);
        called = λ r z. absurd (omega arith);
      },
      rw e at i,
    )
