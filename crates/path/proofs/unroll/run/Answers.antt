-- `run` meets its contract. Assumes nothing.
use Prim.Native.Nat.{◌+◌, ◌<◌}
use native.Mathlib.Omega.{arith}
use mathlib.Core.Path.{◌≡◌, refl, ap}
use lib.ListN.{length}
use Rattle.checks.proofs.WidthLaws.{answer_within}
use Rattle.unfolding.proofs.Walk.{lent, leads_below, words_at}
use Rattle.unfolding.proofs.Rests.{state_at, goes_at, goes_same}
use Rattle.unfolding.proofs.Unrolling.{ran_none, ran_more, ran_room, size_room, lead_stops}
use Rattle.path.proofs.unroll.run.Goals as goal

pub steps_of-steps-requires : goal.steps_of-steps-requires
steps_of-steps-requires c = c.requires.0

pub state_before-state-requires : goal.state_before-state-requires
state_before-state-requires c = (c.requires.0, c.requires.3, omega (arith, c.requires.4, ap length c.steps_of-steps.ensures.0, c.steps_of-steps.ensures.1))

pub loop-q-init : goal.loop-q-init
loop-q-init c = record { state = c.state_before-state.ensures; ran = ran_none _ _ _ _ _ }

pub evidence_of-used-requires : goal.evidence_of-used-requires
evidence_of-used-requires c = (answer_within c.args.plain c.args.n c.requires.0.readable.long (omega arith), omega (arith, c.steps_of-steps.ensures.1))

pub call_lead-requires : goal.call_lead-requires
call_lead-requires c k =
    let a = c.args in
    let it = lent a.plain a.rules.now a.goal.now a.second.now a.calls.now a.answers.now in
    let i = c.loop-q.invariant in
    let l : c.loop-q.q < length (words_at it a.n) = omega (arith, ap length c.steps_of-steps.ensures.0, c.loop-q-test.true) in
    omega (arith, c.evidence_of-used.ensures, leads_below (rw c.steps_of-steps.ensures.0 at k) (goes_at it c.requires.0 a.n (omega arith) _ l), c.requires.1)

pub returns-in-Some : goal.returns-in-Some
returns-in-Some c =
    let a = c.args in
    let it = lent a.plain a.rules.now a.goal.now a.second.now a.calls.now a.answers.now in
    let i = c.loop-q.invariant in
    let l : c.loop-q.q < length (words_at it a.n) = omega (arith, ap length c.steps_of-steps.ensures.0, c.loop-q-test.true) in
    let lead = rw (c.steps_of-steps.ensures.0, c.evidence_of-used.ensures) at c.in-Some.ensures in
    let stops = lead_stops it c.requires.0 a.n (omega arith) _ l c.requires.2 lead in (
      record {
        further = omega arith;
        within = omega arith;
        short = omega (arith, c.steps_of-steps.ensures.1);
        small = omega (arith, (stops c.in-Some.lead refl).1);
        ends = λ e. absurd (omega arith);
        called = λ r e. (let s = stops r e in (l, omega (arith, c.steps_of-steps.ensures.1), s.0, s.1, s.2));
      },
      i.ran,
    )

pub after-state-requires : goal.after-state-requires
after-state-requires c =
    let a = c.args in
    let it = lent a.plain a.rules.now a.goal.now a.second.now a.calls.now a.answers.now in
    let i = c.loop-q.invariant in
    let l : c.loop-q.q < length (words_at it a.n) = omega (arith, ap length c.steps_of-steps.ensures.0, c.loop-q-test.true) in
    (c.requires.0.readable, (state_at it a.n (c.loop-q.q + 1), rw (c.steps_of-steps.ensures.0, i.state, c.evidence_of-used.ensures) (goes_at it c.requires.0 a.n (omega arith) _ l)))

pub show-at-requires : goal.show-at-requires
show-at-requires c =
    let a = c.args in
    let it = lent a.plain a.rules.now a.goal.now a.second.now a.calls.now a.answers.now in
    let i = c.loop-q.invariant in
    let l : c.loop-q.q < length (words_at it a.n) = omega (arith, ap length c.steps_of-steps.ensures.0, c.loop-q-test.true) in
    let lead = rw (c.steps_of-steps.ensures.0, c.evidence_of-used.ensures) at c.in_default.ensures in
    let state = goes_same it a.n _ (rw (c.steps_of-steps.ensures.0, i.state, c.evidence_of-used.ensures) at c.after-state.ensures) in
    rw (c.steps_of-steps.ensures.0, state)
    (omega (arith, size_room it c.requires.0 a.n (omega arith) _ l c.requires.2 lead refl, ran_room it i.ran, c.requires.5, i.ran.put.long))

pub loop-q-preserved : goal.loop-q-preserved
loop-q-preserved c =
    let a = c.args in
    let it = lent a.plain a.rules.now a.goal.now a.second.now a.calls.now a.answers.now in
    let i = c.loop-q.invariant in
    let l : c.loop-q.q < length (words_at it a.n) = omega (arith, ap length c.steps_of-steps.ensures.0, c.loop-q-test.true) in
    let lead = rw (c.steps_of-steps.ensures.0, c.evidence_of-used.ensures) at c.in_default.ensures in
    let state = goes_same it a.n _ (rw (c.steps_of-steps.ensures.0, i.state, c.evidence_of-used.ensures) at c.after-state.ensures) in
    let shows = rw (c.steps_of-steps.ensures.0, state) at c.show-at.ensures in
    record { state = state; ran = ran_more it c.requires.0 a.n (omega arith) _ l c.requires.2 lead refl shows.0 i.ran shows.1 }

pub returns : goal.returns
returns c =
    let i = c.loop-q.invariant in
    let all = ap length c.steps_of-steps.ensures.0 in
    let e : c.loop-q.q ≡ length c.steps_of-steps.result.now = omega (arith, all, c.requires.4) in (
      record {
        further = omega (arith, all, c.requires.4);
        within = omega (arith, all);
        short = c.steps_of-steps.ensures.1;
        small = omega arith;
        ends = λ z. omega (arith, all);
        called = λ r z. absurd (omega arith);
      },
      rw e at i.ran,
    )
