-- `lead` meets its contract. Assumes nothing.
use Prim.Native.Nat.{◌<◌}
use native.Mathlib.Omega.{arith}
use mathlib.Core.Path.{ap}
use lib.ListN.{length}
use Rattle.checks.proofs.WidthLaws.{answer_within}
use Rattle.unfolding.proofs.Walk.{lent, leads_below, words_at}
use Rattle.unfolding.proofs.Rests.{goes_at}
use Rattle.unfolding.proofs.Leads.{partly_none, partly_more, partly_all}
use Rattle.path.proofs.link.lead.Goals as goal

pub steps_of-steps-requires : goal.steps_of-steps-requires
steps_of-steps-requires c = c.requires.0

pub loop-q-init : goal.loop-q-init
loop-q-init c = partly_none _ _

pub evidence_of-used-requires : goal.evidence_of-used-requires
evidence_of-used-requires c = (answer_within c.args.plain c.args.n c.requires.0.readable.long (omega arith), omega (arith, c.steps_of-steps.ensures.1))

pub step_lead-next-requires : goal.step_lead-next-requires
step_lead-next-requires c k =
    let a = c.args in
    let it = lent a.plain a.rules.now a.goal.now a.second.now a.calls.now a.answers.now in
    let i = c.loop-q.invariant in
    let l : c.loop-q.q < length (words_at it a.n) = omega (arith, ap length c.steps_of-steps.ensures.0, c.loop-q-test.true) in
    omega (arith, c.evidence_of-used.ensures, leads_below (rw c.steps_of-steps.ensures.0 at k) (goes_at it c.requires.0 a.n (omega arith) _ l), c.requires.1)

pub loop-q-preserved : goal.loop-q-preserved
loop-q-preserved c =
    let a = c.args in
    let it = lent a.plain a.rules.now a.goal.now a.second.now a.calls.now a.answers.now in
    let i = c.loop-q.invariant in
    let l : c.loop-q.q < length (words_at it a.n) = omega (arith, ap length c.steps_of-steps.ensures.0, c.loop-q-test.true) in
    let step = rw (c.steps_of-steps.ensures.0, c.evidence_of-used.ensures) at c.step_lead-next.ensures in
    partly_more it c.requires.0 a.n (omega arith) _ l c.requires.2 step c.together-to.ensures i

pub returns : goal.returns
returns c = partly_all _ _ _ (omega (arith, ap length c.steps_of-steps.ensures.0)) c.loop-q.invariant
