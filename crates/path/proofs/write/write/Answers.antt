-- `write` meets its contract. Assumes nothing.
use Prim.Native.Nat.{◌<◌}
use native.Mathlib.Omega.{arith}
use mathlib.Core.Path.{ap}
use lib.ListN.{length}
use Rattle.checks.proofs.WidthLaws.{answer_within}
use Rattle.unfolding.proofs.Walk.{lent, leads_most, words_at, stands_first, stands_goes}
use Rattle.unfolding.proofs.Places.{along_first, along_next, along_end, exact, exact_call, room_left}
use Rattle.unfolding.proofs.Writing.{wrote_none, wrote_more}
use Rattle.path.proofs.write.write.Goals as goal

pub steps_of-steps-requires : goal.steps_of-steps-requires
steps_of-steps-requires c = c.requires.checked

pub start-state-requires : goal.start-state-requires
start-state-requires c = c.requires.checked.readable

pub get-at-requires : goal.get-at-requires
get-at-requires c = c.requires.offsets_long

pub loop-q-init : goal.loop-q-init
loop-q-init c = record { along = rw (c.start-state.ensures, c.get-at.ensures) (along_first _ (stands_first _ c.requires.checked (omega arith))); wrote = rw c.get-at.ensures (wrote_none _ _ _ _) }

pub evidence_of-used-requires : goal.evidence_of-used-requires
evidence_of-used-requires c = (answer_within c.args.plain c.args.n c.requires.checked.readable.long (omega arith), omega (arith, c.steps_of-steps.ensures.1))

pub take_step-t-requires : goal.take_step-t-requires
take_step-t-requires c =
    let a = c.args in
    let it = lent a.plain a.rules.now a.goal.now a.second.now a.calls.now a.answers.now in
    let i = c.loop-q.invariant in
    let l : c.loop-q.q < length (words_at it a.n) = omega (arith, ap length c.steps_of-steps.ensures.0, c.loop-q-test.true) in
    (c.requires.checked.readable, c.requires.sizes_long, rw (c.steps_of-steps.ensures.0, c.evidence_of-used.ensures) (stands_goes it a.n _ _ l i.along.stands))

pub get-from-requires : goal.get-from-requires
get-from-requires c = omega (arith, leads_most c.take_step-t.ensures.to, c.requires.offsets_long)

pub write_step-requires : goal.write_step-requires
write_step-requires c =
    let a = c.args in
    let it = lent a.plain a.rules.now a.goal.now a.second.now a.calls.now a.answers.now in
    let i = c.loop-q.invariant in
    let l : c.loop-q.q < length (words_at it a.n) = omega (arith, ap length c.steps_of-steps.ensures.0, c.loop-q-test.true) in
    let u = rw (c.steps_of-steps.ensures.0, c.evidence_of-used.ensures) at c.take_step-t.ensures in
    let r = c.requires.roomy in (
      omega (arith, room_left it a.n _ _ _ _ i.along l r u, c.requires.inside a.n r.after_first, i.wrote.long),
      λ k. (let k' = rw c.steps_of-steps.ensures.0 at k in rw (c.get-from.ensures, c.evidence_of-used.ensures) (omega (arith, exact_call it a.n _ _ _ _ i.along l r u k', c.requires.inside _ (c.requires.linked _ l k'), i.wrote.long))),
    )

pub overflow_add-at : goal.overflow_add-at
overflow_add-at c =
    let a = c.args in
    let it = lent a.plain a.rules.now a.goal.now a.second.now a.calls.now a.answers.now in
    let i = c.loop-q.invariant in
    let l : c.loop-q.q < length (words_at it a.n) = omega (arith, ap length c.steps_of-steps.ensures.0, c.loop-q-test.true) in
    let u = rw (c.steps_of-steps.ensures.0, c.evidence_of-used.ensures) at c.take_step-t.ensures in
    omega (arith, room_left it a.n _ _ _ _ i.along l c.requires.roomy u, c.requires.roomy.room, c.requires.roomy.small)

pub loop-q-preserved : goal.loop-q-preserved
loop-q-preserved c =
    let a = c.args in
    let it = lent a.plain a.rules.now a.goal.now a.second.now a.calls.now a.answers.now in
    let i = c.loop-q.invariant in
    let l : c.loop-q.q < length (words_at it a.n) = omega (arith, ap length c.steps_of-steps.ensures.0, c.loop-q-test.true) in
    let u = rw (c.steps_of-steps.ensures.0, c.evidence_of-used.ensures) at c.take_step-t.ensures in
    let e = exact it a.n _ _ _ _ i.along l c.requires.roomy u in
    record {
      along = along_next it a.n _ _ _ _ i.along l _ u.to _ e;
      wrote = wrote_more it _ a.n _ _ _ _ _ _ _ _ i.wrote c.requires.roomy.after_first i.along c.requires.linked l u.to e (rw (c.get-from.ensures, c.steps_of-steps.ensures.0, c.evidence_of-used.ensures) at c.write_step.ensures);
    }

pub returns : goal.returns
returns c =
    let a = c.args in
    let it = lent a.plain a.rules.now a.goal.now a.second.now a.calls.now a.answers.now in
    let i = c.loop-q.invariant in
    let e = along_end it a.n _ _ _ _ i.along (omega (arith, ap length c.steps_of-steps.ensures.0)) in
    rw e at i.wrote
