-- `place` meets its contract. Assumes nothing.
use Prim.Native.Nat.{◌<◌}
use native.Mathlib.Omega.{arith}
use mathlib.Core.Path.{◌≡◌, ap}
use lib.ListN.{length}
use Rattle.checks.proofs.WidthLaws.{answer_within}
use Rattle.unfolding.proofs.Walk.{lent, leads_below, words_at, stands_first, stands_goes}
use Rattle.unfolding.proofs.Places.{along_first, along_next, exact, room_left, laying_none, laying_more}
use Rattle.path.proofs.place.place.Goals as goal

pub steps_of-steps-requires : goal.steps_of-steps-requires
steps_of-steps-requires c = c.requires.0.checked

pub start-state-requires : goal.start-state-requires
start-state-requires c = c.requires.0.checked.readable

pub get-at-requires : goal.get-at-requires
get-at-requires c = c.requires.0.offsets_long

pub loop-q-init : goal.loop-q-init
loop-q-init c = record { along = rw (c.start-state.ensures, c.get-at.ensures) (along_first _ (stands_first _ c.requires.0.checked (omega arith))); laid = laying_none _ _ _ }

pub evidence_of-used-requires : goal.evidence_of-used-requires
evidence_of-used-requires c = (answer_within c.args.plain c.args.n c.requires.0.checked.readable.long (omega arith), omega (arith, c.steps_of-steps.ensures.1))

pub take_step-t-requires : goal.take_step-t-requires
take_step-t-requires c =
    let a = c.args in
    let it = lent a.plain a.rules.now a.goal.now a.second.now a.calls.now a.answers.now in
    let i = c.loop-q.invariant in
    let l : c.loop-q.q < length (words_at it a.n) = omega (arith, ap length c.steps_of-steps.ensures.0, c.loop-q-test.true) in
    (c.requires.0.checked.readable, c.requires.0.sizes_long, rw (c.steps_of-steps.ensures.0, c.evidence_of-used.ensures) (stands_goes it a.n _ _ l i.along.stands))

pub note-requires : goal.note-requires
note-requires c =
    let a = c.args in
    let it = lent a.plain a.rules.now a.goal.now a.second.now a.calls.now a.answers.now in
    let i = c.loop-q.invariant in
    let l : c.loop-q.q < length (words_at it a.n) = omega (arith, ap length c.steps_of-steps.ensures.0, c.loop-q-test.true) in
    let u = rw (c.steps_of-steps.ensures.0, c.evidence_of-used.ensures) at c.take_step-t.ensures in (
      λ k. omega (arith, leads_below k c.take_step-t.ensures.to, c.requires.0.offsets_long, i.laid.long),
      omega (arith, room_left it a.n _ _ _ _ i.along l c.requires.0.roomy u, c.requires.1),
    )

pub overflow_add-at : goal.overflow_add-at
overflow_add-at c =
    let a = c.args in
    let it = lent a.plain a.rules.now a.goal.now a.second.now a.calls.now a.answers.now in
    let i = c.loop-q.invariant in
    let l : c.loop-q.q < length (words_at it a.n) = omega (arith, ap length c.steps_of-steps.ensures.0, c.loop-q-test.true) in
    omega (arith, room_left it a.n _ _ _ _ i.along l c.requires.0.roomy (rw (c.steps_of-steps.ensures.0, c.evidence_of-used.ensures) at c.take_step-t.ensures), c.requires.0.roomy.room, c.requires.0.roomy.small)

pub loop-q-preserved : goal.loop-q-preserved
loop-q-preserved c =
    let a = c.args in
    let it = lent a.plain a.rules.now a.goal.now a.second.now a.calls.now a.answers.now in
    let i = c.loop-q.invariant in
    let l : c.loop-q.q < length (words_at it a.n) = omega (arith, ap length c.steps_of-steps.ensures.0, c.loop-q-test.true) in
    let u = rw (c.steps_of-steps.ensures.0, c.evidence_of-used.ensures) at c.take_step-t.ensures in
    record {
      along = along_next it a.n _ _ _ _ i.along l _ u.to _ (exact it a.n _ _ _ _ i.along l c.requires.0.roomy u);
      laid = rw (c.note.ensures, c.steps_of-steps.ensures.0, c.evidence_of-used.ensures) (laying_more it a.n _ _ _ _ _ _ i.laid (omega (arith, c.requires.0.offsets_long)) i.along c.requires.0.roomy.after_first l u.to);
    }

pub returns : goal.returns
returns c =
    let a = c.args in
    let it = lent a.plain a.rules.now a.goal.now a.second.now a.calls.now a.answers.now in
    let i = c.loop-q.invariant in
    let e : c.loop-q.q ≡ length (words_at it a.n) = omega (arith, ap length c.steps_of-steps.ensures.0, i.along.stands.within) in
    rw e at i.laid
