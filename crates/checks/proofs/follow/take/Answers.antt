-- `take` meets its contract. Assumes nothing.
use native.Mathlib.Omega.{arith}
use mathlib.Core.Path.{refl}
use borrow.Author.Tests.{eq-eqb, ne_eqb}
use Rattle.steps.specs.Next.{onward}
use Rattle.checks.proofs.WidthLaws.{call_key, answer_within, answer_others}
use Rattle.checks.proofs.follow.take.Goals as goal
use Rattle.checks.proofs.follow.take.Goals.{else-action_of-action-via-then-action_of-action+else-state_of-state, else-action_of-action-via-else-action_of-action}

pub call_of-call-requires : goal.call_of-call-requires
call_of-call-requires c =
    let a = c.args in
    answer_others a.plain a.named c.answer_width.ensures (answer_within a.plain a.named c.requires.long (omega arith))

pub action_of-requires : goal.action_of-requires
action_of-requires c =
    let a = c.args in
    call_key a.plain _ c.call_width-width.ensures (rw (c.call_of-call.ensures, c.answer_width.ensures) (c.requires.called a.named (omega arith)))

pub state_of-requires : goal.state_of-requires
state_of-requires c =
    let a = c.args in
    call_key a.plain _ c.call_width-width.ensures (rw (c.call_of-call.ensures, c.answer_width.ensures) (c.requires.called a.named (omega arith)))

pub final_of-requires : goal.final_of-requires
final_of-requires c =
    let a = c.args in
    answer_others a.plain a.named c.answer_width-then-state_of-state.ensures (answer_within a.plain a.named c.requires.long (omega arith))

pub returns-then-state_of-state : goal.returns-then-state_of-state
unfolding onward
returns-then-state_of-state c =
    rw (
      eq-eqb _ _ (rw (c.action_of.ensures, c.call_width-width.ensures, c.call_of-call.ensures, c.answer_width.ensures) at c.if-action_of-action.true),
      eq-eqb _ _ (rw (c.state_of.ensures, c.call_width-width.ensures, c.call_of-call.ensures, c.answer_width.ensures) at c.if-state_of-state.true),
      c.final_of.ensures,
      c.answer_width-then-state_of-state.ensures,
    ) refl

pub returns : goal.returns
unfolding onward
returns c =
    elim c.else-action_of-action.branch [
      | else-action_of-action-via-then-action_of-action+else-state_of-state w ↦
          rw (
            eq-eqb _ _ (rw (c.action_of.ensures, c.call_width-width.ensures, c.call_of-call.ensures, c.answer_width.ensures) at w.if-action_of-action.true),
            ne_eqb _ _ (rw (w.state_of.ensures, c.call_width-width.ensures, c.call_of-call.ensures, c.answer_width.ensures) at w.if-state_of-state.false),
          ) refl
      | else-action_of-action-via-else-action_of-action w ↦
          rw (ne_eqb _ _ (rw (c.action_of.ensures, c.call_width-width.ensures, c.call_of-call.ensures, c.answer_width.ensures) at w.if-action_of-action.false)) refl
    ]
