-- `good_row` meets its contract: the action, then the state. Assumes nothing.
use Prim.Native.Nat.{◌<◌}
use mathlib.Core.Path.{◌≡◌, sym, ◌∙◌}
use mathlib.Core.Bool.{true, false}
use mathlib.Core.Logic.{◌⊎◌, inl, inr}
use Rattle.records.specs.Bodies.{is_goal}
use Rattle.checks.proofs.WidthLaws.{call_key}
use Rattle.checks.proofs.RecordLaws.{bad_action, by_state}
use borrow.Author.Rules.{rules}
use Rattle.checks.proofs.tables.good_row.Goals as goal
use Rattle.checks.proofs.tables.good_row.Goals.{else-not-is_goal-via-then-not-is_goal+else-actions-action, else-not-is_goal-via-else-not-is_goal}

pub action_of-action-requires : goal.action_of-action-requires
action_of-action-requires c = call_key c.args.plain c.args.i c.call_width-width.ensures c.requires

pub returns-then-actions-action : goal.returns-then-actions-action
returns-then-actions-action c n =
    let other : c.is_goal.result ≡ false = search rules in
    bad_action _ _ _ _ _ _ (rw (c.action_of-action.ensures, c.call_width-width.ensures) at (sym c.is_goal.ensures ∙ other))
    (rw (c.action_of-action.ensures, c.call_width-width.ensures) at c.if-actions-action.true)

pub state_of-requires : goal.state_of-requires
state_of-requires c = call_key c.args.plain c.args.i c.call_width-width.ensures c.requires

pub returns : goal.returns
returns c n =
    let i = c.args in
    let known : (is_goal i.goals.first i.goals.second c.action_of-action.result ≡ true) ⊎ (c.action_of-action.result < i.actions) =
    elim c.else-not-is_goal.branch [
      | else-not-is_goal-via-then-not-is_goal+else-actions-action w ↦ inr w.if-actions-action.false
      | else-not-is_goal-via-else-not-is_goal w ↦ inl (search rules)
    ] in
    by_state _ _ _ _ _ _ (rw c.call_width-width.ensures at c.action_of-action.ensures) known
    (rw (c.state_of.ensures, c.call_width-width.ensures) at c.bad_state.ensures)
