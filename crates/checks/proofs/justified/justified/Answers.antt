-- `justified` meets its contract, part by part. Assumes nothing.
use mathlib.Core.Path.{sym, ◌∙◌}
use Rattle.checks.proofs.JustifiedLaws.{no_call, no_rule, by_walk, readable_more}
use Rattle.checks.proofs.WidthLaws.{call_key, call_within, answer_others}
use Rattle.checks.proofs.justified.justified.Goals as goal

pub call_of-call-requires : goal.call_of-call-requires
call_of-call-requires c = answer_others c.args.plain c.args.n c.answer_width-width.ensures c.requires.4

pub rule_of-rule-requires : goal.rule_of-rule-requires
rule_of-rule-requires c = answer_others c.args.plain c.args.n c.answer_width-width.ensures c.requires.4

pub action_of-action-requires : goal.action_of-action-requires
action_of-action-requires c = call_key c.args.plain _ c.call_width.ensures (call_within c.args.plain _ c.requires.2 c.if-call-call_count.true)

pub state_of-start-requires : goal.state_of-start-requires
state_of-start-requires c = call_key c.args.plain _ c.call_width-then-is_of.ensures (call_within c.args.plain _ c.requires.2 c.if-call-call_count.true)

pub steps_for-body-requires : goal.steps_for-body-requires
steps_for-body-requires c = (c.requires.0, c.requires.1, (c.action_of-action.result, sym c.is_of.ensures ∙ c.if-is_of.true))

pub follows-requires : goal.follows-requires
follows-requires c =
    let p = c.requires in
    (readable_more c.args.plain p.5 p.2 p.3 p.4 (rw (c.call_of-call.ensures, c.answer_width-width.ensures) at c.if-call-call_count.true), c.steps_for-body.ensures.1)

pub returns-then-is_of : goal.returns-then-is_of
returns-then-is_of c m =
    by_walk _ _ _ _ (rw (c.call_of-call.ensures, c.answer_width-width.ensures) at c.if-call-call_count.true)
    (rw (c.rule_of-rule.ensures, c.action_of-action.ensures, c.call_width.ensures, c.call_of-call.ensures, c.answer_width-width.ensures) at (sym c.is_of.ensures ∙ c.if-is_of.true))
    (rw (c.steps_for-body.ensures.0, c.rule_of-rule.ensures, c.state_of-start.ensures, c.call_width-then-is_of.ensures, c.action_of-action.ensures, c.call_width.ensures, c.call_of-call.ensures, c.answer_width-width.ensures) at (c.follows.ensures c.args.call_count m))

pub returns-else-is_of : goal.returns-else-is_of
returns-else-is_of c m =
    no_rule _ _ _ _ (rw (c.call_of-call.ensures, c.answer_width-width.ensures) at c.if-call-call_count.true)
    (rw (c.rule_of-rule.ensures, c.action_of-action.ensures, c.call_width.ensures, c.call_of-call.ensures, c.answer_width-width.ensures) at (sym c.is_of.ensures ∙ c.if-is_of.false))

pub returns-else-call-call_count : goal.returns-else-call-call_count
returns-else-call-call_count c m = no_call _ _ _ _ (rw (c.call_of-call.ensures, c.answer_width-width.ensures) at c.if-call-call_count.false)
