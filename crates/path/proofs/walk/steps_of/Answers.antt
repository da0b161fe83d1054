-- `steps_of` meets its contract: where the parties have a goal each the action tells which. Assumes nothing.
use native.Mathlib.Omega.{arith}
use mathlib.Core.Path.{◌∙◌}
use Rattle.checks.proofs.WidthLaws.{answer_within, answer_others}
use Rattle.unfolding.proofs.Walk.{lent, answers_of, words_alone}
use Rattle.path.proofs.walk.steps_of.Goals as goal

pub rule_of-rule-requires : goal.rule_of-rule-requires
rule_of-rule-requires c =
    let a = c.args in
    answer_others a.plain a.n c.answer_width.ensures (answer_within a.plain a.n c.requires.readable.long (omega arith))

pub action-of-requires : goal.action-of-requires
action-of-requires c = c.requires.readable

pub steps_for-requires : goal.steps_for-requires
steps_for-requires c = (c.requires.short, c.requires.short_second, rw (c.rule_of-rule.ensures, c.answer_width.ensures) (c.requires.fits c.args.n (omega arith)))

pub returns : goal.returns
returns c =
    let a = c.args in
    let it = lent a.plain a.rules.now a.goal.now a.second.now a.calls.now a.answers.now in
    (rw (c.rule_of-rule.ensures, c.answer_width.ensures) at c.steps_for.ensures.0 ∙ words_alone it ((answers_of it).rule a.n) _ _ c.action-of.ensures, c.steps_for.ensures.1)
