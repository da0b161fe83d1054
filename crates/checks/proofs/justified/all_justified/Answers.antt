-- `all_justified` meets its contract. Assumes nothing.
use native.Mathlib.Omega.{arith}
use borrow.Author.Rules.{rules}
use mathlib.Core.Path.{◌≡◌, sym, ◌∙◌}
use mathlib.Core.Bool.{true, false}
use Rattle.steps.proofs.EachBelow.{each_none, each_more, each_not}
use Rattle.records.specs.Bodies.{bodies_with}
use Rattle.checks.specs.Checks.{all_justified}
use Rattle.checks.proofs.WidthLaws.{answer_within, answers_less}
use Rattle.checks.proofs.JustifiedLaws.{readable}
use Rattle.checks.proofs.justified.all_justified.Goals as goal

pub loop-n-init : goal.loop-n-init
loop-n-init c = each_none _

pub justified-requires : goal.justified-requires
justified-requires c =
    let a = c.args in
    let p = c.requires in
    let n = c.loop-n.n in (
      p.0,
      p.1,
      p.2,
      omega arith,
      answer_within a.plain n p.4 c.loop-n-test.true,
      readable a.plain _ a.call_count _ a.answer_count (bodies_with a.rules.now a.goals.first a.goals.second a.goal.now a.second.now) _ p.2 (omega arith) (answers_less a.plain n p.4 (omega arith)) c.loop-n.invariant,
    )

pub returns-then-not-justified : goal.returns-then-not-justified
unfolding all_justified
returns-then-not-justified c =
    let bad : c.justified.result ≡ false = search rules in
    sym (each_not _ _ _ c.loop-n-test.true (sym (c.justified.ensures _) ∙ bad))

pub loop-n-preserved : goal.loop-n-preserved
loop-n-preserved c =
    let good : c.justified.result ≡ true = search rules in
    each_more _ _ c.loop-n.invariant (sym (c.justified.ensures _) ∙ good)

pub returns : goal.returns
unfolding all_justified
returns c =
    let e : c.loop-n.n ≡ c.args.answer_count = omega arith in
    sym (rw e at c.loop-n.invariant)
