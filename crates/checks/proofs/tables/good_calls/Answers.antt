-- `good_calls` meets its contract. Assumes nothing.
use borrow.Author.Rules.{rules}
use mathlib.Core.Path.{◌≡◌, sym, ◌∙◌}
use mathlib.Core.Bool.{true, false}
use Rattle.steps.proofs.EachBelow.{each_none, each_more, each_not}
use Rattle.checks.proofs.WidthLaws.{call_within}
use Rattle.checks.proofs.tables.good_calls.Goals as goal

pub loop-i-init : goal.loop-i-init
loop-i-init c = each_none _

pub good_call-requires : goal.good_call-requires
good_call-requires c = call_within c.args.plain _ c.requires c.loop-i-test.true

pub returns-then-not-good_call : goal.returns-then-not-good_call
returns-then-not-good_call c =
    let bad : c.good_call.result ≡ false = search rules in
    sym (each_not _ _ _ c.loop-i-test.true (sym (c.good_call.ensures _) ∙ bad))

pub loop-i-preserved : goal.loop-i-preserved
loop-i-preserved c =
    let good : c.good_call.result ≡ true = search rules in
    each_more _ _ c.loop-i.invariant (sym (c.good_call.ensures _) ∙ good)
