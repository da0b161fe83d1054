-- `bad_goal` meets its contract. Assumes nothing.
use mathlib.Core.Path.{◌≡◌, refl, sym, ◌∙◌}
use Rattle.std.proofs.Common.{rules}
use Rattle.std.specs.List.{list_all}
use Rattle.std.proofs.lemmas.Iterator.{YieldsList-from_slice}
use Rattle.std.proofs.lemmas.Iterator.Search.{all_from_yields_List}
use borrow.Author.Tests.{le-ltb}
use Rattle.steps.specs.Acceptance.{good_step, bad_goal}
use Rattle.steps.proofs.EachBelow.{each_item}
use Rattle.steps.proofs.accept.bad_goal.Goals as goal

pub returns-else-goal-gt16 : goal.returns-else-goal-gt16
unfolding bad_goal
returns-else-goal-gt16 c =
    let a = c.args in
    let all : c.all.result ≡ list_all (good_step a.fluents a.actions) a.goal.now
    = all_from_yields_List _ _ _ _ c.all.ensures.ran (YieldsList-from_slice a.goal.now cc) (λ x b q k. search rules) in
    rw (le-ltb _ _ c.if-goal-gt16.false, all, each_item) refl
