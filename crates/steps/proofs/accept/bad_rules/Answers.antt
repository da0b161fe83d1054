-- `bad_rules` meets its contract. Assumes nothing.
use Prim.Native.Nat.{◌/◌}
use mathlib.Core.Path.{◌≡◌, refl, ◌∙◌}
use lib.ListN.{length}
use Rattle.std.proofs.Common.{arith, rules}
use Rattle.std.specs.List.{list_all, range_with_len}
use Rattle.std.proofs.lemmas.Iterator.{YieldsList-from_range}
use Rattle.std.proofs.lemmas.Iterator.Search.{all_from_yields_List}
use Rattle.steps.specs.Acceptance.{good_rule, bad_rules}
use Rattle.steps.specs.Widths.{rule_width}
use Rattle.steps.proofs.EachBelow.{each_number}
use Rattle.steps.proofs.accept.bad_rules.Goals as goal

pub returns : goal.returns
unfolding bad_rules
returns c =
    let a = c.args in
    let n = length a.rules.now / rule_width in
    let all : c.all.result ≡ list_all (good_rule a.fluents a.actions a.rules.now) (range_with_len 0 n)
    = all_from_yields_List _ _ _ _ c.all.ensures.ran (YieldsList-from_range 0 n n refl (omega arith)) (λ x b q k. search rules) in
    rw (all, each_number) refl
