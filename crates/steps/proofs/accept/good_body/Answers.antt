-- `good_body` meets its contract. Assumes nothing.
use Prim.Native.Nat.{◌+◌, ◌*◌}
use mathlib.Core.Path.{◌≡◌, refl, ◌∙◌}
use lib.ListN.{get_or}
use Rattle.std.proofs.Common.{rules}
use Rattle.std.proofs.lemmas.Iterator.{YieldsList-from_range}
use Rattle.std.proofs.lemmas.Iterator.Search.{all_from_yields_List}
use Rattle.steps.specs.Acceptance.{good_word}
use Rattle.steps.specs.Widths.{rule_width}
use Rattle.steps.proofs.EachBelow.{each_number}
use Rattle.steps.proofs.accept.good_body.Goals as goal

pub returns : goal.returns
returns c =
    let a = c.args in
    all_from_yields_List (λ i. good_word a.fluents a.actions a.n i (get_or a.rules.now (rule_width * a.r + 2 + i) 0)) _ _ _ c.all.ensures.ran
    (YieldsList-from_range 0 16 16 refl refl) (λ x b q k. search rules) ∙ each_number _ 16
