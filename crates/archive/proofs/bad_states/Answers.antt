-- `bad_states` meets its contract. Assumes nothing.
use mathlib.Core.Path.{◌≡◌, ◌∙◌, sym}
use mathlib.Core.Bool.{not}
use lib.ListN.{get_or}
use Rattle.std.specs.List.{list_any}
use Rattle.std.proofs.Common.{rules, tests}
use Rattle.std.proofs.lemmas.Iterator.{YieldsList-from_slice}
use Rattle.std.proofs.lemmas.Iterator.Search.{any_from_yields_List}
use Rattle.steps.specs.Acceptance.{bad_state}
use Rattle.archive.specs.Archived.{bad_states}
use Rattle.archive.proofs.AnyBelow.{any_below, not_not}
use Rattle.archive.proofs.bad_states.Goals as goal

pub returns : goal.returns
unfolding bad_states
returns c =
    let bad = bad_state c.args.fluents in
    let e : c.any.result ≡ list_any bad c.args.states.now = any_from_yields_List bad _ _ c.any.result c.any.ensures.ran (YieldsList-from_slice c.args.states.now cc) (λ x b q k. search (rules, tests)) in
    e ∙ any_below bad (λ i. not (bad (get_or c.args.states.now i 0))) c.args.states.now (λ i l. sym (not_not _))
