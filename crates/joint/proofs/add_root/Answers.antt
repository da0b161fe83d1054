-- `add_root` meets its contract: the call is put in as `add_new` puts it, or all stays. Assumes nothing.
use mathlib.Core.Path.{refl, sym, ◌∙◌}
use Rattle.steps.proofs.EachBelow.{true_not_false}
use Rattle.index.proofs.Additions.{calls_kept}
use Rattle.joint.proofs.add_root.Goals as goal

pub returns-then-stands : goal.returns-then-stands
returns-then-stands c =
    let s = c.add_new.ensures in
    record { root_put = record { put = λ e. s.call_put; spared = λ e. absurd (true_not_false (sym c.if-stands.true ∙ e)) }; calls_open_2 = s.calls_open_2; calls_kept = s.calls_kept }

pub returns : goal.returns
returns c =
    let p = c.requires.calls_open in
    record { root_put = record { put = λ e. absurd (true_not_false (sym e ∙ c.if-stands.false)); spared = λ e. (refl, refl) }; calls_open_2 = (p.0, p.1); calls_kept = calls_kept _ _ }
