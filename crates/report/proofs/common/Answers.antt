use native.Mathlib.Nat.{mod-lt}
use native.Mathlib.Omega.{arith}
use mathlib.Core.Path.{◌≡◌, refl, sym, ap, ◌∙◌}
use borrow.Author.Rules.{rules}
use Rattle.report.specs.Fraction.{common}
use Rattle.report.proofs.Euclid.{common_end, common_step}
use Rattle.report.proofs.common.Goals as goal

pub loop-b-init : goal.loop-b-init
loop-b-init c = refl

pub loop-b-smaller : goal.loop-b-smaller
loop-b-smaller c = omega (arith, mod-lt c.loop-b.a {m = c.loop-b.b} (omega arith))

pub loop-b-preserved : goal.loop-b-preserved
loop-b-preserved c = sym (common_step c.loop-b.a c.loop-b.b (λ z. omega arith)) ∙ c.loop-b.invariant

pub returns : goal.returns
returns c =
    let now = c.loop-b in
    let end : now.b ≡ 0 = omega arith in
    sym (ap (common now.a) end ∙ common_end now.a) ∙ now.invariant
