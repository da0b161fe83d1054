-- `lowest` meets its contract: Euclid's number is not 0 where d is not. Assumes nothing.
use Prim.Native.Nat.{ℕ, ◌/◌}
use native.Mathlib.Omega.{arith}
use mathlib.Core.Path.{sym, ap, ◌∙◌}
use mathlib.Core.List.{[], ◌∷◌}
use Rattle.report.proofs.Euclid.{common_pos}
use Rattle.report.proofs.LowestTerms.{over, over_nothing}
use Rattle.report.proofs.lowest.Goals as goal

pub returns-then-d-eq0 : goal.returns-then-d-eq0
returns-then-d-eq0 c = sym (over_nothing _ _ c.if-d-eq0.true)

pub nonzero_div-result : goal.nonzero_div-result
nonzero_div-result c = rw c.common-divisor.ensures (common_pos _ _ (omega arith))

pub nonzero_div-result-2 : goal.nonzero_div-result-2
nonzero_div-result-2 c = rw c.common-divisor.ensures (common_pos _ _ (omega arith))

pub returns : goal.returns
returns c =
    let a = c.args in
    ap (λ (g : ℕ). a.n / g ∷ a.d / g ∷ []) c.common-divisor.ensures ∙ sym (over a.n a.d c.if-d-eq0.false)
