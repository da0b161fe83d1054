-- `chars::line_end` meets its contract, by the law of the lines at a first LF. Assumes nothing.
use mathlib.Core.Path.{subst⁻¹}
use Prim.Native.Nat.{ℕ}
use Rattle.chars.specs.Inner.{LineEnd}
use Rattle.chars.proofs.Ends.{line_end}
use Rattle.chars.proofs.line_end.Goals as goal

pub returns : goal.returns
returns c =
    let a = c.args in
    subst⁻¹ (λ (r : ℕ). LineEnd a.s.now a.at r) c.find.ensures (line_end a.s.now a.at c.requires)
