-- `chars::field_end` meets its contract, by the law of the fields at a first tab. Assumes nothing.
use mathlib.Core.Path.{subst⁻¹}
use Prim.Native.Nat.{ℕ}
use Rattle.chars.specs.Inner.{FieldEnd}
use Rattle.chars.proofs.Ends.{field_end}
use Rattle.chars.proofs.field_end.Goals as goal

pub returns : goal.returns
returns c =
    let a = c.args in
    let p = c.requires in
    subst⁻¹ (λ (r : ℕ). FieldEnd a.s.now a.at a.to r) c.find.ensures (field_end a.s.now a.at a.to p.0 p.1)
