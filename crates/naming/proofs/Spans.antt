-- The span of the name on a `fluent` line, line by line. Assumes nothing.
use mathlib.Core.Path.{◌≡◌, refl, ap, ◌∙◌}
use mathlib.Core.Bool.{true, false}
use mathlib.Core.List.{List, [], ◌∷◌}
use Prim.Native.Nat.{ℕ, ◌+◌, ◌-◌, ◌≤◌}
use native.Mathlib.Omega.{arith}
use lib.ListN.{length, get_or}
use lib.Seq.{slice, length-slice}
use borrow.Author.Tests.{eq-eqb, ne_eqb}
use Rattle.chars.specs.Bytes.{text}
use Rattle.chars.specs.Pieces.{fields, bare}
use Rattle.chars.specs.Places.{same}
use Rattle.chars.specs.Inner.{fields_from, FieldEnd, BareEnd}
use Rattle.chars.proofs.Fields.{fields_first}
use Rattle.chars.proofs.Names.{same_length}
use Rattle.naming.specs.declared.Span.{Span}
use Rattle.naming.specs.Spans.{nowhere, name_in, field_span}

abbrev span : ℕ → ℕ → Span
span i n = record { at = i; len = n }

module _ (s : List ℕ) (at e end q k : ℕ) (ls : List (List ℕ)) (B : BareEnd s at e end) (f : FieldEnd s at end q) (w : e ≤ length s) where
  next : at + length (slice at e s) + 1 ≡ e + 1
  next = let l = length-slice at e s w in omega (arith, B.from, B.within)

  first : fields (bare (slice at e s)) ≡ slice at q s ∷ fields_from (q + 1) end s
  first = ap fields B.cut ∙ fields_first s at end q B.from f

  pub name_passed : same (slice at q s) (text "fluent") ≡ false → name_in at k (slice at e s ∷ ls) ≡ name_in (e + 1) k ls
  unfolding name_in
  name_passed x = rw (← next, first, x, name_in)

  module _ (x : same (slice at q s) (text "fluent") ≡ true) where
    pub name_later : (k ≡ 0 → ⊥) → name_in at k (slice at e s ∷ ls) ≡ name_in (e + 1) (k - 1) ls
    unfolding name_in
    name_later z = rw (← next, first, x, ne_eqb k 0 z, name_in)

    pub name_here : k ≡ 0 → name_in at k (slice at e s ∷ ls) ≡ field_span s q end
    unfolding name_in
    name_here z =
        let l = same_length (slice at q s) (text "fluent") x in
        let i = f.within in
        let b = B.within in
        let m = length-slice at q s (omega arith) in
        let j : at + 7 ≡ q + 1 = omega (arith, l, m, f.from) in
        rw (first, x, eq-eqb k 0 z, name_in, first) (ap (λ (i : ℕ). span i (length (get_or (fields_from (q + 1) end s) 0 []))) j)

pub name_nowhere : (at k : ℕ) → name_in at k [] ≡ nowhere
unfolding name_in
name_nowhere at k = refl
