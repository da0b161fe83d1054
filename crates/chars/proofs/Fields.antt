-- The fields of a line from where one of them ends. Assumes nothing.
use mathlib.Core.Path.{◌≡◌, ap, sym, ◌∙◌}
use mathlib.Core.List.{List, [], ◌∷◌}
use Prim.Native.Nat.{ℕ, ◌+◌, ◌≤◌, ◌<◌}
use native.Mathlib.Omega.{arith}
use native.Mathlib.Decide.{dec_lt}
use lib.ListN.{length}
use lib.Seq.{slice}
use Rattle.chars.specs.Inner.{index_of}
use Rattle.chars.specs.Bytes.{TAB}
use Rattle.chars.specs.Pieces.{fields}
use Rattle.chars.specs.Inner.{fields_from, FieldEnd}
use Rattle.chars.proofs.Ends.{fields_here, fields_gone, field_end}

-- a line's fields, by the first of them
pub fields_first : (s : List ℕ) (at e q : ℕ) → at ≤ e → FieldEnd s at e q → fields (slice at e s) ≡ slice at q s ∷ fields_from (q + 1) e s
unfolding fields
fields_first s at e q h f = sym (fields_here s at e h) ∙ f.cut

module _ (s : List ℕ) (p e : ℕ) where
  -- where there is a field, there is a part
  pub some_field : 0 < length (fields_from p e s) → p ≤ e
  some_field h = go (dec_lt e p)
    where
      go : Dec (e < p) → p ≤ e
      go (yes y) = let x = ap length (fields_gone s p e y) in absurd (omega arith)
      go (no y) = omega arith

  -- where there is one field, it is the whole part
  pub one_field : e ≤ length s → length (fields_from p e s) ≡ 1 → fields_from p e s ≡ slice p e s ∷ []
  one_field k h = last (p + index_of TAB (slice p e s)) (field_end s p e within k) (dec_lt (p + index_of TAB (slice p e s)) e)
    where
      within : p ≤ e
      within = some_field (omega arith)

      last : (r : ℕ) → FieldEnd s p e r → Dec (r < e) → fields_from p e s ≡ slice p e s ∷ []
      last r f (yes y) =
          let x = ap length f.cut in
          let z = field_end s (r + 1) e (omega arith) k in
          let u = ap length z.cut in
          absurd (omega arith)
      last r f (no y) =
          let i = f.within in
          let x : r ≡ e = omega arith in
          let g = fields_gone s (r + 1) e (omega arith) in
          let c = f.cut in
          cc
