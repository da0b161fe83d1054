-- Where lines and fields end: at the first separator, or where the text ends. Assumes nothing.
use mathlib.Core.Path.{◌≡◌, refl, ap, sym}
use mathlib.Core.List.{List, [], ◌∷◌}
use Prim.Native.Nat.{ℕ, ◌+◌, ◌-◌, ◌≤◌, ◌<◌}
use native.Mathlib.Nat.{not-suc-le-zero}
use native.Mathlib.Omega.{arith}
use lib.ListN.{length, take, drop, drop_of_length-le}
use lib.Seq.{slice, length-slice, take-length}
use Rattle.chars.specs.Inner.{index_of}
use native.Mathlib.Decide.{dec_lt}
use borrow.Author.Tests.{le-leb, lt-leb}
use Rattle.chars.specs.Pieces.{pieces, lines}
use Rattle.chars.specs.Inner.{fields_from, FieldEnd, LineEnd}
use Rattle.chars.specs.Bytes.{TAB, LF}
use Rattle.chars.proofs.Pieces.{cut, none, ending, take_slice, drop_slice, index_le}

-- the fields from p on, where p is not past the end
pub fields_here : (s : List ℕ) (p e : ℕ) → p ≤ e → fields_from p e s ≡ pieces ([] ∷ []) TAB (slice p e s)
unfolding fields_from
fields_here s p e h = rw (le-leb p e h)

pub fields_gone : (s : List ℕ) (p e : ℕ) → e < p → fields_from p e s ≡ []
unfolding fields_from
fields_gone s p e h = rw (lt-leb p e h)

ending_nonempty : (xs : List ℕ) → ending ([] ∷ []) xs ≡ xs ∷ []
ending_nonempty [] = refl
ending_nonempty (x ∷ xs) = refl

module _ (s : List ℕ) (at to : ℕ) (h : at ≤ to) (k : to ≤ length s) where
  field_cut : (n : ℕ) → index_of TAB (slice at to s) ≡ n → Dec (n < to - at) → fields_from at to s ≡ slice at (at + n) s ∷ fields_from (at + n + 1) to s
  field_cut n e (yes p) =
      let l = length-slice at to s k in
      let a = fields_here s at to h in
      let q : index_of TAB (slice at to s) < length (slice at to s) = omega arith in
      let b = cut ([] ∷ []) TAB (slice at to s) q in
      let c = take_slice s at to n (omega arith) k in
      let d = drop_slice s at to n in
      let f = fields_here s (at + n + 1) to (omega arith) in
      cc
  field_cut n e (no p) =
      let l = length-slice at to s k in
      let m = index_le TAB (slice at to s) in
      let z : n ≡ to - at = omega arith in
      let y : at + n ≡ to = omega arith in
      let a = fields_here s at to h in
      let b = none ([] ∷ []) TAB (λ x. refl) (slice at to s) (omega arith) in
      let c = ending_nonempty (slice at to s) in
      let f = fields_gone s (at + n + 1) to (omega arith) in
      cc

  pub field_end : FieldEnd s at to (at + index_of TAB (slice at to s))
  field_end =
      let l = length-slice at to s k in
      let m = index_le TAB (slice at to s) in
      record {
        from = omega arith;
        within = omega arith;
        cut = field_cut (index_of TAB (slice at to s)) refl (dec_lt (index_of TAB (slice at to s)) (to - at));
      }

-- the lines from p on
lines_here : (s : List ℕ) (p : ℕ) → lines (drop p s) ≡ pieces [] LF (slice p (length s) s)
unfolding lines
lines_here s p = ap (λ (l : List ℕ). pieces [] LF (drop p l)) (sym (take-length s))

pub lines_gone : (s : List ℕ) (p : ℕ) → length s ≤ p → lines (drop p s) ≡ []
unfolding lines pieces
lines_gone s p h = ap (pieces [] LF) (drop_of_length-le s h)

ending_here : (xs : List ℕ) → 0 < length xs → ending [] xs ≡ xs ∷ []
ending_here [] h = absurd (not-suc-le-zero h)
ending_here (x ∷ xs) h = refl

module _ (s : List ℕ) (at : ℕ) (h : at < length s) where
  line_cut : (n : ℕ) → index_of LF (slice at (length s) s) ≡ n → Dec (n < length s - at) → lines (drop at s) ≡ slice at (at + n) s ∷ lines (drop (at + n + 1) s)
  line_cut n e (yes p) =
      let l = length-slice at (length s) s (omega arith) in
      let a = lines_here s at in
      let q : index_of LF (slice at (length s) s) < length (slice at (length s) s) = omega arith in
      let b = cut [] LF (slice at (length s) s) q in
      let c = take_slice s at (length s) n (omega arith) (omega arith) in
      let d = drop_slice s at (length s) n in
      let f = lines_here s (at + n + 1) in
      cc
  line_cut n e (no p) =
      let l = length-slice at (length s) s (omega arith) in
      let m = index_le LF (slice at (length s) s) in
      let y : at + n ≡ length s = omega arith in
      let a = lines_here s at in
      let b = none [] LF (λ x. refl) (slice at (length s) s) (omega arith) in
      let c = ending_here (slice at (length s) s) (omega arith) in
      let f = lines_gone s (at + n + 1) (omega arith) in
      cc

  pub line_end : LineEnd s at (at + index_of LF (slice at (length s) s))
  line_end =
      let l = length-slice at (length s) s (omega arith) in
      let m = index_le LF (slice at (length s) s) in
      record {
        from = omega arith;
        within = omega arith;
        cut = line_cut (index_of LF (slice at (length s) s)) refl (dec_lt (index_of LF (slice at (length s) s)) (length s - at));
      }

-- a part of a slice, as code takes it
pub part_slice : (s : List ℕ) (a e : ℕ) → a ≤ e → e ≤ length s → take (e - a) (drop a s) ≡ slice a e s
part_slice s a e h k =
    let m : a + (e - a) ≡ e = omega arith in
    let f = take_slice s a (length s) (e - a) (omega arith) (omega arith) in
    let g = take-length s in
    cc
