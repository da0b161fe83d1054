-- Laws of flags: where they stand, and what stays where they are written. Assumes nothing.
use Prim.Native.Nat.{ℕ, ◌+◌, ◌*◌, ◌<◌, ◌≤◌}
use native.Mathlib.Omega.{arith}
use native.Mathlib.Decide.{dec_lt}
use native.Mathlib.Nat.{mul-add, mul-le-mul_left}
use mathlib.Core.Path.{◌≡◌, refl, sym, ◌∙◌}
use mathlib.Core.Bool.{Bool, true, false}
use mathlib.Core.List.{List}
use mathlib.Core.Logic.{◌≢◌}
use lib.ListN.{length, set, length-set}
use lib.Seq.{get_or-set_same, get_or-set_other}
use Rattle.matching.specs.Flags.{flag, Kept, Flagged, Marked, Matched, RowFound, RowForRow}
use Rattle.matching.proofs.Pairs.{matched_more, matched_refused}

-- A record's words end where the next one's begin.
next_record : (width j k : ℕ) → j < k → width * j + width ≤ width * k
next_record width j k l =
    let e : width * (j + 1) ≡ width * j + width * 1 = mul-add width j 1 in
    let h : width * (j + 1) ≤ width * k = mul-le-mul_left width (omega arith) in
    omega arith

pub flag_inside : {width at n : ℕ} {words : List ℕ} (j : ℕ) → Flagged width at n words → j < n → width * j + at < length words
flag_inside {width} {at} {n} j f l = omega (arith, next_record width j n l, f.inside, f.fits)

pub flag_other : (width at j k : ℕ) → at < width → j ≢ k → width * j + at ≢ width * k + at
flag_other width at j k l n z = by (dec_lt j k)
  where
    by : Dec (j < k) → ⊥
    by (yes h) = omega (arith, next_record width j k h)
    by (no h) = omega (arith, next_record width k j (omega arith))

module _ {width at n : ℕ} where
  pub kept_none : (words : List ℕ) → Kept width at n words words
  kept_none words = record { long = refl; other = λ p a. refl }

  pub kept_back : {words words' : List ℕ} → Kept width at n words words' → Kept width at n words' words
  kept_back k = record { long = sym k.long; other = λ p a. sym (k.other p a) }

  pub kept_on : {words words₁ words' : List ℕ} → Kept width at n words words₁ → Kept width at n words₁ words' → Kept width at n words words'
  kept_on k h = record { long = h.long ∙ k.long; other = λ p a. h.other p a ∙ k.other p a }

  pub kept_set : {words words' : List ℕ} (r v : ℕ) → Kept width at n words words' → r < n → Kept width at n words (set words' (width * r + at) v)
  kept_set {words} {words'} r v k l = record {
    long = simp length-set k.long;
    other = λ p a. get_or-set_other words' (width * r + at) p v 0 (a r l) ∙ k.other p a;
  }

  pub flagged_kept : {words words' : List ℕ} → Flagged width at n words → Kept width at n words words' → Flagged width at n words'
  flagged_kept f k = record { inside = f.inside; fits = omega (arith, f.fits, k.long) }

  module _ {words : List ℕ} (f : Flagged width at n words) (r v : ℕ) (l : r < n) where
    pub flag_set : flag width at (set words (width * r + at) v) r ≡ v
    flag_set = get_or-set_same words (width * r + at) v 0 (flag_inside r f l)

    pub flags_beside : (j : ℕ) → j ≢ r → flag width at (set words (width * r + at) v) j ≡ flag width at words j
    flags_beside j d = get_or-set_other words (width * r + at) (width * j + at) v 0 (flag_other width at j r f.inside d)

-- ---- a record told off
pub marked_kept : {width at n : ℕ} {words words₁ words' : List ℕ} (r v : ℕ) (b : Bool) → Kept width at n words words₁
    → Marked width at n r v words₁ words' b → Kept width at n words words'
marked_kept r v true k (l, z, e) = rw e (kept_set r v k l)
marked_kept r v false k (e, h) = rw e k

module _ {X : Type 0} {row row' : ℕ → X} {width at n : ℕ} where
  module _ {words words' : List ℕ} (i r : ℕ) (f : Flagged width at n words) (m : Matched row i row' n (flag width at words))
      (g : RowFound (row i) row' n r) where
    pub marked_on : Marked width at n r (i + 1) words words' true → Matched row (i + 1) row' n (flag width at words')
    marked_on (l, z, e) = rw e (matched_more i r m l (g.found l) z (flag_set f r (i + 1) l) (flags_beside f r (i + 1) l))

    pub marked_refused : {t : ℕ} → i < t → Marked width at n r (i + 1) words words' false → RowForRow row t row' n → ⊥
    marked_refused l (e, h) = matched_refused i r m l g h
