-- A line without the CR at its end, and a comment's first byte. Assumes nothing.
use Prim.Native.Nat.{ℕ, suc, ◌-◌, ◌≤◌, ◌<◌}
use native.Mathlib.Omega.{arith}
use native.Mathlib.Decide.{dec_lt}
use mathlib.Core.Path.{◌≡◌, refl, ap, sym, ◌∙◌, subst}
use mathlib.Core.Bool.{Bool, true, false, cond}
use mathlib.Core.List.{List, [], ◌∷◌, ◌++◌}
use lib.Dec.{eqb}
use lib.ListN.{length, get_or, take, drop}
use lib.Seq.{slice, slice_empty, slice-cons, take-suc, drop-append-le, length-take-le}
use borrow.Author.Tests.{eq-eqb, ne_eqb, eqb-true, eqb-false}
use Rattle.chars.specs.Bytes.{CR, HASH, begins}
use Rattle.chars.specs.Pieces.{bare}
use Rattle.chars.specs.Inner.{BareEnd}

pub bare_snoc : (l : List ℕ) (x : ℕ) → bare (l ++ (x ∷ [])) ≡ cond (eqb x CR) l (l ++ (x ∷ []))
unfolding bare
bare_snoc [] x = refl
bare_snoc (y ∷ []) x = by (eqb x CR)
  where
    by : (t : Bool) → y ∷ cond t [] (x ∷ []) ≡ cond t (y ∷ []) (y ∷ x ∷ [])
    by true = refl
    by false = refl
bare_snoc (y ∷ z ∷ zs) x = ap (λ (l : List ℕ). y ∷ l) (bare_snoc (z ∷ zs) x) ∙ by (eqb x CR)
  where
    by : (t : Bool) → y ∷ cond t (z ∷ zs) (z ∷ (zs ++ (x ∷ []))) ≡ cond t (y ∷ z ∷ zs) (y ∷ z ∷ (zs ++ (x ∷ [])))
    by true = refl
    by false = refl

pub bare_nil : bare [] ≡ []
unfolding bare
bare_nil = refl

pub slice_snoc : (s : List ℕ) (a j : ℕ) → a ≤ j → j < length s → slice a (suc j) s ≡ slice a j s ++ (get_or s j 0 ∷ [])
slice_snoc s a j h l =
    ap (drop a) (take-suc s j 0 l) ∙ drop-append-le a (take j s) (get_or s j 0 ∷ []) (omega (arith, length-take-le j s (omega arith)))

module _ (s : List ℕ) (at j : ℕ) (h : at ≤ j) (l : j < length s) where
  ends_cr : get_or s j 0 ≡ CR → BareEnd s at (suc j) j
  ends_cr e = record { from = h; within = omega arith; cut = ap bare (slice_snoc s at j h l) ∙ bare_snoc (slice at j s) (get_or s j 0) ∙ ap (λ (t : Bool). cond t (slice at j s) (slice at j s ++ (get_or s j 0 ∷ []))) (eq-eqb (get_or s j 0) CR e) }

  ends_other : (get_or s j 0 ≡ CR → ⊥) → BareEnd s at (suc j) (suc j)
  ends_other e = record { from = omega arith; within = omega arith; cut = ap bare (slice_snoc s at j h l) ∙ bare_snoc (slice at j s) (get_or s j 0) ∙ ap (λ (t : Bool). cond t (slice at j s) (slice at j s ++ (get_or s j 0 ∷ []))) (ne_eqb (get_or s j 0) CR e) ∙ sym (slice_snoc s at j h l) }

module _ (s : List ℕ) (at to : ℕ) (h : at < to) (l : to ≤ length s) where
  whole : suc (to - 1) ≡ to
  whole = omega arith

  pub bare_cr : get_or s (to - 1) 0 ≡ CR → BareEnd s at to (to - 1)
  bare_cr e = subst (λ (n : ℕ). BareEnd s at n (to - 1)) whole (ends_cr s at (to - 1) (omega arith) (omega arith) e)

  pub bare_other : (get_or s (to - 1) 0 ≡ CR → ⊥) → BareEnd s at to to
  bare_other e = subst (λ (n : ℕ). BareEnd s at n n) whole (ends_other s at (to - 1) (omega arith) (omega arith) e)

pub bare_empty : (s : List ℕ) (at : ℕ) → BareEnd s at at at
bare_empty s at = record { from = omega arith; within = omega arith; cut = ap bare (slice_empty at s) ∙ bare_nil ∙ sym (slice_empty at s) }

-- every line has such an end
pub bare_end : (s : List ℕ) (at to : ℕ) → at ≤ to → to ≤ length s → (r : ℕ) × BareEnd s at to r
bare_end s at to h l = by (dec_lt at to)
  where
    last : (h : at < to) (t : Bool) → eqb (get_or s (to - 1) 0) CR ≡ t → (r : ℕ) × BareEnd s at to r
    last h true e = (to - 1, bare_cr s at to h l (eqb-true (get_or s (to - 1) 0) CR e))
    last h false e = (to, bare_other s at to h l (eqb-false (get_or s (to - 1) 0) CR e))

    by : Dec (at < to) → (r : ℕ) × BareEnd s at to r
    by (yes h) = last h (eqb (get_or s (to - 1) 0) CR) refl
    by (no n) = let e : at ≡ to = omega arith in (to, subst (λ (n : ℕ). BareEnd s at n n) e (bare_empty s at))

module _ (s : List ℕ) (at to : ℕ) where
  pub comment_empty : at ≡ to → begins HASH (slice at to s) ≡ false
  comment_empty e = rw (e, slice_empty to s) refl

  pub comment_first : at < to → to ≤ length s → begins HASH (slice at to s) ≡ eqb (get_or s at 0) HASH
  comment_first h k = rw (slice-cons at to s 0 h k) refl
