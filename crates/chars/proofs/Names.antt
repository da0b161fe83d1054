-- What a name is, a byte at a time. Assumes nothing.
use Rattle.std.proofs.Common.{◌≡◌, refl, ap, sym, true, false, Bool, ◌&&◌, List, [], ◌∷◌, ℕ, suc, ◌-◌, ◌≤◌, ◌<◌, eqb, length, get_or, take, drop, arith}
use mathlib.Core.Bool.{and-false, true≢false}
use Rattle.std.specs.List.{list_all}
use Rattle.std.proofs.Math.Seq.{take-length}
use borrow.Author.Tests.{lt-leb, le-leb}
use lib.Pointwise.{pointwise}
use Rattle.chars.specs.Bytes.{lower, name_byte, is_name}
use Rattle.chars.specs.Places.{same}

-- what follows a list's first element, as code takes it
rest_is : (x : ℕ) (xs : List ℕ) → take (length (x ∷ xs) - 1) xs ≡ xs
rest_is x xs = let e : length (x ∷ xs) - 1 ≡ length xs = omega arith in rw (e, take-length)

-- a list by its first element and what follows it, as code takes them
pub parted : (l : List ℕ) → 0 < length l → l ≡ get_or l 0 0 ∷ take (length l - 1) (drop 1 l)
parted [] h = absurd (omega arith)
parted (x ∷ xs) h = rw (rest_is x xs)

-- a name, by its first byte and those behind it
pub name_empty : (l : List ℕ) → length l < 1 → is_name l ≡ false
unfolding is_name
name_empty [] h = refl
name_empty (x ∷ xs) h = absurd (omega arith)

pub name_start : (l : List ℕ) → lower (get_or l 0 0) ≡ false → is_name l ≡ false
unfolding is_name
name_start [] e = refl
name_start (x ∷ xs) e = rw e

pub name_long : (l : List ℕ) → 16 ≤ length (take (length l - 1) (drop 1 l)) → is_name l ≡ false
unfolding is_name
name_long [] h = refl
name_long (x ∷ xs) h = let k = rw (rest_is x xs) at h in rw (lt-leb (length xs) 15 (omega arith), and-false)

pub name_rest : (l : List ℕ) → 0 < length l → lower (get_or l 0 0) ≡ true → length (take (length l - 1) (drop 1 l)) < 16
    → is_name l ≡ list_all name_byte (take (length l - 1) (drop 1 l))
unfolding is_name
name_rest [] h e k = absurd (omega arith)
name_rest (x ∷ xs) h e k = let m = rw (rest_is x xs) at k in rw (e, le-leb (length xs) 15 (omega arith), rest_is x xs)

-- the same bytes, as `==` of slices says it
pub same_pointwise : (x y : List ℕ) → pointwise eqb x y ≡ same x y
unfolding same
same_pointwise [] [] = refl
same_pointwise [] (y ∷ ys) = refl
same_pointwise (x ∷ xs) [] = refl
same_pointwise (x ∷ xs) (y ∷ ys) = rw (same_pointwise xs ys)

-- lists of different lengths
pub same_lengths : (x y : List ℕ) → (length x ≡ length y → ⊥) → same x y ≡ false
unfolding same
same_lengths [] [] h = absurd (h refl)
same_lengths [] (y ∷ ys) h = refl
same_lengths (x ∷ xs) [] h = refl
same_lengths (x ∷ xs) (y ∷ ys) h = rw (same_lengths xs ys (λ e. h (ap suc e))) (and-false (eqb x y))

-- the same bytes have one length
pub same_length : (x y : List ℕ) → same x y ≡ true → length x ≡ length y
unfolding same
same_length [] [] e = refl
same_length [] (y ∷ ys) e = absurd (true≢false (sym e))
same_length (x ∷ xs) [] e = absurd (true≢false (sym e))
same_length (x ∷ xs) (y ∷ ys) e = ap suc (same_length xs ys (right (eqb x y) (same xs ys) e))
  where
    right : (a b : Bool) → (a && b) ≡ true → b ≡ true
    right true b h = h
    right false b h = absurd (true≢false (sym h))
