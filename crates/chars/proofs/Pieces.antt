-- Cutting a list at its first separator. Assumes nothing.
use mathlib.Core.Path.{◌≡◌, refl, ap, sym, ◌∙◌}
use mathlib.Core.Bool.{Bool, true, false, cond}
use mathlib.Core.List.{List, [], ◌∷◌}
use Prim.Native.Nat.{ℕ, suc, ◌+◌, ◌≤◌, ◌<◌}
use native.Mathlib.Nat.{le_of_suc-le-suc, not-suc-le-zero}
use native.Mathlib.Omega.{arith}
use native.Mathlib.Numerals.{add-one}
use borrow.Author.Tests.{eq-eqb, ne_eqb}
use lib.Dec.{eqb}
use Rattle.std.proofs.Common.{Some, None}
use Rattle.std.specs.List.{position, position_or_len}
use Rattle.std.proofs.lemmas.List.Recursion.{is_position_or_len}
use Rattle.std.proofs.lemmas.Bool.Decides.{nat_tests}
use lib.ListN.{get_or, length, take, drop}
use lib.Seq.{slice, slice-cons, slice_empty, take-add, take-take, drop_at, drop-drop, length-take-le}
use Rattle.chars.specs.Inner.{index_of, index_after}
use Rattle.chars.specs.Pieces.{pieces, piece_then, grow}

-- what is left where no separator stands
abbrev pub ending : List (List ℕ) → List ℕ → List (List ℕ)
ending rest [] = rest
ending rest (x ∷ xs) = (x ∷ xs) ∷ []

module _ (rest : List (List ℕ)) (b : ℕ) where
  cut_step : (x : ℕ) (xs : List ℕ) (n : ℕ) (t : Bool) → (n < length xs → pieces rest b xs ≡ take n xs ∷ pieces rest b (drop (suc n) xs))
      → index_after t n < suc (length xs) → piece_then t x (pieces rest b xs) ≡ take (index_after t n) (x ∷ xs) ∷ pieces rest b (drop (suc (index_after t n)) (x ∷ xs))
  unfolding index_after
  cut_step x xs n true ih h = refl
  cut_step x xs n false ih h = ap (grow x) (ih (le_of_suc-le-suc h))

  -- the piece before the first separator, and the pieces after it
  pub cut : (xs : List ℕ) → index_of b xs < length xs → pieces rest b xs ≡ take (index_of b xs) xs ∷ pieces rest b (drop (suc (index_of b xs)) xs)
  unfolding index_of pieces
  cut [] h = absurd (not-suc-le-zero h)
  cut (x ∷ xs) h = cut_step x xs (index_of b xs) (eqb x b) (cut xs) h

  none_grow : ((x : ℕ) → grow x rest ≡ (x ∷ []) ∷ []) → (x : ℕ) (xs : List ℕ) → grow x (ending rest xs) ≡ (x ∷ xs) ∷ []
  none_grow g x [] = g x
  none_grow g x (y ∷ ys) = refl

  none_step : (g : (x : ℕ) → grow x rest ≡ (x ∷ []) ∷ []) (x : ℕ) (xs : List ℕ) (n : ℕ) (t : Bool) → (length xs ≤ n → pieces rest b xs ≡ ending rest xs)
      → suc (length xs) ≤ index_after t n → piece_then t x (pieces rest b xs) ≡ (x ∷ xs) ∷ []
  unfolding index_after
  none_step g x xs n true ih h = absurd (not-suc-le-zero h)
  none_step g x xs n false ih h = ap (grow x) (ih (le_of_suc-le-suc h)) ∙ none_grow g x xs

  -- no separator
  pub none : ((x : ℕ) → grow x rest ≡ (x ∷ []) ∷ []) → (xs : List ℕ) → length xs ≤ index_of b xs → pieces rest b xs ≡ ending rest xs
  unfolding index_of pieces
  none g [] h = refl
  none g (x ∷ xs) h = none_step g x xs (index_of b xs) (eqb x b) (none g xs) h

-- the first n elements of a part
pub take_slice : (s : List ℕ) (at to n : ℕ) → at + n ≤ to → to ≤ length s → take n (slice at to s) ≡ slice at (at + n) s
take_slice s at to n h k =
    sym (drop_at (take at (take to s)) (take n (slice at to s)) at (length-take-le at (take to s) (let e = length-take-le to s k in omega arith)))
    ∙ ap (drop at) (sym (take-add at n (take to s)) ∙ take-take (at + n) to s h)

-- a part without its first n + 1 elements
pub drop_slice : (s : List ℕ) (at to n : ℕ) → drop (suc n) (slice at to s) ≡ slice (at + n + 1) to s
drop_slice s at to n =
    let e : at + suc n ≡ at + n + 1 = omega arith in
    drop-drop (suc n) at (take to s) ∙ ap (λ (k : ℕ). drop k (take to s)) e

-- a separator's place is at most the length
pub index_le : (b : ℕ) (xs : List ℕ) → index_of b xs ≤ length xs
unfolding index_of index_after
index_le b [] = omega arith
index_le b (x ∷ xs) = go (eqb x b) (index_le b xs)
  where
    go : (t : Bool) → index_of b xs ≤ length xs → index_after t (index_of b xs) ≤ suc (length xs)
    go true h = omega arith
    go false h = omega arith

-- the index counts as `position` does
index_position : (b : ℕ) (xs : List ℕ) → index_of b xs ≡ position_or_len (λ x. eqb x b) xs
unfolding index_of index_after
index_position b = is_position_or_len (index_of b) (λ x. eqb x b) refl (λ x xs. go (eqb x b) (index_of b xs))
  where
    go : (t : Bool) (n : ℕ) → index_after t n ≡ cond t 0 (1 + n)
    go true n = refl
    go false n = omega arith

-- where `position` finds the byte
pub index_Some : (b : ℕ) (xs : List ℕ) (k : ℕ) → position (λ x. eqb x b) xs ≡ Some k → index_of b xs ≡ k
index_Some b xs k e = let f = index_position b xs in grind (arith, nat_tests)

-- where it finds none
pub index_None : (b : ℕ) (xs : List ℕ) → position (λ x. eqb x b) xs ≡ None → index_of b xs ≡ length xs
index_None b xs e = let f = index_position b xs in let g = index_le b xs in grind (arith, nat_tests)

-- the index of a byte in a part, by the part's first
pub index_first : (b : ℕ) (s : List ℕ) (i to : ℕ) → i < to → to ≤ length s → index_of b (slice i to s) ≡ index_after (eqb (get_or s i 0) b) (index_of b (slice (i + 1) to s))
unfolding index_of
index_first b s i to h k = rw (add-one, slice-cons i to s 0) refl

-- in a part that begins with the byte
pub index_hit : (b : ℕ) (s : List ℕ) (i to : ℕ) → i < to → to ≤ length s → get_or s i 0 ≡ b → index_of b (slice i to s) ≡ 0
unfolding index_after
index_hit b s i to h k e = index_first b s i to h k ∙ rw (eq-eqb (get_or s i 0) b e) refl

-- in a part that begins with another byte
pub index_miss : (b : ℕ) (s : List ℕ) (i to : ℕ) → i < to → to ≤ length s → (get_or s i 0 ≡ b → ⊥) → index_of b (slice i to s) ≡ suc (index_of b (slice (i + 1) to s))
unfolding index_after
index_miss b s i to h k e = index_first b s i to h k ∙ rw (ne_eqb (get_or s i 0) b e) refl

-- in an empty part
pub index_none : (b : ℕ) (s : List ℕ) (i to : ℕ) → i ≡ to → index_of b (slice i to s) ≡ 0
unfolding index_of
index_none b s i to e = rw (e, slice_empty to s) refl
