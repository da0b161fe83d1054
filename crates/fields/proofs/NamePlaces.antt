-- The places of names among those that the code holds. Assumes nothing.
use Rattle.std.proofs.Common.{◌≡◌, refl, ◌∙◌, Bool, true, false, cond, List, [], ◌∷◌, ◌++◌, take, map, ℕ, suc, ◌+◌, ◌≤◌, ◌<◌, length, Some, None, Bor, arith}
use Rattle.std.proofs.lemmas.List.{length-map}
use lib.Seq.{length-take-le}
use Rattle.std.specs.List.{position, position_or_len}
use Rattle.std.proofs.lemmas.List.Recursion.{is_position_or_len}
use Rattle.std.proofs.lemmas.Bool.Decides.{nat_tests}
use Rattle.chars.specs.Places.{same, place, place_after}
use Rattle.fields.specs.declared.book.Row.{Row}
use Rattle.fields.specs.Held.{row_of}

pub place_hit : (f g : List ℕ) (gs : List (List ℕ)) → same f g ≡ true → place f (g ∷ gs) ≡ 0
unfolding place
place_hit f g gs e = rw e

pub place_miss : (f g : List ℕ) (gs : List (List ℕ)) → same f g ≡ false → place f (g ∷ gs) ≡ suc (place f gs)
unfolding place
place_miss f g gs e = rw e

pub place_le : (f : List ℕ) (gs : List (List ℕ)) → place f gs ≤ length gs
unfolding place
place_le f [] = omega arith
place_le f (g ∷ gs) = go (same f g) (place_le f gs)
  where
    go : (t : Bool) → place f gs ≤ length gs → place_after t (place f gs) ≤ suc (length gs)
    go true h = omega arith
    go false h = omega arith

-- the place counts as `position` does
place_position : (f : List ℕ) (row : List (Bor (List ℕ))) → place f (map (λ x. x.now) row) ≡ position_or_len (λ x. same f x.now) row
unfolding place
place_position f = is_position_or_len (λ row. place f (map (λ x. x.now) row)) (λ x. same f x.now) refl (λ x xs. go (same f x.now) (place f (map (λ x. x.now) xs)))
  where
    go : (t : Bool) (n : ℕ) → place_after t n ≡ cond t 0 (1 + n)
    go true n = refl
    go false n = omega arith

-- where a row has the name, and where it has not
module _ (f : List ℕ) (row : List (Bor (List ℕ))) where
  pub place_Some : (k : ℕ) → position (λ x. same f x.now) row ≡ Some k → (place f (map (λ x. x.now) row) ≡ k) × (k < length (map (λ x. x.now) row))
  place_Some k e = let p = place_position f row in let l = length-map row (λ x. x.now) in grind (arith, nat_tests)

  pub place_None : position (λ x. same f x.now) row ≡ None → length (map (λ x. x.now) row) ≤ place f (map (λ x. x.now) row)
  place_None e = let p = place_position f row in let l = length-map row (λ x. x.now) in grind (arith, nat_tests)

-- the names of a row
pub row_length : (r : Row) → length (row_of r) ≡ r.len
row_length r = length-map (take r.len r.names) (λ x. x.now) ∙ length-take-le r.len r.names (let h : length r.names ≡ 64 = r.size in let f : r.len ≤ 64 = r.few in omega arith)

-- whether a name is among two lists
module _ (f : List ℕ) where
  pub in_first : (xs ys : List (List ℕ)) → place f xs < length xs → place f (xs ++ ys) < length (xs ++ ys)
  unfolding place
  in_first [] ys h = absurd (omega arith)
  in_first (x ∷ xs) ys h = go (same f x) h (in_first xs ys)
    where
      go : (t : Bool) → place_after t (place f xs) < suc (length xs) → (place f xs < length xs → place f (xs ++ ys) < length (xs ++ ys))
          → place_after t (place f (xs ++ ys)) < suc (length (xs ++ ys))
      go true h ih = omega arith
      go false h ih = let i = ih (omega arith) in omega arith

  pub in_second : (xs ys : List (List ℕ)) → place f ys < length ys → place f (xs ++ ys) < length (xs ++ ys)
  unfolding place
  in_second [] ys h = h
  in_second (x ∷ xs) ys h = go (same f x) (in_second xs ys h)
    where
      go : (t : Bool) → place f (xs ++ ys) < length (xs ++ ys) → place_after t (place f (xs ++ ys)) < suc (length (xs ++ ys))
      go true i = omega arith
      go false i = omega arith

  pub in_neither : (xs ys : List (List ℕ)) → length xs ≤ place f xs → length ys ≤ place f ys → length (xs ++ ys) ≤ place f (xs ++ ys)
  unfolding place
  in_neither [] ys h k = k
  in_neither (x ∷ xs) ys h k = go (same f x) h (λ i. in_neither xs ys i k)
    where
      go : (t : Bool) → suc (length xs) ≤ place_after t (place f xs) → (length xs ≤ place f xs → length (xs ++ ys) ≤ place f (xs ++ ys))
          → suc (length (xs ++ ys)) ≤ place_after t (place f (xs ++ ys))
      go true h ih = absurd (omega arith)
      go false h ih = let i = ih (omega arith) in omega arith
