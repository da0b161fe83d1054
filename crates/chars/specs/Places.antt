-- Equality of byte lists, and the places of members in a list. Assumes nothing.
use Rattle.std.specs.Prelude.{ℕ, suc, Bool, true, false, ◌&&◌, ◌||◌, List, [], ◌∷◌, length, eqb, ltb}

-- The same bytes.
unfoldable pub same : List ℕ → List ℕ → Bool
same [] [] = true
same [] (y ∷ ys) = false
same (x ∷ xs) [] = false
same (x ∷ xs) (y ∷ ys) = eqb x y && same xs ys

-- The place of what is sought: here, or one further than its place among the rest.
abbrev pub place_after : Bool → ℕ → ℕ
place_after true k = 0
place_after false k = suc k

-- The place of the first f in fs, counted from 0; the length of fs where it is not there.
unfoldable pub place : List ℕ → List (List ℕ) → ℕ
unfolding same
place f [] = 0
place f (g ∷ gs) = place_after (same f g) (place f gs)

-- f is one of fs.
abbrev pub among : List ℕ → List (List ℕ) → Bool
among f fs = ltb (place f fs) (length fs)

-- Some of the first list is among the second.
abbrev pub meets : List (List ℕ) → List (List ℕ) → Bool
meets [] ys = false
meets (x ∷ xs) ys = among x ys || meets xs ys

-- The place of the first byte b in bs, counted from 0; the length of bs where it is not there.
unfoldable pub byte_at : ℕ → List ℕ → ℕ
byte_at b [] = 0
byte_at b (x ∷ xs) = place_after (eqb x b) (byte_at b xs)
