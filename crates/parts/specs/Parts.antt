-- Parts of two sheets, kept in a list as where each begins and ends in the one behind the other. Assumes nothing.
use Rattle.std.specs.Prelude.{◌≡◌, ℕ, zero, suc, ◌+◌, ◌*◌, ◌≤◌, ◌<◌, cond, List, [], ◌∷◌, ◌++◌, length, get_or, drop, Option, None, Some}
use Rattle.std.proofs.Math.Seq.{slice}
use Rattle.steps.specs.State.{State, holds}
use Rattle.steps.specs.Inner.{inserted}
use Rattle.chars.specs.Pieces.{fields, bare}
use Rattle.chars.specs.Places.{same, place, among}

-- The part from a up to e of two sheets, the first of them with `cut` bytes, both with `all`, lies in one of them.
pub record Lies (cut all a e : ℕ) : Type 0 where
  pub ordered : a ≤ e
  pub within : e ≤ all
  pub whole : cut < e → cut ≤ a

-- Part i of the list.
abbrev pub part_at : List ℕ → List ℕ → ℕ → List ℕ
part_at u list i = slice (get_or list (2 * i) 0) (get_or list (2 * i + 1) 0) u

-- The list has a part i, which lies in one of the two sheets.
pub record At (cut : ℕ) (u list : List ℕ) (i : ℕ) : Type 0 where
  pub room : 2 * i + 1 < length list
  pub lies : Lies cut (length u) (get_or list (2 * i) 0) (get_or list (2 * i + 1) 0)

-- The same of its first n parts.
abbrev pub Inside : ℕ → List ℕ → List ℕ → ℕ → Type 0
Inside cut u list n = (i : ℕ) → i < n → At cut u list i

-- Where y stands among xs, the first of which has the number lo, if it does.
abbrev pub Found : (y : List ℕ) (xs : List (List ℕ)) (lo : ℕ) → Option ℕ → Type 0
Found y xs lo None = place y xs ≡ length xs
Found y xs lo (Some k) = (k ≡ lo + place y xs) × (place y xs < length xs)

-- The n parts from number k on.
unfoldable pub parts_from : List ℕ → List ℕ → ℕ → ℕ → List (List ℕ)
parts_from u list k zero = []
parts_from u list k (suc n) = part_at u list k ∷ parts_from u list (suc k) n

-- From a list with n parts to one with r, these behind them.
pub record Grows (cut : ℕ) (u list : List ℕ) (n : ℕ) (list' : List ℕ) (r : ℕ) (more : List (List ℕ)) : Type 0 where
  pub longer : r ≡ n + length more
  pub kept : (k m : ℕ) → k + m ≤ n → parts_from u list' k m ≡ parts_from u list k m
  pub new : parts_from u list' n (length more) ≡ more
  pub inside : Inside cut u list n → Inside cut u list' r

-- What stands behind the word w in the line, where the line has this word.
unfoldable pub behind_word : List ℕ → List ℕ → List (List ℕ)
unfolding fields bare same
behind_word w l = cond (same (get_or (fields (bare l)) 0 []) w) (drop (length w) (bare l) ∷ []) []

-- The same of these lines, one after the other.
unfoldable pub section : List ℕ → List (List ℕ) → List (List ℕ)
unfolding behind_word
section w [] = []
section w (l ∷ ls) = behind_word w l ++ section w ls

-- y, where it is not one of xs.
unfoldable pub fresh : List (List ℕ) → List ℕ → List (List ℕ)
unfolding place
fresh xs y = cond (among y xs) [] (y ∷ [])

-- Those of ys that are not one of xs, nor equal to one before them.
unfoldable pub news : List (List ℕ) → List (List ℕ) → List (List ℕ)
unfolding fresh
news xs [] = []
news xs (y ∷ ys) = fresh xs y ++ news (xs ++ fresh xs y) ys

-- The state `to` of the names `all`, and in it those of these names, the first of them number k, that hold in s; the code's form.
unfoldable pub inserted_in : List (List ℕ) → ℕ → State → List (List ℕ) → State → State
unfolding place
inserted_in all k s [] to = to
inserted_in all k s (n ∷ ns) to = inserted_in all (suc k) s ns (cond (holds s k) (inserted to (place n all)) to)

-- The parts one after the other, each between w and z.
unfoldable pub wrapped : List ℕ → List ℕ → List (List ℕ) → List ℕ
wrapped w z [] = []
wrapped w z (p ∷ ps) = ((w ++ p) ++ z) ++ wrapped w z ps
