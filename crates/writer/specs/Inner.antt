-- Inner contracts: what each line of a sheet gives to the text, and pieces put into a list one after the other. Assumes nothing.
use Rattle.std.specs.Prelude.{◌≡◌, ℕ, suc, ◌+◌, cond, List, [], ◌∷◌, ◌++◌, length, get_or, drop}
use Rattle.steps.specs.State.{State, holds}
use Rattle.chars.specs.Bytes.{text, LF, HASH, begins}
use Rattle.chars.specs.Pieces.{fields, bare}
use Rattle.chars.specs.Places.{same}

-- The list d from its front up to p is t, and past it what d₀ was.
pub record Filled (d₀ t d : List ℕ) (p : ℕ) : Type 0 where
  pub here : p ≡ length t
  pub is : d ≡ t ++ drop p d₀

-- The piece is put from p up to q: where d was filled with t up to p, d' is filled with t and the piece up to q.
abbrev pub Puts : List ℕ → ℕ → List ℕ → List ℕ → ℕ → Type 0
Puts d p piece d' q = (q ≡ p + length piece) × ((d₀ t : List ℕ) → Filled d₀ t d p → Filled d₀ (t ++ piece) d' q)

-- What a line gives where `start` is left as it is: nothing for a comment, else the line with LF alone at its end.
unfoldable pub plain_piece : List ℕ → List ℕ
unfolding bare
plain_piece l = cond (begins HASH l) [] (bare l ++ (LF ∷ []))

-- What these lines give so, one after the other.
unfoldable pub plain_bytes : List (List ℕ) → List ℕ
unfolding plain_piece
plain_bytes [] = []
plain_bytes (l ∷ ls) = plain_piece l ++ plain_bytes ls

-- The tab and the name of the line, where it is the `fluent` line of k and k holds.
unfoldable pub held_piece : ℕ → State → List ℕ → List ℕ
unfolding fields bare same
held_piece k st l = cond (same (get_or (fields (bare l)) 0 []) (text "fluent")) (cond (holds st k) (drop 6 (bare l)) []) []

-- The number of the next fluent, where the next is k before the line.
unfoldable pub held_next : ℕ → List ℕ → ℕ
unfolding fields bare same
held_next k l = cond (same (get_or (fields (bare l)) 0 []) (text "fluent")) (suc k) k

-- The tabs and names of the fluents that hold, from these lines, whose first `fluent` line is that of k.
unfoldable pub held_bytes : ℕ → State → List (List ℕ) → List ℕ
unfolding held_piece held_next
held_bytes k st [] = []
held_bytes k st (l ∷ ls) = held_piece k st l ++ held_bytes (held_next k l) st ls

-- The `start` line that is written, by all lines of the sheet.
unfoldable pub start_bytes : State → List (List ℕ) → List ℕ
unfolding held_bytes
start_bytes st all = (text "start" ++ held_bytes 0 st all) ++ (LF ∷ [])

-- What a line gives to the text: nothing for a comment, the names in fluent order for `start`, else the line with LF alone at its end.
unfoldable pub line_piece : State → List (List ℕ) → List ℕ → List ℕ
unfolding fields bare same start_bytes
line_piece st all l =
    cond (begins HASH l) []
    (cond (same (get_or (fields (bare l)) 0 []) (text "start")) (start_bytes st all)
    (bare l ++ (LF ∷ [])))

-- What these lines give to the text, one after the other.
unfoldable pub line_bytes : State → List (List ℕ) → List (List ℕ) → List ℕ
unfolding line_piece
line_bytes st all [] = []
line_bytes st all (l ∷ ls) = line_piece st all l ++ line_bytes st all ls
