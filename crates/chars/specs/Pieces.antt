-- The lines of a text and the fields of a line. Assumes nothing.
use Rattle.std.specs.Prelude.{ℕ, Bool, true, false, cond, List, [], ◌∷◌, eqb}
use Rattle.chars.specs.Bytes.{TAB, LF, CR}

-- The byte x in front of the first piece.
abbrev pub grow : ℕ → List (List ℕ) → List (List ℕ)
grow x [] = (x ∷ []) ∷ []
grow x (p ∷ ps) = (x ∷ p) ∷ ps

-- A separator ends a piece, any other byte belongs to the piece behind it.
abbrev pub piece_then : Bool → ℕ → List (List ℕ) → List (List ℕ)
piece_then true x ps = [] ∷ ps
piece_then false x ps = grow x ps

-- The pieces of a list before, between and after the separators b; `last` is what an empty piece after the last of them counts for.
unfoldable pub pieces : List (List ℕ) → ℕ → List ℕ → List (List ℕ)
pieces last b [] = last
pieces last b (x ∷ xs) = piece_then (eqb x b) x (pieces last b xs)

-- Lines of text, each line ended by LF: nothing after the last LF is no line.
unfoldable pub lines : List ℕ → List (List ℕ)
unfolding pieces
lines s = pieces [] LF s

-- The line without the CR at its end.
unfoldable pub bare : List ℕ → List ℕ
bare [] = []
bare (x ∷ []) = cond (eqb x CR) [] (x ∷ [])
bare (x ∷ y ∷ ys) = x ∷ bare (y ∷ ys)

-- Fields parted by tabs: one more than there are tabs, so nothing after the last tab is an empty field.
unfoldable pub fields : List ℕ → List (List ℕ)
unfolding pieces
fields l = pieces ([] ∷ []) TAB l
