-- Parts of a sheet as spans, and that of the name on a `fluent` line. Assumes nothing.
use Rattle.std.specs.Prelude.{ℕ, ◌+◌, ◌-◌, true, false, List, [], ◌∷◌, length, get_or, take, drop, eqb}
use Rattle.chars.specs.Bytes.{text}
use Rattle.chars.specs.Pieces.{fields, bare}
use Rattle.chars.specs.Places.{same}
use Rattle.chars.specs.Inner.{fields_from}
use Rattle.naming.specs.declared.Span.{Span}

-- The part of a sheet that a span names.
abbrev pub part_of : List ℕ → Span → List ℕ
part_of s p = take p.len (drop p.at s)

-- The address of that part, a block of memory and an offset in it, where the sheet has this one: the same block, `at` bytes further.
abbrev pub address_of : ℕ × ℕ → Span → ℕ × ℕ
address_of sheet p = (sheet.0, p.at + sheet.1)

-- The empty part, at the sheet's first byte.
abbrev pub nowhere : Span
nowhere = record { at = 0; len = 0 }

-- The name on `fluent` line k of these lines, counted from 0; the first of the lines begins at `at`.
-- The name is the field after the word and its tab.
unfoldable pub name_in : ℕ → ℕ → List (List ℕ) → Span
unfolding fields same bare
name_in at k [] = nowhere
name_in at k (l ∷ ls) =
    elim (same (get_or (fields (bare l)) 0 []) (text "fluent")) [
      | false ↦ name_in (at + length l + 1) k ls
      | true ↦ elim (eqb k 0) [
        | false ↦ name_in (at + length l + 1) (k - 1) ls
        | true ↦ record { at = at + 7; len = length (get_or (fields (bare l)) 1 []) }
      ]
    ]

-- The field after the word that ends at q, in the line of s that ends at e.
abbrev pub field_span : List ℕ → ℕ → ℕ → Span
field_span s q e = record { at = q + 1; len = length (get_or (fields_from (q + 1) e s) 0 []) }
