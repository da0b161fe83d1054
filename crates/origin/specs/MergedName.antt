-- Where a merged fluent's name stands: a part of whichever sheet brought it first. Assumes nothing.
use Rattle.std.specs.Prelude.{ℕ, cond, List, [], length, get_or, ltb, eqb}
use Rattle.chars.specs.Places.{place}
use Rattle.fields.specs.Book.{Book}
use Rattle.naming.specs.Spans.{part_of, address_of, nowhere}
use Rattle.naming.specs.declared.Span.{Span}
use Rattle.sheet.specs.FluentName.{name_span}
use Rattle.merge.specs.Joined.{both_books}
use Rattle.merge.specs.Merge.{faulty, joins, merge_of}
use Rattle.origin.specs.declared.Part.{Part}

-- A span of sheet `which`.
abbrev pub part_in : ℕ → Span → Part
part_in which p = record { sheet = which; at = p.at; len = p.len }

-- The empty part.
abbrev pub none_part : Part
none_part = part_in 0 nowhere

-- Fluent k of the merged sheet: the first's own number k, else its number in the second.
abbrev pub brought_by : List ℕ → List ℕ → ℕ → Book → Book → Part
brought_by s t k a b =
    cond (ltb k (length a.names.fluents)) (part_in 1 (name_span s k))
    (part_in 2 (name_span t (place (get_or (both_books a b).names.fluents k []) b.names.fluents)))

-- "An empty part if the merge is refused other than with 50 or the number too high."
unfoldable pub merged_span : List ℕ → List ℕ → ℕ → Part
unfolding merge_of
merged_span s t k = elim (merge_of s t) [
  | faulty number sheet line ↦ none_part
  | joins a b ↦ cond (ltb k (length (both_books a b).names.fluents)) (brought_by s t k a b) none_part
]

-- The bytes of a part of two sheets, and its address; the empty part is the first's, at its first byte.
abbrev pub part_of_two : List ℕ → List ℕ → Part → List ℕ
part_of_two s t p = part_of (cond (eqb p.sheet 2) t s) (record { at = p.at; len = p.len })

abbrev pub address_of_two : ℕ × ℕ → ℕ × ℕ → Part → ℕ × ℕ
address_of_two s t p = address_of (cond (eqb p.sheet 2) t s) (record { at = p.at; len = p.len })
