-- Where a fluent's name stands in the sheet. Assumes nothing.
use Rattle.std.specs.Prelude.{ℕ, true, false, List, length, ltb}
use Rattle.chars.specs.Pieces.{lines}
use Rattle.lines.specs.Reader.{read_sheet, refused, written}
use Rattle.naming.specs.declared.Span.{Span}
use Rattle.naming.specs.Spans.{nowhere, name_in}

-- For a number below the count in an accepted sheet, the very part of the sheet that defines the fluent.
-- For any other sheet or a number too high that part is empty.
unfoldable pub name_span : List ℕ → ℕ → Span
unfolding read_sheet name_in lines
name_span s k = elim (read_sheet s) [
  | refused number line ↦ nowhere
  | written b ↦ elim (ltb k (length b.names.fluents)) [ false ↦ nowhere | true ↦ name_in 0 k (lines s) ]
]
