-- The span of a fluent's name, by what the sheet reads to. Assumes nothing.
use mathlib.Core.Path.{◌≡◌}
use mathlib.Core.List.{List}
use Prim.Native.Nat.{ℕ, ◌≤◌, ◌<◌}
use lib.ListN.{length}
use borrow.Author.Tests.{le-ltb, lt-ltb}
use Rattle.chars.specs.Pieces.{lines}
use Rattle.fields.specs.Book.{Book}
use Rattle.lines.specs.Reader.{read_sheet, refused, written}
use Rattle.naming.specs.Spans.{nowhere, name_in}
use Rattle.sheet.specs.FluentName.{name_span}

module _ (s : List ℕ) (k : ℕ) where
  pub span_refused : (n l : ℕ) → read_sheet s ≡ refused n l → name_span s k ≡ nowhere
  unfolding name_span
  span_refused n l e = rw (e, name_span)

  module _ (b : Book) (e : read_sheet s ≡ written b) where
    pub span_high : length b.names.fluents ≤ k → name_span s k ≡ nowhere
    unfolding name_span
    span_high h = rw (e, le-ltb k (length b.names.fluents) h, name_span)

    pub span_fluent : k < length b.names.fluents → name_span s k ≡ name_in 0 k (lines s)
    unfolding name_span
    span_fluent h = rw (e, lt-ltb k (length b.names.fluents) h, name_span)
