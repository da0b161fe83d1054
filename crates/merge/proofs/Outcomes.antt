-- What the merge gives and leaves, by its outcome. Assumes nothing.
use Prim.Native.Nat.{ℕ, ◌≤◌, ◌<◌}
use mathlib.Core.Path.{◌≡◌, refl, ap, ◌∙◌}
use mathlib.Core.List.{List}
use lib.ListN.{length}
use borrow.Author.Tests.{lt-ltb, le-ltb}
use Rattle.refusals.specs.Text.{text_refusals}
use Rattle.fields.specs.Book.{Book}
use Rattle.writer.specs.Text.{text_of}
use Rattle.writer.specs.Writer.{over}
use Rattle.merge.specs.Joined.{both_books}
use Rattle.merge.specs.Merge.{Judgement, faulty, joins, said, merged_in, out_after}

module _ (out : List ℕ) (o : Judgement) where
  module _ (k n i : ℕ) (e : o ≡ faulty k n i) where
    pub faulty_result : merged_in (length out) o ≡ said k n i 0
    unfolding merged_in
    faulty_result = ap (merged_in (length out)) e

    pub faulty_out : out_after out o ≡ out
    unfolding out_after
    faulty_out = ap (out_after out) e

  module _ (a b : Book) (e : o ≡ joins a b) where
    module _ (l : length out < length (text_of (both_books a b))) where
      pub short_result : merged_in (length out) o ≡ said text_refusals.text_short 0 0 0
      unfolding merged_in
      short_result = ap (merged_in (length out)) e ∙ rw (lt-ltb (length out) (length (text_of (both_books a b))) l) refl

      pub short_out : out_after out o ≡ out
      unfolding out_after
      short_out = ap (out_after out) e ∙ rw (lt-ltb (length out) (length (text_of (both_books a b))) l) refl

    module _ (l : length (text_of (both_books a b)) ≤ length out) where
      pub merged_result : merged_in (length out) o ≡ said 0 0 0 (length (text_of (both_books a b)))
      unfolding merged_in
      merged_result = ap (merged_in (length out)) e ∙ rw (le-ltb (length out) (length (text_of (both_books a b))) l) refl

      pub merged_out : out_after out o ≡ over (text_of (both_books a b)) out
      unfolding out_after
      merged_out = ap (out_after out) e ∙ rw (le-ltb (length out) (length (text_of (both_books a b))) l) refl
