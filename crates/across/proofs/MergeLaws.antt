-- If the second start names nothing beyond the first's, every end of the first sheet is an end of the merged one, both runs being unrefused.
-- Assumes nothing.
use Prim.Native.Nat.{ℕ}
use mathlib.Core.Path.{◌≡◌}
use mathlib.Core.List.{List, Memᴰ}
use lib.ListN.{length}
use Rattle.steps.specs.State.{State}
use Rattle.fields.specs.Book as sheet
use Rattle.writer.specs.Text.{holding}
use Rattle.evaluator.specs.Evaluated.{Evaluated, Asked, Lent, Told, asked}
use Rattle.evaluator.proofs.Determined.{unrefused_tabled}
use Rattle.merge.specs.Joined.{both_books}
use Rattle.merge.specs.Merge.{joins, merge_of}
use Rattle.merge.proofs.Laws.{ends_kept}

-- What a book asks of the evaluator: what `read` gives and writes for the sheet of the book. For the book of two sheets this is their merged text,
-- which reads to it (`merged_reads` of crate `merge`).
abbrev pub asked_of : sheet.Book → Asked
asked_of b = asked (length b.names.fluents) (length b.names.actions) (sheet.joined b.rules) b.goal b.start

-- "The second start names nothing beyond the first's."
abbrev pub NothingBeyond : sheet.Book → sheet.Book → Type 0
NothingBeyond a b = (n : List ℕ) → Memᴰ n (holding 0 b.start b.names.fluents) → Memᴰ n (holding 0 a.start a.names.fluents)

module _ (s t : List ℕ) (a b : sheet.Book) (e : merge_of s t ≡ joins a b) (h : NothingBeyond a b) where
  -- Every end that the run of the first sheet lists, the run of the merged one lists.
  pub merged_keeps_ends : {before after before' after' : Lent} {r r' : Told} (E : Evaluated (asked_of a) before after r) (z : r.refusal ≡ 0)
      (E' : Evaluated (asked_of (both_books a b)) before' after' r') (z' : r'.refusal ≡ 0) → (D : State) → Memᴰ D (unrefused_tabled E z).ends → Memᴰ D (unrefused_tabled E' z').ends
  merged_keeps_ends E z E' z' D m = ((unrefused_tabled E' z').exactly.members D).1 (ends_kept s t a b e h D (((unrefused_tabled E z).exactly.members D).0 m))
