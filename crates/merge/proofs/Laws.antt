-- The laws of the merge: its text reads to the two books together, ends of the first are kept, and a sheet with itself is itself. Assumes nothing.
use Prim.Native.Nat.{ℕ}
use mathlib.Core.Path.{◌≡◌, subst⁻¹}
use mathlib.Core.List.{List, map, Memᴰ}
use lib.ListN.{length}
use Rattle.steps.specs.State.{State}
use Rattle.steps.specs.Words.{run_of}
use Rattle.steps.specs.Run.{End}
use Rattle.fields.specs.Book as sheet
use Rattle.fields.specs.Book.{joined}
use Rattle.lines.specs.Reader.{read_sheet, written}
use Rattle.writer.specs.Text.{text_of, holding}
use Rattle.writer.proofs.ProperSheets.{sheet_proper}
use Rattle.writer.proofs.Forward.{reads_proper}
use Rattle.merge.specs.Joined.{both_names, rule_in, book_over, both_books}
use Rattle.merge.specs.Merge.{joins, merge_of}
use Rattle.merge.proofs.Together.{together_more}
use Rattle.merge.proofs.Joins.{joins_told, within, names_fit}
use Rattle.merge.proofs.ProperBoth.{fluents_first, both_proper}
use Rattle.merge.proofs.MoreRules.{deduction_more, rules_kept}
use Rattle.merge.proofs.StartsTogether.{start_kept}
use Rattle.merge.proofs.WithItself.{with_itself}

-- An end of what a book says.
abbrev pub EndOf : sheet.Book → State → Type 0
EndOf b D = End (run_of (joined b.rules) b.goal b.start) D

-- The merged text reads to the two books together.
abbrev pub ReadsBack : Type 0
ReadsBack = (s t : List ℕ) (a b : sheet.Book) → merge_of s t ≡ joins a b → read_sheet (text_of (both_books a b)) ≡ written (both_books a b)

-- "If the second start names nothing beyond the first's, every end of the first sheet is an end of the merged one."
abbrev pub EndsKept : Type 0
EndsKept = (s t : List ℕ) (a b : sheet.Book) → merge_of s t ≡ joins a b
    → ((n : List ℕ) → Memᴰ n (holding 0 b.start b.names.fluents) → Memᴰ n (holding 0 a.start a.names.fluents))
    → (D : State) → EndOf a D → EndOf (both_books a b) D

-- A sheet merged with itself is the book that it says.
abbrev pub Itself : Type 0
Itself = (s : List ℕ) (a : sheet.Book) → read_sheet s ≡ written a → both_books a a ≡ a

pub itself : Itself
itself s a e = with_itself a (sheet_proper s a e)

pub reads_back : ReadsBack
reads_back s t a b e =
    let j = joins_told s t a b e in
    reads_proper (both_books a b) (both_proper a b (sheet_proper s a j.first) (sheet_proper t b j.second) (names_fit a b j.fits) (within (both_books a b) j.fits.room).few_rules) j.fits.short

pub ends_kept : EndsKept
unfolding book_over
ends_kept s t a b e h D d =
    let j = joins_told s t a b e in
    let p = sheet_proper s a j.first in
    let st : (both_books a b).start ≡ a.start = start_kept a.names.fluents b.names.fluents a.start b.start (fluents_first a.names p.named) h in
    let (more, f) = together_more a.rules (map (rule_in (both_names a.names b.names) b.names) b.rules) in
    let x = deduction_more (rules_kept (length a.names.fluents) (length a.names.actions) a.rules more p.valid.rules) d in
    subst⁻¹ (λ (z : State). End (run_of (joined (both_books a b).rules) a.goal z) D) st (subst⁻¹ (λ (rs : List (List ℕ)). End (run_of (joined rs) a.goal a.start) D) f x)
