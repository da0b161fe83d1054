-- What the writer gives, by what the reader found. Assumes nothing.
use Prim.Native.Nat.{ℕ, ◌*◌, ◌≤◌, ◌<◌}
use native.Mathlib.Omega.{arith}
use mathlib.Core.Path.{◌≡◌, refl, ap, sym, ◌∙◌}
use mathlib.Core.List.{List}
use lib.ListN.{length}
use borrow.Author.Tests.{lt-ltb, le-ltb}
use Rattle.refusals.specs.Text.{text_refusals}
use Rattle.steps.specs.Widths.{rule_width}
use Rattle.fields.specs.Book.{Book}
use Rattle.lines.specs.Reader.{Outcome, read_sheet, refused, written}
use Rattle.sheet.specs.declared.Sheet.{Sheet}
use Rattle.sheet.specs.Result.{result_of, accepted}
use Rattle.sheet.proofs.ValidSheets.{sheet_valid}
use Rattle.sheet.proofs.RefusalNumbers.{unrefused}
use Rattle.writer.specs.Text.{text_of}
use Rattle.writer.specs.Writer.{said, over, written_in, out_after}

-- with 4,608 rule words lent a result is never 19
module _ (s : List ℕ) where
  result_is : (b : Book) → read_sheet s ≡ written b → result_of 4608 (read_sheet s) ≡ accepted b
  unfolding result_of
  result_is b e =
      let f = (sheet_valid s b e).few_rules in
      ap (result_of 4608) e ∙ rw (le-ltb 4608 (rule_width * length b.rules) (omega arith)) refl

  -- a result with a refusal is that of a refused sheet
  pub told_refused : (r : Sheet) → r ≡ result_of 4608 (read_sheet s) → (r.refusal ≡ 0 → ⊥) → read_sheet s ≡ refused r.refusal r.line
  unfolding result_of
  told_refused r g n = by (read_sheet s) refl
    where
      by : (o : Outcome) → read_sheet s ≡ o → read_sheet s ≡ refused r.refusal r.line
      by (refused k i) e =
          let h = g ∙ ap (result_of 4608) e in
          e ∙ ap (λ (x : ℕ). refused x i) (sym (ap (λ (x : Sheet). x.refusal) h)) ∙ ap (λ (x : ℕ). refused r.refusal x) (sym (ap (λ (x : Sheet). x.line) h))
      by (written b) e = absurd (n (ap (λ (x : Sheet). x.refusal) (g ∙ result_is b e)))

  -- and one without a refusal that of an accepted sheet
  pub told_written : (r : Sheet) → r ≡ result_of 4608 (read_sheet s) → r.refusal ≡ 0 → (b : Book) × (read_sheet s ≡ written b) × (r.start ≡ b.start)
  told_written r g z =
      let (b, e, l) = unrefused s 4608 (sym (ap (λ (x : Sheet). x.refusal) g) ∙ z) in
      (b, e, ap (λ (x : Sheet). x.start) (g ∙ result_is b e))

module _ (out : List ℕ) (o : Outcome) where
  module _ (k i : ℕ) (e : o ≡ refused k i) where
    pub refused_result : written_in (length out) o ≡ said k i 0
    unfolding written_in
    refused_result = ap (written_in (length out)) e

    pub refused_out : out_after out o ≡ out
    unfolding out_after
    refused_out = ap (out_after out) e

  module _ (b : Book) (e : o ≡ written b) where
    module _ (l : length out < length (text_of b)) where
      pub short_result : written_in (length out) o ≡ said text_refusals.text_short 0 0
      unfolding written_in
      short_result = ap (written_in (length out)) e ∙ rw (lt-ltb (length out) (length (text_of b)) l) refl

      pub short_out : out_after out o ≡ out
      unfolding out_after
      short_out = ap (out_after out) e ∙ rw (lt-ltb (length out) (length (text_of b)) l) refl

    module _ (l : length (text_of b) ≤ length out) where
      pub written_result : written_in (length out) o ≡ said 0 0 (length (text_of b))
      unfolding written_in
      written_result = ap (written_in (length out)) e ∙ rw (le-ltb (length out) (length (text_of b)) l) refl

      pub written_out : out_after out o ≡ over (text_of b) out
      unfolding out_after
      written_out = ap (out_after out) e ∙ rw (le-ltb (length out) (length (text_of b)) l) refl
