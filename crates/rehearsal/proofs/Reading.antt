-- What the reader hands to the evaluator: with 4,608 rule words lent, its refusals are those of the sheet, and the words of an accepted one are its book's. Assumes nothing.
use mathlib.Core.Path.{◌≡◌, refl, sym, ap, ◌∙◌}
use mathlib.Core.List.{List, ◌++◌}
use Prim.Native.Nat.{ℕ, ◌-◌, ◌*◌, ◌≤◌}
use native.Mathlib.Omega.{arith}
use lib.ListN.{length, take, drop, replicate, length-append}
use lib.Seq.{take_at, take-append_seam}
use borrow.Author.Tests.{le-ltb}
use Rattle.sheet.specs.declared.Sheet.{Sheet}
use Rattle.fields.specs.Book.{Book, joined, padded}
use Rattle.lines.specs.Reader.{Outcome, read_sheet, refused, written}
use Rattle.sheet.specs.Result.{result_of, rules_after, accepted}
use Rattle.sheet.specs.Result as result
use Rattle.sheet.proofs.Valid.{Valid}
use Rattle.sheet.proofs.ValidSheets.{sheet_valid}
use Rattle.sheet.proofs.Acceptance.{words_count}
use Rattle.sheet.proofs.RefusalNumbers.{unrefused}
use Rattle.evaluator.specs.Evaluated.{asked}
use Rattle.steps.specs.Widths.{rule_width}
use Rattle.rehearsal.specs.Rehearsed.{asked_by}

-- an accepted sheet: the result is its book's, and the list lent begins with its rule words
pub record Read (s after : List ℕ) (r : Sheet) : Type 0 where
  pub book : Book
  pub is : read_sheet s ≡ written book
  pub valid : Valid book
  pub gives : r ≡ accepted book
  pub words : take (rule_width * length book.rules) after ≡ joined book.rules
  pub long : rule_width * length book.rules ≤ length after

module _ (s lent : List ℕ) (long : length lent ≡ 4608) where
  module _ (b : Book) (e : read_sheet s ≡ written b) where
    valid_book : Valid b
    valid_book = sheet_valid s b e

    room : rule_width * length b.rules ≤ length lent
    room = let f = valid_book.few_rules in omega arith

    result_is : result_of (length lent) (read_sheet s) ≡ accepted b
    unfolding result_of
    result_is = ap (result_of (length lent)) e ∙ rw (le-ltb (length lent) (rule_width * length b.rules) room)

    rules_are : rules_after lent (read_sheet s) ≡ joined b.rules ++ drop (rule_width * length b.rules) lent
    unfolding rules_after
    rules_are = ap (rules_after lent) e ∙ rw (le-ltb (length lent) (rule_width * length b.rules) room)

    rules_long : (after : List ℕ) → after ≡ rules_after lent (read_sheet s) → rule_width * length b.rules ≤ length after
    rules_long after w =
        let n = words_count b valid_book in
        let l = ap length (w ∙ rules_are) ∙ length-append (joined b.rules) (drop (rule_width * length b.rules) lent) in
        omega arith

  pub read_accepted : (after : List ℕ) (r : Sheet) → r ≡ result_of (length lent) (read_sheet s) → after ≡ rules_after lent (read_sheet s) → r.refusal ≡ 0 → Read s after r
  read_accepted after r g w z = by (unrefused s (length lent) (sym (ap (λ (x : Sheet). x.refusal) g) ∙ z))
    where
      by : (b : Book) × (read_sheet s ≡ written b) × (rule_width * length b.rules ≤ length lent) → Read s after r
      by (b, e, h) = record {
        book = b;
        is = e;
        valid = valid_book b e;
        gives = g ∙ result_is b e;
        words = ap (take (rule_width * length b.rules)) (w ∙ rules_are b e) ∙ take_at (joined b.rules) (drop (rule_width * length b.rules) lent) (rule_width * length b.rules) (words_count b (valid_book b e));
        long = rules_long b e after w;
      }

  pub read_refused : (r : Sheet) → r ≡ result_of (length lent) (read_sheet s) → (r.refusal ≡ 0 → ⊥) → (number : ℕ) × (line : ℕ) × (read_sheet s ≡ refused number line) × (r ≡ result.refusal number line)
  unfolding result_of
  read_refused r g n = by (read_sheet s) refl
    where
      by : (o : Outcome) → read_sheet s ≡ o → (number : ℕ) × (line : ℕ) × (read_sheet s ≡ refused number line) × (r ≡ result.refusal number line)
      by (refused k i) e = (k, i, e, g ∙ ap (result_of (length lent)) e)
      by (written b) e = absurd (n (ap (λ (x : Sheet). x.refusal) (g ∙ result_is b e)))

-- what an accepted sheet gives, as the result says it
module _ {s after : List ℕ} {r : Sheet} (R : Read s after r) where
  pub few_rules : r.rules ≤ 256
  few_rules = let e = ap (λ (x : Sheet). x.rules) R.gives in let f = R.valid.few_rules in omega arith

  pub rules_fit : rule_width * r.rules ≤ length after
  rules_fit = let e = ap (λ (x : Sheet). x.rules) R.gives in let f = R.long in omega arith

  pub goal_fits : r.goal_len ≤ length r.goal
  goal_fits =
      let e = ap (λ (x : Sheet). x.goal_len) R.gives in
      let l = ap (λ (x : Sheet). length x.goal) R.gives ∙ length-append R.book.goal (replicate (16 - length R.book.goal) 0) in
      omega arith

  goal_words : take (length R.book.goal) (padded R.book.goal) ≡ R.book.goal
  goal_words = take-append_seam R.book.goal (replicate (16 - length R.book.goal) 0)

  -- it is what the book asks of the evaluator
  pub asks : asked r.fluents r.actions (take (rule_width * r.rules) after) (take r.goal_len r.goal) r.start ≡ asked_by R.book
  asks =
      ap (λ (x : Sheet). asked x.fluents x.actions (take (rule_width * x.rules) after) (take x.goal_len x.goal) x.start) R.gives
      ∙ rw (R.words, goal_words)
