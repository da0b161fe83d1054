-- What the reader gives, where it refuses nothing: counts, rule words, goal words and start of the book read. Assumes nothing.
use mathlib.Core.Path.{◌≡◌, ap, ◌∙◌}
use mathlib.Core.List.{List}
use Prim.Native.Nat.{ℕ, ◌-◌, ◌*◌, ◌≤◌}
use lib.ListN.{length, take, drop, replicate}
use lib.Seq.{take_at, take-append_seam}
use borrow.Author.Tests.{le-ltb}
use Rattle.steps.specs.Widths.{rule_width}
use Rattle.fields.specs.Book.{Book, joined}
use Rattle.lines.specs.Reader.{Outcome, read_sheet, written}
use Rattle.sheet.specs.declared.Sheet.{Sheet}
use Rattle.sheet.specs.Result.{result_of, rules_after}
use Rattle.sheet.proofs.ValidSheets.{sheet_valid}
use Rattle.sheet.proofs.Acceptance.{words_count}
use Rattle.sheet.proofs.RefusalNumbers.{unrefused}

-- a function f of the counts of fluents and actions, rule words, goal words and start
module _ {A : Type 0} (f : ℕ → ℕ → List ℕ → List ℕ → ℕ → A) where
  -- f of a result and the list lent, as far as the result says
  abbrev pub of_result : Sheet → List ℕ → A
  of_result r rules = f r.fluents r.actions (take (rule_width * r.rules) rules) (take r.goal_len r.goal) r.start

  -- f of a book
  abbrev pub of_book : Book → A
  of_book b = f (length b.names.fluents) (length b.names.actions) (joined b.rules) b.goal b.start

  -- where the list lent has room
  words_given : (b : Book) (lent : List ℕ) → rule_width * length b.rules ≤ length lent → length (joined b.rules) ≡ rule_width * length b.rules → of_result (result_of (length lent) (written b)) (rules_after lent (written b)) ≡ of_book b
  unfolding result_of rules_after
  words_given b lent h n =
      rw (le-ltb (length lent) (rule_width * length b.rules) h, take_at (joined b.rules) (drop (rule_width * length b.rules) lent) (rule_width * length b.rules) n, take-append_seam b.goal (replicate (16 - length b.goal) 0))

  -- f of what the reader gives is f of the book read
  pub result_book : (s lent : List ℕ) → (result_of (length lent) (read_sheet s)).refusal ≡ 0 → (b : Book) × (read_sheet s ≡ written b) × (of_result (result_of (length lent) (read_sheet s)) (rules_after lent (read_sheet s)) ≡ of_book b)
  result_book s lent z =
      let (b, e, h) = unrefused s (length lent) z in
      (b, e, ap (λ (o : Outcome). of_result (result_of (length lent) o) (rules_after lent o)) e ∙ words_given b lent h (words_count b (sheet_valid s b e)))
