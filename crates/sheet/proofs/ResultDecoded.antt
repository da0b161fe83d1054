-- What the reader gives decodes to the run of the book read: a result without a refusal, with the rule words it says. Assumes nothing.
use mathlib.Core.Path.{◌≡◌}
use mathlib.Core.List.{List}
use Prim.Native.Nat.{ℕ, ◌*◌}
use lib.ListN.{length, take}
use Rattle.steps.specs.Run.{Run}
use Rattle.steps.specs.Words.{run_of}
use Rattle.steps.specs.Widths.{rule_width}
use Rattle.fields.specs.Book.{Book, joined}
use Rattle.lines.specs.Reader.{read_sheet, written}
use Rattle.sheet.specs.declared.Sheet.{Sheet}
use Rattle.sheet.specs.Result.{result_of, rules_after}
use Rattle.sheet.proofs.ResultWords.{result_book}

-- the run of a result and the list lent, as far as the result says
abbrev pub result_run : Sheet → List ℕ → Run
result_run r rules = run_of (take (rule_width * r.rules) rules) (take r.goal_len r.goal) r.start

pub result_decoded : (s lent : List ℕ) → (result_of (length lent) (read_sheet s)).refusal ≡ 0
    → (b : Book) × (read_sheet s ≡ written b) × (result_run (result_of (length lent) (read_sheet s)) (rules_after lent (read_sheet s)) ≡ run_of (joined b.rules) b.goal b.start)
result_decoded = result_book (λ _ _. run_of)
