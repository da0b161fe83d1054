-- What the reader gives is accepted by the evaluator: a result without a refusal, with the rule words it says, meets none of 20 to 24. Assumes nothing.
use mathlib.Core.Path.{◌≡◌, ◌∙◌}
use mathlib.Core.List.{List}
use Prim.Native.Nat.{ℕ, ◌*◌}
use lib.ListN.{length, take}
use Rattle.steps.specs.Acceptance.{refusal_of}
use Rattle.steps.specs.Widths.{rule_width}
use Rattle.lines.specs.Reader.{read_sheet}
use Rattle.sheet.specs.declared.Sheet.{Sheet}
use Rattle.sheet.specs.Result.{result_of, rules_after}
use Rattle.sheet.proofs.Acceptance.{sheet_meets_none}
use Rattle.sheet.proofs.ResultWords.{result_book}

-- the evaluator's refusal of a result and the list lent, as far as the result says
abbrev pub result_refusal : Sheet → List ℕ → ℕ
result_refusal r rules = refusal_of r.fluents r.actions (take (rule_width * r.rules) rules) (take r.goal_len r.goal) r.start

pub result_meets_none : (s lent : List ℕ) → (result_of (length lent) (read_sheet s)).refusal ≡ 0 → result_refusal (result_of (length lent) (read_sheet s)) (rules_after lent (read_sheet s)) ≡ 0
result_meets_none s lent z = let (b, e, q) = result_book refusal_of s lent z in q ∙ sheet_meets_none s b e
