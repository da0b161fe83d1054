-- What the reader gives, from what it scanned. Assumes nothing.
use mathlib.Core.Path.{◌≡◌, ap, ◌∙◌}
use mathlib.Core.Bool.{true, false, and-false}
use mathlib.Core.List.{List, ◌++◌}
use Prim.Native.Nat.{ℕ, ◌*◌, ◌≤◌, ◌<◌}
use lib.ListN.{length, take, drop}
use borrow.Author.Rules.{rules}
use borrow.Author.Tests.{lt-ltb, le-ltb, eq-eqb, ne_eqb}
use Rattle.refusals.specs.Sheet.{sheet_refusals}
use Rattle.chars.specs.Pieces.{lines}
use Rattle.steps.specs.Widths.{rule_width}
use Rattle.fields.specs.Verdict.{refuse, accept}
use Rattle.fields.proofs.NamePlaces.{row_length}
use Rattle.fields.proofs.Bodies.{body_padded, body_length}
use Rattle.lines.specs.declared.parse.Parse.{Parse}
use Rattle.lines.specs.Line.{Reading, empty}
use Rattle.lines.specs.Reader.{Outcome, refused, written, whole_sheet, read_sheet, read_lines, at_end}
use Rattle.lines.specs.Kept.{book_in}
use Rattle.lines.proofs.Rules.{rules_length, rules_joined}
use Rattle.sheet.specs.Result.{result_of, rules_after, refusal}

module _ (room : ℕ) (lent : List ℕ) (o : Outcome) where
  module _ (k n : ℕ) (e : o ≡ refused k n) where
    pub result_refused : result_of room o ≡ refusal k n
    unfolding result_of
    result_refused = ap (result_of room) e

    pub rules_refused : rules_after lent o ≡ lent
    unfolding rules_after
    rules_refused =
        let unchanged : rules_after lent (refused k n) ≡ lent = search rules in
        ap (rules_after lent) e ∙ unchanged

module _ (lent w : List ℕ) (b : Parse) (o : Outcome) (e : o ≡ written (book_in w b)) where
  module _ (h : length lent < rule_width * b.rules) where
    pub result_short : result_of (length lent) o ≡ refusal sheet_refusals.no_room 0
    unfolding result_of
    result_short = ap (result_of (length lent)) e ∙ rw (rules_length w b.rules, lt-ltb (length lent) (rule_width * b.rules) h)

    pub rules_short : rules_after lent o ≡ lent
    unfolding rules_after
    rules_short = ap (rules_after lent) e ∙ rw (rules_length w b.rules, lt-ltb (length lent) (rule_width * b.rules) h)

  module _ (h : rule_width * b.rules ≤ length lent) where
    pub result_read : result_of (length lent) o ≡ record { refusal = 0; line = 0; fluents = b.names.fluents.len; actions = b.names.actions.len; rules = b.rules; start = b.start.0; goal_len = b.goal.len; goal = b.goal.words }
    unfolding result_of
    result_read =
        ap (result_of (length lent)) e
        ∙ rw (rules_length w b.rules, le-ltb (length lent) (rule_width * b.rules) h, row_length b.names.fluents, row_length b.names.actions, body_padded b.goal, body_length b.goal)

    pub rules_read : rules_after lent o ≡ take (rule_width * b.rules) w ++ drop (rule_width * b.rules) lent
    unfolding rules_after
    rules_read = ap (rules_after lent) e ∙ rw (rules_length w b.rules, le-ltb (length lent) (rule_width * b.rules) h, rules_joined w b.rules)

module _ (s : List ℕ) where
  pub sheet_fault : (k : ℕ) → whole_sheet s ≡ refuse k → read_sheet s ≡ refused k 0
  unfolding read_sheet
  sheet_fault k e = rw (e, read_sheet)

  module _ (h : whole_sheet s ≡ accept tt) where
    pub sheet_lines : read_sheet s ≡ read_lines 1 empty (lines s)
    unfolding read_sheet
    sheet_lines = rw (h, read_sheet)

    module _ (r : Reading) (e : read_lines 1 empty (lines s) ≡ at_end r) where
      pub sheet_read : r.started ≡ true → r.stage ≡ 5 → read_sheet s ≡ written r.book
      unfolding at_end
      sheet_read x y = sheet_lines ∙ e ∙ rw (x, eq-eqb r.stage 5 y)

      pub sheet_no_start : r.started ≡ false → read_sheet s ≡ refused sheet_refusals.incomplete 0
      unfolding at_end
      sheet_no_start x = sheet_lines ∙ e ∙ rw x

      pub sheet_no_goal : (r.stage ≡ 5 → ⊥) → read_sheet s ≡ refused sheet_refusals.incomplete 0
      unfolding at_end
      sheet_no_goal y = sheet_lines ∙ e ∙ rw (ne_eqb r.stage 5 y, and-false)
