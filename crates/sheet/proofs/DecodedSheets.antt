-- The words that an accepted sheet is read into decode to what its lines write: rule for rule to its `rule` lines, and to the steps of its one `goal` line. Assumes nothing.
use mathlib.Core.Path.{◌≡◌, refl, ap, sym, ◌∙◌, subst, subst⁻¹}
use mathlib.Core.Bool.{cond}
use mathlib.Core.List
use mathlib.Core.List.{List, [], ◌∷◌, ◌++◌, append_assoc, append-nil, Forall₂}
use Prim.Native.Nat.{ℕ, suc, ◌+◌, ◌*◌, ◌/◌, ◌≤◌, ◌<◌}
use native.Mathlib.Omega.{arith}
use lib.Dec.{eqb}
use lib.ListN.{length, get_or, drop, length-drop}
use lib.Seq.{drop-drop, drop_at}
use Rattle.steps.specs.Step as logic
use Rattle.steps.specs.Words.{body_of, rules_from, book_of}
use Rattle.steps.specs.Widths.{rule_width}
use Rattle.chars.specs.Pieces.{lines, fields}
use Rattle.chars.specs.Places.{place}
use Rattle.fields.specs.Book.{Book, Symbols, rule_words, joined}
use Rattle.lines.specs.declared.Word.{Word}
use Rattle.lines.specs.declared.Word.TheVariants.{Rule, Goal}
use Rattle.lines.specs.Line.{Reading, empty, row, word_of}
use Rattle.lines.specs.Reader.{read_sheet, written}
use Rattle.lines.proofs.Readings.{whole}
use Rattle.sheet.proofs.AcceptedLines.{Accepted, fluent, action, rule, start, goal, accepted_text, AllRead, done, more, record_lines, sheet_records}
use Rattle.sheet.proofs.LaterLines.{stage_after, line_names, names_kept, none_below}
use Rattle.sheet.proofs.Valid.{body_good}
use Rattle.sheet.proofs.ValidSheets.{ValidSoFar, valid_line, empty_valid, sheet_valid}
use Rattle.sheet.proofs.Acceptance.{padded_length, words_count}
use Rattle.sheet.proofs.Decoding.{Writes, used_place, steps_decoded, rule_at}

-- the record of a line with the word v, if that is the word asked for
abbrev chosen : Word → Word → List (List ℕ) → List (List (List ℕ))
chosen w v fs = cond (eqb (row v) (row w)) (fs ∷ []) []

-- The records with this word, in order: of each the fields after the word.
abbrev pub records_of : Word → List (List ℕ) → List (List (List ℕ))
records_of w [] = []
records_of w (l ∷ ls) = chosen w (word_of (get_or (fields l) 0 [])) (drop 1 (fields l)) ++ records_of w ls

-- The rule that the fields of a `rule` record write: the first names its head, the others are its steps.
pub record WritesRule (y : Symbols) (fs : List (List ℕ)) (r : logic.Rule) : Type 0 where
  pub head : r.head ≡ place (get_or fs 0 []) y.actions
  pub body : Forall₂ (Writes y) (drop 1 fs) r.body

-- ---- the rules

-- the words of the rule that a record writes
record RuleOf (y : Symbols) (fs : List (List ℕ)) (words : List ℕ) : Type 0 where
  head : ℕ
  steps : List ℕ
  few : length steps ≤ 16
  is : words ≡ rule_words head steps
  named : head ≡ place (get_or fs 0 []) y.actions
  body : Forall₂ (Writes y) (drop 1 fs) (body_of steps)

-- the rules that records add
record Adds (y : Symbols) (before after : List (List ℕ)) (fss : List (List (List ℕ))) : Type 0 where
  new : List (List ℕ)
  is : after ≡ before ++ new
  each : Forall₂ (RuleOf y) fss new

module _ (b next last : Reading) (v : ValidSoFar b) (fs : List (List ℕ)) (rest : List (List (List ℕ))) where
  -- the rules that the records below add to those of x
  abbrev Rest : Reading → Type 0
  Rest x = Adds last.book.names x.book.rules last.book.rules rest

  -- the first line, by its word
  first_rule : (w : Word) → Accepted b next fs w → (2 ≤ row w → last.book.names ≡ b.book.names) → Rest next → Adds last.book.names b.book.rules last.book.rules (chosen Rule w fs ++ rest)
  first_rule w (fluent l n e) h g = subst Rest e g
  first_rule w (action l e) h g = subst Rest e g
  first_rule w (rule head steps l n u t e) h g =
      let d = length-drop 1 fs in
      let good = body_good b.book.names v.few_fluents v.few_actions (drop 1 fs) steps (omega arith) t in
      let words : RuleOf b.book.names fs (rule_words head steps) = record {
        head = head;
        steps = steps;
        few = good.few;
        is = refl;
        named = used_place b.book.names.actions (get_or fs 0 []) head u;
        body = steps_decoded b.book.names v.few_fluents v.few_actions (drop 1 fs) steps t;
      } in
      record {
        new = rule_words head steps ∷ g.new;
        is = g.is ∙ ap (λ (x : Reading). x.book.rules ++ g.new) e ∙ append_assoc b.book.rules (rule_words head steps ∷ []) g.new;
        each = List.Forall₂.cons (subst⁻¹ (λ (y : Symbols). RuleOf y fs (rule_words head steps)) (h (omega arith)) words) g.each;
      }
  first_rule w (start s t e) h g = subst Rest e g
  first_rule w (goal s n t e) h g = subst Rest e g

-- all lines from the top
rules_added : (b last : Reading) (ls : List (List ℕ)) → ValidSoFar b → AllRead last b ls → Adds last.book.names b.book.rules last.book.rules (records_of Rule ls)
rules_added b last [] v (done e) = record { new = []; is = ap (λ (x : Reading). x.book.rules) (sym e) ∙ sym (append-nil b.book.rules); each = List.Forall₂.nil }
rules_added b last (l ∷ ls) v (more next t r) =
    let w = word_of (get_or (fields l) 0 []) in
    let fs = drop 1 (fields l) in
    let a = accepted_text b next l t in
    let k = stage_after b next w fs a in
    let kept : 2 ≤ row w → last.book.names ≡ b.book.names = λ h. names_kept next last ls (omega arith) r ∙ line_names b next w fs h a in
    first_rule b next last v fs (records_of Rule ls) w a kept (rules_added next last ls (valid_line b v next w fs a) r)

-- the book of rule words, rule for rule
book_decoded : (y : Symbols) (words : List ℕ) (fss : List (List (List ℕ))) (rs : List (List ℕ)) (k : ℕ) → drop (rule_width * k) words ≡ joined rs → Forall₂ (RuleOf y) fss rs → Forall₂ (WritesRule y) fss (rules_from words k (length rs))
unfolding rules_from
book_decoded y words [] [] k e List.Forall₂.nil = List.Forall₂.nil
book_decoded y words [] (r ∷ rs) k e x = elim x [ ]
book_decoded y words (fs ∷ fss) [] k e x = elim x [ ]
book_decoded y words (fs ∷ fss) (r ∷ rs) k e (List.Forall₂.cons g gs) =
    let d = e ∙ ap (λ (x : List ℕ). x ++ joined rs) g.is in
    let n : length (rule_words g.head g.steps) ≡ rule_width = ap (λ (i : ℕ). suc (suc i)) (padded_length g.steps g.few) in
    let i : rule_width * suc k ≡ rule_width * k + rule_width = omega arith in
    let t = ap (λ (j : ℕ). drop j words) i ∙ sym (drop-drop rule_width (rule_width * k) words) ∙ ap (drop rule_width) d ∙ drop_at (rule_words g.head g.steps) (joined rs) rule_width n in
    let q = rule_at words k g.head g.steps (joined rs) d in
    List.Forall₂.cons (subst⁻¹ (WritesRule y fs) q (record { head = g.named; body = g.body })) (book_decoded y words fss rs (suc k) t gs)

-- ---- the goal

-- the `goal` records of these lines write the goal of the book last read: there is one
abbrev OneGoal : Reading → List (List (List ℕ)) → Type 0
OneGoal last fss = Forall₂ (Forall₂ (Writes last.book.names)) fss (body_of last.book.goal ∷ [])

-- the first line, by its word
goal_line : (b next last : Reading) (v : ValidSoFar b) (w : Word) (fs : List (List ℕ)) (rest : List (List (List ℕ))) → Accepted b next fs w → (next.stage < 5 → OneGoal last rest) → (next.stage ≡ 5 → (rest ≡ []) × (last ≡ next)) → OneGoal last (chosen Goal w fs ++ rest)
goal_line b next last v w fs rest (fluent l n e) later none = let s = ap (λ (x : Reading). x.stage) e in later (omega arith)
goal_line b next last v w fs rest (action l e) later none = let s = ap (λ (x : Reading). x.stage) e in later (omega arith)
goal_line b next last v w fs rest (rule h s l n u t e) later none = let s = ap (λ (x : Reading). x.stage) e in later (omega arith)
goal_line b next last v w fs rest (start s t e) later none = let s = ap (λ (x : Reading). x.stage) e in later (omega arith)
goal_line b next last v w fs rest (goal s n t e) later none =
    let (i, j) = none (ap (λ (x : Reading). x.stage) e) in
    let body : Forall₂ (Writes b.book.names) fs (body_of s) = steps_decoded b.book.names v.few_fluents v.few_actions fs s t in
    rw (i, j ∙ e) (List.Forall₂.cons body List.Forall₂.nil)

-- all lines from the top
goal_written : (b last : Reading) (ls : List (List ℕ)) → ValidSoFar b → b.stage < 5 → last.stage ≡ 5 → AllRead last b ls → OneGoal last (records_of Goal ls)
goal_written b last [] v h k (done e) = let s = ap (λ (x : Reading). x.stage) e in absurd (omega arith)
goal_written b last (l ∷ ls) v h k (more next t r) =
    let w = word_of (get_or (fields l) 0 []) in
    let fs = drop 1 (fields l) in
    let a = accepted_text b next l t in
    let none : next.stage ≡ 5 → (records_of Goal ls ≡ []) × (last ≡ next) = λ q. let (i, j) = none_below next last ls q r in (ap (records_of Goal) i, j) in
    goal_line b next last v w fs (records_of Goal ls) a (λ q. goal_written next last ls (valid_line b v next w fs a) q k r) none

-- ---- the sheet

module _ (s : List ℕ) (b : Book) (e : read_sheet s ≡ written b) where
  -- the book decoded from an accepted sheet's rule words has a rule for each `rule` line, in order, and it is the rule that the line writes
  pub sheet_rules_decoded : Forall₂ (WritesRule b.names) (records_of Rule (record_lines (lines s))) (book_of (joined b.rules))
  sheet_rules_decoded =
      let a = rules_added empty (whole b) (record_lines (lines s)) empty_valid (sheet_records s b e) in
      let c = words_count b (sheet_valid s b e) in
      let n : length (joined b.rules) / rule_width ≡ length b.rules = omega arith in
      rw n (book_decoded b.names (joined b.rules) (records_of Rule (record_lines (lines s))) b.rules 0 refl (subst⁻¹ (Forall₂ (RuleOf b.names) (records_of Rule (record_lines (lines s)))) a.is a.each))

  -- it has one `goal` line, and the goal decoded from its goal words is the one that the line writes
  pub sheet_goal_decoded : Forall₂ (Forall₂ (Writes b.names)) (records_of Goal (record_lines (lines s))) (body_of b.goal ∷ [])
  sheet_goal_decoded = goal_written empty (whole b) (record_lines (lines s)) empty_valid (omega arith) refl (sheet_records s b e)
