-- What is known of a line that is accepted, and of the lines of an accepted sheet. Assumes nothing.
use mathlib.Core.Path.{◌≡◌, refl, ap, sym, ◌∙◌, subst}
use mathlib.Core.Bool.{Bool, true, false, cond, not, ◌&&◌}
use mathlib.Core.List.{List, [], ◌∷◌, ◌++◌}
use Prim.Native.Nat.{ℕ, ◌+◌, ◌≤◌, ◌<◌}
use native.Mathlib.Omega.{arith}
use lib.Dec.{leb, ltb, eqb}
use lib.ListN.{length, get_or, drop}
use borrow.Author.Tests.{leb-true, ltb-true, eqb-true}
use Rattle.refusals.specs.Sheet.{sheet_refusals, line_refusals}
use Rattle.steps.proofs.EachBelow.{both}
use Rattle.chars.specs.Bytes.{HASH, begins, is_name}
use Rattle.chars.specs.Pieces.{lines, fields, bare}
use Rattle.chars.specs.Places.{among}
use Rattle.fields.specs.Verdict.{Verdict, refuse, accept, ◌>>=◌}
use Rattle.fields.specs.Book.{Book, Symbols, with_rule, with_start, with_goal}
use Rattle.fields.specs.Field.{judged, new_name, used_name, step_words, start_names}
use Rattle.fields.proofs.Verdicts.{followed, same_value, not_both}
use Rattle.lines.specs.declared.Word.{Word}
use Rattle.lines.specs.declared.Word.TheVariants.{Fluent, Action, Rule, Start, Goal, Other}
use Rattle.lines.specs.Line.{Reading, empty, after, row, line_of, record_line, plain_line, line, word_of}
use Rattle.lines.specs.Reader.{read_lines, read_sheet, whole_sheet, at_end, refused, written}
use Rattle.lines.specs.Kept.{line_head, recorded}
use Rattle.lines.proofs.Readings.{read_fluent, read_action, read_rule, read_start, read_goal, whole}
use Rattle.lines.proofs.LineHeads.{passed, fluent_room, action_room, rule_room, goal_room, other_never}
use Rattle.lines.proofs.LineVerdicts.{line_by_head, line_read, line_refused, lines_read, line_comment, line_plain}
use Rattle.sheet.proofs.Results.{sheet_fault, sheet_lines}

-- what an accepted line with this word and these fields made of the book
pub data Accepted (b next : Reading) (fs : List (List ℕ)) : Word → Type 0 where
  fluent : length b.book.names.fluents < 64 → length fs ≡ 1 → next ≡ read_fluent b (get_or fs 0 []) → Accepted b next fs Fluent
  action : length b.book.names.actions < 64 → next ≡ read_action b (get_or fs 0 []) → Accepted b next fs Action
  rule : (head : ℕ) (steps : List ℕ) → length b.book.rules < 256 → length fs ≤ 17 → used_name b.book.names.actions (get_or fs 0 []) ≡ accept head
      → step_words b.book.names (drop 1 fs) ≡ accept steps → next ≡ read_rule b head steps → Accepted b next fs Rule
  start : (state : ℕ) → start_names b.book.names 0 fs ≡ accept state → next ≡ read_start b state → Accepted b next fs Start
  goal : (steps : List ℕ) → length fs ≤ 16 → step_words b.book.names fs ≡ accept steps → next ≡ read_goal b steps → Accepted b next fs Goal

pub not_written : (k n : ℕ) (b : Book) → refused k n ≡ written b → ⊥
not_written k n b e = let z : ◌≡◌ {A = ℕ} 0 1 = cc in omega arith

-- a reading whose end is accepted
pub at_written : (r : Reading) (b : Book) → at_end r ≡ written b → r ≡ whole b
unfolding at_end
at_written r b = by (r.started && eqb r.stage 5) refl
  where
    by : (t : Bool) → (r.started && eqb r.stage 5) ≡ t → cond t (written r.book) (refused sheet_refusals.incomplete 0) ≡ written b → r ≡ whole b
    by true e q =
        let (i, j) = both r.started (eqb r.stage 5) e in
        let k : r.book ≡ b = cc in
        ap (λ (n : ℕ). record { book = r.book; stage = n; started = r.started }) (eqb-true r.stage 5 j)
        ∙ ap (λ (t : Bool). record { book = r.book; stage = 5; started = t }) i
        ∙ ap whole k
    by false e q = absurd (not_written sheet_refusals.incomplete 0 b q)

pub at_whole : (b : Book) → at_end (whole b) ≡ written b
unfolding at_end
at_whole b = refl

-- an accepted field was formed, no repetition, and defined
pub record Judged {A : Type 0} (formed fresh defined : Bool) (a v : A) : Type 0 where
  pub is_formed : formed ≡ true
  pub is_fresh : fresh ≡ true
  pub is_defined : defined ≡ true
  pub value : a ≡ v

pub judged_accepted : {A : Type 0} (t u d : Bool) (a v : A) → judged t u d a ≡ accept v → Judged t u d a v
judged_accepted false u d a v e = absurd (not_both line_refusals.bad_field v e)
judged_accepted true false d a v e = absurd (not_both line_refusals.repeated v e)
judged_accepted true true false a v e = absurd (not_both line_refusals.undefined v e)
judged_accepted true true true a v e = record { is_formed = refl; is_fresh = refl; is_defined = refl; value = same_value e }

-- an accepted new name is the field itself
new_is : (y : Symbols) (f name : List ℕ) → new_name y f ≡ accept name → name ≡ f
unfolding new_name
new_is y f name e = sym (judged_accepted (is_name f) (not (among f (y.fluents ++ y.actions))) true f name e).value

-- by the book that the fields made
module _ (b next : Reading) (book : Book) (fs : List (List ℕ)) where
  accepted_fluent : line_head b Fluent (length fs) ≡ accept tt → record_line b.book Fluent fs ≡ accept book → after b Fluent book ≡ next → Accepted b next fs Fluent
  unfolding record_line
  accepted_fluent h r n =
      let (name, q, e) = followed (new_name b.book.names (get_or fs 0 [])) (λ name. accept (read_fluent b name).book) book r in
      let room = fluent_room b (length fs) h in
      let made : next ≡ read_fluent b name = sym n ∙ ap (after b Fluent) (sym (same_value e)) in
      fluent room.1 room.2 (made ∙ ap (read_fluent b) (new_is b.book.names (get_or fs 0 []) name q))

  accepted_action : line_head b Action (length fs) ≡ accept tt → record_line b.book Action fs ≡ accept book → after b Action book ≡ next → Accepted b next fs Action
  unfolding record_line
  accepted_action h r n =
      let (name, q, e) = followed (new_name b.book.names (get_or fs 0 [])) (λ name. accept (read_action b name).book) book r in
      let made : next ≡ read_action b name = sym n ∙ ap (after b Action) (sym (same_value e)) in
      action (action_room b (length fs) h).0 (made ∙ ap (read_action b) (new_is b.book.names (get_or fs 0 []) name q))

  accepted_rule : line_head b Rule (length fs) ≡ accept tt → record_line b.book Rule fs ≡ accept book → after b Rule book ≡ next → Accepted b next fs Rule
  unfolding record_line
  accepted_rule h r n =
      let (head, q, t) = followed (used_name b.book.names.actions (get_or fs 0 [])) (λ head. step_words b.book.names (drop 1 fs) >>= (λ steps. accept (with_rule b.book head steps))) book r in
      let (steps, u, e) = followed (step_words b.book.names (drop 1 fs)) (λ steps. accept (with_rule b.book head steps)) book t in
      let room = rule_room b (length fs) h in
      rule head steps room.0 room.2 q u (sym n ∙ ap (after b Rule) (sym (same_value e)))

  accepted_start : record_line b.book Start fs ≡ accept book → after b Start book ≡ next → Accepted b next fs Start
  unfolding record_line
  accepted_start r n =
      let (state, q, e) = followed (start_names b.book.names 0 fs) (λ state. accept (with_start b.book state)) book r in
      start state q (sym n ∙ ap (after b Start) (sym (same_value e)))

  accepted_goal : line_head b Goal (length fs) ≡ accept tt → record_line b.book Goal fs ≡ accept book → after b Goal book ≡ next → Accepted b next fs Goal
  unfolding record_line
  accepted_goal h r n =
      let (steps, q, e) = followed (step_words b.book.names fs) (λ steps. accept (with_goal b.book steps)) book r in
      goal steps (goal_room b (length fs) h) q (sym n ∙ ap (after b Goal) (sym (same_value e)))

pub accepted_line : (b next : Reading) (fs : List (List ℕ)) (w : Word) → line_of b w fs ≡ accept next → Accepted b next fs w
accepted_line b next fs w e =
    let (u, h, r) = followed (line_head b w (length fs)) (λ _. recorded b w fs) next (sym (line_by_head b w fs) ∙ e) in
    let (book, q, n) = followed (record_line b.book w fs) (λ k. accept (after b w k)) next r in
    by w book h q (same_value n)
  where
    by : (w : Word) (book : Book) → line_head b w (length fs) ≡ accept tt → record_line b.book w fs ≡ accept book → after b w book ≡ next → Accepted b next fs w
    by Fluent book h r n = accepted_fluent b next book fs h r n
    by Action book h r n = accepted_action b next book fs h r n
    by Rule book h r n = accepted_rule b next book fs h r n
    by Start book h r n = accepted_start b next book fs r n
    by Goal book h r n = accepted_goal b next book fs h r n
    by Other book h r n = absurd (other_never b (length fs) h)

pub accepted_text : (b next : Reading) (l : List ℕ) → plain_line b l ≡ accept next → Accepted b next (drop 1 (fields l)) (word_of (get_or (fields l) 0 []))
unfolding plain_line
accepted_text b next l e = accepted_line b next (drop 1 (fields l)) (word_of (get_or (fields l) 0 [])) e

-- an accepted line has a record word, and no line above has one later in the row
pub text_in_order : (b next : Reading) (l : List ℕ) → plain_line b l ≡ accept next → (row (word_of (get_or (fields l) 0 [])) < 5) × (b.stage ≤ row (word_of (get_or (fields l) 0 [])))
unfolding plain_line
text_in_order b next l e =
    let w = word_of (get_or (fields l) 0 []) in
    let fs = drop 1 (fields l) in
    let (u, h, r) = followed (line_head b w (length fs)) (λ _. recorded b w fs) next (sym (line_by_head b w fs) ∙ e) in
    let (i, j) = both (ltb (row w) 5) (leb b.stage (row w)) (passed b w (length fs) h).ordered in
    (ltb-true (row w) 5 i, leb-true b.stage (row w) j)

-- no line, and the first of several accepted lines
pub lines_end : (n : ℕ) (b : Reading) (last : Book) → read_lines n b [] ≡ written last → b ≡ whole last
lines_end n b last e = at_written b last (sym (lines_read n b) ∙ e)

pub first_accepted : (n : ℕ) (b : Reading) (last : Book) (l : List ℕ) (ls : List (List ℕ)) → read_lines n b (l ∷ ls) ≡ written last → (next : Reading) × (line b l ≡ accept next) × (read_lines (n + 1) next ls ≡ written last)
first_accepted n b last l ls e = by (line b l) refl
  where
    by : (v : Verdict Reading) → line b l ≡ v → (next : Reading) × (line b l ≡ accept next) × (read_lines (n + 1) next ls ≡ written last)
    by (refuse k) q = absurd (not_written k n last (sym (line_refused n b l ls k q) ∙ e))
    by (accept next) q = (next, q, sym (line_read n b l ls next q) ∙ e)

-- an accepted line is a comment, or a record line
pub data Taken (b next : Reading) (l : List ℕ) : Type 0 where
  comment : begins HASH l ≡ true → next ≡ b → Taken b next l
  plain : begins HASH l ≡ false → plain_line b (bare l) ≡ accept next → Taken b next l

pub line_taken : (b next : Reading) (l : List ℕ) → line b l ≡ accept next → Taken b next l
line_taken b next l e = by (begins HASH l) refl
  where
    by : (t : Bool) → begins HASH l ≡ t → Taken b next l
    by true h = comment h (same_value (sym e ∙ line_comment b l h))
    by false h = plain h (sym (line_plain b l h) ∙ e)

-- the lines that are no comments, each without the CR at its end
abbrev pub record_lines : List (List ℕ) → List (List ℕ)
record_lines [] = []
record_lines (l ∷ ls) = cond (begins HASH l) (record_lines ls) (bare l ∷ record_lines ls)

-- record lines read from b on give the last reading
pub data AllRead (last : Reading) : Reading → List (List ℕ) → Type 0 where
  done : {b : Reading} → b ≡ last → AllRead last b []
  more : {b : Reading} {l : List ℕ} {ls : List (List ℕ)} (next : Reading) → plain_line b l ≡ accept next → AllRead last next ls → AllRead last b (l ∷ ls)

-- accepted lines, as record lines
pub records_read : (n : ℕ) (b : Reading) (last : Book) (ls : List (List ℕ)) → read_lines n b ls ≡ written last → AllRead (whole last) b (record_lines ls)
records_read n b last [] e = done (lines_end n b last e)
records_read n b last (l ∷ ls) e =
    let (next, t, r) = first_accepted n b last l ls e in
    by next (line_taken b next l t) (records_read (n + 1) next last ls r)
  where
    by : (next : Reading) → Taken b next l → AllRead (whole last) next (record_lines ls) → AllRead (whole last) b (record_lines (l ∷ ls))
    by next (comment h e) r = rw h (subst (λ (x : Reading). AllRead (whole last) x (record_lines ls)) e r)
    by next (plain h e) r = rw h (more next e r)

-- an accepted sheet's lines were accepted
pub sheet_accepted : (s : List ℕ) (b : Book) → read_sheet s ≡ written b → read_lines 1 empty (lines s) ≡ written b
sheet_accepted s b e = by (whole_sheet s) refl
  where
    by : (v : Verdict (Unit {0})) → whole_sheet s ≡ v → read_lines 1 empty (lines s) ≡ written b
    by (refuse k) q = absurd (not_written k 0 b (sym (sheet_fault s k q) ∙ e))
    by (accept u) q = sym (sheet_lines s q) ∙ e

pub sheet_records : (s : List ℕ) (b : Book) → read_sheet s ≡ written b → AllRead (whole b) empty (record_lines (lines s))
sheet_records s b e = records_read 1 empty b (lines s) (sheet_accepted s b e)
