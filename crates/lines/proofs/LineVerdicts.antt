-- The verdicts on a line and its fields, case by case. Assumes nothing.
use mathlib.Core.Path.{◌≡◌, refl, ap, ◌∙◌}
use mathlib.Core.Bool.{Bool, true, false, not}
use mathlib.Core.List.{List, [], ◌∷◌}
use Prim.Native.Nat.{ℕ, ◌+◌, ◌≤◌}
use native.Mathlib.Numerals.{add-one}
use lib.ListN.{length}
use lib.Seq.{slice}
use Rattle.refusals.specs.Sheet.{line_refusals}
use Rattle.chars.specs.Bytes.{HASH, begins}
use Rattle.chars.specs.Pieces.{bare}
use Rattle.chars.specs.Inner.{fields_from, FieldEnd}
use Rattle.chars.proofs.Fields.{fields_first}
use Rattle.fields.specs.Verdict.{Verdict, refuse, accept, ◌>>=◌, require}
use Rattle.fields.specs.Field.{new_name, used_name, step_words, start_names}
use Rattle.lines.specs.declared.Word.{Word}
use Rattle.lines.specs.declared.Word.TheVariants.{Fluent, Action, Rule, Start, Goal}
use Rattle.lines.specs.Line.{Reading, overfull, miscounted, word_of, line_of, record_line, plain_line, line}
use Rattle.lines.specs.Reader.{read_lines, at_end, refused}
use Rattle.lines.specs.Kept.{in_order, line_head, recorded}
use Rattle.lines.proofs.Readings.{read_fluent, read_action, read_rule, read_start, read_goal}

-- three requirements, then what follows them
three : {A : Type 0} (s t u : Bool) (k j n : ℕ) (v : Verdict A) → (require s k >>= (λ _. require t j >>= (λ _. require u n >>= (λ _. v)))) ≡ ((require s k >>= (λ _. require t j >>= (λ _. require u n))) >>= (λ _. v))
three false t u k j n v = refl
three true false u k j n v = refl
three true true false k j n v = refl
three true true true k j n v = refl

-- a line by its head and its fields
module _ (b : Reading) (w : Word) (fs : List (List ℕ)) where
  pub line_by_head : line_of b w fs ≡ (line_head b w (length fs) >>= (λ _. recorded b w fs))
  unfolding line_head
  line_by_head = three (in_order b.stage w) (not (overfull b.book w (length fs))) (not (miscounted w (length fs))) line_refusals.bad_word line_refusals.too_many line_refusals.bad_field (recorded b w fs)

  pub line_stopped : (k : ℕ) → line_head b w (length fs) ≡ refuse k → line_of b w fs ≡ refuse k
  line_stopped k e = line_by_head ∙ ap (λ (v : Verdict (Unit {0})). v >>= (λ _. recorded b w fs)) e

  pub line_passed : line_head b w (length fs) ≡ accept tt → line_of b w fs ≡ recorded b w fs
  line_passed e = line_by_head ∙ ap (λ (v : Verdict (Unit {0})). v >>= (λ _. recorded b w fs)) e

pub plain_fields : (b : Reading) (s : List ℕ) (a e q : ℕ) → a ≤ e → FieldEnd s a e q → plain_line b (slice a e s) ≡ line_of b (word_of (slice a q s)) (fields_from (q + 1) e s)
unfolding plain_line
plain_fields b s a e q h f = rw (fields_first s a e q h f)

-- a comment adds nothing, any other line is read without the CR at its end
module _ (b : Reading) (l : List ℕ) where
  pub line_comment : begins HASH l ≡ true → line b l ≡ accept b
  unfolding line
  line_comment h = rw h

  pub line_plain : begins HASH l ≡ false → line b l ≡ plain_line b (bare l)
  unfolding line
  line_plain h = rw h

-- the fields of each record
module _ (b : Reading) (f : List ℕ) where
  module _ (n : ℕ) (q : new_name b.book.names f ≡ refuse n) where
    pub fluent_refused : recorded b Fluent (f ∷ []) ≡ refuse n
    unfolding record_line
    fluent_refused = rw q

    pub action_refused : recorded b Action (f ∷ []) ≡ refuse n
    unfolding record_line
    action_refused = rw q

  module _ (q : new_name b.book.names f ≡ accept f) where
    pub fluent_read : recorded b Fluent (f ∷ []) ≡ accept (read_fluent b f)
    unfolding record_line
    fluent_read = rw q

    pub action_read : recorded b Action (f ∷ []) ≡ accept (read_action b f)
    unfolding record_line
    action_read = rw q

module _ (b : Reading) (f : List ℕ) (gs : List (List ℕ)) where
  pub rule_head : (n : ℕ) → used_name b.book.names.actions f ≡ refuse n → recorded b Rule (f ∷ gs) ≡ refuse n
  unfolding record_line
  rule_head n q = rw q

  module _ (i : ℕ) (q : used_name b.book.names.actions f ≡ accept i) where
    pub rule_steps : (n : ℕ) → step_words b.book.names gs ≡ refuse n → recorded b Rule (f ∷ gs) ≡ refuse n
    unfolding record_line
    rule_steps n r = rw (q, r)

    pub rule_read : (ws : List ℕ) → step_words b.book.names gs ≡ accept ws
        → recorded b Rule (f ∷ gs) ≡ accept (read_rule b i ws)
    unfolding record_line
    rule_read ws r = rw (q, r)

module _ (b : Reading) (fs : List (List ℕ)) (k : ℕ) where
  pub start_line_refused : start_names b.book.names 0 fs ≡ refuse k → recorded b Start fs ≡ refuse k
  unfolding record_line
  start_line_refused e = rw e

  pub start_line_read : start_names b.book.names 0 fs ≡ accept k → recorded b Start fs ≡ accept (read_start b k)
  unfolding record_line
  start_line_read e = rw e

  pub goal_refused : step_words b.book.names fs ≡ refuse k → recorded b Goal fs ≡ refuse k
  unfolding record_line
  goal_refused e = rw e

pub goal_read : (b : Reading) (fs : List (List ℕ)) (ws : List ℕ) → step_words b.book.names fs ≡ accept ws
    → recorded b Goal fs ≡ accept (read_goal b ws)
unfolding record_line
goal_read b fs ws e = rw e

-- one line more
module _ (n : ℕ) (b : Reading) (l : List ℕ) (ls : List (List ℕ)) where
  pub line_read : (next : Reading) → line b l ≡ accept next → read_lines n b (l ∷ ls) ≡ read_lines (n + 1) next ls
  unfolding read_lines
  line_read next e = rw (add-one, e, read_lines)

  pub line_refused : (k : ℕ) → line b l ≡ refuse k → read_lines n b (l ∷ ls) ≡ refused k n
  unfolding read_lines
  line_refused k e = rw (e, read_lines)

pub lines_read : (n : ℕ) (b : Reading) → read_lines n b [] ≡ at_end b
unfolding read_lines
lines_read n b = refl
