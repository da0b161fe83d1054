-- What the code writes for an accepted sheet is the sheet's text. Assumes nothing.
use Prim.Native.Nat.{ℕ, suc}
use native.Mathlib.Omega.{arith}
use mathlib.Core.Path.{◌≡◌, refl, ap, sym, ◌∙◌}
use mathlib.Core.Bool.{Bool, true, false, cond}
use mathlib.Core.List.{List, [], ◌∷◌, ◌++◌, map, append-nil, append_assoc}
use lib.ListN.{length, get_or, drop}
use Rattle.steps.specs.State.{State, holds}
use Rattle.chars.specs.Bytes.{text, TAB, LF, HASH, begins}
use Rattle.chars.specs.Pieces.{lines, fields, bare}
use Rattle.chars.specs.Places.{same}
use Rattle.fields.specs.Book.{Book}
use Rattle.lines.specs.declared.Word.{Word}
use Rattle.lines.specs.declared.Word.TheVariants.{Fluent, Action, Rule, Start, Goal}
use Rattle.lines.specs.Line.{Reading, empty, word_of}
use Rattle.lines.specs.Reader.{read_sheet, written}
use Rattle.lines.proofs.Readings.{whole}
use Rattle.sheet.proofs.AcceptedLines.{AllRead, done, more, record_lines, sheet_records}
use Rattle.sheet.proofs.FluentsKept.{comment_other}
use Rattle.writer.specs.Text.{tabbed, holding, text_of}
use Rattle.writer.specs.Inner.{plain_piece, plain_bytes, held_piece, held_next, held_bytes, start_bytes, line_piece, line_bytes}
use Rattle.writer.proofs.Solid.{with_LF, text_of_lines}
use Rattle.writer.proofs.TextLines.{start_line}
use Rattle.writer.proofs.Says.{Says, fluent, action, rule, start, goal, line_says}
use Rattle.writer.proofs.Undoing.{line_from, word_is}
use Rattle.writer.proofs.Backward.{rewritten, text_is, text_length}

-- ---- the length
plain_records : (ls : List (List ℕ)) → plain_bytes ls ≡ text_of_lines (record_lines ls)
unfolding plain_bytes plain_piece
plain_records [] = refl
plain_records (l ∷ ls) = by (begins HASH l) (plain_records ls)
  where
    by : (t : Bool) → plain_bytes ls ≡ text_of_lines (record_lines ls) → cond t [] (with_LF (bare l)) ++ plain_bytes ls ≡ text_of_lines (cond t (record_lines ls) (bare l ∷ record_lines ls))
    by true h = h
    by false h = ap (λ (x : List ℕ). with_LF (bare l) ++ x) h

pub size_is : (s : List ℕ) (b : Book) → read_sheet s ≡ written b → length (plain_bytes (lines s)) ≡ length (text_of b)
size_is s b e = ap length (plain_records (lines s)) ∙ sym (text_length s b e)

-- ---- the names of `start`
-- of record lines: the name's tab and name, where the word is `fluent`
abbrev held_of : ℕ → State → List (List ℕ) → List ℕ
held_of k st [] = []
held_of k st (l ∷ ls) = cond (same (get_or (fields l) 0 []) (text "fluent")) (cond (holds st k) (drop 6 l) [] ++ held_of (suc k) st ls) (held_of k st ls)

held_records : (k : ℕ) (st : State) (ls : List (List ℕ)) → held_bytes k st ls ≡ held_of k st (record_lines ls)
unfolding held_bytes held_piece held_next
held_records k st [] = refl
held_records k st (l ∷ ls) = by (begins HASH l) refl (same (get_or (fields (bare l)) 0 []) (text "fluent")) refl (λ k. held_records k st ls)
  where
    by : (t : Bool) → begins HASH l ≡ t → (u : Bool) → same (get_or (fields (bare l)) 0 []) (text "fluent") ≡ u → ((k : ℕ) → held_bytes k st ls ≡ held_of k st (record_lines ls))
        → cond u (cond (holds st k) (drop 6 (bare l)) []) [] ++ held_bytes (cond u (suc k) k) st ls ≡ held_of k st (cond t (record_lines ls) (bare l ∷ record_lines ls))
    by true h u q r = ap (λ (u : Bool). cond u (cond (holds st k) (drop 6 (bare l)) []) [] ++ held_bytes (cond u (suc k) k) st ls) (sym q ∙ comment_other l h) ∙ r k
    by false h true q r = ap (λ (x : List ℕ). cond (holds st k) (drop 6 (bare l)) [] ++ x) (r (suc k)) ∙ ap (λ (u : Bool). cond u (cond (holds st k) (drop 6 (bare l)) [] ++ held_of (suc k) st (record_lines ls)) (held_of k st (record_lines ls))) (sym q)
    by false h false q r = r k ∙ ap (λ (u : Bool). cond u (cond (holds st k) (drop 6 (bare l)) [] ++ held_of (suc k) st (record_lines ls)) (held_of k st (record_lines ls))) (sym q)

-- the fluents that lines add
record New (last : Book) (b : Reading) (ls : List (List ℕ)) : Type 0 where
  names : List (List ℕ)
  are : last.names.fluents ≡ b.book.names.fluents ++ names
  held : (k : ℕ) (st : State) → held_of k st ls ≡ tabbed (holding k st names)

not_fluent : (f g : List ℕ) → f ≡ g → same g (text "fluent") ≡ false → same f (text "fluent") ≡ false
not_fluent f g e h = ap (λ (x : List ℕ). same x (text "fluent")) e ∙ h

is_fluent : (f : List ℕ) → f ≡ text "fluent" → same f (text "fluent") ≡ true
unfolding same
is_fluent f e = ap (λ (x : List ℕ). same x (text "fluent")) e

other_words : (same (text "action") (text "fluent") ≡ false) × (same (text "rule") (text "fluent") ≡ false) × (same (text "start") (text "fluent") ≡ false) × (same (text "goal") (text "fluent") ≡ false)
unfolding same
other_words = (refl, refl, refl, refl)

module _ (last : Book) where
  same_fluents : (b next : Reading) (l : List ℕ) (ls : List (List ℕ)) → same (get_or (fields l) 0 []) (text "fluent") ≡ false → next.book.names.fluents ≡ b.book.names.fluents → New last next ls → New last b (l ∷ ls)
  same_fluents b next l ls h e r = record {
    names = r.names;
    are = r.are ∙ ap (λ (x : List (List ℕ)). x ++ r.names) e;
    held = λ k st. ap (λ (u : Bool). cond u (cond (holds st k) (drop 6 l) [] ++ held_of (suc k) st ls) (held_of k st ls)) h ∙ r.held k st;
  }

  more_fluents : (b next : Reading) (l x : List ℕ) (ls : List (List ℕ)) → same (get_or (fields l) 0 []) (text "fluent") ≡ true → drop 6 l ≡ TAB ∷ x → next.book.names.fluents ≡ b.book.names.fluents ++ (x ∷ []) → New last next ls → New last b (l ∷ ls)
  unfolding holding
  more_fluents b next l x ls h d e r = record {
    names = x ∷ r.names;
    are = r.are ∙ ap (λ (z : List (List ℕ)). z ++ r.names) e ∙ append_assoc b.book.names.fluents (x ∷ []) r.names;
    held = λ k st. ap (λ (u : Bool). cond u (cond (holds st k) (drop 6 l) [] ++ held_of (suc k) st ls) (held_of k st ls)) h ∙ by k st (holds st k);
  }
    where
      by : (k : ℕ) (st : State) (u : Bool) → cond u (drop 6 l) [] ++ held_of (suc k) st ls ≡ tabbed (cond u (x ∷ holding (suc k) st r.names) (holding (suc k) st r.names))
      by k st true = ap (λ (z : List ℕ). z ++ held_of (suc k) st ls) d ∙ ap (λ (z : List ℕ). (TAB ∷ x) ++ z) (r.held (suc k) st)
      by k st false = r.held (suc k) st

  new_fluents : (b : Reading) (ls : List (List ℕ)) → AllRead (whole last) b ls → New last b ls
  unfolding holding
  new_fluents b [] (done e) = record { names = []; are = ap (λ (x : Reading). x.book.names.fluents) (sym e) ∙ sym (append-nil b.book.names.fluents); held = λ k st. refl }
  new_fluents b (l ∷ ls) (more next t r) = by (word_of (get_or (fields l) 0 [])) refl (line_says b next l t) (new_fluents next ls r)
    where
      by : (w : Word) → word_of (get_or (fields l) 0 []) ≡ w → Says b next (drop 1 (fields l)) w → New last next ls → New last b (l ∷ ls)
      by w i (fluent x h e n a q) r =
          let f = word_is (get_or (fields l) 0 []) Fluent i (omega arith) in
          let z = sym (line_from l) ∙ ap (λ (y : List ℕ). y ++ tabbed (drop 1 (fields l))) f ∙ ap (λ (y : List (List ℕ)). text "fluent" ++ tabbed y) e in
          more_fluents b next l x ls (is_fluent (get_or (fields l) 0 []) f) (ap (drop 6) z ∙ append-nil (TAB ∷ x)) (ap (λ (x : Reading). x.book.names.fluents) q) r
      by w i (action x h e n a q) r = same_fluents b next l ls (not_fluent (get_or (fields l) 0 []) (text "action") (word_is (get_or (fields l) 0 []) Action i (omega arith)) other_words.0) (ap (λ (x : Reading). x.book.names.fluents) q) r
      by w i (rule f gs head steps h e u t q) r = same_fluents b next l ls (not_fluent (get_or (fields l) 0 []) (text "rule") (word_is (get_or (fields l) 0 []) Rule i (omega arith)) other_words.1) (ap (λ (x : Reading). x.book.names.fluents) q) r
      by w i (start state h e q) r = same_fluents b next l ls (not_fluent (get_or (fields l) 0 []) (text "start") (word_is (get_or (fields l) 0 []) Start i (omega arith)) other_words.2) (ap (λ (x : Reading). x.book.names.fluents) q) r
      by w i (goal steps h e q) r = same_fluents b next l ls (not_fluent (get_or (fields l) 0 []) (text "goal") (word_is (get_or (fields l) 0 []) Goal i (omega arith)) other_words.3) (ap (λ (x : Reading). x.book.names.fluents) q) r

module _ (s : List ℕ) (b : Book) (e : read_sheet s ≡ written b) where
  held_is : (st : State) → held_bytes 0 st (lines s) ≡ tabbed (holding 0 st b.names.fluents)
  held_is st =
      let n = new_fluents b empty (record_lines (lines s)) (sheet_records s b e) in
      held_records 0 st (lines s) ∙ n.held 0 st ∙ ap (λ (x : List (List ℕ)). tabbed (holding 0 st x)) (sym n.are)

  start_is : start_bytes b.start (lines s) ≡ with_LF (start_line b.names b.start)
  unfolding start_bytes
  start_is = ap (λ (x : List ℕ). (text "start" ++ x) ++ (LF ∷ [])) (held_is b.start)

  lines_written : (ls : List (List ℕ)) → line_bytes b.start (lines s) ls ≡ text_of_lines (map (rewritten b) (record_lines ls))
  unfolding line_bytes line_piece rewritten
  lines_written [] = refl
  lines_written (l ∷ ls) = by (begins HASH l) (lines_written ls)
    where
      one : (u : Bool) → cond u (start_bytes b.start (lines s)) (with_LF (bare l)) ≡ with_LF (cond u (start_line b.names b.start) (bare l))
      one true = start_is
      one false = refl

      by : (t : Bool) → line_bytes b.start (lines s) ls ≡ text_of_lines (map (rewritten b) (record_lines ls))
          → cond t [] (cond (same (get_or (fields (bare l)) 0 []) (text "start")) (start_bytes b.start (lines s)) (with_LF (bare l))) ++ line_bytes b.start (lines s) ls ≡ text_of_lines (map (rewritten b) (cond t (record_lines ls) (bare l ∷ record_lines ls)))
      by true h = h
      by false h = ap (λ (x : List ℕ). x ++ line_bytes b.start (lines s) ls) (one (same (get_or (fields (bare l)) 0 []) (text "start"))) ∙ ap (λ (x : List ℕ). with_LF (rewritten b (bare l)) ++ x) h

  -- What the lines give is the text.
  pub text_written : line_bytes b.start (lines s) (lines s) ≡ text_of b
  text_written = lines_written (lines s) ∙ sym (text_is s b e)
