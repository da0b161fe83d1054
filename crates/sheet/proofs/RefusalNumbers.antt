-- Every refusal has a number other than 0, so that a result without one is that of an accepted sheet. Assumes nothing.
use mathlib.Core.Path.{◌≡◌, refl, sym, ◌∙◌, subst⁻¹}
use mathlib.Core.Bool.{Bool, true, false, not, ◌&&◌, cond}
use mathlib.Core.List.{List, [], ◌∷◌, ◌++◌}
use Prim.Native.Nat.{ℕ, ◌+◌, ◌*◌, ◌≤◌}
use native.Mathlib.Omega.{arith}
use lib.Dec.{ltb, leb, eqb}
use lib.ListN.{length, get_or, drop}
use borrow.Author.Tests.{ltb-false}
use Rattle.refusals.specs.Sheet.{sheet_refusals, line_refusals}
use Rattle.steps.specs.State.{holds, added}
use Rattle.steps.specs.Widths.{rule_width}
use Rattle.chars.specs.Bytes.{HASH, begins, is_name, clean}
use Rattle.chars.specs.Pieces.{lines, fields, bare}
use Rattle.chars.specs.Places.{place, among, byte_at}
use Rattle.fields.specs.Verdict.{Verdict, refuse, accept, ◌>>=◌, require}
use Rattle.fields.specs.Book.{Book, Symbols, with_names, with_rule, with_start, with_goal}
use Rattle.fields.specs.Field.{judged, new_name, used_name, start_name, start_names, marks, names_of, step_word, step_words}
use Rattle.fields.specs.Held.{step_from}
use Rattle.fields.proofs.Verdicts.{not_both}
use Rattle.lines.specs.declared.Word.{Word}
use Rattle.lines.specs.declared.Word.TheVariants.{Fluent, Action, Rule, Start, Goal, Other}
use Rattle.lines.specs.Kept.{in_order, line_head, recorded}
use Rattle.lines.specs.Line.{Reading, empty, after, word_of, overfull, miscounted, record_line, plain_line, line}
use Rattle.lines.specs.Reader.{Outcome, refused, written, ended, whole_sheet, read_lines, at_end, read_sheet}
use Rattle.lines.proofs.LineVerdicts.{line_by_head, line_read, line_refused, lines_read}
use Rattle.sheet.specs.Result.{refusal, accepted, short, result_of}
use Rattle.sheet.proofs.Results.{sheet_fault, sheet_lines}

-- a verdict that refuses with a number does so with another than 0
pub record Numbered {A : Type 0} (v : Verdict A) : Type 0 where
  pub number : (k : ℕ) → v ≡ refuse k → k ≡ 0 → ⊥

same_number : {A : Type 0} (k j : ℕ) → ◌≡◌ {A = Verdict A} (refuse k) (refuse j) → k ≡ j
same_number k j e = cc

refuses : {A : Type 0} (k : ℕ) → (k ≡ 0 → ⊥) → Numbered {A = A} (refuse k)
refuses k h = record { number = λ j e z. h (same_number k j e ∙ z) }

accepts : {A : Type 0} (a : A) → Numbered (accept a)
accepts a = record { number = λ k e z. not_both k a (sym e) }

requires : (t : Bool) (k : ℕ) → (k ≡ 0 → ⊥) → Numbered (require t k)
requires true k h = accepts tt
requires false k h = refuses k h

then : {A B : Type 0} (v : Verdict A) (f : A → Verdict B) → Numbered v → ((a : A) → Numbered (f a)) → Numbered (v >>= f)
then (refuse k) f h g = refuses k (h.number k refl)
then (accept a) f h g = g a

-- a field
judges : {A : Type 0} (t u d : Bool) (a : A) → Numbered (judged t u d a)
judges false u d a = refuses line_refusals.bad_field (λ z. omega arith)
judges true false d a = refuses line_refusals.repeated (λ z. omega arith)
judges true true false a = refuses line_refusals.undefined (λ z. omega arith)
judges true true true a = accepts a

new_name_numbered : (y : Symbols) (f : List ℕ) → Numbered (new_name y f)
unfolding new_name
new_name_numbered y f = judges (is_name f) (not (among f (y.fluents ++ y.actions))) true f

used_name_numbered : (names : List (List ℕ)) (f : List ℕ) → Numbered (used_name names f)
unfolding used_name
used_name_numbered names f = judges (is_name f) true (among f names) (place f names)

start_name_numbered : (y : Symbols) (state : ℕ) (f : List ℕ) → Numbered (start_name y state f)
unfolding start_name
start_name_numbered y state f = judges (is_name f) (not (among f y.fluents && holds state (place f y.fluents))) (among f y.fluents) (added state (place f y.fluents))

start_names_numbered : (y : Symbols) (state : ℕ) (fs : List (List ℕ)) → Numbered (start_names y state fs)
unfolding start_names
start_names_numbered y state [] = accepts state
start_names_numbered y state (f ∷ fs) = then (start_name y state f) (λ next. start_names y next fs) (start_name_numbered y state f) (λ next. start_names_numbered y next fs)

step_word_numbered : (y : Symbols) (f : List ℕ) → Numbered (step_word y f)
unfolding step_word
step_word_numbered y [] = refuses line_refusals.bad_field (λ z. omega arith)
step_word_numbered y (mark ∷ name) =
    let kind = byte_at mark marks in
    then (require (ltb kind 5) line_refusals.bad_field) (λ _. step_from kind (used_name (names_of y kind) name)) (requires (ltb kind 5) line_refusals.bad_field (λ z. omega arith))
    (λ _. then (used_name (names_of y kind) name) (λ index. accept (256 * kind + index)) (used_name_numbered (names_of y kind) name) (λ index. accepts (256 * kind + index)))

step_words_numbered : (y : Symbols) (fs : List (List ℕ)) → Numbered (step_words y fs)
unfolding step_words
step_words_numbered y [] = accepts []
step_words_numbered y (f ∷ fs) =
    then (step_word y f) (λ w. step_words y fs >>= (λ ws. accept (w ∷ ws))) (step_word_numbered y f)
    (λ w. then (step_words y fs) (λ ws. accept (w ∷ ws)) (step_words_numbered y fs) (λ ws. accepts (w ∷ ws)))

-- a line
record_line_numbered : (b : Book) (w : Word) (fs : List (List ℕ)) → Numbered (record_line b w fs)
unfolding record_line
record_line_numbered b Fluent fs = then (new_name b.names (get_or fs 0 [])) (λ name. accept (with_names b (b.names.fluents ++ (name ∷ [])) b.names.actions)) (new_name_numbered b.names (get_or fs 0 [])) (λ name. accepts (with_names b (b.names.fluents ++ (name ∷ [])) b.names.actions))
record_line_numbered b Action fs = then (new_name b.names (get_or fs 0 [])) (λ name. accept (with_names b b.names.fluents (b.names.actions ++ (name ∷ [])))) (new_name_numbered b.names (get_or fs 0 [])) (λ name. accepts (with_names b b.names.fluents (b.names.actions ++ (name ∷ []))))
record_line_numbered b Rule fs =
    then (used_name b.names.actions (get_or fs 0 [])) (λ head. step_words b.names (drop 1 fs) >>= (λ steps. accept (with_rule b head steps))) (used_name_numbered b.names.actions (get_or fs 0 []))
    (λ head. then (step_words b.names (drop 1 fs)) (λ steps. accept (with_rule b head steps)) (step_words_numbered b.names (drop 1 fs)) (λ steps. accepts (with_rule b head steps)))
record_line_numbered b Start fs = then (start_names b.names 0 fs) (λ state. accept (with_start b state)) (start_names_numbered b.names 0 fs) (λ state. accepts (with_start b state))
record_line_numbered b Goal fs = then (step_words b.names fs) (λ steps. accept (with_goal b steps)) (step_words_numbered b.names fs) (λ steps. accepts (with_goal b steps))
record_line_numbered b Other fs = refuses line_refusals.bad_word (λ z. omega arith)

line_head_numbered : (b : Reading) (w : Word) (n : ℕ) → Numbered (line_head b w n)
unfolding line_head
line_head_numbered b w n =
    then (require (in_order b.stage w) line_refusals.bad_word) (λ _. require (not (overfull b.book w n)) line_refusals.too_many >>= (λ _. require (not (miscounted w n)) line_refusals.bad_field)) (requires (in_order b.stage w) line_refusals.bad_word (λ z. omega arith))
    (λ _. then (require (not (overfull b.book w n)) line_refusals.too_many) (λ _. require (not (miscounted w n)) line_refusals.bad_field) (requires (not (overfull b.book w n)) line_refusals.too_many (λ z. omega arith)) (λ _. requires (not (miscounted w n)) line_refusals.bad_field (λ z. omega arith)))

a_plain : (b : Reading) (l : List ℕ) → Numbered (plain_line b l)
unfolding plain_line
a_plain b l =
    let w = word_of (get_or (fields l) 0 []) in
    let fs = drop 1 (fields l) in
    subst⁻¹ Numbered (line_by_head b w fs)
    (then (line_head b w (length fs)) (λ _. recorded b w fs) (line_head_numbered b w (length fs))
    (λ _. then (record_line b.book w fs) (λ k. accept (after b w k)) (record_line_numbered b.book w fs) (λ k. accepts (after b w k))))

a_line : (b : Reading) (l : List ℕ) → Numbered (line b l)
unfolding line
a_line b l = by (begins HASH l)
  where
    by : (t : Bool) → Numbered (cond t (accept b) (plain_line b (bare l)))
    by true = accepts b
    by false = a_plain b (bare l)

-- the sheet
same_refusal : (k j n m : ℕ) → refused k n ≡ refused j m → k ≡ j
same_refusal k j n m e = cc

not_refused : (k n : ℕ) (b : Book) → written b ≡ refused k n → ⊥
not_refused k n b e = let z : ◌≡◌ {A = ℕ} 0 1 = cc in omega arith

at_end_numbered : (r : Reading) (k i : ℕ) → at_end r ≡ refused k i → k ≡ 0 → ⊥
unfolding at_end
at_end_numbered r k i e z = by (r.started && eqb r.stage 5) e
  where
    by : (t : Bool) → cond t (written r.book) (refused sheet_refusals.incomplete 0) ≡ refused k i → ⊥
    by true e = not_refused k i r.book e
    by false e = let q = same_refusal sheet_refusals.incomplete k 0 i e in omega arith

all_lines : (n : ℕ) (b : Reading) (ls : List (List ℕ)) (k i : ℕ) → read_lines n b ls ≡ refused k i → k ≡ 0 → ⊥
all_lines n b [] k i e z = at_end_numbered b k i (sym (lines_read n b) ∙ e) z
all_lines n b (l ∷ ls) k i e z = by (line b l) refl (λ next m. all_lines (n + 1) next ls k i m z)
  where
    by : (v : Verdict Reading) → line b l ≡ v → ((next : Reading) → read_lines (n + 1) next ls ≡ refused k i → ⊥) → ⊥
    by (refuse j) q later = (a_line b l).number j q (same_refusal j k n i (sym (line_refused n b l ls j q) ∙ e) ∙ z)
    by (accept next) q later = later next (sym (line_read n b l ls next q) ∙ e)

whole_sheet_numbered : (s : List ℕ) → Numbered (whole_sheet s)
unfolding whole_sheet
whole_sheet_numbered s =
    then (require (leb (length s) 65536) sheet_refusals.too_long) (λ _. require (clean s) sheet_refusals.bad_byte >>= (λ _. require (ended s) sheet_refusals.not_ended)) (requires (leb (length s) 65536) sheet_refusals.too_long (λ z. omega arith))
    (λ _. then (require (clean s) sheet_refusals.bad_byte) (λ _. require (ended s) sheet_refusals.not_ended) (requires (clean s) sheet_refusals.bad_byte (λ z. omega arith)) (λ _. requires (ended s) sheet_refusals.not_ended (λ z. omega arith)))

pub refused_number : (s : List ℕ) (k i : ℕ) → read_sheet s ≡ refused k i → k ≡ 0 → ⊥
refused_number s k i e z = by (whole_sheet s) refl
  where
    by : (v : Verdict (Unit {0})) → whole_sheet s ≡ v → ⊥
    by (refuse j) q = (whole_sheet_numbered s).number j q (same_refusal j k 0 i (sym (sheet_fault s j q) ∙ e) ∙ z)
    by (accept u) q = all_lines 1 empty (lines s) k i (sym (sheet_lines s q) ∙ e) z

-- a result without a refusal is that of an accepted sheet whose rule words have room
fits : (t : Bool) (b : Book) → (cond t (refusal sheet_refusals.no_room 0) (accepted b)).refusal ≡ 0 → t ≡ false
fits true b z = absurd (omega arith)
fits false b z = refl

pub unrefused : (s : List ℕ) (room : ℕ) → (result_of room (read_sheet s)).refusal ≡ 0 → (b : Book) × (read_sheet s ≡ written b) × (rule_width * length b.rules ≤ room)
unfolding result_of
unrefused s room z = by (read_sheet s) refl z
  where
    by : (o : Outcome) → read_sheet s ≡ o → (result_of room o).refusal ≡ 0 → (b : Book) × (read_sheet s ≡ written b) × (rule_width * length b.rules ≤ room)
    by (refused k i) e z = absurd (refused_number s k i e z)
    by (written b) e z = (b, e, ltb-false room (rule_width * length b.rules) (fits (short room b) b z))
