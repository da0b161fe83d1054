-- An accepted line is the text of what it said: fields back to the line, words back to steps. Assumes nothing.
use Prim.Native.Nat.{ℕ, suc, ◌+◌, ◌*◌, ◌/◌, ◌%◌, ◌≤◌, ◌<◌}
use native.Mathlib.Omega.{arith}
use mathlib.Core.Path.{◌≡◌, refl, ap, sym, ◌∙◌}
use mathlib.Core.Bool.{Bool, true, false, cond}
use mathlib.Core.List.{List, [], ◌∷◌, map}
use lib.ListN.{length, get_or, drop}
use lib.Dec.{ltb, eqb}
use borrow.Author.Tests.{ltb-true, eqb-true}
use Rattle.refusals.specs.Sheet.{line_refusals}
use Rattle.steps.proofs.EachBelow.{both, true_not_false}
use Rattle.chars.specs.Bytes.{text, TAB}
use Rattle.chars.specs.Pieces.{piece_then, pieces, fields}
use Rattle.chars.specs.Places.{same, place, place_after, byte_at}
use Rattle.fields.specs.Verdict.{accept, ◌>>=◌}
use Rattle.fields.specs.Book.{Symbols}
use Rattle.fields.specs.Field.{marks, names_of, used_name, step_word, step_words}
use Rattle.fields.specs.Held.{step_from}
use Rattle.fields.proofs.Verdicts.{followed, required, same_value, not_both}
use Rattle.lines.specs.declared.Word.{Word}
use Rattle.lines.specs.declared.Word.TheVariants.{Fluent, Action, Rule, Start, Goal, Other}
use Rattle.lines.specs.Line.{word_of, row}
use Rattle.sheet.proofs.Valid.{used_below}
use Rattle.sheet.proofs.Decoding.{byte_is, used_place}
use Rattle.writer.specs.Text.{tabbed, step_text}
use Rattle.writer.proofs.Solid.{line_bytes}

-- ---- a line from its fields
some_piece : (l : List ℕ) → fields l ≡ get_or (fields l) 0 [] ∷ drop 1 (fields l)
unfolding fields pieces
some_piece [] = refl
some_piece (x ∷ xs) = by (eqb x TAB) (pieces ([] ∷ []) TAB xs)
  where
    by : (t : Bool) (ps : List (List ℕ)) → piece_then t x ps ≡ get_or (piece_then t x ps) 0 [] ∷ drop 1 (piece_then t x ps)
    by true ps = refl
    by false [] = refl
    by false (p ∷ ps) = refl

abbrev unpieced : List (List ℕ) → List ℕ
unpieced ps = line_bytes (get_or ps 0 []) (drop 1 ps)

pub line_from : (l : List ℕ) → line_bytes (get_or (fields l) 0 []) (drop 1 (fields l)) ≡ l
unfolding fields pieces
line_from [] = refl
line_from (x ∷ xs) = by (eqb x TAB) refl (pieces ([] ∷ []) TAB xs) (some_piece xs) (line_from xs)
  where
    by : (t : Bool) → eqb x TAB ≡ t → (ps : List (List ℕ)) → ps ≡ get_or ps 0 [] ∷ drop 1 ps → unpieced ps ≡ xs → unpieced (piece_then t x ps) ≡ x ∷ xs
    by true e ps s h = ap tabbed s ∙ ap (λ (l : List ℕ). TAB ∷ l) h ∙ ap (λ (c : ℕ). c ∷ xs) (sym (eqb-true x TAB e))
    by false e [] s h = ap (λ (l : List ℕ). x ∷ l) h
    by false e (p ∷ ps) s h = ap (λ (l : List ℕ). x ∷ l) h

-- ---- the same bytes are equal lists
pub same_eq : (x z : List ℕ) → same x z ≡ true → x ≡ z
unfolding same
same_eq [] [] h = refl
same_eq [] (z ∷ zs) h = absurd (true_not_false (sym h))
same_eq (x ∷ xs) [] h = absurd (true_not_false (sym h))
same_eq (x ∷ xs) (z ∷ zs) h =
    let (i, j) = both (eqb x z) (same xs zs) h in
    ap (λ (c : ℕ). c ∷ xs) (eqb-true x z i) ∙ ap (λ (l : List ℕ). z ∷ l) (same_eq xs zs j)

pub place_is : (f : List ℕ) (gs : List (List ℕ)) → place f gs < length gs → get_or gs (place f gs) [] ≡ f
unfolding place
place_is f [] l = absurd (omega arith)
place_is f (g ∷ gs) l = by (same f g) refl (place_is f gs) l
  where
    by : (t : Bool) → same f g ≡ t → (place f gs < length gs → get_or gs (place f gs) [] ≡ f) → place_after t (place f gs) < suc (length gs) → get_or (g ∷ gs) (place_after t (place f gs)) [] ≡ f
    by true e h k = sym (same_eq f g e)
    by false e h k = h (omega arith)

-- a used name, from its number
pub used_is : (names : List (List ℕ)) (f : List ℕ) (k : ℕ) → used_name names f ≡ accept k → get_or names k [] ≡ f
used_is names f k e =
    let p = used_place names f k e in
    let l = used_below names f k e in
    ap (λ (i : ℕ). get_or names i []) p ∙ place_is f names (omega arith)

-- ---- steps, from their words
module _ (y : Symbols) (few_fluents : length y.fluents ≤ 64) (few_actions : length y.actions ≤ 64) where
  few_names : (kind : ℕ) → length (names_of y kind) ≤ 64
  few_names kind = by (eqb kind 3)
    where
      by : (t : Bool) → length (cond t y.actions y.fluents) ≤ 64
      by true = few_actions
      by false = few_fluents

  step_text_word : (kind index : ℕ) → index < 256 → step_text y (256 * kind + index) ≡ get_or marks kind 0 ∷ get_or (names_of y kind) index []
  step_text_word kind index l =
      let d : (256 * kind + index) / 256 ≡ kind = omega arith in
      let m : (256 * kind + index) % 256 ≡ index = omega arith in
      rw (d, m) refl

  pub step_is : (f : List ℕ) (w : ℕ) → step_word y f ≡ accept w → step_text y w ≡ f
  unfolding step_word
  step_is [] w e = absurd (not_both line_refusals.bad_field w e)
  step_is (mark ∷ name) w e =
      let kind = byte_at mark marks in
      let (k, r) = required (ltb kind 5) line_refusals.bad_field (λ _. step_from kind (used_name (names_of y kind) name)) w e in
      let (index, u, v) = followed (used_name (names_of y kind) name) (λ index. accept (256 * kind + index)) w r in
      let few = few_names kind in
      let low = used_below (names_of y kind) name index u in
      ap (step_text y) (sym (same_value v)) ∙ step_text_word kind index (omega arith)
      ∙ ap (λ (c : ℕ). c ∷ get_or (names_of y kind) index []) (byte_is mark marks (ltb-true kind 5 k))
      ∙ ap (λ (n : List ℕ). mark ∷ n) (used_is (names_of y kind) name index u)

  pub steps_are : (fs : List (List ℕ)) (ws : List ℕ) → step_words y fs ≡ accept ws → map (step_text y) ws ≡ fs
  unfolding step_words
  steps_are [] ws e = ap (map (step_text y)) (sym (same_value e))
  steps_are (f ∷ fs) ws e =
      let (w, u, r) = followed (step_word y f) (λ w. step_words y fs >>= (λ us. accept (w ∷ us))) ws e in
      let (us, v, t) = followed (step_words y fs) (λ us. accept (w ∷ us)) ws r in
      ap (map (step_text y)) (sym (same_value t)) ∙ ap (λ (x : List ℕ). x ∷ map (step_text y) us) (step_is f w u) ∙ ap (λ (l : List (List ℕ)). f ∷ l) (steps_are fs us v)

-- ---- a record word, from what it is
abbrev word_text : Word → List ℕ
word_text Fluent = text "fluent"
word_text Action = text "action"
word_text Rule = text "rule"
word_text Start = text "start"
word_text Goal = text "goal"
word_text Other = []

pub word_is : (f : List ℕ) (w : Word) → word_of f ≡ w → (row w < 5) → f ≡ word_text w
unfolding word_of
word_is f w e l = by (same f (text "fluent")) refl (same f (text "action")) refl (same f (text "rule")) refl (same f (text "start")) refl (same f (text "goal")) refl e
  where
    by : (a : Bool) → same f (text "fluent") ≡ a → (c : Bool) → same f (text "action") ≡ c → (d : Bool) → same f (text "rule") ≡ d → (g : Bool) → same f (text "start") ≡ g → (h : Bool) → same f (text "goal") ≡ h
        → cond a Fluent (cond c Action (cond d Rule (cond g Start (cond h Goal Other)))) ≡ w → f ≡ word_text w
    by true p c q d r g s h t e = same_eq f (text "fluent") p ∙ ap word_text e
    by false p true q d r g s h t e = same_eq f (text "action") q ∙ ap word_text e
    by false p false q true r g s h t e = same_eq f (text "rule") r ∙ ap word_text e
    by false p false q false r true s h t e = same_eq f (text "start") s ∙ ap word_text e
    by false p false q false r false s true t e = same_eq f (text "goal") t ∙ ap word_text e
    by false p false q false r false s false t e = let i = ap row e in absurd (omega arith)
