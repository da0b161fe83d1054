-- What the parts of two accepted sheets tell of their merge. Assumes nothing.
use Prim.Native.Nat.{ℕ, ◌-◌, ◌≤◌}
use native.Mathlib.Omega.{arith}
use mathlib.Core.Path.{◌≡◌, refl, ap, sym, ◌∙◌, subst}
use mathlib.Core.Bool.{Bool, true, false, cond, ◌||◌}
use mathlib.Core.List.{List, [], ◌∷◌, ◌++◌, map}
use lib.ListN.{length, length-map}
use lib.Dec.{ltb}
use borrow.Author.Tests.{le-ltb, ltb-false}
use Rattle.refusals.specs.Sheet.{sheet_refusals, line_refusals}
use Rattle.refusals.specs.Text.{text_refusals}
use Rattle.steps.specs.State.{State}
use Rattle.chars.specs.Bytes.{text}
use Rattle.chars.specs.Pieces.{lines}
use Rattle.chars.specs.Places.{meets}
use Rattle.fields.specs.Book.{Symbols, Book}
use Rattle.lines.specs.Reader.{Outcome, read_sheet, refused, written}
use Rattle.sheet.proofs.ValidSheets.{sheet_valid}
use Rattle.writer.specs.Text.{tabbed, step_text, holding, text_of}
use Rattle.writer.proofs.Shorter.{sheet_whole, whole_told}
use Rattle.writer.proofs.Proper.{Proper}
use Rattle.writer.proofs.ProperSheets.{sheet_proper}
use Rattle.parts.specs.Parts.{Grows, parts_from, section, inserted_in}
use Rattle.parts.proofs.PartLists.{parts_length}
use Rattle.parts.proofs.Turns.{holding_few}
use Rattle.parts.specs.declared.Layout.{Layout}
use Rattle.parts.specs.Texts.{Ordered, text_parts, text_in}
use Rattle.merge.specs.Joined.{together, both_names, crossed, book_over, both_books}
use Rattle.merge.specs.Merge.{faulty, joins, judge, merge_of}
use Rattle.merge.specs.Inner.{fault_of, Few, Laid}
use Rattle.merge.proofs.Together.{together_right}
use Rattle.merge.proofs.Joins.{NamesFit}
use Rattle.merge.proofs.SheetParts.{tab, rule_tail, fluent_parts, action_parts, rule_parts, goal_parts}
use Rattle.merge.proofs.MergedParts.{tabs_together, place_tab, held_tabs, start_tabs, rules_together, goal_first, text_of_parts}

-- ---- an accepted sheet's parts
pub few : (s : List ℕ) (a : Book) → read_sheet s ≡ written a → Few s
few s a e =
    let v = sheet_valid s a e in
    let f = ap length (fluent_parts s a e) ∙ length-map a.names.fluents tab in
    let c = ap length (action_parts s a e) ∙ length-map a.names.actions tab in
    let r = ap length (rule_parts s a e) ∙ length-map a.rules (rule_tail a.names) in
    let g = ap length (goal_parts s a e) in
    record { short = (whole_told s (sheet_whole s a e)).0; fluents = omega (arith, v.few_fluents); actions = omega (arith, v.few_actions); rules = omega (arith, v.few_rules); goal = omega arith }

-- ---- refusals
pub first_faulty : (s t : List ℕ) (k n : ℕ) → read_sheet s ≡ refused k n → merge_of s t ≡ faulty k 1 n
unfolding merge_of
first_faulty s t k n e = ap (λ (o : Outcome). elim o [ refused number line ↦ faulty number 1 line | written a ↦ elim (read_sheet t) [ refused number line ↦ faulty number 2 line | written b ↦ judge a b ] ]) e

pub second_faulty : (s t : List ℕ) (a : Book) (k n : ℕ) → read_sheet s ≡ written a → read_sheet t ≡ refused k n → merge_of s t ≡ faulty k 2 n
unfolding merge_of
second_faulty s t a k n e f =
    ap (λ (o : Outcome). elim o [ refused number line ↦ faulty number 1 line | written a ↦ elim (read_sheet t) [ refused number line ↦ faulty number 2 line | written b ↦ judge a b ] ]) e
    ∙ ap (λ (o : Outcome). elim o [ refused number line ↦ faulty number 2 line | written b ↦ judge a b ]) f

pub both_read : (s t : List ℕ) (a b : Book) → read_sheet s ≡ written a → read_sheet t ≡ written b → merge_of s t ≡ judge a b
unfolding merge_of
both_read s t a b e f =
    ap (λ (o : Outcome). elim o [ refused number line ↦ faulty number 1 line | written a ↦ elim (read_sheet t) [ refused number line ↦ faulty number 2 line | written b ↦ judge a b ] ]) e
    ∙ ap (λ (o : Outcome). elim o [ refused number line ↦ faulty number 2 line | written b ↦ judge a b ]) f

-- names behind tabs meet as the names do
meets_tabs : (xs ys : List (List ℕ)) → meets (map tab xs) (map tab ys) ≡ meets xs ys
meets_tabs [] ys = refl
meets_tabs (x ∷ xs) ys = rw (place_tab x ys, length-map ys tab, meets_tabs xs ys) refl

module _ (s t : List ℕ) (a b : Book) (e : read_sheet s ≡ written a) (f : read_sheet t ≡ written b) where
  abbrev S : List ℕ → List (List ℕ)
  S w = section w (lines s)

  abbrev T : List ℕ → List (List ℕ)
  T w = section w (lines t)

  abbrev m : Symbols
  m = both_names a.names b.names

  abbrev p : Proper a
  p = sheet_proper s a e

  abbrev q : Proper b
  q = sheet_proper t b f

  pub fluents_are : together (S (text "fluent")) (T (text "fluent")) ≡ map tab m.fluents
  fluents_are = ap (λ (x : List (List ℕ)). together x (T (text "fluent"))) (fluent_parts s a e) ∙ ap (together (map tab a.names.fluents)) (fluent_parts t b f) ∙ sym (tabs_together a.names.fluents b.names.fluents)

  actions_are : together (S (text "action")) (T (text "action")) ≡ map tab m.actions
  actions_are = ap (λ (x : List (List ℕ)). together x (T (text "action"))) (action_parts s a e) ∙ ap (together (map tab a.names.actions)) (action_parts t b f) ∙ sym (tabs_together a.names.actions b.names.actions)

  rules_are : NamesFit a b → together (S (text "rule")) (T (text "rule")) ≡ map (rule_tail m) (both_books a b).rules
  rules_are n = ap (λ (x : List (List ℕ)). together x (T (text "rule"))) (rule_parts s a e) ∙ ap (together (map (rule_tail a.names) a.rules)) (rule_parts t b f) ∙ sym (rules_together a b p q n)

  crossed_is : (meets (S (text "fluent")) (T (text "action")) || meets (S (text "action")) (T (text "fluent"))) ≡ crossed a.names b.names
  unfolding crossed
  crossed_is = rw (fluent_parts s a e, action_parts t b f, action_parts s a e, fluent_parts t b f, meets_tabs a.names.fluents b.names.actions, meets_tabs a.names.actions b.names.fluents) refl

  count_fluents : length (together (S (text "fluent")) (T (text "fluent"))) ≡ length m.fluents
  count_fluents = ap length fluents_are ∙ length-map m.fluents tab

  count_actions : length (together (S (text "action")) (T (text "action"))) ≡ length m.actions
  count_actions = ap length actions_are ∙ length-map m.actions tab

  count_rules : NamesFit a b → length (together (S (text "rule")) (T (text "rule"))) ≡ length (both_books a b).rules
  count_rules n = ap length (rules_are n) ∙ length-map (both_books a b).rules (rule_tail m)

  abbrev number : ℕ
  number = fault_of (S (text "fluent")) (T (text "fluent")) (S (text "action")) (T (text "action")) (S (text "rule")) (T (text "rule"))

  -- what the judge says: before the text's length
  pub record Judged (n : ℕ) : Type 0 where
    pub no : (n ≡ 0 → ⊥) → judge a b ≡ faulty n 0 0
    pub yes : n ≡ 0 → NamesFit a b × (length (both_books a b).rules ≤ 256) × (judge a b ≡ cond (ltb 65536 (length (text_of (both_books a b)))) (faulty sheet_refusals.too_long 0 0) (joins a b))

  pub judged : Judged number
  unfolding judge book_over
  judged = by (crossed a.names b.names) refl (ltb 64 (length m.fluents)) refl (ltb 64 (length m.actions)) refl
    where
      rest : (x : Bool) → crossed a.names b.names ≡ false → length m.fluents ≤ 64 → length m.actions ≤ 64 → ltb 256 (length (both_books a b).rules) ≡ x → Judged (cond x line_refusals.too_many 0)
      rest true h i j k = record {
        no = λ z. rw (h, le-ltb 64 (length m.fluents) i, le-ltb 64 (length m.actions) j, k) refl;
        yes = λ z. absurd (omega arith);
      }
      rest false h i j k = record {
        no = λ z. absurd (z refl);
        yes = λ z. (record { apart = h; few_fluents = i; few_actions = j }, ltb-false 256 (length (both_books a b).rules) k, rw (h, le-ltb 64 (length m.fluents) i, le-ltb 64 (length m.actions) j, k) refl);
      }

      by : (x : Bool) → crossed a.names b.names ≡ x → (v : Bool) → ltb 64 (length m.fluents) ≡ v → (w : Bool) → ltb 64 (length m.actions) ≡ w → Judged number
      by true h v i w j =
          let e : number ≡ text_refusals.both_kinds = rw (crossed_is, h) refl in
          let g : Judged text_refusals.both_kinds = record { no = λ z. rw h refl; yes = λ z. absurd (omega arith) } in
          subst Judged (sym e) g
      by false h true i w j =
          let e : number ≡ line_refusals.too_many = rw (crossed_is, h, count_fluents, i) refl in
          let g : Judged line_refusals.too_many = record { no = λ z. rw (h, i) refl; yes = λ z. absurd (omega arith) } in
          subst Judged (sym e) g
      by false h false i true j =
          let e : number ≡ line_refusals.too_many = rw (crossed_is, h, count_fluents, i, count_actions, j) refl in
          let g : Judged line_refusals.too_many = record { no = λ z. rw (h, i, j) refl; yes = λ z. absurd (omega arith) } in
          subst Judged (sym e) g
      by false h false i false j =
          let i' = ltb-false 64 (length m.fluents) i in
          let j' = ltb-false 64 (length m.actions) j in
          let n : NamesFit a b = record { apart = h; few_fluents = i'; few_actions = j' } in
          let e : number ≡ cond (ltb 256 (length (both_books a b).rules)) line_refusals.too_many 0 = rw (crossed_is, h, count_fluents, i, count_actions, j, count_rules n) refl in
          subst Judged (sym e) (rest (ltb 256 (length (both_books a b).rules)) h i' j' refl)

  -- ---- the text
  pub start_is : NamesFit a b → inserted_in (together (S (text "fluent")) (T (text "fluent"))) 0 b.start (T (text "fluent")) a.start ≡ (both_books a b).start
  unfolding book_over
  start_is n =
      ap (λ (x : List (List ℕ)). inserted_in x 0 b.start (T (text "fluent")) a.start) fluents_are
      ∙ ap (λ (x : List (List ℕ)). inserted_in (map tab m.fluents) 0 b.start x a.start) (fluent_parts t b f)
      ∙ start_tabs m.fluents n.few_fluents 0 b.start b.names.fluents a.start (λ x i. together_right x a.names.fluents b.names.fluents i)

  pub text_is : NamesFit a b → (H : List (List ℕ)) → H ≡ holding 0 (both_books a b).start (together (S (text "fluent")) (T (text "fluent")))
      → text_parts (together (S (text "fluent")) (T (text "fluent"))) (together (S (text "action")) (T (text "action"))) (together (S (text "rule")) (T (text "rule"))) H (S (text "goal")) ≡ text_of (both_books a b)
  unfolding book_over
  text_is n H h =
      let st = (both_books a b).start in
      let g : S (text "goal") ≡ tabbed (map (step_text m) a.goal) ∷ [] = goal_parts s a e ∙ ap (λ (x : List (List ℕ)). tabbed x ∷ []) (sym (goal_first a b p q n)) in
      let hs : H ≡ map tab (holding 0 st m.fluents) = h ∙ ap (holding 0 st) fluents_are ∙ held_tabs 0 st m.fluents in
      rw (fluents_are, actions_are, rules_are n, hs, g) (sym (text_of_parts (both_books a b)))

-- ---- two sheets read, their parts laid, and no fault of 70 or 17
module _ (s t list : List ℕ) (l : Layout) (a b : Book) (e : read_sheet s ≡ written a) (f : read_sheet t ≡ written b) (L : Laid s t list l) (n : NamesFit a b) where
  abbrev F : List (List ℕ)
  F = parts_from (s ++ t) list l.fluents.own (l.fluents.end - l.fluents.own)

  pub start_laid : (x y : State) → x ≡ b.start → y ≡ a.start → inserted_in F 0 x (parts_from (s ++ t) list l.fluents.lo (l.fluents.own - l.fluents.lo)) y ≡ (both_books a b).start
  start_laid x y i j = rw (L.fluents.both, L.fluents.second, i, j) (start_is s t a b e f n)

  pub fluents_few : l.fluents.end - l.fluents.own ≤ 64
  fluents_few =
      let c = sym (parts_length (s ++ t) list l.fluents.own (l.fluents.end - l.fluents.own)) ∙ ap length (L.fluents.both ∙ fluents_are s t a b e f) ∙ length-map (both_names a.names b.names).fluents tab in
      omega (arith, n.few_fluents)

  module _ (list' : List ℕ) (held : ℕ) (st : State) (w : st ≡ (both_books a b).start) (G : Grows (length s) (s ++ t) list l.end list' held (holding 0 st F)) where
    held_size : length (holding 0 st F) ≤ 64
    held_size = let k = holding_few 0 st F in let p = parts_length (s ++ t) list l.fluents.own (l.fluents.end - l.fluents.own) in let q = fluents_few in omega arith

    pub ordered : Ordered l held
    ordered =
        let (i, j, k) = L.fluents.order in
        let (i₂, j₂, k₂) = L.actions.order in
        let (i₃, j₃, k₃) = L.rules.order in
        let (o, p, q, r) = L.order in
        let g = G.longer in
        let h = held_size in
        record { fluents = (omega arith, omega arith); actions = (omega arith, omega arith); rules = (omega arith, q); last = (omega arith, omega arith) }

    pub text_laid : text_in (s ++ t) list' l held ≡ text_of (both_books a b)
    text_laid =
        let (i, j, k) = L.fluents.order in
        let (i₂, j₂, k₂) = L.actions.order in
        let (i₃, j₃, k₃) = L.rules.order in
        let (o, p, q, r) = L.order in
        let g = G.longer in
        let d : held - l.end ≡ length (holding 0 st F) = omega arith in
        let f₁ = G.kept l.fluents.own (l.fluents.end - l.fluents.own) (omega arith) ∙ L.fluents.both in
        let f₂ = G.kept l.actions.own (l.actions.end - l.actions.own) (omega arith) ∙ L.actions.both in
        let f₃ = G.kept l.rules.own (l.rules.end - l.rules.own) (omega arith) ∙ L.rules.both in
        let f₄ = ap (parts_from (s ++ t) list' l.end) d ∙ G.new ∙ ap (λ (x : State). holding 0 x F) w ∙ ap (holding 0 (both_books a b).start) L.fluents.both in
        let f₅ = G.kept l.rules.end (l.end - l.rules.end) (omega arith) ∙ L.goal in
        rw (f₁, f₂, f₃, f₄, f₅) (text_is s t a b e f n _ refl)
