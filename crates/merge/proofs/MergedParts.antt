-- The parts of two sheets together are those of the two books together. Assumes nothing.
use Prim.Native.Nat.{ℕ, suc, ◌+◌, ◌*◌, ◌/◌, ◌%◌, ◌≤◌, ◌<◌}
use native.Mathlib.Omega.{arith}
use mathlib.Core.Path.{◌≡◌, refl, ap, sym, ◌∙◌, subst⁻¹}
use mathlib.Core.Bool.{Bool, true, false, cond}
use mathlib.Core.List.Memᴰ
use mathlib.Core.List.{List, [], ◌∷◌, ◌++◌, map, Memᴰ, append-nil, append_assoc}
use mathlib.Core.Logic.{◌⊎◌, inl, inr}
use lib.ListN.{length, get_or, drop, get_or-append}
use lib.Seq.{take-append_seam}
use lib.Dec.{ltb, eqb}
use borrow.Author.Tests.{ltb-true, lt-ltb}
use Rattle.steps.specs.State.{State, holds, added}
use Rattle.steps.specs.Inner.{inserted}
use Rattle.steps.specs.Acceptance.{good_step}
use Rattle.steps.proofs.EachBelow.{both}
use Rattle.chars.specs.Bytes.{text, LF}
use Rattle.chars.specs.Places.{same, place, place_after, among}
use Rattle.fields.specs.Book.{Symbols, Book, rule_words, joined}
use Rattle.fields.specs.Field.{marks, names_of}
use Rattle.fields.specs.Verdict.{accept}
use Rattle.fields.proofs.Verdicts.{same_value}
use Rattle.lines.specs.Line.{Reading, line}
use Rattle.sheet.proofs.Valid.{GoodRule}
use Rattle.writer.specs.Text.{tabbed, line_text, step_text, rule_fields, holding, text_of}
use Rattle.writer.proofs.StepsBack.{Named, names_count}
use Rattle.writer.proofs.NamesApart.{adds_named}
use Rattle.writer.proofs.Undoing.{place_is}
use Rattle.writer.proofs.LinesBack.{rule_back}
use Rattle.writer.proofs.TextLines.{rule_line}
use Rattle.writer.proofs.Proper.{Proper}
use Rattle.parts.specs.Parts.{inserted_in, wrapped}
use Rattle.parts.specs.Texts.{text_parts}
use Rattle.merge.specs.Joined.{together, both_names, step_in, rule_in, start_in, book_over, both_books}
use Rattle.merge.proofs.Together.{with_one, among_member, member_among, not_member, no_member, member_below, together_more}
use Rattle.merge.proofs.Joins.{NamesFit}
use Rattle.merge.proofs.ProperBoth.{fluents_first, actions_alone, both_named, place_of, in_kind, low, rule_in_words, member_good}
use Rattle.merge.proofs.SheetParts.{tab, rule_tail}

-- ---- lists together under a map that keeps members apart
module _ (f : List ℕ → List ℕ) where
  into : {x : List ℕ} {xs : List (List ℕ)} → Memᴰ x xs → Memᴰ (f x) (map f xs)
  into (Memᴰ.head e) = Memᴰ.head (ap f e)
  into (Memᴰ.tail m) = Memᴰ.tail (into m)

  out_of : (z : List ℕ) (xs : List (List ℕ)) → Memᴰ z (map f xs) → (x : List ℕ) × Memᴰ x xs × (z ≡ f x)
  out_of z [] m = absurd (Memᴰ.not-nil m)
  out_of z (x ∷ xs) (Memᴰ.head e) = (x, Memᴰ.head refl, e)
  out_of z (x ∷ xs) (Memᴰ.tail m) = let (y, k, e) = out_of z xs m in (y, Memᴰ.tail k, e)

  map_snoc : (xs : List (List ℕ)) (x : List ℕ) → map f (xs ++ (x ∷ [])) ≡ map f xs ++ (f x ∷ [])
  map_snoc [] x = refl
  map_snoc (y ∷ ys) x = ap (λ (l : List (List ℕ)). f y ∷ l) (map_snoc ys x)

  module _ (P : List ℕ → Type 0) (apart : (x y : List ℕ) → P x → P y → f x ≡ f y → x ≡ y) where
    among_map : (y : List ℕ) (xs : List (List ℕ)) → P y → ((x : List ℕ) → Memᴰ x xs → P x) → among (f y) (map f xs) ≡ among y xs
    among_map y xs p h = by (among y xs) refl
      where
        by : (v : Bool) → among y xs ≡ v → among (f y) (map f xs) ≡ among y xs
        by true e = member_among (f y) (map f xs) (into (among_member y xs e)) ∙ sym e
        by false e =
            not_member (f y) (map f xs) (λ m. let (x, k, i) = out_of (f y) xs m in no_member y xs e (subst⁻¹ (λ (z : List ℕ). Memᴰ z xs) (apart y x p (h x k) i) k)) ∙ sym e

    map_one : (y : List ℕ) (xs : List (List ℕ)) → P y → ((x : List ℕ) → Memᴰ x xs → P x) → map f (with_one xs y) ≡ with_one (map f xs) (f y)
    map_one y xs p h = by (among y xs) ∙ ap (λ (v : Bool). cond v (map f xs) (map f xs ++ (f y ∷ []))) (sym (among_map y xs p h))
      where
        by : (v : Bool) → map f (cond v xs (xs ++ (y ∷ []))) ≡ cond v (map f xs) (map f xs ++ (f y ∷ []))
        by true = refl
        by false = map_snoc xs y

    still : (y : List ℕ) (xs : List (List ℕ)) → P y → ((x : List ℕ) → Memᴰ x xs → P x) → (x : List ℕ) → Memᴰ x (with_one xs y) → P x
    still y xs p h x = by (among y xs)
      where
        either : Memᴰ x xs ⊎ Memᴰ x (y ∷ []) → P x
        either (inl m) = h x m
        either (inr m) = subst⁻¹ P (Memᴰ.eq_of_singleton m) p

        by : (v : Bool) → Memᴰ x (cond v xs (xs ++ (y ∷ []))) → P x
        by true m = h x m
        by false m = either (Memᴰ.append_cases xs m)

    pub map_together : (xs ys : List (List ℕ)) → ((x : List ℕ) → Memᴰ x xs → P x) → ((y : List ℕ) → Memᴰ y ys → P y) → map f (together xs ys) ≡ together (map f xs) (map f ys)
    unfolding together
    map_together xs [] h k = refl
    map_together xs (y ∷ ys) h k =
        let p = k y (Memᴰ.head refl) in
        map_together (with_one xs y) ys (still y xs p h) (λ x m. k x (Memᴰ.tail m)) ∙ ap (λ (l : List (List ℕ)). together l (map f ys)) (map_one y xs p h)

-- ---- names behind tabs
pub tabs_together : (xs ys : List (List ℕ)) → map tab (together xs ys) ≡ together (map tab xs) (map tab ys)
tabs_together xs ys = map_together tab (λ _. Unit {0}) (λ x y p q e. ap (drop 1) e) xs ys (λ x m. tt) (λ x m. tt)

pub place_tab : (n : List ℕ) (ns : List (List ℕ)) → place (tab n) (map tab ns) ≡ place n ns
unfolding place same
place_tab n [] = refl
place_tab n (m ∷ ns) = ap (place_after (same n m)) (place_tab n ns)

pub held_tabs : (k : ℕ) (st : State) (ns : List (List ℕ)) → holding k st (map tab ns) ≡ map tab (holding k st ns)
unfolding holding
held_tabs k st [] = refl
held_tabs k st (n ∷ ns) = by (held_tabs (suc k) st ns) (holds st k)
  where
    by : holding (suc k) st (map tab ns) ≡ map tab (holding (suc k) st ns) → (v : Bool) → cond v (tab n ∷ holding (suc k) st (map tab ns)) (holding (suc k) st (map tab ns)) ≡ map tab (cond v (n ∷ holding (suc k) st ns) (holding (suc k) st ns))
    by r true = ap (λ (l : List (List ℕ)). tab n ∷ l) r
    by r false = r

-- the start, by the code's form
pub start_tabs : (all : List (List ℕ)) → length all ≤ 64 → (k : ℕ) (s : State) (ns : List (List ℕ)) (to : State) → ((n : List ℕ) → Memᴰ n ns → Memᴰ n all)
    → inserted_in (map tab all) k s (map tab ns) to ≡ start_in all k s ns to
unfolding inserted_in start_in
start_tabs all l k s [] to h = refl
start_tabs all l k s (n ∷ ns) to h =
    ap (λ (x : State). inserted_in (map tab all) (suc k) s (map tab ns) (cond (holds s k) x to)) one ∙ start_tabs all l (suc k) s ns (cond (holds s k) (added to (place n all)) to) (λ x m. h x (Memᴰ.tail m))
  where
    one : inserted to (place (tab n) (map tab all)) ≡ added to (place n all)
    one =
        let b = member_below n all (h n (Memᴰ.head refl)) in
        ap (inserted to) (place_tab n all) ∙ ap (λ (v : Bool). cond v (added to (place n all)) to) (lt-ltb (place n all) 64 (omega arith))

-- ---- rules
-- equal lines of good rules are of equal rules
module _ (y : Symbols) (fluents : Named y.fluents) (actions : Named y.actions) where
  abbrev blank : Reading
  blank = record { book = record { names = y; rules = []; start = 0; goal = [] }; stage = 2; started = false }

  read_one : (r : List ℕ) → GoodRule (length y.fluents) (length y.actions) r → line blank (rule_line y r) ≡ accept (record { book = record { names = y; rules = r ∷ []; start = 0; goal = [] }; stage = 2; started = false })
  read_one r g =
      ap (λ (r : List ℕ). line blank (rule_line y r)) g.is
      ∙ rule_back y fluents actions blank refl g.head g.steps (omega arith) (omega arith) g.action g.good
      ∙ ap (λ (r : List ℕ). accept (record { book = record { names = y; rules = r ∷ []; start = 0; goal = [] }; stage = 2; started = false })) (sym g.is)

  pub rules_apart : (r t : List ℕ) → GoodRule (length y.fluents) (length y.actions) r → GoodRule (length y.fluents) (length y.actions) t → rule_tail y r ≡ rule_tail y t → r ≡ t
  rules_apart r t g h e =
      ap (λ (b : Reading). get_or b.book.rules 0 []) (same_value (sym (read_one r g) ∙ ap (λ (x : List ℕ). line blank (text "rule" ++ x)) e ∙ read_one t h))

-- a rule's fields, from its words
rule_fields_are : (y : Symbols) (head : ℕ) (steps : List ℕ) → rule_fields y (rule_words head steps) ≡ get_or y.actions head [] ∷ map (step_text y) steps
rule_fields_are y head steps = ap (λ (ws : List ℕ). get_or y.actions head [] ∷ map (step_text y) ws) (take-append_seam steps _)

-- a name of the first list
name_kept : (xs ys : List (List ℕ)) (k : ℕ) → k < length xs → get_or (together xs ys) k [] ≡ get_or xs k []
name_kept xs ys k h = let (zs, e) = together_more xs ys in ap (λ (x : List (List ℕ)). get_or x k []) e ∙ get_or-append xs zs [] k h

map_each : (f g : List ℕ → List ℕ) (xs : List (List ℕ)) → ((i : ℕ) → i < length xs → f (get_or xs i []) ≡ g (get_or xs i [])) → map f xs ≡ map g xs
map_each f g [] h = refl
map_each f g (x ∷ xs) h = ap (λ (z : List ℕ). z ∷ map f xs) (h 0 (omega arith)) ∙ ap (λ (l : List (List ℕ)). g x ∷ l) (map_each f g xs (λ i l. h (suc i) (omega arith)))

map_twice : (f h : List ℕ → List ℕ) (xs : List (List ℕ)) → map f (map h xs) ≡ map (λ x. f (h x)) xs
map_twice f h [] = refl
map_twice f h (x ∷ xs) = ap (λ (l : List (List ℕ)). f (h x) ∷ l) (map_twice f h xs)

module _ (a b : Book) (p : Proper a) (q : Proper b) (f : NamesFit a b) where
  abbrev m : Symbols
  m = both_names a.names b.names

  named_fluents : Named m.fluents
  named_fluents = adds_named [] m.fluents (fluents_first m (both_named a b p q f))

  named_actions : Named m.actions
  named_actions = adds_named [] m.actions (actions_alone m (both_named a b p q f))

  -- ---- the first's steps and rules
  step_first : (w : ℕ) → good_step (length a.names.fluents) (length a.names.actions) w ≡ true → step_text m w ≡ step_text a.names w
  unfolding good_step
  step_first w g =
      let (k, i) = both (ltb (w / 256) 5) (ltb (w % 256) (cond (eqb (w / 256) 3) (length a.names.actions) (length a.names.fluents))) g in
      ap (λ (n : List ℕ). get_or marks (w / 256) 0 ∷ n) (by (eqb (w / 256) 3) (ltb-true (w % 256) _ i))
    where
      by : (t : Bool) → w % 256 < cond t (length a.names.actions) (length a.names.fluents) → get_or (cond t m.actions m.fluents) (w % 256) [] ≡ get_or (cond t a.names.actions a.names.fluents) (w % 256) []
      by true l = name_kept a.names.actions b.names.actions (w % 256) l
      by false l = name_kept a.names.fluents b.names.fluents (w % 256) l

  steps_first : (ws : List ℕ) → ((i : ℕ) → i < length ws → good_step (length a.names.fluents) (length a.names.actions) (get_or ws i 0) ≡ true) → map (step_text m) ws ≡ map (step_text a.names) ws
  steps_first [] h = refl
  steps_first (w ∷ ws) h = ap (λ (z : List ℕ). z ∷ map (step_text m) ws) (step_first w (h 0 (omega arith))) ∙ ap (λ (l : List (List ℕ)). step_text a.names w ∷ l) (steps_first ws (λ i l. h (suc i) (omega arith)))

  rule_first : (r : List ℕ) → GoodRule (length a.names.fluents) (length a.names.actions) r → rule_tail m r ≡ rule_tail a.names r
  rule_first r g =
      ap (rule_tail m) g.is ∙ ap tabbed (rule_fields_are m g.head g.steps)
      ∙ ap (λ (n : List ℕ). tabbed (n ∷ map (step_text m) g.steps)) (name_kept a.names.actions b.names.actions g.head g.action)
      ∙ ap (λ (l : List (List ℕ)). tabbed (get_or a.names.actions g.head [] ∷ l)) (steps_first g.steps g.good.each)
      ∙ ap tabbed (sym (rule_fields_are a.names g.head g.steps)) ∙ ap (rule_tail a.names) (sym g.is)

  -- ---- the second's
  step_second : (w : ℕ) → good_step (length b.names.fluents) (length b.names.actions) w ≡ true → step_text m (step_in m b.names w) ≡ step_text b.names w
  unfolding good_step
  step_second w g =
      let (k, i) = both (ltb (w / 256) 5) (ltb (w % 256) (cond (eqb (w / 256) 3) (length b.names.actions) (length b.names.fluents))) g in
      let name = get_or (names_of b.names (w / 256)) (w % 256) [] in
      let j = place name (names_of m (w / 256)) in
      let c : ℕ = cond (eqb (w / 256) 3) (length m.actions) (length m.fluents) in
      let l : j < c = in_kind a b p q f (w / 256) (w % 256) (ltb-true (w % 256) _ i) in
      let u : c ≤ 64 = low a b p q f (eqb (w / 256) 3) in
      let n : c ≡ length (names_of m (w / 256)) = names_count m named_fluents named_actions (w / 256) in
      let d : (256 * (w / 256) + j) / 256 ≡ w / 256 = omega arith in
      let e : (256 * (w / 256) + j) % 256 ≡ j = omega arith in
      rw (d, e) (ap (λ (x : List ℕ). get_or marks (w / 256) 0 ∷ x) (place_is name (names_of m (w / 256)) (omega arith)))

  steps_second : (ws : List ℕ) → ((i : ℕ) → i < length ws → good_step (length b.names.fluents) (length b.names.actions) (get_or ws i 0) ≡ true) → map (step_text m) (map (step_in m b.names) ws) ≡ map (step_text b.names) ws
  steps_second [] h = refl
  steps_second (w ∷ ws) h =
      ap (λ (z : List ℕ). z ∷ map (step_text m) (map (step_in m b.names) ws)) (step_second w (h 0 (omega arith)))
      ∙ ap (λ (l : List (List ℕ)). step_text b.names w ∷ l) (steps_second ws (λ i l. h (suc i) (omega arith)))

  rule_second : (r : List ℕ) → GoodRule (length b.names.fluents) (length b.names.actions) r → rule_tail m (rule_in m b.names r) ≡ rule_tail b.names r
  rule_second r g =
      let name = get_or b.names.actions g.head [] in
      let ws = map (step_in m b.names) g.steps in
      ap (rule_tail m) (rule_in_words m b.names (length b.names.fluents) (length b.names.actions) r g) ∙ ap tabbed (rule_fields_are m (place name m.actions) ws)
      ∙ ap (λ (n : List ℕ). tabbed (n ∷ map (step_text m) ws)) (place_is name m.actions (place_of a b p q f g.head a.names.actions b.names.actions g.action))
      ∙ ap (λ (l : List (List ℕ)). tabbed (name ∷ l)) (steps_second g.steps g.good.each)
      ∙ ap tabbed (sym (rule_fields_are b.names g.head g.steps)) ∙ ap (rule_tail b.names) (sym g.is)

  pub rules_together : map (rule_tail m) (both_books a b).rules ≡ together (map (rule_tail a.names) a.rules) (map (rule_tail b.names) b.rules)
  unfolding book_over
  rules_together =
      map_together (rule_tail m) (GoodRule (length m.fluents) (length m.actions)) (rules_apart m named_fluents named_actions) a.rules (map (rule_in m b.names) b.rules)
      (λ r i. member_good a b p q f r (inl i)) (λ r i. member_good a b p q f r (inr i))
      ∙ ap (λ (x : List (List ℕ)). together x (map (rule_tail m) (map (rule_in m b.names) b.rules))) (map_each (rule_tail m) (rule_tail a.names) a.rules (λ i l. rule_first (get_or a.rules i []) (p.valid.rules i l)))
      ∙ ap (together (map (rule_tail a.names) a.rules)) (map_twice (rule_tail m) (rule_in m b.names) b.rules ∙ map_each (λ r. rule_tail m (rule_in m b.names r)) (rule_tail b.names) b.rules (λ i l. rule_second (get_or b.rules i []) (q.valid.rules i l)))

  pub goal_first : map (step_text m) a.goal ≡ map (step_text a.names) a.goal
  goal_first = steps_first a.goal p.valid.goal.each

-- ---- the text, part by part
lines_wrapped : (w : List ℕ) (g : List ℕ → List (List ℕ)) (h : List ℕ → List ℕ) → ((x : List ℕ) → tabbed (g x) ≡ h x) → (xs : List (List ℕ)) → joined (map (λ x. line_text w (g x)) xs) ≡ wrapped w (LF ∷ []) (map h xs)
unfolding wrapped
lines_wrapped w g h e [] = refl
lines_wrapped w g h e (x ∷ xs) =
    ap (λ (l : List ℕ). l ++ joined (map (λ x. line_text w (g x)) xs)) (ap (λ (t : List ℕ). w ++ (t ++ (LF ∷ []))) (e x) ∙ sym (append_assoc w (h x) (LF ∷ [])))
    ∙ ap (λ (l : List ℕ). ((w ++ h x) ++ (LF ∷ [])) ++ l) (lines_wrapped w g h e xs)

bare_wrapped : (ns : List (List ℕ)) → wrapped [] [] (map tab ns) ≡ tabbed ns
unfolding wrapped
bare_wrapped [] = refl
bare_wrapped (n ∷ ns) = ap (λ (l : List ℕ). l ++ wrapped [] [] (map tab ns)) (append-nil (tab n)) ∙ ap (λ (l : List ℕ). tab n ++ l) (bare_wrapped ns)

one_wrapped : (w t : List ℕ) → w ++ (t ++ (LF ∷ [])) ≡ wrapped w (LF ∷ []) (t ∷ [])
unfolding wrapped
one_wrapped w t = sym (append-nil ((w ++ t) ++ (LF ∷ [])) ∙ append_assoc w t (LF ∷ []))

pub text_of_parts : (b : Book) → text_of b ≡ text_parts (map tab b.names.fluents) (map tab b.names.actions) (map (rule_tail b.names) b.rules) (map tab (holding 0 b.start b.names.fluents)) (tabbed (map (step_text b.names) b.goal) ∷ [])
unfolding text_of
text_of_parts b =
    let h = holding 0 b.start b.names.fluents in
    let i = lines_wrapped (text "fluent") (λ n. n ∷ []) tab (λ n. append-nil (tab n)) b.names.fluents in
    let j = lines_wrapped (text "action") (λ n. n ∷ []) tab (λ n. append-nil (tab n)) b.names.actions in
    let k = lines_wrapped (text "rule") (rule_fields b.names) (rule_tail b.names) (λ r. refl) b.rules in
    let s : line_text (text "start") h ≡ (text "start" ++ wrapped [] [] (map tab h)) ++ (LF ∷ []) = sym (append_assoc (text "start") (tabbed h) (LF ∷ [])) ∙ ap (λ (l : List ℕ). (text "start" ++ l) ++ (LF ∷ [])) (sym (bare_wrapped h)) in
    let g = one_wrapped (text "goal") (tabbed (map (step_text b.names) b.goal)) in
    cc
