-- The book of two books that fit is proper. Assumes nothing.
use Prim.Native.Nat.{ℕ, zero, suc, ◌+◌, ◌*◌, ◌/◌, ◌%◌, ◌^◌, ◌≤◌, ◌<◌}
use native.Mathlib.Omega.{arith}
use mathlib.Core.Path.{◌≡◌, refl, ap, ◌∙◌, subst, subst⁻¹}
use mathlib.Core.Bool.{Bool, true, false, cond}
use mathlib.Core.List.Memᴰ
use mathlib.Core.List.{List, [], ◌∷◌, ◌++◌, map, append-nil, Memᴰ}
use mathlib.Core.Logic.{◌⊎◌, inl, inr}
use lib.ListN.{length, get_or, length-map}
use lib.Seq.{take-append_seam}
use lib.Dec.{ltb, eqb}
use lib.Pow.{pow_mono}
use borrow.Author.Tests.{lt-ltb, ltb-true}
use Rattle.steps.specs.State.{State, holds, added}
use Rattle.steps.specs.Acceptance.{good_step}
use Rattle.steps.proofs.EachBelow.{both}
use Rattle.steps.proofs.StateLaws.{room, not_held}
use Rattle.steps.proofs.Lists.{at_member, member_at}
use Rattle.chars.specs.Places.{place}
use Rattle.fields.specs.Book.{Book, Symbols, rule_words}
use Rattle.fields.specs.Field.{names_of}
use Rattle.sheet.proofs.Valid.{Valid, GoodSteps, GoodRule, steps_more, rule_more}
use Rattle.writer.proofs.NamesApart.{Adds, first_part, second_part, fewer}
use Rattle.writer.proofs.Proper.{Proper}
use Rattle.merge.specs.Joined.{together, both_names, step_in, rule_in, start_in, book_over, both_books}
use Rattle.merge.proofs.Together.{member_below, no_member, together_right, together_out, together_longer, never_meets, adds_member, adds_behind, adds_join, together_adds}
use Rattle.merge.proofs.Joins.{NamesFit, uncrossed}

-- the words of a rule, its names' numbers taken from other names
pub rule_in_words : (m z : Symbols) (f a : ℕ) (r : List ℕ) (g : GoodRule f a r) → rule_in m z r ≡ rule_words (place (get_or z.actions g.head []) m.actions) (map (step_in m z) g.steps)
rule_in_words m z f a r g = ap (rule_in m z) g.is ∙ ap (λ (l : List ℕ). rule_words (place (get_or z.actions g.head []) m.actions) (map (step_in m z) l)) (take-append_seam g.steps _)

-- ---- the names

module _ (y : Symbols) (h : Adds [] (y.fluents ++ y.actions)) where
  pub fluents_first : Adds [] y.fluents
  fluents_first = first_part [] y.fluents y.actions h

  pub actions_then : Adds y.fluents y.actions
  actions_then = second_part [] y.fluents y.actions h

  pub actions_alone : Adds [] y.actions
  actions_alone = fewer y.fluents [] y.actions (subst⁻¹ (λ (l : List (List ℕ)). Adds l y.actions) (append-nil y.fluents) actions_then)

  pub not_both_kinds : (x : List ℕ) → Memᴰ x y.actions → Memᴰ x y.fluents → ⊥
  not_both_kinds x m k = no_member x y.fluents (adds_member y.fluents y.actions actions_then x m).1 k

module _ (a b : Book) (p : Proper a) (q : Proper b) (f : NamesFit a b) where
  abbrev m : Symbols
  m = both_names a.names b.names

  apart : (x : List ℕ) → Memᴰ x m.actions → Memᴰ x m.fluents → ⊥
  apart x i j = by (together_out x a.names.actions b.names.actions i) (together_out x a.names.fluents b.names.fluents j)
    where
      by : Memᴰ x a.names.actions ⊎ Memᴰ x b.names.actions → Memᴰ x a.names.fluents ⊎ Memᴰ x b.names.fluents → ⊥
      by (inl i) (inl j) = not_both_kinds a.names p.named x i j
      by (inl i) (inr j) = never_meets x a.names.actions b.names.fluents (uncrossed a b f.apart).1 i j
      by (inr i) (inl j) = never_meets x a.names.fluents b.names.actions (uncrossed a b f.apart).0 j i
      by (inr i) (inr j) = not_both_kinds b.names q.named x i j

  pub both_named : Adds [] (m.fluents ++ m.actions)
  both_named =
      let g = together_adds a.names.fluents b.names.fluents (fluents_first a.names p.named) (λ y k. (adds_member [] b.names.fluents (fluents_first b.names q.named) y k).0) in
      let h = together_adds a.names.actions b.names.actions (actions_alone a.names p.named) (λ y k. (adds_member [] b.names.actions (actions_alone b.names q.named) y k).0) in
      adds_join [] m.fluents m.actions g (subst (λ (l : List (List ℕ)). Adds l m.actions) (append-nil m.fluents) (adds_behind m.fluents [] m.actions h apart))

  -- ---- the steps and rules of the second
  pub place_of : (k : ℕ) (xs ys : List (List ℕ)) → k < length ys → place (get_or ys k []) (together xs ys) < length (together xs ys)
  place_of k xs ys l = member_below (get_or ys k []) (together xs ys) (together_right (get_or ys k []) xs ys (at_member ys k [] l))

  -- the place of a step's name in all names of its kind
  pub in_kind : (kind index : ℕ) → index < cond (eqb kind 3) (length b.names.actions) (length b.names.fluents) → place (get_or (names_of b.names kind) index []) (names_of m kind) < cond (eqb kind 3) (length m.actions) (length m.fluents)
  in_kind kind index = by (eqb kind 3)
    where
      by : (t : Bool) → index < cond t (length b.names.actions) (length b.names.fluents) → place (get_or (cond t b.names.actions b.names.fluents) index []) (cond t m.actions m.fluents) < cond t (length m.actions) (length m.fluents)
      by true l = place_of index a.names.actions b.names.actions l
      by false l = place_of index a.names.fluents b.names.fluents l

  pub low : (t : Bool) → cond t (length m.actions) (length m.fluents) ≤ 64
  low true = f.few_actions
  low false = f.few_fluents

  step_good : (x : ℕ) → good_step (length b.names.fluents) (length b.names.actions) x ≡ true → good_step (length m.fluents) (length m.actions) (step_in m b.names x) ≡ true
  unfolding good_step
  step_good x g =
      let (k, i) = both (ltb (x / 256) 5) (ltb (x % 256) (cond (eqb (x / 256) 3) (length b.names.actions) (length b.names.fluents))) g in
      let j = place (get_or (names_of b.names (x / 256)) (x % 256) []) (names_of m (x / 256)) in
      let c : ℕ = cond (eqb (x / 256) 3) (length m.actions) (length m.fluents) in
      let l : j < c = in_kind (x / 256) (x % 256) (ltb-true (x % 256) _ i) in
      let u : c ≤ 64 = low (eqb (x / 256) 3) in
      let d : (256 * (x / 256) + j) / 256 ≡ x / 256 = omega arith in
      let e : (256 * (x / 256) + j) % 256 ≡ j = omega arith in
      rw (d, e, k) (lt-ltb j c l)

  steps_good : (ws : List ℕ) → GoodSteps (length b.names.fluents) (length b.names.actions) ws → GoodSteps (length m.fluents) (length m.actions) (map (step_in m b.names) ws)
  steps_good ws g =
      let n = length-map ws (step_in m b.names) in
      record { few = omega (arith, g.few); each = λ i l. each_of ws i (omega arith) g.each }
    where
      each_of : (ws : List ℕ) (i : ℕ) → i < length ws → ((j : ℕ) → j < length ws → good_step (length b.names.fluents) (length b.names.actions) (get_or ws j 0) ≡ true) → good_step (length m.fluents) (length m.actions) (get_or (map (step_in m b.names) ws) i 0) ≡ true
      each_of [] i l h = absurd (omega arith)
      each_of (x ∷ xs) zero l h = step_good x (h 0 (omega arith))
      each_of (x ∷ xs) (suc i) l h = each_of xs i (omega arith) (λ j k. h (suc j) (omega arith))

  pub rule_good : (r : List ℕ) → GoodRule (length b.names.fluents) (length b.names.actions) r → GoodRule (length m.fluents) (length m.actions) (rule_in m b.names r)
  rule_good r g = record {
    head = place (get_or b.names.actions g.head []) m.actions;
    steps = map (step_in m b.names) g.steps;
    is = rule_in_words m b.names (length b.names.fluents) (length b.names.actions) r g;
    action = place_of g.head a.names.actions b.names.actions g.action;
    good = steps_good g.steps g.good;
  }

  mapped : (r : List ℕ) (rs : List (List ℕ)) → Memᴰ r (map (rule_in m b.names) rs) → (i : ℕ) × (i < length rs) × (r ≡ rule_in m b.names (get_or rs i []))
  mapped r [] k = absurd (Memᴰ.not-nil k)
  mapped r (x ∷ rs) (Memᴰ.head e) = (0, omega arith, e)
  mapped r (x ∷ rs) (Memᴰ.tail k) = let (i, l, e) = mapped r rs k in (suc i, omega arith, e)

  pub fluents_more : length a.names.fluents ≤ length m.fluents
  fluents_more = together_longer a.names.fluents b.names.fluents

  pub actions_more : length a.names.actions ≤ length m.actions
  actions_more = together_longer a.names.actions b.names.actions

  pub member_good : (r : List ℕ) → Memᴰ r a.rules ⊎ Memᴰ r (map (rule_in m b.names) b.rules) → GoodRule (length m.fluents) (length m.actions) r
  member_good r (inl k) = by (member_at [] k)
    where
      by : (i : ℕ) × (i < length a.rules) × (get_or a.rules i [] ≡ r) → GoodRule (length m.fluents) (length m.actions) r
      by (i, l, e) = subst (GoodRule (length m.fluents) (length m.actions)) e (rule_more (length a.names.fluents) (length m.fluents) (length a.names.actions) (length m.actions) fluents_more actions_more (get_or a.rules i []) (p.valid.rules i l))
  member_good r (inr k) = by (mapped r b.rules k)
    where
      by : (i : ℕ) × (i < length b.rules) × (r ≡ rule_in m b.names (get_or b.rules i [])) → GoodRule (length m.fluents) (length m.actions) r
      by (i, l, e) = subst⁻¹ (GoodRule (length m.fluents) (length m.actions)) e (rule_good (get_or b.rules i []) (q.valid.rules i l))

  -- ---- the start
  added_low : (s k n : ℕ) → s < 2 ^ n → k < n → added s k < 2 ^ n
  added_low s k n h l = by (holds s k) refl
    where
      by : (t : Bool) → holds s k ≡ t → cond t s (s + 2 ^ k) < 2 ^ n
      by true e = h
      by false e = room n k s l h (not_held s k e)

  start_low : (all ns : List (List ℕ)) (k : ℕ) (s to : State) → ((n : List ℕ) → Memᴰ n ns → Memᴰ n all) → to < 2 ^ length all → start_in all k s ns to < 2 ^ length all
  unfolding start_in
  start_low all [] k s to h l = l
  start_low all (n ∷ ns) k s to h l = start_low all ns (suc k) s (cond (holds s k) (added to (place n all)) to) (λ x i. h x (Memᴰ.tail i)) (by (holds s k))
    where
      by : (t : Bool) → cond t (added to (place n all)) to < 2 ^ length all
      by true = added_low to (place n all) (length all) l (member_below n all (h n (Memᴰ.head refl)))
      by false = l

  pow_more : (x i j : ℕ) → x < 2 ^ i → i ≤ j → x < 2 ^ j
  pow_more x i j h l = omega (arith, pow_mono l)

  pub both_valid : length (both_books a b).rules ≤ 256 → Valid (both_books a b)
  unfolding book_over
  both_valid few = record {
    few_fluents = f.few_fluents;
    few_actions = f.few_actions;
    few_rules = few;
    rules = λ r l. member_good (get_or (both_books a b).rules r []) (together_out (get_or (both_books a b).rules r []) a.rules (map (rule_in m b.names) b.rules) (at_member (both_books a b).rules r [] l));
    goal = steps_more (length a.names.fluents) (length m.fluents) (length a.names.actions) (length m.actions) fluents_more actions_more a.goal p.valid.goal;
    start = start_low m.fluents b.names.fluents 0 b.start a.start (λ n i. together_right n a.names.fluents b.names.fluents i) (pow_more a.start (length a.names.fluents) (length m.fluents) p.valid.start fluents_more);
  }

  pub both_proper : length (both_books a b).rules ≤ 256 → Proper (both_books a b)
  unfolding book_over
  both_proper few = record { valid = both_valid few; named = both_named }
