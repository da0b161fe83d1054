-- Valid books, and the fields that make them: good steps, names of `start`. Assumes nothing.
use mathlib.Core.Path.{◌≡◌, refl, ap, sym, ◌∙◌, subst}
use mathlib.Core.Bool.{Bool, true, false, cond, not, ◌&&◌}
use mathlib.Core.List.{List, [], ◌∷◌}
use Prim.Native.Nat.{ℕ, zero, suc, ◌+◌, ◌*◌, ◌/◌, ◌%◌, ◌^◌, ◌≤◌, ◌<◌}
use native.Mathlib.Omega.{arith}
use lib.Dec.{ltb, eqb}
use lib.ListN.{length, get_or}
use borrow.Author.Tests.{lt-ltb, ltb-true, not-true}
use Rattle.refusals.specs.Sheet.{line_refusals}
use Rattle.steps.specs.State.{holds, added}
use Rattle.steps.specs.Acceptance.{good_step}
use Rattle.steps.proofs.EachBelow.{both}
use Rattle.steps.proofs.StateLaws.{room, not_held}
use Rattle.chars.specs.Bytes.{is_name}
use Rattle.chars.specs.Places.{place, among, byte_at}
use Rattle.fields.specs.Verdict.{accept, ◌>>=◌}
use Rattle.fields.specs.Book.{Book, Symbols, rule_words}
use Rattle.fields.specs.Field.{used_name, step_word, step_words, names_of, marks, start_name, start_names}
use Rattle.fields.specs.Held.{step_from}
use Rattle.fields.proofs.Verdicts.{followed, required, same_value, not_both}
use Rattle.sheet.proofs.AcceptedLines.{judged_accepted}

-- the step words of a body are good, where there are so many fluents and actions: at most 16, each of one of the five kinds and with an index below the count
pub record GoodSteps (fluents actions : ℕ) (steps : List ℕ) : Type 0 where
  pub few : length steps ≤ 16
  pub each : (i : ℕ) → i < length steps → good_step fluents actions (get_or steps i 0) ≡ true

-- the words of a rule are good: a head that is an action, the count of its steps, these steps, and zeros
pub record GoodRule (fluents actions : ℕ) (words : List ℕ) : Type 0 where
  pub head : ℕ
  pub steps : List ℕ
  pub is : words ≡ rule_words head steps
  pub action : head < actions
  pub good : GoodSteps fluents actions steps

-- a book that meets none of 20 to 24: counts within their limits, good rules and goal, and a start with bits of the fluents alone
pub record Valid (b : Book) : Type 0 where
  pub few_fluents : length b.names.fluents ≤ 64
  pub few_actions : length b.names.actions ≤ 64
  pub few_rules : length b.rules ≤ 256
  pub rules : (r : ℕ) → r < length b.rules → GoodRule (length b.names.fluents) (length b.names.actions) (get_or b.rules r [])
  pub goal : GoodSteps (length b.names.fluents) (length b.names.actions) b.goal
  pub start : b.start < 2 ^ length b.names.fluents

-- more fluents and actions keep what is good: a step word, the words of a body, the words of a rule
module _ (f f' a a' : ℕ) (p : f ≤ f') (q : a ≤ a') where
  step_more : (w : ℕ) → good_step f a w ≡ true → good_step f' a' w ≡ true
  unfolding good_step
  step_more w e =
      let (k, i) = both (ltb (w / 256) 5) (ltb (w % 256) (cond (eqb (w / 256) 3) a f)) e in
      rw k (by (eqb (w / 256) 3) i)
    where
      by : (t : Bool) → ltb (w % 256) (cond t a f) ≡ true → ltb (w % 256) (cond t a' f') ≡ true
      by true i = lt-ltb (w % 256) a' (omega (arith, ltb-true (w % 256) a i))
      by false i = lt-ltb (w % 256) f' (omega (arith, ltb-true (w % 256) f i))

  pub steps_more : (steps : List ℕ) → GoodSteps f a steps → GoodSteps f' a' steps
  steps_more steps g = record { few = g.few; each = λ i l. step_more (get_or steps i 0) (g.each i l) }

  pub rule_more : (words : List ℕ) → GoodRule f a words → GoodRule f' a' words
  rule_more words g = record { head = g.head; steps = g.steps; is = g.is; action = omega (arith, g.action); good = steps_more g.steps g.good }

-- a used name's number is below the count
pub used_below : (names : List (List ℕ)) (f : List ℕ) (k : ℕ) → used_name names f ≡ accept k → k < length names
unfolding used_name
used_below names f k e =
    let j = judged_accepted (is_name f) true (among f names) (place f names) k e in
    omega (arith, ltb-true (place f names) (length names) j.is_defined, j.value)

-- accepted steps are good steps, where there are at most 64 fluents and 64 actions
module _ (y : Symbols) (few_fluents : length y.fluents ≤ 64) (few_actions : length y.actions ≤ 64) where
  -- each of the words is a good step
  abbrev Each : List ℕ → Type 0
  Each ws = (i : ℕ) → i < length ws → good_step (length y.fluents) (length y.actions) (get_or ws i 0) ≡ true

  -- an index below the count of its kind's names is below 256 too
  index_below : (kind index : ℕ) → index < length (names_of y kind) → (index < cond (eqb kind 3) (length y.actions) (length y.fluents)) × (index < 256)
  index_below kind index = by (eqb kind 3)
    where
      by : (t : Bool) → index < length (cond t y.actions y.fluents) → (index < cond t (length y.actions) (length y.fluents)) × (index < 256)
      by true l = (l, omega arith)
      by false l = (l, omega arith)

  -- 256 times kind plus index is a good step
  word_good : (kind index : ℕ) → kind < 5 → index < length (names_of y kind) → good_step (length y.fluents) (length y.actions) (256 * kind + index) ≡ true
  unfolding good_step
  word_good kind index k l =
      let (i, j) = index_below kind index l in
      let d : (256 * kind + index) / 256 ≡ kind = omega arith in
      let m : (256 * kind + index) % 256 ≡ index = omega arith in
      rw (d, m, lt-ltb kind 5 k) (lt-ltb index (cond (eqb kind 3) (length y.actions) (length y.fluents)) i)

  -- the word of an accepted step is a good step
  step_good : (f : List ℕ) (w : ℕ) → step_word y f ≡ accept w → good_step (length y.fluents) (length y.actions) w ≡ true
  unfolding step_word
  step_good [] w e = absurd (not_both line_refusals.bad_field w e)
  step_good (mark ∷ name) w e =
      let kind = byte_at mark marks in
      let (k, r) = required (ltb kind 5) line_refusals.bad_field (λ _. step_from kind (used_name (names_of y kind) name)) w e in
      let (index, u, v) = followed (used_name (names_of y kind) name) (λ index. accept (256 * kind + index)) w r in
      let g = word_good kind index (ltb-true kind 5 k) (used_below (names_of y kind) name index u) in
      subst (λ (x : ℕ). good_step (length y.fluents) (length y.actions) x ≡ true) (same_value v) g

  -- one good step before others
  each_cons : (w : ℕ) (ws : List ℕ) → good_step (length y.fluents) (length y.actions) w ≡ true → Each ws → Each (w ∷ ws)
  each_cons w ws g e zero l = g
  each_cons w ws g e (suc i) l = e i (omega arith)

  -- the words of accepted steps are good steps, one for each field
  steps_good : (fs : List (List ℕ)) (ws : List ℕ) → step_words y fs ≡ accept ws → (length ws ≡ length fs) × Each ws
  unfolding step_words
  steps_good [] ws e = subst (λ (x : List ℕ). (length x ≡ 0) × Each x) (same_value e) (refl, λ i l. absurd (omega arith))
  steps_good (f ∷ fs) ws e =
      let (w, u, r) = followed (step_word y f) (λ w. step_words y fs >>= (λ us. accept (w ∷ us))) ws e in
      let (us, v, t) = followed (step_words y fs) (λ us. accept (w ∷ us)) ws r in
      let (n, g) = steps_good fs us v in
      subst (λ (x : List ℕ). (length x ≡ suc (length fs)) × Each x) (same_value t) (ap suc n, each_cons w us (step_good f w u) g)

  -- the words of at most 16 accepted steps are a good body
  pub body_good : (fs : List (List ℕ)) (ws : List ℕ) → length fs ≤ 16 → step_words y fs ≡ accept ws → GoodSteps (length y.fluents) (length y.actions) ws
  body_good fs ws l e = let (n, g) = steps_good fs ws e in record { few = omega arith; each = g }

-- the names of `start` set bits below the count of fluents
module _ (y : Symbols) where
  -- one name more
  name_below : (f : List ℕ) (state next : ℕ) → state < 2 ^ length y.fluents → start_name y state f ≡ accept next → next < 2 ^ length y.fluents
  unfolding start_name
  name_below f state next l e =
      let k = place f y.fluents in
      let j = judged_accepted (is_name f) (not (among f y.fluents && holds state k)) (among f y.fluents) (added state k) next e in
      let h : holds state k ≡ false = fresh (among f y.fluents) (holds state k) j.is_defined j.is_fresh in
      let d : added state k ≡ state + 2 ^ k = ap (λ (t : Bool). cond t state (state + 2 ^ k)) h in
      subst (λ (x : ℕ). x < 2 ^ length y.fluents) (sym d ∙ j.value) (room (length y.fluents) k state (ltb-true k (length y.fluents) j.is_defined) l (not_held state k h))
    where
      fresh : (t u : Bool) → t ≡ true → not (t && u) ≡ true → u ≡ false
      fresh t u e n = not-true u (rw e at n)

  -- all names of a line
  pub start_below : (fs : List (List ℕ)) (state last : ℕ) → state < 2 ^ length y.fluents → start_names y state fs ≡ accept last → last < 2 ^ length y.fluents
  unfolding start_names
  start_below [] state last l e = subst (λ (x : ℕ). x < 2 ^ length y.fluents) (same_value e) l
  start_below (f ∷ fs) state last l e =
      let (next, u, r) = followed (start_name y state f) (λ next. start_names y next fs) last e in
      start_below fs next last (name_below f state next l u) r
