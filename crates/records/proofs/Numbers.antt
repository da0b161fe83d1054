-- The rules by their numbers: those of the rule words in order, then 256 for the goal; and what acceptance says of their bodies. Assumes nothing.
use Prim.Native.Nat.{ℕ, ◌+◌, ◌/◌, ◌<◌, ◌≤◌}
use native.Mathlib.Omega.{arith}
use native.Mathlib.Decide.{dec_lt}
use mathlib.Core.Path.{◌≡◌, refl, sym}
use mathlib.Core.Bool.{Bool, true, false, cond, ◌&&◌}
use mathlib.Core.List.{List, Memᴰ}
use lib.ListN.{length}
use lib.Dec.{eqb, ltb}
use borrow.Author.Tests.{ltb-true, lt-ltb, le-ltb, eqb-true, eqb-false, eq-eqb, ne_eqb}
use Rattle.steps.specs.Step.{Step, query, insert, delete, call, deny}
use Rattle.steps.specs.Run.{Goal}
use Rattle.steps.specs.Words.{body_of, head_of, words_of}
use Rattle.steps.specs.Widths.{rule_width}
use Rattle.steps.proofs.EachBelow.{both}
use Rattle.steps.proofs.WordLaws.{Low, words_short}
use Rattle.steps.proofs.AcceptanceLaws.{AcceptedWords, Indexed, goal_indexed, words_indexed_of}
use Rattle.records.specs.Records.{Bodies, bodies_of, goal_rule}
use Rattle.records.proofs.Justification.{Proper}
use Rattle.records.specs.Bodies.{number_at, second_goal, is_goal, bodies_with}

-- Where either party may have a goal.
module _ (rules : List ℕ) (first second : Bool) (goal goal' : List ℕ) where
  abbrev bodies : Bodies
  bodies = bodies_with rules first second goal goal'

  -- what it is for a rule number to go with an action
  pub fits_with : (i a : ℕ) → bodies.fits i a ≡ true → (Q : Type 0) → (i ≡ goal_rule → is_goal first second a ≡ true → Q) → ((i ≡ goal_rule → ⊥) → i < length rules / rule_width → head_of rules i ≡ a → Q) → Q
  fits_with i a e Q g r = by (eqb i goal_rule) refl e
    where
      by : (b : Bool) → eqb i goal_rule ≡ b → cond b (is_goal first second a) (ltb i (length rules / rule_width) && eqb (head_of rules i) a) ≡ true → Q
      by true z h = g (eqb-true i goal_rule z) h
      by false z h = let (l, f) = both (ltb i (length rules / rule_width)) (eqb (head_of rules i) a) h in r (eqb-false i goal_rule z) (ltb-true i (length rules / rule_width) l) (eqb-true (head_of rules i) a f)

  -- every rule number that goes with some action is one of them
  pub numbers_all : (i a : ℕ) → bodies.fits i a ≡ true → (k : ℕ) × (k < length rules / rule_width + 1) × (number_at (length rules / rule_width) k ≡ i)
  unfolding number_at
  numbers_all i a e = fits_with i a e _
      (λ z g. (length rules / rule_width, omega arith, rw (le-ltb (length rules / rule_width) (length rules / rule_width) (omega arith)) (sym z)))
      (λ n l h. (i, omega arith, rw (lt-ltb i (length rules / rule_width) l) refl))

  -- rules are walked in the order of their numbers
  pub lower_number : length rules / rule_width ≤ goal_rule → (i a k : ℕ) → bodies.fits i a ≡ true → k ≤ length rules / rule_width → i < number_at (length rules / rule_width) k → (j : ℕ) × (j < k) × (number_at (length rules / rule_width) j ≡ i)
  unfolding number_at
  lower_number few i a k f h l = let (j, g, e) = numbers_all i a f in by j g e (dec_lt j k)
    where
      low : (j : ℕ) → k ≤ j → j < length rules / rule_width + 1 → cond (ltb k (length rules / rule_width)) k goal_rule ≤ cond (ltb j (length rules / rule_width)) j goal_rule
      low j x y = cases (dec_lt k (length rules / rule_width)) (dec_lt j (length rules / rule_width))
        where
          cases : Dec (k < length rules / rule_width) → Dec (j < length rules / rule_width) → cond (ltb k (length rules / rule_width)) k goal_rule ≤ cond (ltb j (length rules / rule_width)) j goal_rule
          cases (yes p) (yes q) = rw (lt-ltb k (length rules / rule_width) p, lt-ltb j (length rules / rule_width) q) x
          cases (yes p) (no q) = rw (lt-ltb k (length rules / rule_width) p, le-ltb j (length rules / rule_width) (omega arith)) (omega arith)
          cases (no p) (yes q) = absurd (omega arith)
          cases (no p) (no q) = rw (le-ltb k (length rules / rule_width) (omega arith), le-ltb j (length rules / rule_width) (omega arith)) (omega arith)

      by : (j : ℕ) → j < length rules / rule_width + 1 → cond (ltb j (length rules / rule_width)) j goal_rule ≡ i → Dec (j < k) → (j : ℕ) × (j < k) × (cond (ltb j (length rules / rule_width)) j goal_rule ≡ i)
      by j g e (yes q) = (j, q, e)
      by j g e (no q) = absurd (omega (arith, low j (omega arith) g))

  -- the words of a rule and of a goal
  words_goal_with : (i a : ℕ) → i ≡ goal_rule → bodies.words i a ≡ cond (second && eqb a second_goal) goal' goal
  words_goal_with i a z = rw (eq-eqb i goal_rule z) refl

  words_rule_with : (i a : ℕ) → (i ≡ goal_rule → ⊥) → bodies.words i a ≡ words_of rules i
  words_rule_with i a n = rw (ne_eqb i goal_rule n) refl

  module _ {fluents actions : ℕ} (acc : AcceptedWords fluents actions rules goal) (acc' : AcceptedWords fluents actions rules goal') where
    indexed_low : (x : Step) → Indexed fluents actions x → Low x
    indexed_low (query p) h = omega (arith, acc.few_fluents)
    indexed_low (insert p) h = omega (arith, acc.few_fluents)
    indexed_low (delete p) h = omega (arith, acc.few_fluents)
    indexed_low (deny p) h = omega (arith, acc.few_fluents)
    indexed_low (call a) h = tt

    either_short : (b : Bool) → length (cond b goal' goal) ≤ 16
    either_short true = acc'.short
    either_short false = acc.short

    either_low : (b : Bool) (x : Step) → Memᴰ x (body_of (cond b goal' goal)) → Low x
    either_low true x m = indexed_low x (goal_indexed acc' x m)
    either_low false x m = indexed_low x (goal_indexed acc x m)

    -- Accepted bodies have at most 16 steps, of fluents that a state has.
    pub proper_with : Proper bodies
    proper_with = record {
      short = λ i a e. fits_with i a e _
          (λ z g. rw (words_goal_with i a z) (either_short (second && eqb a second_goal)))
          (λ n l h. rw (words_rule_with i a n) (omega (arith, words_short rules i, acc.counts i l)));
      low = λ i a e x. fits_with i a e (Memᴰ x (body_of (bodies.words i a)) → Low x)
          (λ z g m. either_low (second && eqb a second_goal) x (rw (words_goal_with i a z) at m))
          (λ n l h m. indexed_low x (words_indexed_of acc i l x (rw (words_rule_with i a n) at m)));
    }

module _ (rules goal : List ℕ) where
  -- a run alone
  pub fits_cases : (i a : ℕ) → (bodies_of rules goal).fits i a ≡ true → (Q : Type 0) → (i ≡ goal_rule → a ≡ Goal → Q) → ((i ≡ goal_rule → ⊥) → i < length rules / rule_width → head_of rules i ≡ a → Q) → Q
  fits_cases i a e Q g r = fits_with rules true false goal goal i a e Q (λ z h. g z (eqb-true a Goal h)) r

  -- the words of a rule and of the goal
  pub words_goal : (i a : ℕ) → i ≡ goal_rule → (bodies_of rules goal).words i a ≡ goal
  words_goal i a z = rw (eq-eqb i goal_rule z) refl

  pub words_rule : (i a : ℕ) → (i ≡ goal_rule → ⊥) → (bodies_of rules goal).words i a ≡ words_of rules i
  words_rule i a n = rw (ne_eqb i goal_rule n) refl

  pub proper_of : {fluents actions : ℕ} → AcceptedWords fluents actions rules goal → Proper (bodies_of rules goal)
  proper_of acc = proper_with rules true false goal goal acc acc
