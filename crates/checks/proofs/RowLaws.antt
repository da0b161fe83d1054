-- What records that 42 does not refuse hold: call records that stand, and numbers that fit few bits. Assumes nothing.
use Prim.Native.Nat.{ℕ, ◌/◌, ◌<◌, ◌≤◌}
use native.Mathlib.Omega.{arith}
use native.Mathlib.Decide.{dec_lt}
use mathlib.Core.Path.{◌≡◌, refl, subst}
use mathlib.Core.Bool.{Bool, true, false, not, ◌&&◌, ◌||◌}
use mathlib.Core.List.{List}
use lib.ListN.{length}
use lib.Dec.{eqb, ltb}
use borrow.Author.Tests.{ltb-true, eqb-true, not-false}
use Rattle.steps.specs.State.{State}
use Rattle.steps.specs.Step.{Step, Body}
use Rattle.steps.specs.Run.{Goal}
use Rattle.steps.specs.Widths.{rule_width}
use Rattle.steps.specs.Acceptance.{each_below, bad_state}
use Rattle.steps.proofs.EachBelow.{both, each_at}
use Rattle.records.specs.Records.{Calls, Answers, Bodies, justified, goal_rule}
use Rattle.records.specs.Bodies.{second_goal, is_goal, bodies_with}
use Rattle.records.proofs.Growth.{Tables, tables}
use Rattle.records.proofs.Justification.{Follow, names, steps, Follows, ends, goes, Justified, justified_out}
use Rattle.records.proofs.Numbers.{fits_with}
use Rattle.checks.specs.Checks.{all_justified, good_row, bad_plain}

-- ---- answers

-- the evidence of a step is a smaller record's number, or 0
module _ {t : Tables} {n : ℕ} where
  follow_most : {x : Step} {s : State} {e : ℕ} {s' : State} → Follow t n x s e s' → e ≤ n
  follow_most (names l r a k) = omega arith
  follow_most (steps d) = omega arith

  follows_most : {xs : Body} {q : ℕ} {s : State} → Follows t n xs q s → (i : ℕ) → q ≤ i → i < 16 → t.answers.evidence n i ≤ n
  follows_most (ends e z) i l h = omega (arith, z i l h)
  follows_most (goes {q = q} f w) i l h = elim (dec_lt q i) [
    | yes k ↦ follows_most w i (omega arith) h
    | no k ↦ (let same : q ≡ i = omega arith in subst (λ (j : ℕ). t.answers.evidence n j ≤ n) same (follow_most f))
  ]

module _ (calls : Calls) (answers : Answers) (bodies : Bodies) (all : all_justified calls answers bodies ≡ true) (x : ℕ) (l : x < answers.count) where
  justified_at : Justified bodies (tables calls answers) x
  unfolding all_justified
  justified_at = justified_out {bodies = bodies} {t = tables calls answers} {n = x} (each_at (λ n. justified calls answers n bodies) answers.count all x l)

  -- a justified record names a call record that stands,
  pub call_stands : answers.call x < calls.count
  call_stands = justified_at.exists

  -- a rule that goes with its action,
  pub rule_goes : bodies.fits (answers.rule x) (calls.action (answers.call x)) ≡ true
  rule_goes = justified_at.fits

  -- and evidence that is at most its own number
  pub evidence_most : (q : ℕ) → q < 16 → answers.evidence x q ≤ x
  evidence_most q h = follows_most justified_at.followed q (omega arith) h

  pub evidence_fits : answers.count ≤ 65536 → (q : ℕ) → q < 16 → answers.evidence x q < 65536
  evidence_fits few q h = omega (arith, evidence_most q h)

-- a rule number that goes with an action is at most 256, the goals'
pub rule_most : (rules : List ℕ) (first second : Bool) (goal goal' : List ℕ) (i a : ℕ) → length rules / rule_width ≤ goal_rule
    → (bodies_with rules first second goal goal').fits i a ≡ true → i ≤ goal_rule
rule_most rules first second goal goal' i a few e = fits_with rules first second goal goal' i a e (i ≤ goal_rule) (λ z g. omega arith) (λ n l h. omega arith)

-- ---- calls

-- the goals' numbers
goal_most : (first second : Bool) (a : ℕ) → is_goal first second a ≡ true → a ≤ second_goal
goal_most first second a = by (second && eqb a second_goal) refl
  where
    by : (b : Bool) → (second && eqb a second_goal) ≡ b → (b || (first && eqb a Goal)) ≡ true → a ≤ second_goal
    by true e h = let z : a ≡ second_goal = eqb-true a second_goal (both second (eqb a second_goal) e).1 in omega arith
    by false e h = let z : a ≡ Goal = eqb-true a Goal (both first (eqb a Goal) h).1 in omega arith

-- the action of a good record is one of at most 64, or a goal's
pub action_most : (first second : Bool) (fluents actions : ℕ) (calls : Calls) (i : ℕ) → actions ≤ 64 → good_row first second fluents actions calls i ≡ true → calls.action i ≤ second_goal
unfolding good_row
action_most first second fluents actions calls i few e =
    by (is_goal first second (calls.action i)) refl (both (is_goal first second (calls.action i) || ltb (calls.action i) actions) (not (bad_state fluents (calls.state i))) e).0
  where
    by : (b : Bool) → is_goal first second (calls.action i) ≡ b → (b || ltb (calls.action i) actions) ≡ true → calls.action i ≤ second_goal
    by true g h = goal_most first second (calls.action i) g
    by false g h = omega (arith, ltb-true (calls.action i) actions h)

-- ---- both tables

-- tables that 42 does not refuse: every call record is good, and every answer justified
module _ (first second : Bool) (fluents actions : ℕ) (bodies : Bodies) (calls : Calls) (answers : Answers) (right : bad_plain first second fluents actions bodies calls answers ≡ false) where
  pub rows_good : each_below calls.count (good_row first second fluents actions calls) ≡ true
  unfolding bad_plain
  rows_good = (both (each_below calls.count (good_row first second fluents actions calls)) _ (not-false _ right)).0

  pub rows_justified : all_justified calls answers bodies ≡ true
  unfolding bad_plain
  rows_justified = (both (each_below calls.count (good_row first second fluents actions calls)) _ (not-false _ right)).1

  -- so no action is over 65, and all fit a byte
  pub actions_most : actions ≤ 64 → (i : ℕ) → i < calls.count → calls.action i ≤ second_goal
  actions_most few i l = action_most first second fluents actions calls i few (each_at (good_row first second fluents actions calls) calls.count rows_good i l)
