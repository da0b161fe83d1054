-- The bodies of the rules and of the goals that stand are those that the words kept allow. Assumes nothing.
use Prim.Native.Nat.{ℕ, ◌/◌}
use native.Mathlib.Omega.{arith}
use mathlib.Core.Path.{◌≡◌, refl, sym, ap, subst, ◌∙◌}
use mathlib.Core.Bool.{Bool, true, false, cond, ◌&&◌, ◌||◌}
use mathlib.Core.List.{List, []}
use mathlib.Core.Logic.{⊎_map}
use lib.ListN.{length}
use lib.Dec.{eqb, ltb}
use borrow.Author.Tests.{eqb-true, ne_eqb}
use Rattle.steps.specs.State.{State}
use Rattle.steps.specs.Run.{Goal}
use Rattle.steps.specs.Step.{Body}
use Rattle.steps.specs.Words.{body_of, head_of, words_of}
use Rattle.steps.specs.Widths.{rule_width}
use Rattle.steps.proofs.EachBelow.{true_not_false}
use Rattle.steps.proofs.Tables.{reached_map, ends_map}
use Rattle.steps.proofs.Counting.{outnumbers_map}
use Rattle.records.specs.Records.{Bodies, bodies_of, goal_rule}
use Rattle.records.specs.Bodies.{second_goal, is_goal, bodies_with}
use Rattle.records.proofs.Growth.{Tables}
use Rattle.records.proofs.Justification.{Has}
use Rattle.tabling.proofs.Adding.{Outgrown}
use Rattle.tabling.proofs.Closed.{ClosedAt, Whole}
use Rattle.sharing.specs.Parties.{goal_number, Ledger}
use Rattle.sharing.specs.Charged.{goal_kept, goal_under, bodies_kept}
use Rattle.sharing.proofs.Roots.{MoreBodies, valid_more}

-- The bodies of the rules and of the goals of the parties that hold rows.
abbrev pub bodies_held : List ℕ → Ledger → Bodies
bodies_held rules l = bodies_with rules l.first.holds l.second.holds l.first.goal l.second.goal

goal_same : (f s x y : Bool) → ((s && y) || (f && x)) ≡ ((x && f) || (y && s))
goal_same true true true true = refl
goal_same true true true false = refl
goal_same true true false true = refl
goal_same true true false false = refl
goal_same true false true true = refl
goal_same true false true false = refl
goal_same true false false true = refl
goal_same true false false false = refl
goal_same false true true true = refl
goal_same false true true false = refl
goal_same false true false true = refl
goal_same false true false false = refl
goal_same false false true true = refl
goal_same false false true false = refl
goal_same false false false true = refl
goal_same false false false false = refl

apart : ◌≡◌ {A = ℕ} Goal second_goal → ⊥
apart e = omega (arith, e)

module _ (rules : List ℕ) (l : Ledger) where
  pub fits_same : (i a : ℕ) → (bodies_held rules l).fits i a ≡ (bodies_kept rules l).fits i a
  unfolding goal_kept goal_number
  fits_same i a = by (eqb i goal_rule) refl
    where
      by : (b : Bool) → eqb i goal_rule ≡ b
          → cond b (is_goal l.first.holds l.second.holds a) (ltb i (length rules / rule_width) && eqb (head_of rules i) a) ≡ cond b (goal_kept l a) ((bodies_of rules []).fits i a)
      by true z = goal_same l.first.holds l.second.holds (eqb a Goal) (eqb a second_goal)
      by false z = rw z refl

  -- A goal that stands under its number.
  words_under : (a : ℕ) → is_goal l.first.holds l.second.holds a ≡ true → goal_under l a ≡ cond (l.second.holds && eqb a second_goal) l.second.goal l.first.goal
  unfolding goal_under goal_number
  words_under a h = by l.first.holds l.second.holds (eqb a second_goal) refl h
    where
      by : (f s y : Bool) → eqb a second_goal ≡ y → ((s && y) || (f && eqb a Goal)) ≡ true → cond y l.second.goal l.first.goal ≡ cond (s && y) l.second.goal l.first.goal
      by f true y z h = refl
      by f false false z h = refl
      by true false true z h = absurd (true_not_false (sym h ∙ ne_eqb a Goal (λ e. apart (sym e ∙ eqb-true a second_goal z))))
      by false false true z h = absurd (true_not_false (sym h))

  pub words_same : (i a : ℕ) → (bodies_held rules l).fits i a ≡ true → (bodies_kept rules l).words i a ≡ (bodies_held rules l).words i a
  words_same i a h = by (eqb i goal_rule) refl h
    where
      by : (b : Bool) → eqb i goal_rule ≡ b → cond b (is_goal l.first.holds l.second.holds a) (ltb i (length rules / rule_width) && eqb (head_of rules i) a) ≡ true
          → cond b (goal_under l a) (words_of rules i) ≡ cond b (cond (l.second.holds && eqb a second_goal) l.second.goal l.first.goal) (words_of rules i)
      by true z h = words_under a h
      by false z h = refl

  pub held_more : MoreBodies (bodies_held rules l) (bodies_kept rules l)
  held_more i a h = (sym (fits_same i a) ∙ h, words_same i a h)

  -- Tables closed under them are closed under the bodies that the words kept allow.
  pub whole_kept : {Root : ℕ → State → Type 0} {first : ℕ} {t : Tables} → Whole (bodies_held rules l) Root first t → Whole (bodies_kept rules l) Root first t
  whole_kept {t = t} W = record {
    valid = valid_more (bodies_held rules l) (bodies_kept rules l) held_more W.valid;
    closed = λ r f k i e. (let h = fits_same i (t.calls.action r) ∙ e in
        subst (λ (w : List ℕ). ClosedAt w t t.answers.count r) (sym (words_same i (t.calls.action r) h)) (W.closed r f k i h));
  }

  -- More than there are places for is more under these.
  pub outgrown_held : {Root : ℕ → State → Type 0} (n m : ℕ) → Outgrown (bodies_held rules l) Root n m → Outgrown (bodies_kept rules l) Root n m
  outgrown_held n m o = ⊎_map
      (outnumbers_map n (λ c r. reached_map has (λ a D k. k) r))
      (outnumbers_map m (λ c (r, e). (reached_map has (λ a D k. k) r, ends_map has {a = c.0} e))) o
    where
      has : (a : ℕ) (body : Body) → Has (bodies_held rules l) a body → Has (bodies_kept rules l) a body
      has a body (i, f, e) = let (g, w) = held_more i a f in (i, g, e ∙ ap body_of (sym w))
