-- What a book that is accepted, or not, says of the refusals of a goal and a start. Assumes nothing.
use Prim.Native.Nat.{ℕ}
use native.Mathlib.Omega.{arith}
use mathlib.Core.Path.{◌≡◌, refl, sym, ap, ◌∙◌}
use mathlib.Core.Bool.{Bool, true, false, cond}
use mathlib.Core.List.{List, []}
use mathlib.Core.Logic.{◌≢◌}
use lib.Dec.{eqb}
use borrow.Author.Tests.{eq-eqb, ne_eqb}
use Rattle.refusals.specs.Run.{run_refusals}
use Rattle.steps.proofs.AcceptanceLaws.{words_accepted}
use Rattle.steps.specs.Acceptance.{each_below, bad_counts, bad_length, bad_rules, bad_goal, bad_state, words_refusal, refusal_of}

module _ (fluents actions : ℕ) (rules goal : List ℕ) where
  -- a goal of no steps is no bad one
  no_goal : bad_goal fluents actions [] ≡ false
  unfolding bad_goal each_below
  no_goal = refl

  -- the first of 20 to 22 and then, by the last test, 23
  abbrev first_of : Bool → Bool → Bool → Bool → ℕ
  first_of b c d e = cond b 20 (cond c 21 (cond d 22 (cond e 23 0)))

  accepted_too : (b c d : Bool) {e : Bool} → first_of b c d false ≡ 0 → e ≡ false → first_of b c d e ≡ 0
  accepted_too true c d h f = absurd (omega (arith, h))
  accepted_too false true d h f = absurd (omega (arith, h))
  accepted_too false false true h f = absurd (omega (arith, h))
  accepted_too false false false h f = rw f refl

  refused_too : (b c d e : Bool) → first_of b c d false ≢ 0 → first_of b c d e ≡ first_of b c d false
  refused_too true c d e h = refl
  refused_too false true d e h = refl
  refused_too false false true e h = refl
  refused_too false false false e h = absurd (h refl)

  book_of_none : words_refusal fluents actions rules [] ≡ first_of (bad_counts fluents actions) (bad_length rules) (bad_rules fluents actions rules) false
  unfolding words_refusal
  book_of_none = rw no_goal refl

  -- An accepted book with a good goal and a good start is accepted with them.
  pub accepted_with : (start : ℕ) → words_refusal fluents actions rules [] ≡ 0 → bad_goal fluents actions goal ≡ false → bad_state fluents start ≡ false
      → refusal_of fluents actions rules goal start ≡ 0
  unfolding words_refusal refusal_of
  accepted_with start h g s =
      let z : words_refusal fluents actions rules goal ≡ 0 =
      accepted_too (bad_counts fluents actions) (bad_length rules) (bad_rules fluents actions rules) (sym book_of_none ∙ h) g in
      rw (eq-eqb _ 0 z, s) refl

  -- A book that is refused is refused with any goal,
  pub refused_any : words_refusal fluents actions rules [] ≢ 0 → words_refusal fluents actions rules goal ≡ words_refusal fluents actions rules []
  unfolding words_refusal
  refused_any h =
      let n : first_of (bad_counts fluents actions) (bad_length rules) (bad_rules fluents actions rules) false ≢ 0 = λ e. h (book_of_none ∙ e) in
      refused_too (bad_counts fluents actions) (bad_length rules) (bad_rules fluents actions rules) (bad_goal fluents actions goal) n ∙ sym book_of_none

  -- and any start.
  pub refused_with_any : (start : ℕ) → words_refusal fluents actions rules [] ≢ 0 → refusal_of fluents actions rules goal start ≡ words_refusal fluents actions rules []
  unfolding refusal_of
  refused_with_any start h = rw (ne_eqb (words_refusal fluents actions rules goal) 0 (λ e. h (sym (refused_any h) ∙ e))) (refused_any h)

  -- An accepted book with a bad goal is refused.
  goal_refused : (b c d : Bool) {e : Bool} → first_of b c d false ≡ 0 → e ≡ true → first_of b c d e ≡ 23
  goal_refused true c d h f = absurd (omega (arith, h))
  goal_refused false true d h f = absurd (omega (arith, h))
  goal_refused false false true h f = absurd (omega (arith, h))
  goal_refused false false false h f = rw f refl

  pub refused_goal : words_refusal fluents actions rules [] ≡ 0 → bad_goal fluents actions goal ≡ true → words_refusal fluents actions rules goal ≡ run_refusals.bad_goal
  unfolding words_refusal
  refused_goal h g = goal_refused (bad_counts fluents actions) (bad_length rules) (bad_rules fluents actions rules) (sym book_of_none ∙ h) g

  -- What is accepted has a good goal,
  last_passed : (b c d e : Bool) → first_of b c d e ≡ 0 → e ≡ false
  last_passed true c d e h = absurd (omega (arith, h))
  last_passed false true d e h = absurd (omega (arith, h))
  last_passed false false true e h = absurd (omega (arith, h))
  last_passed false false false true h = absurd (omega (arith, h))
  last_passed false false false false h = refl

  pub good_goal : (start : ℕ) → refusal_of fluents actions rules goal start ≡ 0 → bad_goal fluents actions goal ≡ false
  unfolding words_refusal
  good_goal start h = last_passed (bad_counts fluents actions) (bad_length rules) (bad_rules fluents actions rules) (bad_goal fluents actions goal) (words_accepted fluents actions rules goal start h)

  -- and a good start.
  pub good_start : (start : ℕ) → refusal_of fluents actions rules goal start ≡ 0 → bad_state fluents start ≡ false
  unfolding refusal_of
  good_start start h = by (bad_state fluents start) (rw (eq-eqb (words_refusal fluents actions rules goal) 0 (words_accepted fluents actions rules goal start h)) at h)
    where
      by : (b : Bool) → ◌≡◌ {A = ℕ} (cond b 24 0) 0 → b ≡ false
      by true e = absurd (omega (arith, e))
      by false e = refl
