-- A goal judged word by word. Assumes nothing.
use Prim.Native.Nat.{ℕ, ◌/◌, ◌<◌, ◌≤◌}
use native.Mathlib.Omega.{arith}
use native.Mathlib.Decide.{dec_lt}
use mathlib.Core.Path.{◌≡◌, refl, sym, ◌∙◌}
use mathlib.Core.Bool.{Bool, true, false, ◌||◌}
use mathlib.Core.List.{List}
use lib.ListN.{length, get_or}
use lib.Dec.{ltb}
use borrow.Author.Tests.{lt-ltb, le-ltb, ltb-false}
use Rattle.steps.specs.Acceptance.{each_below, good_step, bad_goal}
use Rattle.steps.proofs.EachBelow.{true_not_false, each_not}
use Rattle.accounts.specs.Accounts.{GoalRead}

-- A word of more than 16 bits is no good step.
pub word_bad : (fluents actions w : ℕ) → 65535 < w → good_step fluents actions w ≡ false
unfolding good_step
word_bad fluents actions w l = rw (le-ltb (w / 256) 5 (omega arith)) refl

pub left_false : (b c : Bool) → (b || c) ≡ false → b ≡ false
left_false true c h = absurd (true_not_false h)
left_false false c h = refl

pub right_false : (b c : Bool) → (b || c) ≡ false → c ≡ false
right_false true c h = absurd (true_not_false h)
right_false false c h = h

module _ (fluents actions : ℕ) (goal : List ℕ) where
  pub too_long : 16 < length goal → bad_goal fluents actions goal ≡ true
  unfolding bad_goal
  too_long l = rw (lt-ltb 16 (length goal) l) refl

  pub step_bad : length goal ≤ 16 → (i : ℕ) → i < length goal → good_step fluents actions (get_or goal i 0) ≡ false → bad_goal fluents actions goal ≡ true
  unfolding bad_goal
  step_bad short i l b = rw (le-ltb 16 (length goal) short, each_not _ _ i l b) refl

  pub all_good : length goal ≤ 16 → each_below (length goal) (λ i. good_step fluents actions (get_or goal i 0)) ≡ true → bad_goal fluents actions goal ≡ false
  unfolding bad_goal
  all_good short e = rw (le-ltb 16 (length goal) short, e) refl

  pub goal_short : bad_goal fluents actions goal ≡ false → length goal ≤ 16
  unfolding bad_goal
  goal_short h = omega (arith, ltb-false 16 (length goal) (left_false (ltb 16 (length goal)) _ h))

-- A goal that is read and not bad has at most 16 steps.
pub read_few : (fluents actions : ℕ) {goal places places' : List ℕ} {r : ℕ} → GoalRead goal places places' r → bad_goal fluents actions goal ≡ false → r ≤ 16
read_few fluents actions {r = r} g b = elim (dec_lt 16 r) [ yes l ↦ absurd (true_not_false (sym (g.none l fluents actions) ∙ b)) | no l ↦ omega arith ]
