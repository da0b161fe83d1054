-- What an elementary step word does, by its kind. Assumes nothing.
use Prim.Native.Nat.{ℕ, zero, suc, ◌/◌, ◌%◌}
use mathlib.Core.Path.{◌≡◌, refl}
use mathlib.Core.Bool.{cond}
use lib.Dec.{ltb}
use Rattle.steps.specs.State.{State, holds, added, removed}
use Rattle.steps.specs.Words.{step_by, step_of}
use Rattle.steps.specs.Elementary.{on, stuck, elementary}

module _ (w : ℕ) (s : State) where
  pub query_word : w / 256 ≡ 0 → elementary (step_of w) s ≡ cond (holds s (w % 256)) (on s) stuck
  unfolding step_by elementary
  query_word e = rw e refl

  pub insert_word : w / 256 ≡ 1 → elementary (step_of w) s ≡ cond (ltb (w % 256) 64) (on (added s (w % 256))) stuck
  unfolding step_by elementary
  insert_word e = rw e refl

  pub delete_word : w / 256 ≡ 2 → elementary (step_of w) s ≡ on (removed s (w % 256))
  unfolding step_by elementary
  delete_word e = rw e refl

  pub call_stuck : w / 256 ≡ 3 → elementary (step_of w) s ≡ stuck
  unfolding step_by elementary
  call_stuck e = rw e refl

deny_by : (k i : ℕ) (s : State) → (k ≡ 0 → ⊥) → (k ≡ 1 → ⊥) → (k ≡ 2 → ⊥) → (k ≡ 3 → ⊥) → elementary (step_by k i) s ≡ cond (holds s i) stuck (on s)
unfolding step_by elementary
deny_by zero i s a b c d = absurd (a refl)
deny_by (suc zero) i s a b c d = absurd (b refl)
deny_by (suc (suc zero)) i s a b c d = absurd (c refl)
deny_by (suc (suc (suc zero))) i s a b c d = absurd (d refl)
deny_by (suc (suc (suc (suc k)))) i s a b c d = refl

pub deny_word : (w : ℕ) (s : State) → (w / 256 ≡ 0 → ⊥) → (w / 256 ≡ 1 → ⊥) → (w / 256 ≡ 2 → ⊥) → (w / 256 ≡ 3 → ⊥) → elementary (step_of w) s ≡ cond (holds s (w % 256)) stuck (on s)
deny_word w s = deny_by (w / 256) (w % 256) s
