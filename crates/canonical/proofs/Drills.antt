-- D1 takes 5 rounds and D2 takes 4; and how many records there are after each. Assumes nothing.
use Prim.Native.Nat.{ℕ, zero, suc, ◌<◌}
use native.Mathlib.Omega.{arith}
use mathlib.Core.Path.{◌≡◌, refl}
use mathlib.Core.Logic.{◌≢◌}
use mathlib.Core.List.{List, [], ◌∷◌, map}
use lib.ListN.{length}
use Rattle.steps.specs.Elementary.{elementary}
use Rattle.steps.specs.Words.{step_by}
use Rattle.canonical.specs.Rows.{Rows}
use Rattle.canonical.specs.Rounds.{after_round, Settled}
use Rattle.canonical.proofs.AfterRounds.{size, settled_by_sizes}
use Rattle.canonical.proofs.Vectors.{d1_rules, d1, d2_rules, d2, three_rules, three}

-- how many records there are after each of the rounds 0 to 6
abbrev sizes : (ℕ → Rows) → List (ℕ × ℕ)
sizes t = map (λ (r : ℕ). (length (t r).calls, length (t r).answers)) (0 ∷ 1 ∷ 2 ∷ 3 ∷ 4 ∷ 5 ∷ 6 ∷ [])

-- ---- D1

pub d1_sizes : sizes d1 ≡ (1, 0) ∷ (2, 0) ∷ (3, 0) ∷ (3, 1) ∷ (3, 2) ∷ (3, 3) ∷ (3, 3) ∷ []
unfolding after_round step_by elementary
d1_sizes = refl

d1_size : (r : ℕ) → r < 5 → size (d1 (suc r)) ≢ size (d1 r)
unfolding after_round step_by elementary
d1_size zero h e = absurd (omega (arith, e))
d1_size (suc zero) h e = absurd (omega (arith, e))
d1_size (suc (suc zero)) h e = absurd (omega (arith, e))
d1_size (suc (suc (suc zero))) h e = absurd (omega (arith, e))
d1_size (suc (suc (suc (suc zero)))) h e = absurd (omega (arith, e))
d1_size (suc (suc (suc (suc (suc r))))) h e = absurd (omega arith)

-- "D1 takes 5."
pub d1_settled : Settled d1_rules (769 ∷ []) 0 5
unfolding after_round step_by elementary
d1_settled = settled_by_sizes d1_rules (769 ∷ []) (omega arith) 0 5 d1_size refl

-- ---- D2

pub d2_sizes : sizes d2 ≡ (1, 0) ∷ (2, 0) ∷ (2, 1) ∷ (2, 3) ∷ (2, 4) ∷ (2, 4) ∷ (2, 4) ∷ []
unfolding after_round step_by elementary
d2_sizes = refl

d2_size : (r : ℕ) → r < 4 → size (d2 (suc r)) ≢ size (d2 r)
unfolding after_round step_by elementary
d2_size zero h e = absurd (omega (arith, e))
d2_size (suc zero) h e = absurd (omega (arith, e))
d2_size (suc (suc zero)) h e = absurd (omega (arith, e))
d2_size (suc (suc (suc zero))) h e = absurd (omega (arith, e))
d2_size (suc (suc (suc (suc r)))) h e = absurd (omega arith)

-- "D2 takes 4."
pub d2_settled : Settled d2_rules (768 ∷ []) 0 4
unfolding after_round step_by elementary
d2_settled = settled_by_sizes d2_rules (768 ∷ []) (omega arith) 0 4 d2_size refl

-- ---- the third

pub three_sizes : sizes three ≡ (1, 0) ∷ (2, 0) ∷ (2, 3) ∷ (5, 3) ∷ (5, 8) ∷ (5, 11) ∷ (5, 11) ∷ []
unfolding after_round step_by elementary
three_sizes = refl

three_size : (r : ℕ) → r < 5 → size (three (suc r)) ≢ size (three r)
unfolding after_round step_by elementary
three_size zero h e = absurd (omega (arith, e))
three_size (suc zero) h e = absurd (omega (arith, e))
three_size (suc (suc zero)) h e = absurd (omega (arith, e))
three_size (suc (suc (suc zero))) h e = absurd (omega (arith, e))
three_size (suc (suc (suc (suc zero)))) h e = absurd (omega (arith, e))
three_size (suc (suc (suc (suc (suc r))))) h e = absurd (omega arith)

pub three_settled : Settled three_rules (768 ∷ 768 ∷ []) 0 5
unfolding after_round step_by elementary
three_settled = settled_by_sizes three_rules (768 ∷ 768 ∷ []) (omega arith) 0 5 three_size refl
