-- Laws of quarters: one of them put anew, the others as they were. Assumes nothing.
use Prim.Native.Nat.{ℕ, zero, suc, ◌+◌, ◌-◌, ◌*◌, ◌/◌, ◌%◌, ◌^◌, ◌<◌, ◌≤◌}
use native.Mathlib.Omega.{arith}
use mathlib.Core.Path.{◌≡◌, refl}
use mathlib.Core.Logic.{◌≢◌}
use Rattle.quarters.specs.Quarters.{quarter, Changed}

-- ---- quarters by their divisors
pub quarter_0 : (w : ℕ) → quarter w 0 ≡ w % 65536
unfolding quarter
quarter_0 w = omega arith

pub quarter_1 : (w : ℕ) → quarter w 1 ≡ w / 65536 % 65536
unfolding quarter
quarter_1 w = refl

pub quarter_2 : (w : ℕ) → quarter w 2 ≡ w / 4294967296 % 65536
unfolding quarter
quarter_2 w = refl

pub quarter_3 : (w : ℕ) → quarter w 3 ≡ w / 281474976710656 % 65536
unfolding quarter
quarter_3 w = refl

pub quarter_small : (w j : ℕ) → quarter w j < 65536
unfolding quarter
quarter_small w j = omega arith

-- ---- one quarter changed

pub four : (P : ℕ → Type 0) → P 0 → P 1 → P 2 → P 3 → (k : ℕ) → k < 4 → P k
four P a b c d zero l = a
four P a b c d (suc zero) l = b
four P a b c d (suc (suc zero)) l = c
four P a b c d (suc (suc (suc zero))) l = d
four P a b c d (suc (suc (suc (suc k)))) l = absurd (omega arith)

-- Quarter j of w is taken away and v put in its place: nothing falls below 0, all stays a word, and the other quarters stay.
module _ (w v : ℕ) (small : v ≤ 65535) where
  pub taken_fits : (j : ℕ) → j < 4 → w / 65536 ^ j % 65536 * 65536 ^ j ≤ w
  taken_fits = four (λ j. w / 65536 ^ j % 65536 * 65536 ^ j ≤ w) (omega arith) (omega arith) (omega arith) (omega arith)

  pub given_fits : (j : ℕ) → j < 4 → v * 65536 ^ j < 2 ^ 64
  given_fits = four (λ j. v * 65536 ^ j < 2 ^ 64) (omega arith) (omega arith) (omega arith) (omega arith)

  abbrev pub changed : ℕ → ℕ
  changed j = w - w / 65536 ^ j % 65536 * 65536 ^ j + v * 65536 ^ j

  pub changed_fits : w < 2 ^ 64 → (j : ℕ) → j < 4 → changed j < 2 ^ 64
  changed_fits l = four (λ j. changed j < 2 ^ 64) (omega arith) (omega arith) (omega arith) (omega arith)

  here : (j : ℕ) → j < 4 → quarter (changed j) j ≡ v
  unfolding quarter
  here = four (λ j. quarter (changed j) j ≡ v) (omega arith) (omega arith) (omega arith) (omega arith)

  beside : (j : ℕ) → j < 4 → (k : ℕ) → k < 4 → k ≢ j → quarter (changed j) k ≡ quarter w k
  unfolding quarter
  beside = four (λ j. (k : ℕ) → k < 4 → k ≢ j → quarter (changed j) k ≡ quarter w k)
      (four (λ k. k ≢ 0 → quarter (changed 0) k ≡ quarter w k) (λ n. absurd (n refl)) (λ n. omega arith) (λ n. omega arith) (λ n. omega arith))
      (four (λ k. k ≢ 1 → quarter (changed 1) k ≡ quarter w k) (λ n. omega arith) (λ n. absurd (n refl)) (λ n. omega arith) (λ n. omega arith))
      (four (λ k. k ≢ 2 → quarter (changed 2) k ≡ quarter w k) (λ n. omega arith) (λ n. omega arith) (λ n. absurd (n refl)) (λ n. omega arith))
      (four (λ k. k ≢ 3 → quarter (changed 3) k ≡ quarter w k) (λ n. omega arith) (λ n. omega arith) (λ n. omega arith) (λ n. absurd (n refl)))

  pub quarter_changed : (j : ℕ) → j < 4 → Changed w j v (changed j)
  quarter_changed j l = record { here = here j l; beside = beside j l }

-- ---- what one in a quarter counts

pub unit_shl : (j : ℕ) → j < 4 → 1 * 2 ^ (16 * j) % 2 ^ 64 ≡ 65536 ^ j
unit_shl = four (λ j. 1 * 2 ^ (16 * j) % 2 ^ 64 ≡ 65536 ^ j) refl refl refl refl

pub unit_positive : (j : ℕ) → j < 4 → 0 < 65536 ^ j
unit_positive = four (λ j. 0 < 65536 ^ j) (omega arith) (omega arith) (omega arith) (omega arith)
