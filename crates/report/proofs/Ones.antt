-- The count of ones of a word is the sum of its bits. Assumes nothing.
use Prim.Native.Nat.{ℕ, zero, suc, ◌*◌, ◌/◌, ◌%◌, ◌^◌, ◌<◌, ◌≤◌}
use native.Mathlib.Nat.{mod-lt, div-lt_iff_lt-mul, pow-suc}
use native.Mathlib.Omega.{arith}
use mathlib.Core.Path.{◌≡◌, refl, sym, ap, ◌∙◌}
use lib.Arith.{lt-one}
use lib.Count.{ones, ones_cat}
use lib.Pow.{pow_pos, split}
use mathlib.Core.List.{List}
use lib.ListN.{get_or}
use Rattle.steps.specs.State.{State, bit}
use Rattle.steps.proofs.StateLaws.{low_bit}
use Rattle.report.specs.Figures.{sum_below, held}
use Rattle.report.proofs.Sums.{sum_same, sum_le}

one_bit : (a : ℕ) → a < 2 → ones a ≡ a % 2
unfolding ones
one_bit zero l = refl
one_bit (suc zero) l = refl
one_bit (suc (suc a)) l = absurd (omega arith)

-- a number of k bits
pub ones_sum : (k s : ℕ) → s < 2 ^ k → ones s ≡ sum_below k (bit s)
unfolding sum_below ones
ones_sum zero s l = ap ones (lt-one l)
ones_sum (suc k) s l =
    let top = s / 2 ^ k in
    let low = s % 2 ^ k in
    let small : top < 2 = (div-lt_iff_lt-mul (pow_pos k)).1 (omega (arith, pow-suc 2 k)) in
    let below : low < 2 ^ k = mod-lt s (pow_pos k) in
    let same : sum_below k (bit low) ≡ sum_below k (bit s) = sum_same k (bit low) (bit s) (λ i h. low_bit s i k h) in
    ap ones (sym (split s k)) ∙ ones_cat k top low below ∙ omega (arith, one_bit top small, ones_sum k low below ∙ same)

-- ---- how great the counts are

module _ (ends : List State) (n : ℕ) where
  pub holding_le : (k : ℕ) → sum_below n (λ i. bit (get_or ends i 0) k) ≤ n
  holding_le k = omega (arith, sum_le n 1 (λ i. bit (get_or ends i 0) k) (λ i l. omega arith))

  pub all_held_le : sum_below n (λ i. held (get_or ends i 0)) ≤ n * 64
  all_held_le = sum_le n 64 (λ i. held (get_or ends i 0)) (λ i l. omega (arith, sum_le 64 1 (bit (get_or ends i 0)) (λ k h. omega arith)))
