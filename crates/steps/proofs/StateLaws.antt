-- Laws of a state's bits. Assumes nothing.
use Prim.Native.Nat.{ℕ, zero, suc, ◌+◌, ◌-◌, ◌*◌, ◌/◌, ◌%◌, ◌^◌, ◌<◌, ◌≤◌}
use mathlib.Core.Bool.{Bool, true, false, cond, not, ◌||◌, ◌&&◌}
use mathlib.Core.Path.{◌≡◌, refl, sym, ap, subst, ◌∙◌}
use native.Mathlib.Nat.{div-eq_of_lt, div-lt_iff_lt-mul, lt-div-mul-add, mul-le-mul_right, add-mul, add-div_right, add-mul-div_right, le-div_iff_mul-le, mod-lt, pow-suc, one-mul}
use native.Mathlib.Omega.{arith}
use native.Mathlib.Decide.{dec_lt, ℕ_discrete}
use lib.Pow.{pow_pos, pow_mono, pow-add, split, field, shl_exact, shr-shr}
use lib.Arith.{digits_div, mod-mul, lt_of_le-ne}
use lib.Dec.{eqb, ltb, lit<}
use borrow.Author.Tests.{ltb-true, ltb-false, eqb-true, eqb-false, eq-eqb, ne_eqb}
use Rattle.steps.specs.State.{bit, holds, added, removed}

room_at : (s p x : ℕ) → 0 < p → s < x * 2 * p → s / p % 2 ≡ 0 → s + p < x * 2 * p
room_at s p x pos h e =
    let under : s / p < x * 2 = (div-lt_iff_lt-mul pos).1 h in
    let even : s / p + 2 ≤ x * 2 = omega arith in
    let wide : (s / p + 2) * p ≤ x * 2 * p = mul-le-mul_right p even in
    let top : s < s / p * p + p = lt-div-mul-add pos in
    omega (arith, add-mul (s / p) 2 p)

-- 2 ^ j for a j above k
above : (j k : ℕ) → k < j → 2 ^ j ≡ 2 ^ (j - suc k) * 2 * 2 ^ k
above j k h =
    let e : j ≡ suc (j - suc k) + k = omega arith in
    ap (λ (n : ℕ). 2 ^ n) e ∙ pow-add 2 (suc (j - suc k)) k ∙ ap (λ (n : ℕ). n * 2 ^ k) (pow-suc 2 (j - suc k))

-- a state without bit k has room for it
pub room : (w k s : ℕ) → k < w → s < 2 ^ w → bit s k ≡ 0 → s + 2 ^ k < 2 ^ w
room w k s h l e =
    let r : s + 2 ^ k < 2 ^ (w - suc k) * 2 * 2 ^ k = room_at s (2 ^ k) (2 ^ (w - suc k)) (pow_pos k) (subst (λ (n : ℕ). s < n) (above w k h) l) e in
    subst (λ (n : ℕ). s + 2 ^ k < n) (sym (above w k h)) r

pub set_same : (s k : ℕ) → bit s k ≡ 0 → bit (s + 2 ^ k) k ≡ 1
set_same s k e = omega (arith, add-div_right s (pow_pos k))

set_below : (s k j : ℕ) → j < k → bit (s + 2 ^ k) j ≡ bit s j
set_below s k j h =
    let e : (s + 2 ^ k) / 2 ^ j ≡ s / 2 ^ j + 2 ^ (k - suc j) * 2 = ap (λ (n : ℕ). (s + n) / 2 ^ j) (above k j h) ∙ add-mul-div_right s (2 ^ (k - suc j) * 2) (pow_pos j) in
    omega arith

-- the low digits have the same bit
pub low_bit : (s k j : ℕ) → k < j → bit (s % 2 ^ j) k ≡ bit s k
low_bit s k j h =
    let e : j ≡ suc (j - suc k) + k = omega arith in
    let f : s % 2 ^ j / 2 ^ k ≡ s / 2 ^ k % 2 ^ suc (j - suc k) = ap (λ (n : ℕ). s % 2 ^ n / 2 ^ k) e ∙ field s (suc (j - suc k)) k in
    let g : s / 2 ^ k % 2 ^ suc (j - suc k) ≡ (s / 2 ^ k / 2 % 2 ^ (j - suc k)) * 2 + s / 2 ^ k % 2 = ap (λ (n : ℕ). s / 2 ^ k % n) (pow-suc 2 (j - suc k)) ∙ mod-mul (s / 2 ^ k) (pow_pos (j - suc k)) (omega arith) in
    omega arith

set_above : (s k j : ℕ) → k < j → bit s k ≡ 0 → bit (s + 2 ^ k) j ≡ bit s j
set_above s k j h e =
    let r : s % 2 ^ j + 2 ^ k < 2 ^ j = room j k (s % 2 ^ j) h (mod-lt s (pow_pos j)) (low_bit s k j h ∙ e) in
    let d : s + 2 ^ k ≡ s / 2 ^ j * 2 ^ j + (s % 2 ^ j + 2 ^ k) = omega (arith, split s j) in
    ap (λ (n : ℕ). n / 2 ^ j % 2) d ∙ ap (λ (n : ℕ). n % 2) (digits_div (s / 2 ^ j) r)

set_by : (s k j : ℕ) → (j ≡ k → ⊥) → bit s k ≡ 0 → (b : Bool) → ltb j k ≡ b → bit (s + 2 ^ k) j ≡ bit s j
set_by s k j ne e true q = set_below s k j (ltb-true j k q)
set_by s k j ne e false q = set_above s k j (lt_of_le-ne (ltb-false j k q) (λ z. ne (sym z))) e

pub set_other : (s k j : ℕ) → (j ≡ k → ⊥) → bit s k ≡ 0 → bit (s + 2 ^ k) j ≡ bit s j
set_other s k j ne e = set_by s k j ne e (ltb j k) refl

-- a state with bit k is at least 2 ^ k
pub has : (s k : ℕ) → bit s k ≡ 1 → 2 ^ k ≤ s
has s k e =
    let q : 1 ≤ s / 2 ^ k = omega arith in
    omega (arith, (le-div_iff_mul-le (pow_pos k)).0 q)

pub clear_same : (s k : ℕ) → bit s k ≡ 1 → bit (s - 2 ^ k) k ≡ 0
clear_same s k e =
    let b : s - 2 ^ k + 2 ^ k ≡ s = omega (arith, has s k e) in
    let d : s / 2 ^ k ≡ (s - 2 ^ k) / 2 ^ k + 1 = ap (λ (n : ℕ). n / 2 ^ k) (sym b) ∙ add-div_right (s - 2 ^ k) (pow_pos k) in
    omega arith

pub clear_other : (s k j : ℕ) → (j ≡ k → ⊥) → bit s k ≡ 1 → bit (s - 2 ^ k) j ≡ bit s j
clear_other s k j ne e =
    let b : s - 2 ^ k + 2 ^ k ≡ s = omega (arith, has s k e) in
    sym (set_other (s - 2 ^ k) k j ne (clear_same s k e)) ∙ ap (λ (n : ℕ). bit n j) b

-- a number below 2 ^ w has no bit from w on
pub high : (w k s : ℕ) → w ≤ k → s < 2 ^ w → bit s k ≡ 0
high w k s l h = let e : s / 2 ^ k ≡ 0 = div-eq_of_lt (omega (arith, pow_mono l)) in omega arith

pub held_low : (w k s : ℕ) → s < 2 ^ w → bit s k ≡ 1 → k < w
held_low w k s h e = elim (dec_lt k w) [ yes l ↦ l | no n ↦ absurd (omega (arith, high w k s (omega arith) h)) ]

pub held : (s k : ℕ) → holds s k ≡ true → bit s k ≡ 1
held s k e = eqb-true (bit s k) 1 e

pub not_held : (s k : ℕ) → holds s k ≡ false → bit s k ≡ 0
not_held s k e =
    let ne : bit s k ≡ 1 → ⊥ = eqb-false (bit s k) 1 e in
    omega arith

-- the machine's `1 << k`
pub one_shl : (k : ℕ) → k < 64 → 1 * 2 ^ k % 2 ^ 64 ≡ 2 ^ k
one_shl k h = shl_exact {a = 1} 1 k 64 (lit< tt) (omega arith) ∙ one-mul (2 ^ k)

-- ---- numbers by their bits

-- 0 has no bit
pub no_bit : (i : ℕ) → bit 0 i ≡ 0
no_bit i = high 0 i 0 (omega arith) (omega arith)

-- the bits above the first
pub bit_suc : (n i : ℕ) → bit n (suc i) ≡ bit (n / 2) i
bit_suc n i = ap (λ (m : ℕ). m % 2) (sym (shr-shr n 1 i ∙ ap (λ (j : ℕ). n / 2 ^ j) (omega arith)))

pub bit_zero : (n : ℕ) → bit n 0 ≡ n % 2
bit_zero n = omega arith

-- numbers with the same bits are the same
pub bits_same : (w s t : ℕ) → s < 2 ^ w → t < 2 ^ w → ((i : ℕ) → i < w → bit s i ≡ bit t i) → s ≡ t
bits_same zero s t hs ht f = omega arith
bits_same (suc w) s t hs ht f =
    let e : s % 2 ≡ t % 2 = sym (bit_zero s) ∙ f 0 (omega arith) ∙ bit_zero t in
    let above : (i : ℕ) → i < w → bit (s / 2) i ≡ bit (t / 2) i = λ i l. sym (bit_suc s i) ∙ f (suc i) (omega arith) ∙ bit_suc t i in
    let d : s / 2 ≡ t / 2 = bits_same w (s / 2) (t / 2) (omega (arith, pow-suc 2 w)) (omega (arith, pow-suc 2 w)) above in
    omega arith

-- ---- updates as sets: fluent k is added to, or removed from, what holds

pub holds_added : (s k j : ℕ) → holds (added s k) j ≡ (eqb j k || holds s j)
holds_added s k j = by (holds s k) refl (ℕ_discrete j k)
  where
    by : (b : Bool) → holds s k ≡ b → Dec (j ≡ k) → holds (cond b s (s + 2 ^ k)) j ≡ (eqb j k || holds s j)
    by true e (yes z) = rw (eq-eqb j k z, z) e
    by true e (no n) = rw (ne_eqb j k n) refl
    by false e (yes z) = rw (eq-eqb j k z, z) (ap (λ (b : ℕ). eqb b 1) (set_same s k (not_held s k e)))
    by false e (no n) = rw (ne_eqb j k n) (ap (λ (b : ℕ). eqb b 1) (set_other s k j n (not_held s k e)))

pub holds_removed : (s k j : ℕ) → holds (removed s k) j ≡ (not (eqb j k) && holds s j)
holds_removed s k j = by (holds s k) refl (ℕ_discrete j k)
  where
    by : (b : Bool) → holds s k ≡ b → Dec (j ≡ k) → holds (cond b (s - 2 ^ k) s) j ≡ (not (eqb j k) && holds s j)
    by true e (yes z) = rw (eq-eqb j k z, z) (ap (λ (b : ℕ). eqb b 1) (clear_same s k (held s k e)))
    by true e (no n) = rw (ne_eqb j k n) (ap (λ (b : ℕ). eqb b 1) (clear_other s k j n (held s k e)))
    by false e (yes z) = rw (eq-eqb j k z, z) e
    by false e (no n) = rw (ne_eqb j k n) refl
