-- Euclid's number: it divides both, every common divisor divides it, and a factor of both is a factor of it. Assumes nothing.
use Prim.Native.Nat.{ℕ, zero, suc, ◌+◌, ◌*◌, ◌/◌, ◌%◌, ◌<◌, ◌≤◌, ◌∣◌}
use native.Mathlib.Nat.{div-add-mod, mod-lt, dvd_refl, dvd-zero, dvd-mod_iff, pos_of_dvd_of_pos, mul_assoc, mul_comm, add-mul, mul-pos, mul-lt-mul_of_pos_right}
use native.Mathlib.Omega.{arith}
use mathlib.Core.Path.{◌≡◌, refl, sym, ap, subst, ◌∙◌}
use mathlib.Core.Logic.{◌≢◌}
use mathlib.Core.Bool.{Bool, true, false, cond}
use lib.Dec.{eqb}
use lib.Arith.{digits_mod}
use borrow.Author.Tests.{eq-eqb, ne_eqb, eqb-true, eqb-false}
use Rattle.report.specs.Fraction.{euclid, common}

-- more steps than serve change nothing
enough : (n m a b : ℕ) → b ≤ n → b ≤ m → euclid n a b ≡ euclid m a b
unfolding euclid
enough zero zero a b l k = refl
enough zero (suc m) a b l k = sym (ap (λ (t : Bool). cond t a (euclid m b (a % b))) (eq-eqb b 0 (omega arith)))
enough (suc n) zero a b l k = ap (λ (t : Bool). cond t a (euclid n b (a % b))) (eq-eqb b 0 (omega arith))
enough (suc n) (suc m) a b l k = by (eqb b 0) refl (enough n m b (a % b))
  where
    by : (t : Bool) → eqb b 0 ≡ t → (a % b ≤ n → a % b ≤ m → euclid n b (a % b) ≡ euclid m b (a % b))
        → cond t a (euclid n b (a % b)) ≡ cond t a (euclid m b (a % b))
    by true e later = refl
    by false e later =
        let ne : b ≢ 0 = eqb-false b 0 e in
        let small : a % b < b = mod-lt a (omega arith) in
        later (omega arith) (omega arith)

-- ---- Euclid's steps

pub common_end : (a : ℕ) → common a 0 ≡ a
unfolding euclid
common_end a = refl

pub common_step : (a b : ℕ) → b ≢ 0 → common a b ≡ common b (a % b)
unfolding euclid
common_step a zero ne = absurd (ne refl)
common_step a (suc b) ne =
    let small : a % suc b < suc b = mod-lt a (omega arith) in
    ap (λ (t : Bool). cond t a (euclid b (suc b) (a % suc b))) (ne_eqb (suc b) 0 ne)
    ∙ enough b (a % suc b) (suc b) (a % suc b) (omega arith) (omega arith)

-- ---- the greatest common divisor

-- what divides b and the rest of a by b divides a
whole : (g a b : ℕ) → g ∣ b → g ∣ a % b → g ∣ a
whole g a b p q = (dvd-mod_iff g p).0 q

divides : (n a b : ℕ) → b ≤ n → (euclid n a b ∣ a) × (euclid n a b ∣ b)
unfolding euclid
divides zero a b l = (dvd_refl a, subst (λ (b : ℕ). a ∣ b) (omega arith) (dvd-zero a))
divides (suc n) a b l = by (eqb b 0) refl (divides n b (a % b))
  where
    by : (t : Bool) → eqb b 0 ≡ t → (a % b ≤ n → (euclid n b (a % b) ∣ b) × (euclid n b (a % b) ∣ a % b))
        → (cond t a (euclid n b (a % b)) ∣ a) × (cond t a (euclid n b (a % b)) ∣ b)
    by true e later = (dvd_refl a, subst (λ (b : ℕ). a ∣ b) (sym (eqb-true b 0 e)) (dvd-zero a))
    by false e later =
        let ne : b ≢ 0 = eqb-false b 0 e in
        let small : a % b < b = mod-lt a (omega arith) in
        let (p, q) = later (omega arith) in
        (whole (euclid n b (a % b)) a b p q, p)

pub common_left : (a b : ℕ) → common a b ∣ a
common_left a b = (divides b a b (omega arith)).0

pub common_right : (a b : ℕ) → common a b ∣ b
common_right a b = (divides b a b (omega arith)).1

pub common_pos : (a b : ℕ) → 0 < b → 0 < common a b
common_pos a b pos = pos_of_dvd_of_pos (common_right a b) pos

pub common_greatest : (g n a b : ℕ) → g ∣ a → g ∣ b → g ∣ euclid n a b
unfolding euclid
common_greatest g zero a b p q = p
common_greatest g (suc n) a b p q = by (eqb b 0) (common_greatest g n b (a % b) q ((dvd-mod_iff g q).1 p))
  where
    by : (t : Bool) → g ∣ euclid n b (a % b) → g ∣ cond t a (euclid n b (a % b))
    by true later = p
    by false later = later

-- ---- a factor k of both

mod_factor : (a b k : ℕ) → 0 < b → 0 < k → a * k % (b * k) ≡ a % b * k
mod_factor a b k pb pk =
    let e : a * k ≡ a / b * (b * k) + a % b * k =
    ap (λ (n : ℕ). n * k) (sym (div-add-mod a b) ∙ ap (λ (n : ℕ). n + a % b) (mul_comm b (a / b))) ∙ add-mul (a / b * b) (a % b) k
    ∙ ap (λ (n : ℕ). n + a % b * k) (mul_assoc (a / b) b k) in
    ap (λ (n : ℕ). n % (b * k)) e ∙ digits_mod (a / b) (mul-lt-mul_of_pos_right (mod-lt a pb) pk)

pub common_factor : (n a b k : ℕ) → 0 < k → euclid n (a * k) (b * k) ≡ euclid n a b * k
unfolding euclid
common_factor zero a b k pos = refl
common_factor (suc n) a b k pos = by (eqb b 0) refl (common_factor n b (a % b) k pos)
  where
    by : (t : Bool) → eqb b 0 ≡ t → euclid n (b * k) (a % b * k) ≡ euclid n b (a % b) * k
        → cond (eqb (b * k) 0) (a * k) (euclid n (b * k) (a * k % (b * k))) ≡ cond t a (euclid n b (a % b)) * k
    by true e later = let z : b ≡ 0 = eqb-true b 0 e in ap (λ (t : Bool). cond t (a * k) (euclid n (b * k) (a * k % (b * k)))) (eq-eqb (b * k) 0 (rw z (omega arith)))
    by false e later =
        let ne : b ≢ 0 = eqb-false b 0 e in
        let pb : 0 < b = omega arith in
        ap (λ (t : Bool). cond t (a * k) (euclid n (b * k) (a * k % (b * k)))) (ne_eqb (b * k) 0 (λ z. omega (arith, mul-pos pb pos)))
        ∙ ap (euclid n (b * k)) (mod_factor a b k pb pos) ∙ later
