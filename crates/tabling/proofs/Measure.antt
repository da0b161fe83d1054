-- Why a walk ends: the answers still to be tried at the 16 places, read as digits, fall with every turn. Assumes nothing.
use Prim.Native.Nat.{ℕ, zero, suc, ◌+◌, ◌-◌, ◌*◌, ◌<◌, ◌≤◌}
use native.Mathlib.Omega.{arith}
use native.Mathlib.Nat.{mul-le-mul_right, add-mul}
use mathlib.Core.Path.{◌≡◌, refl, ap, ap₂}
use mathlib.Core.Bool.{Bool, true, false, cond}
use mathlib.Core.List.{List}
use mathlib.Core.Logic.{⊎_elim}
use lib.ListN.{get_or}
use lib.Dec.{ltb}
use borrow.Author.Tests.{lt-ltb, le-ltb}
use Rattle.tabling.proofs.Sweep.{last_or}

-- the first n digits to this base, the first one the highest
unfoldable pub digits : ℕ → (ℕ → ℕ) → ℕ → ℕ
digits base c zero = 0
digits base c (suc n) = digits base c n * base + c n

digits_same : (base : ℕ) (c c' : ℕ → ℕ) (n : ℕ) → ((q : ℕ) → q < n → c' q ≡ c q) → digits base c' n ≡ digits base c n
unfolding digits
digits_same base c c' zero same = refl
digits_same base c c' (suc n) same = ap₂ (λ (a b : ℕ). a * base + b) (digits_same base c c' n (λ q l. same q (omega arith))) (same n (omega arith))

-- less at one place, the same before it
digits_less : (base : ℕ) (c c' : ℕ → ℕ) (p n : ℕ) → p < n → ((q : ℕ) → q < p → c' q ≡ c q) → c' p < c p → ((q : ℕ) → c' q < base) → digits base c' n < digits base c n
unfolding digits
digits_less base c c' p zero h same less small = absurd (omega arith)
digits_less base c c' p (suc n) h same less small = ⊎_elim
    (λ (l : p < n).
    (let k : suc (digits base c' n) * base ≤ digits base c n * base = mul-le-mul_right base (digits_less base c c' p n l same less small) in
    omega (arith, add-mul (digits base c' n) 1 base, small n)))
    (λ (z : p ≡ n).
    (let e : digits base c' n ≡ digits base c n = digits_same base c c' n (λ q l. same q (omega arith)) in
    let k : c' n < c n = rw z at less in
    omega (arith, ap (λ (d : ℕ). d * base) e)))
    (last_or h)

-- what is left to try at a place: after the answer chosen there, or all where the search has not come to it
unfoldable pub untried : ℕ → List ℕ → ℕ → ℕ → ℕ
untried known chosen at q = cond (ltb q at) (known - get_or chosen q 0) (known + 1)

-- The measure of a walk at place `at`.
unfoldable pub left : ℕ → List ℕ → ℕ → ℕ
unfolding digits untried
left known chosen at = digits (known + 2) (untried known chosen at) 16

untried_small : (known : ℕ) (chosen : List ℕ) (at q : ℕ) → untried known chosen at q < known + 2
unfolding untried
untried_small known chosen at q = by (ltb q at)
  where
    by : (b : Bool) → cond b (known - get_or chosen q 0) (known + 1) < known + 2
    by true = omega arith
    by false = omega arith

module _ (known : ℕ) (chosen chosen' : List ℕ) (at p : ℕ) (same : (q : ℕ) → q < p → get_or chosen' q 0 ≡ get_or chosen q 0) (inside : p < 16) where
  -- a step forward from place p
  pub left_on : at ≡ p → left known chosen' (p + 1) < left known chosen at
  unfolding left untried
  left_on e = digits_less (known + 2) (untried known chosen at) (untried known chosen' (p + 1)) p 16 inside
      (λ q l. rw (lt-ltb q (p + 1) (omega arith), lt-ltb q at (omega arith), same q l) refl)
      (rw (lt-ltb p (p + 1) (omega arith), le-ltb p at (omega arith)) (omega arith))
      (untried_small known chosen' (p + 1))

  -- back to place p, with a later answer there
  pub left_back : p < at → get_or chosen p 0 < get_or chosen' p 0 → get_or chosen' p 0 < known → left known chosen' (p + 1) < left known chosen at
  unfolding left untried
  left_back h later below = digits_less (known + 2) (untried known chosen at) (untried known chosen' (p + 1)) p 16 inside
      (λ q l. rw (lt-ltb q (p + 1) (omega arith), lt-ltb q at (omega arith), same q l) refl)
      (rw (lt-ltb p (p + 1) (omega arith), lt-ltb p at h) (omega arith))
      (untried_small known chosen' (p + 1))
