-- Laws of `each_below` and of tests that are both true. Assumes nothing.
use Prim.Native.Nat.{ℕ, zero, suc, ◌+◌, ◌<◌, ◌≤◌}
use native.Mathlib.Omega.{arith}
use native.Mathlib.Numerals.{add-one}
use native.Mathlib.Decide.{dec_lt}
use mathlib.Core.Path.{◌≡◌, refl, ap, sym, subst, ◌∙◌}
use mathlib.Core.Bool.{Bool, true, false, ◌&&◌}
use mathlib.Core.List.{List}
use lib.ListN.{get_or, length, take}
use Rattle.std.specs.List.{list_all, range_with_len}
use Rattle.std.proofs.lemmas.List.Folds.{list_all_more}
use Rattle.std.proofs.lemmas.List.FromFn.{get_or-range_with_len, length-range_with_len}
use Rattle.std.proofs.Common.{zero-add}
use Rattle.std.proofs.Math.Seq.{take-length}
use Rattle.steps.specs.Acceptance.{each_below}

pub true_not_false : true ≡ false → ⊥
true_not_false e = let z : ◌≡◌ {A = ℕ} 0 1 = cc in omega arith

pub both : (a b : Bool) → (a && b) ≡ true → (a ≡ true) × (b ≡ true)
both true b e = (refl, e)
both false b e = absurd (true_not_false (sym e))

pub each_none : (p : ℕ → Bool) → each_below 0 p ≡ true
unfolding each_below
each_none p = refl

pub each_more : (p : ℕ → Bool) (n : ℕ) → each_below n p ≡ true → p n ≡ true → each_below (n + 1) p ≡ true
unfolding each_below
each_more p n e f = rw (add-one, e, f) refl

pub each_at : (p : ℕ → Bool) (n : ℕ) → each_below n p ≡ true → (i : ℕ) → i < n → p i ≡ true
unfolding each_below
each_at p zero e i l = absurd (omega arith)
each_at p (suc n) e i l =
    let (a, b) = both (each_below n p) (p n) e in
    elim (dec_lt i n) [ yes k ↦ each_at p n a i k | no k ↦ subst (λ (j : ℕ). p j ≡ true) (omega arith) b ]

pub each_not : (p : ℕ → Bool) (n i : ℕ) → i < n → p i ≡ false → each_below n p ≡ false
each_not p n i l e = by (each_below n p) refl
  where
    by : (b : Bool) → each_below n p ≡ b → each_below n p ≡ false
    by true f = absurd (true_not_false (sym (each_at p n f i l) ∙ e))
    by false f = f

pub each_all : (p : ℕ → Bool) (n : ℕ) → ((i : ℕ) → i < n → p i ≡ true) → each_below n p ≡ true
unfolding each_below
each_all p zero all = refl
each_all p (suc n) all = rw (each_all p n (λ i l. all i (omega arith)), all n (omega arith)) refl

pub each_same : (p q : ℕ → Bool) (n : ℕ) → ((i : ℕ) → i < n → p i ≡ q i) → each_below n p ≡ each_below n q
unfolding each_below
each_same p q zero e = refl
each_same p q (suc n) e = rw (each_same p q n (λ i l. e i (omega arith)), e n (omega arith)) refl

each_taken : (p : ℕ → Bool) (xs : List ℕ) (n : ℕ) → n ≤ length xs → list_all p (take n xs) ≡ each_below n (λ i. p (get_or xs i 0))
unfolding each_below
each_taken p xs zero l = refl
each_taken p xs (suc n) l = rw (← add-one, list_all_more p xs n 0 (omega arith), each_taken p xs n (omega arith)) refl

-- A test of each item of a list, and of each number below one, as chains of iterators have it.
pub each_item : (p : ℕ → Bool) (xs : List ℕ) → list_all p xs ≡ each_below (length xs) (λ i. p (get_or xs i 0))
each_item p xs = ap (list_all p) (sym (take-length xs)) ∙ each_taken p xs (length xs) (omega arith)

pub each_number : (p : ℕ → Bool) (n : ℕ) → list_all p (range_with_len 0 n) ≡ each_below n p
each_number p n = rw length-range_with_len at (each_item p (range_with_len 0 n)) ∙ each_same _ p n (λ i l. ap p (get_or-range_with_len 0 n i 0 l ∙ zero-add i))
