-- That some element passes a test, as a test of every number below the length. Assumes nothing.
use Prim.Native.Nat.{ℕ, zero, suc, ◌+◌, ◌<◌, ◌≤◌}
use native.Mathlib.Numerals.{add-one}
use native.Mathlib.Omega.{arith}
use mathlib.Core.Path.{◌≡◌, refl, sym, ap, ap₂, ◌∙◌}
use mathlib.Core.Bool.{Bool, true, false, not, ◌&&◌, ◌||◌}
use mathlib.Core.List.{List}
use lib.ListN.{length, get_or, take}
use lib.Seq.{take_all}
use Rattle.std.specs.List.{list_any}
use Rattle.std.proofs.lemmas.List.Folds.{list_any_more}
use Rattle.steps.specs.Acceptance.{each_below}

one_fails : (e t : Bool) → (not e || not t) ≡ not (e && t)
one_fails true t = refl
one_fails false t = refl

module _ (p q : ℕ → Bool) (xs : List ℕ) (each : (i : ℕ) → i < length xs → p (get_or xs i 0) ≡ not (q i)) where
  any_of_first : (n : ℕ) → n ≤ length xs → list_any p (take n xs) ≡ not (each_below n q)
  unfolding each_below
  any_of_first zero l = refl
  any_of_first (suc n) l =
      rw (← add-one, list_any_more p xs n 0 (omega arith), any_of_first n (omega arith), each n (omega arith)) (one_fails (each_below n q) (q n))

  pub any_below : list_any p xs ≡ not (each_below (length xs) q)
  any_below = ap (list_any p) (sym (take_all (length xs) xs (omega arith))) ∙ any_of_first (length xs) (omega arith)

pub not_not : (t : Bool) → not (not t) ≡ t
not_not true = refl
not_not false = refl
