-- Members of a list by their places. Assumes nothing.
use Prim.Native.Nat.{ℕ, zero, suc, ◌<◌}
use native.Mathlib.Omega.{arith}
use mathlib.Core.Path.{◌≡◌, refl, sym}
use mathlib.Core.List.{List, [], ◌∷◌, Memᴰ}
use lib.ListN.{get_or, length}

module _ {X : Type 0} where
  pub at_member : (xs : List X) (i : ℕ) (d : X) → i < length xs → Memᴰ (get_or xs i d) xs
  at_member [] i d l = absurd (omega arith)
  at_member (x ∷ xs) zero d l = Memᴰ.head refl
  at_member (x ∷ xs) (suc i) d l = Memᴰ.tail (at_member xs i d (omega arith))

  pub member_at : {x : X} {xs : List X} (d : X) → Memᴰ x xs → (i : ℕ) × (i < length xs) × (get_or xs i d ≡ x)
  member_at d (Memᴰ.head e) = (0, omega arith, sym e)
  member_at d (Memᴰ.tail m) = let (i, l, e) = member_at d m in (suc i, omega arith, e)
