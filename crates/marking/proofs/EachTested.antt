-- A test that holds exactly where each of the first n does. Assumes nothing.
use Prim.Native.Nat.{ℕ, ◌<◌}
use mathlib.Core.Path.{◌≡◌, refl, sym, ◌∙◌}
use mathlib.Core.Bool.{Bool, true, false}
use Rattle.std.specs.Bool.{Decides}
use Rattle.steps.specs.Acceptance.{each_below}
use Rattle.steps.proofs.EachBelow.{each_all, each_at}

pub each_tested : (b : Bool) (p : ℕ → Bool) (n : ℕ) → Decides b ((i : ℕ) → i < n → p i ≡ true) → b ≡ each_below n p
each_tested true p n d = sym (each_all p n (d.0 refl))
each_tested false p n d = by (each_below n p) refl
  where
    by : (t : Bool) → each_below n p ≡ t → false ≡ each_below n p
    by true e = d.1 (each_at p n e) ∙ sym e
    by false e = sym e
