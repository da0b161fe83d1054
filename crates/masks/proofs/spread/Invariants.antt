-- `spread` meets its contract. The loop's invariant: the mask is of the places to which the step comes from those of the given mask that are not
-- left; the measure: the mask of those left. Assumes nothing.
use mathlib.Core.List.{[]}
use Prim.Native.Nat.{ℕ, ◌^◌, ◌<◌}
use mathlib.Core.Path.{◌≡◌}
use mathlib.Core.List.{◌∷◌}
use Rattle.steps.specs.State.{bit}
use Rattle.masks.specs.Masks.{Mask, WalkTo}
use Rattle.masks.proofs.Walking.{Spread}
use Rattle.masks.proofs.spread.Given as goal

abbrev pub invariant-loop-rest : goal.invariant-loop-rest
invariant-loop-rest l = (l.rest < 2 ^ 64) × ((k : ℕ) → bit l.rest k ≡ 1 → bit l.mask k ≡ 1) × Mask l.out (Spread l.mask l.rest (λ p. WalkTo l.recorded l.runs l.table p (l.step ∷ [])))

abbrev pub decreases-loop-rest : goal.decreases-loop-rest
decreases-loop-rest l = l.rest
