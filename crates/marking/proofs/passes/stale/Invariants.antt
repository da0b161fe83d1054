-- The steps passed call no action of the mask. Assumes nothing.
use Prim.Native.Nat.{ℕ, ◌%◌, ◌<◌}
use mathlib.Core.Path.{◌≡◌}
use mathlib.Core.Bool.{true}
use lib.Bits.{bit_or}
use lib.ListN.{get_or}
use Rattle.steps.specs.State.{bit}
use Rattle.steps.specs.Inner.{is_call}
use Rattle.marking.proofs.passes.stale.Given as goal

abbrev pub invariant-loop-step : goal.invariant-loop-step
invariant-loop-step l = (q : ℕ) → q < l.step-index → is_call (get_or l.body q 0) ≡ true → bit (bit_or l.gained l.more) (get_or l.body q 0 % 256) ≡ 0
