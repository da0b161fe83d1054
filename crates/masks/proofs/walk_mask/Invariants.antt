-- The mask is of the places to which the steps passed come. Assumes nothing.
use lib.ListN.{take}
use Rattle.masks.specs.Masks.{Mask, WalkTo}
use Rattle.masks.proofs.walk_mask.Given as goal

abbrev pub invariant-loop-step : goal.invariant-loop-step
invariant-loop-step l = Mask l.mask (WalkTo l.recorded l.runs l.table l.place (take l.step-index l.body))
