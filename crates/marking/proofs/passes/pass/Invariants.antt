-- The turns up to rule r are done. Assumes nothing.
use Rattle.masks.specs.Masks.{Turned}
use Rattle.marking.proofs.passes.pass.Given as goal

abbrev pub invariant-loop-r : goal.invariant-loop-r
invariant-loop-r l = Turned l.rules l.recorded l.runs l.place l.gained l.r l.initial.table l.table l.more
