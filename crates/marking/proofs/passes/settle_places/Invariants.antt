-- The places from this one on are settled. Assumes nothing.
use Rattle.masks.specs.Masks.{AllSettled}
use Rattle.marking.proofs.passes.settle_places.Given as goal

abbrev pub invariant-loop-place : goal.invariant-loop-place
invariant-loop-place l = AllSettled l.rules l.recorded l.runs l.place l.initial.table l.table
