-- `settle` meets its contract. The loop's invariant: no rule adds anything that calls no action that gained in the last pass; the measure: what the
-- table can still gain. Assumes nothing.
use Prim.Native.Nat.{◌+◌, ◌-◌, ◌*◌, ◌^◌}
use mathlib.Core.Bool.{cond}
use lib.Dec.{eqb}
use lib.ListN.{length}
use Rattle.masks.specs.Masks.{Guide, Wide, total, Grown, SoundMarks, Fresh}
use Rattle.marking.proofs.passes.settle.Given as goal

abbrev pub invariant-loop-gained : goal.invariant-loop-gained
invariant-loop-gained l =
    Guide l.recorded l.runs l.table × Wide l.table × Grown l.place l.initial.table l.table × (SoundMarks l.rules l.recorded l.runs l.initial.table → SoundMarks l.rules l.recorded l.runs l.table)
    × Fresh l.rules l.recorded l.runs l.place l.gained l.table

abbrev pub decreases-loop-gained : goal.decreases-loop-gained
decreases-loop-gained l = length l.table * 2 ^ 64 - total l.table + cond (eqb l.gained 0) 0 1
