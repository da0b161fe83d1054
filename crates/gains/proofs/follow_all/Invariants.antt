-- Nothing wrong is in the table or the notes. Assumes nothing.
use Rattle.masks.specs.Masks.{Grown, Ready}
use Rattle.gains.proofs.follow_all.Given as goal

abbrev pub invariant-loop : goal.invariant-loop
invariant-loop l = record { grown : Grown l.place l.initial.table l.table; ready : Ready l.rules l.recorded l.runs l.place l.table l.notes }
