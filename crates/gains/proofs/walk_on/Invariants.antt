-- An execution of the first p steps comes to each place that is new. Assumes nothing.
use Prim.Native.Nat.{◌≤◌}
use Rattle.masks.specs.Masks.{Came, Noted}
use Rattle.gains.proofs.walk_on.Given as goal

abbrev pub invariant-loop-p : goal.invariant-loop-p
invariant-loop-p l = record { few : l.p ≤ 16; noted : Noted l.rules l.recorded l.runs l.place l.notes; came : Came l.rules l.recorded l.runs l.place l.r l.p l.new }
