-- `fill` meets its contract. The invariant of its rounds is `Rounding`; the measure is the room left. Assumes nothing.
use Prim.Native.Nat.{◌+◌, ◌-◌}
use Rattle.records.specs.Bodies.{bodies_with}
use Rattle.invariants.proofs.Filling.{Rounding}
use Rattle.filling.proofs.fill.Given as goal

abbrev pub invariant-loop-done : goal.invariant-loop-done
invariant-loop-done l = Rounding (bodies_with l.rules l.goals.first l.goals.second l.goal l.second) l.most l.first l.initial.calls l.initial.list l.initial.n l.initial.answers l.initial.m l.rounds l.walked l.seen l.calls l.list l.n l.answers l.m l.walk

abbrev pub decreases-loop-done : goal.decreases-loop-done
decreases-loop-done l = 131072 - (l.n + l.m)
