-- `meet` meets its contract. The invariant: whether parts from lo on meet is whether parts from i on do. Assumes nothing.
use mathlib.Core.Path.{◌≡◌}
use mathlib.Core.List.{◌++◌}
use Prim.Native.Nat.{◌-◌, ◌≤◌}
use Rattle.chars.specs.Places.{meets}
use Rattle.parts.specs.Parts.{parts_from}
use Rattle.parts.proofs.meet.Given as goal

abbrev pub invariant-loop-i : goal.invariant-loop-i
invariant-loop-i l = (meets (parts_from (l.first ++ l.second) l.list l.lo (l.hi - l.lo)) (parts_from (l.first ++ l.second) l.list l.from (l.to - l.from)) ≡ meets (parts_from (l.first ++ l.second) l.list l.i (l.hi - l.i)) (parts_from (l.first ++ l.second) l.list l.from (l.to - l.from)))
