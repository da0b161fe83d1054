-- `find` meets its contract. The invariant: the place among the parts from lo on is that among the parts from k on. Assumes nothing.
use mathlib.Core.Path.{◌≡◌}
use mathlib.Core.List.{◌++◌}
use Prim.Native.Nat.{◌+◌, ◌-◌, ◌≤◌}
use Rattle.chars.specs.Places.{place}
use Rattle.parts.specs.Parts.{part_at, parts_from}
use Rattle.parts.proofs.find.Given as goal

abbrev pub invariant-loop-k : goal.invariant-loop-k
invariant-loop-k l = (l.lo + place (part_at (l.first ++ l.second) l.list l.i) (parts_from (l.first ++ l.second) l.list l.lo (l.hi - l.lo)) ≡ l.k + place (part_at (l.first ++ l.second) l.list l.i) (parts_from (l.first ++ l.second) l.list l.k (l.hi - l.k)))
