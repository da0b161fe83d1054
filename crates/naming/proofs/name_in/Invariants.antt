-- `name_in` meets its contract. The invariant: the name sought is that on `fluent` line `left` of the lines from `at` on.
-- The measure is what is left of the sheet. Assumes nothing.
use mathlib.Core.Path.{◌≡◌}
use Prim.Native.Nat.{◌+◌, ◌-◌, ◌≤◌}
use lib.ListN.{length, drop}
use Rattle.chars.specs.Pieces.{lines}
use Rattle.naming.specs.Spans.{name_in}
use Rattle.naming.proofs.name_in.Given as goal

abbrev pub invariant-loop-at : goal.invariant-loop-at
invariant-loop-at l = (l.at ≤ length l.s + 1) × (name_in 0 l.k (lines l.s) ≡ name_in l.at l.left (lines (drop l.at l.s)))

abbrev pub decreases-loop-at : goal.decreases-loop-at
decreases-loop-at l = length l.s + 1 - l.at
