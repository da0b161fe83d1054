-- `text_size` meets its contract. The invariant: the size so far and that of what the lines from `a` on give make the whole.
-- The measure is what is left of the sheet. Assumes nothing.
use mathlib.Core.Path.{◌≡◌}
use Prim.Native.Nat.{◌+◌, ◌-◌, ◌≤◌}
use lib.ListN.{length, drop}
use Rattle.chars.specs.Pieces.{lines}
use Rattle.writer.specs.Inner.{plain_bytes}
use Rattle.writer.proofs.text_size.Given as goal

abbrev pub invariant-loop-a : goal.invariant-loop-a
invariant-loop-a l = (l.a ≤ length l.s + 1) × (l.n ≤ l.a) × (l.n + length (plain_bytes (lines (drop l.a l.s))) ≡ length (plain_bytes (lines l.s)))

abbrev pub decreases-loop-a : goal.decreases-loop-a
decreases-loop-a l = length l.s + 1 - l.a
