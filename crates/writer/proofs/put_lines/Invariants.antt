-- `put_lines` meets its contract. The invariant: what writes the lines from `a` on writes all of them.
-- The measure is what is left of the sheet. Assumes nothing.
use mathlib.Core.Path.{◌≡◌}
use mathlib.Core.List.{List}
use Prim.Native.Nat.{ℕ, ◌+◌, ◌-◌, ◌≤◌}
use lib.ListN.{length, drop}
use Rattle.chars.specs.Pieces.{lines}
use Rattle.writer.specs.Inner.{line_bytes}
use Rattle.writer.proofs.Filling.{Gives}
use Rattle.writer.proofs.put_lines.Given as goal

abbrev pub invariant-loop-a : goal.invariant-loop-a
invariant-loop-a l =
    (l.a ≤ length l.s + 1) × (l.p + length (line_bytes l.start.0 (lines l.s) (lines (drop l.a l.s))) ≡ length (line_bytes l.start.0 (lines l.s) (lines l.s))) × (length l.out ≡ length l.initial.out)
    × ((o : List ℕ) (q : ℕ) → Gives l.out l.p (line_bytes l.start.0 (lines l.s) (lines (drop l.a l.s))) o q → Gives l.initial.out 0 (line_bytes l.start.0 (lines l.s) (lines l.s)) o q)

abbrev pub decreases-loop-a : goal.decreases-loop-a
decreases-loop-a l = length l.s + 1 - l.a
