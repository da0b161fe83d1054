-- The outcome of all lines is that of the lines from `at` on, after the reading so far; what is left of the sheet gets less. Assumes nothing.
use Rattle.std.proofs.Common.{◌≡◌, ◌+◌, ◌-◌, ◌≤◌, length, drop}
use Rattle.chars.specs.Pieces.{lines}
use Rattle.lines.specs.Line.{empty}
use Rattle.lines.specs.Reader.{read_lines}
use Rattle.lines.specs.Kept.{reading_in}
use Rattle.lines.proofs.read_lines.Given as goal

abbrev pub invariant-loop-at : goal.invariant-loop-at
invariant-loop-at l = record {
  within : l.at ≤ length l.s + 1;
  numbered : l.line ≤ l.at + 1;
  size : length l.words ≡ 4608;
  sofar : read_lines 1 empty (lines l.s) ≡ read_lines l.line (reading_in l.words l.said) (lines (drop l.at l.s));
}

abbrev pub decreases-loop-at : goal.decreases-loop-at
decreases-loop-at l = length l.s + 1 - l.at
