-- The first i lines are written. Assumes nothing.
use Rattle.finals.specs.Finals.{Lined}
use Rattle.finals.proofs.put_lines.Given as goal

abbrev pub invariant-loop-i : goal.invariant-loop-i
invariant-loop-i l = Lined l.word-items l.i l.at l.initial.words l.words
