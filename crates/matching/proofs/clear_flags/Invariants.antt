-- `clear_flags` meets its contract. The loop's invariant: the flags of the first j records are 0. Assumes nothing.
use Rattle.matching.specs.Flags.{Kept, NoFlags}
use Rattle.matching.proofs.clear_flags.Given as goal

abbrev pub invariant-loop-j : goal.invariant-loop-j
invariant-loop-j l = Kept l.width l.at l.n l.initial.words l.words × NoFlags l.width l.at l.j l.words
