-- `all_flags` meets its contract. The loop's invariant: none of the flags of the first j records is 0. Assumes nothing.
use Rattle.matching.specs.Flags.{AllFlags}
use Rattle.matching.proofs.all_flags.Given as goal

abbrev pub invariant-loop-j : goal.invariant-loop-j
invariant-loop-j l = AllFlags l.width l.at l.j l.words
