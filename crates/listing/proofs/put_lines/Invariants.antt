-- The first i lines are written. Assumes nothing.
use Rattle.listing.specs.Listing.{Lined}
use Rattle.listing.proofs.put_lines.Given as goal

abbrev pub invariant-loop-i : goal.invariant-loop-i
invariant-loop-i l = Lined l.calls l.i l.at l.initial.words l.words
