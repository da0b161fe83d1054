-- `check_starts` meets its contract. The loop's invariant: the starts passed are counted (`Passed`). Assumes nothing.
use Rattle.report.proofs.Results.{Passed}
use Rattle.report.proofs.check_starts.Given as goal

abbrev pub invariant-loop-i : goal.invariant-loop-i
invariant-loop-i l = Passed l.results l.i l.runs l.sum
