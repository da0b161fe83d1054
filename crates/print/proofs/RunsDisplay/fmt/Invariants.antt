-- Each turn takes what it tells off the rest.
use Rattle.std.proofs.Common.{length}
use Rattle.print.proofs.RunsDisplay.fmt.Given as goal

abbrev pub decreases-loop-rest : goal.decreases-loop-rest
decreases-loop-rest g l = length l.rest
