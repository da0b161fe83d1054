-- `stow_calls` meets its contract. The loop's invariant: the records from i on are put aside. Assumes nothing.
use Rattle.stowing.proofs.CallStows.{CallsStowing}
use Rattle.stowing.proofs.stow_calls.Given as goal

abbrev pub invariant-loop-i : goal.invariant-loop-i
invariant-loop-i l = CallsStowing l.most l.n l.i l.initial.calls l.calls l.actions
