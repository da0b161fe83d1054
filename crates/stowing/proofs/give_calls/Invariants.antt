-- `give_calls` meets its contract. The loop's invariant: the first i records are given. Assumes nothing.
use Rattle.desk.specs.Desk.{open_calls}
use Rattle.stowing.proofs.CallStows.{CallsLaying}
use Rattle.stowing.proofs.give_calls.Given as goal

abbrev pub invariant-loop-i : goal.invariant-loop-i
invariant-loop-i l = CallsLaying l.i (open_calls l.rows l.n).action (open_calls l.rows l.n).state l.initial.calls l.calls
