-- `close_calls` meets its contract. The loop's invariant: the first i records are given. Assumes nothing.
use Rattle.desk.specs.Desk.{CallsClosed}
use Rattle.desk.proofs.close_calls.Given as goal

abbrev pub invariant-loop-i : goal.invariant-loop-i
invariant-loop-i l = CallsClosed l.initial.calls l.i l.calls
