-- The first k bytes of the piece are put. Assumes nothing.
use mathlib.Core.Path.{◌≡◌}
use Rattle.std.proofs.Math.Seq.{paste}
use Rattle.writer.proofs.put.Given as goal

abbrev pub invariant-loop-k : goal.invariant-loop-k
invariant-loop-k l = l.out ≡ paste l.initial.out l.at l.piece l.k
