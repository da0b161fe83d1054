-- The first k step words are put. Assumes nothing.
use mathlib.Core.Path.{◌≡◌}
use Prim.Native.Nat.{◌+◌}
use Rattle.std.proofs.Math.Seq.{paste}
use Rattle.lines.proofs.put_rule.Given as goal

abbrev pub invariant-loop-k : goal.invariant-loop-k
invariant-loop-k l = l.words ≡ paste l.initial.words (l.at + 2) l.body.words l.k
