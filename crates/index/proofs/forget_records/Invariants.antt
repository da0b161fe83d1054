-- `forget_records` meets its contract. The loop's invariant: the first i records are noted. Assumes nothing.
use Prim.Native.Nat.{◌≤◌}
use Rattle.index.specs.Index.{Chained}
use Rattle.index.proofs.IndexLaws.{key_in}
use Rattle.index.proofs.forget_records.Given as goal

abbrev pub invariant-loop-i : goal.invariant-loop-i
invariant-loop-i l = (l.n0 ≤ l.i) × Chained l.most (key_in l.most l.unit l.width l.words) l.i 0 l.initial.notes l.notes
