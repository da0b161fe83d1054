-- `find` meets its contract. The loop's invariant: from i the links lead to each record of the two keys; the measure: i. Assumes nothing.
use Rattle.index.specs.Index.{Sought, keys_in}
use Rattle.index.proofs.find.Given as goal

abbrev pub invariant-loop-i : goal.invariant-loop-i
invariant-loop-i l = Sought l.most (keys_in l.unit l.width l.words l.n) l.first l.second l.i

abbrev pub decreases-loop-i : goal.decreases-loop-i
decreases-loop-i l = l.i
