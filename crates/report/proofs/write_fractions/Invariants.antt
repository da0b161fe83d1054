-- `write_fractions` meets its contract: the fractions passed are written, `out` past them is as it was. Assumes nothing.
use Prim.Native.Nat.{◌*◌}
use mathlib.Core.Path.{◌≡◌}
use mathlib.Core.List.{◌++◌}
use lib.ListN.{get_or, drop}
use Rattle.report.specs.Figures.{fractions}
use Rattle.report.proofs.write_fractions.Given as goal

abbrev pub invariant-loop-k : goal.invariant-loop-k
invariant-loop-k l = l.out ≡ fractions l.k (λ k. get_or l.counts k 0) l.d ++ drop (2 * l.k) l.initial.out
