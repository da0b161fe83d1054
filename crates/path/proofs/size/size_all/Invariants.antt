-- The records passed have their sizes. Assumes nothing.
use mathlib.Core.Path.{◌≡◌}
use lib.ListN.{length}
use Rattle.cells.specs.Numbers.{numbers}
use Rattle.unfolding.proofs.Walk.{lent, added_by}
use Rattle.unfolding.proofs.Sizes.{Sized}
use Rattle.path.proofs.size.size_all.Given as goal

abbrev pub invariant-loop-n : goal.invariant-loop-n
invariant-loop-n l =
    let it = lent l.plain l.rules l.goal l.second l.calls l.answers in
    record { long : length (numbers l.sizes) ≡ length (numbers l.initial.sizes); sized : Sized (added_by it) (numbers l.sizes) l.n l.cap }
