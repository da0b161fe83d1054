-- The records from n on that have places have their uses placed. Assumes nothing.
use mathlib.Core.Path.{◌≡◌}
use mathlib.Core.List.{◌∷◌}
use lib.ListN.{length}
use Rattle.cells.specs.Numbers.{numbers}
use Rattle.unfolding.proofs.Walk.{lent, added_by, start_at}
use Rattle.unfolding.proofs.Places.{Laid}
use Rattle.path.proofs.place.place_all.Given as goal

abbrev pub invariant-loop-n : goal.invariant-loop-n
invariant-loop-n l =
    let it = lent l.plain l.rules l.goal l.second l.calls l.answers in
    record {
      long : length (numbers l.offsets) ≡ length (numbers l.initial.offsets);
      laid : Laid it l.asked l.n (start_at it l.asked ∷ added_by it l.asked) (numbers l.offsets);
    }
