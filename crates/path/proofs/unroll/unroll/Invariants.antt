-- `unroll` meets its contract. The loop's invariant: the states found are written, and those pending are still to be added; the measure: the turns that
-- the walk can still take. Assumes nothing.
use mathlib.Core.Path.{◌≡◌}
use lib.ListN.{length}
use Rattle.cells.specs.Numbers.{numbers}
use Rattle.unfolding.proofs.Walk.{lent}
use Rattle.unfolding.proofs.Frames.{Sound, turns_left}
use Rattle.unfolding.proofs.Unrolling.{Unrolling}
use Rattle.path.proofs.unroll.unroll.Given as goal

abbrev pub invariant-loop-next : goal.invariant-loop-next
invariant-loop-next l =
    let it = lent l.plain l.rules l.goal l.second l.calls l.answers in
    record {
      sound : Sound it l.asked l.at.n l.at.step l.at.depth (numbers l.frames);
      unrolling : Unrolling it l.asked l.at.n l.at.step l.at.depth (numbers l.frames) l.found l.initial.list l.list;
      long : length (numbers l.frames) ≡ length (numbers l.initial.frames);
    }

abbrev pub decreases-loop-next : goal.decreases-loop-next
decreases-loop-next l = turns_left l.at.n l.at.step l.at.depth (numbers l.frames)
