-- `count` meets its contract. The loop's invariant: the states found and those pending are as many as the asked record adds; the measure: the turns that
-- the walk can still take. Assumes nothing.
use Prim.Native.Nat.{◌+◌, ◌<◌}
use mathlib.Core.Path.{◌≡◌}
use lib.ListN.{length}
use Rattle.cells.specs.Numbers.{numbers}
use Rattle.unfolding.proofs.Walk.{lent, added_by}
use Rattle.unfolding.proofs.Frames.{Sound, pending, turns_left}
use Rattle.path.proofs.count.count.Given as goal

abbrev pub invariant-loop-found : goal.invariant-loop-found
invariant-loop-found l =
    let it = lent l.plain l.rules l.goal l.second l.calls l.answers in
    record {
      sound : Sound it l.asked l.at.n l.at.step l.at.depth (numbers l.frames);
      counts : l.found + length (pending it l.at.n l.at.step l.at.depth (numbers l.frames)) ≡ length (added_by it l.asked);
      few : l.found < l.most;
      long : length (numbers l.frames) ≡ length (numbers l.initial.frames);
    }

abbrev pub decreases-loop-found : goal.decreases-loop-found
decreases-loop-found l = turns_left l.at.n l.at.step l.at.depth (numbers l.frames)
