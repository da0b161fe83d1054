-- `gain` meets its contract. Assumes nothing.
use native.Mathlib.Omega.{arith}
use mathlib.Core.Path.{◌∙◌}
use lib.ListN.{length-replicate}
use Rattle.gains.proofs.Widening.{grown_then}
use Rattle.gains.proofs.Gaining.{noted_none, nothing}
use Rattle.gains.proofs.gain.Goals as goal

pub walk_all-actions-requires : goal.walk_all-actions-requires
walk_all-actions-requires c =
    let (guide, place, walkable, size, sound) = c.requires in
    record { guide = guide; place = place; walkable = walkable; sound = sound; noted = noted_none _ _ _ _ _ (rw length-replicate (omega arith)) (nothing 4352) }

pub follow_all-requires : goal.follow_all-requires
follow_all-requires c = (c.walk_all-actions.ensures.1, c.requires.3)

pub shape_of-table : goal.shape_of-table
shape_of-table c = c.follow_all.ensures.0.size ∙ c.walk_all-actions.ensures.0.size

pub returns : goal.returns
returns c = (grown_then c.walk_all-actions.ensures.0 c.follow_all.ensures.0, c.follow_all.ensures.1.sound)
