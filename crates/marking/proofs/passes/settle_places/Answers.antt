-- `settle_places` meets its contract. Assumes nothing.
use native.Mathlib.Omega.{arith}
use mathlib.Core.Path.{◌∙◌}
use Rattle.gains.proofs.Widening.{guide_kept}
use Rattle.gains.proofs.Gaining.{settled_after}
use Rattle.marking.proofs.Turning.{all_none, all_more}
use Rattle.marking.proofs.passes.settle_places.Goals as goal

pub loop-place-init : goal.loop-place-init
loop-place-init c = all_none _ _ _ _ c.requires.2

pub gain-requires : goal.gain-requires
gain-requires c =
    let all = c.loop-place.invariant in
    let pre = c.requires in
    (guide_kept pre.0 all.size, omega arith, pre.1, pre.3, all.sound)

pub settle-requires : goal.settle-requires
settle-requires c =
    let pre = c.requires in
    (guide_kept pre.0 (c.gain.ensures.0.size ∙ c.loop-place.invariant.size), omega arith, pre.1)

pub loop-place-preserved : goal.loop-place-preserved
loop-place-preserved c =
    let (grown, sound) = c.gain.ensures in
    all_more _ _ _ (omega arith) c.loop-place.invariant (settled_after _ _ _ _ grown sound c.settle.ensures)
