use mathlib.Core.Path.{refl, ◌∙◌}
use Rattle.gains.proofs.Widening.{guide_kept, grown_none, grown_then}
use Rattle.marking.proofs.Turning.{settled_last, still_less}
use Rattle.marking.proofs.passes.settle.Goals as goal

pub pass-gained-requires : goal.pass-gained-requires
pass-gained-requires c = let pre = c.requires in (pre.0, pre.1, pre.2, λ ne. absurd (ne refl))

pub loop-gained-init : goal.loop-gained-init
loop-gained-init c =
    let p = c.pass-gained.ensures in
    (guide_kept c.requires.0 p.grown.size, λ n. (c.slice_known-2-1.given n).fits, grown_none _ _, λ s. s, p.fresh)

pub pass-gained-requires-in-loop-gained : goal.pass-gained-requires-in-loop-gained
pass-gained-requires-in-loop-gained c =
    let pre = c.requires in
    let (guide, wide, grown, sound, fresh) = c.loop-gained.invariant in
    (guide, pre.1, pre.2, λ ne. fresh)

pub loop-gained-smaller : goal.loop-gained-smaller
loop-gained-smaller c =
    let pre = c.requires in
    let (guide, wide, grown, sound, fresh) = c.loop-gained.invariant in
    still_less _ _ _ _ pre.2 pre.1 _ _ _ _ c.loop-gained-test.true wide c.pass-gained-in-loop-gained.ensures

pub loop-gained-preserved : goal.loop-gained-preserved
loop-gained-preserved c =
    let (guide, wide, grown, sound, fresh) = c.loop-gained.invariant in
    let p = c.pass-gained-in-loop-gained.ensures in
    (guide_kept guide p.grown.size, p.grown.wide wide, grown_then grown p.grown, λ s. p.sound (sound s), p.fresh)

pub shape_of-table : goal.shape_of-table
shape_of-table c = c.loop-gained.invariant.2.size ∙ c.pass-gained.ensures.grown.size

pub returns : goal.returns
returns c =
    let (guide, wide, grown, sound, fresh) = c.loop-gained.invariant in
    settled_last c.args.rules.now c.args.recorded.now c.args.runs c.args.place c.requires.2 c.requires.1 _ c.loop-gained.gained
    c.loop-gained-test.false c.pass-gained.ensures grown sound fresh
