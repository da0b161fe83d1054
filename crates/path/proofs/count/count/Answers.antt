use Prim.Native.Nat.{◌<◌}
use native.Mathlib.Omega.{arith}
use mathlib.Core.Path.{◌≡◌, refl, ap, ◌∙◌}
use lib.ListN.{length}
use Rattle.cells.specs.Numbers.{numbers}
use Rattle.unfolding.proofs.Walk.{lent, checked_less}
use Rattle.unfolding.proofs.Sizes.{sized_less}
use Rattle.unfolding.proofs.Frames.{sound_first, pending, pending_first, pending_last, moved_long, moved_sound, moved_pending, moved_less, tallied_pending}
use Rattle.path.specs.Inner.{down_to}
use Rattle.path.proofs.count.count.Goals as goal

pub loop-found-init : goal.loop-found-init
loop-found-init c =
    let a = c.args in
    let it = lent a.plain a.rules.now a.goal.now a.second.now a.calls.now a.answers.now in
    record { sound = sound_first _ _ _; counts = omega (arith, ap length (pending_first it a.asked (numbers a.frames.now))); few = omega (arith, c.requires.3); long = refl }

pub tally-stop-requires : goal.tally-stop-requires
tally-stop-requires c =
    let p = c.requires in
    let i = c.loop-found.invariant in
    let low = i.sound.low in
    (checked_less (omega (arith, low)) p.0, omega (arith, low, p.1), p.5, p.6, sized_less (omega (arith, low)) p.7, i.sound.within, omega (arith, i.few, p.4))

pub returns-then-most-found : goal.returns-then-most-found
returns-then-most-found c =
    let a = c.args in
    let it = lent a.plain a.rules.now a.goal.now a.second.now a.calls.now a.answers.now in
    let i = c.loop-found.invariant in
    let same = tallied_pending it c.loop-found.at.depth (numbers c.loop-found.frames) c.tally-stop.ensures.1 in
    (i.long, omega (arith, same, i.counts), λ l. absurd (omega (arith, c.if-most-found.true)))

pub turn-requires : goal.turn-requires
turn-requires c =
    let p = c.requires in
    let i = c.loop-found.invariant in
    let low = i.sound.low in
    (omega (arith, low, p.0.readable.most), c.tally-stop.ensures.0.short, omega (arith, low, p.0.readable.most), omega (arith, low, i.long, p.2))

pub returns-in-None : goal.returns-in-None
returns-in-None c =
    let a = c.args in
    let it = lent a.plain a.rules.now a.goal.now a.second.now a.calls.now a.answers.now in
    let i = c.loop-found.invariant in
    let tally = c.tally-stop in
    let (over, floor, kept) = c.in-None.ensures in
    let same = tallied_pending it c.loop-found.at.depth (numbers c.loop-found.frames) tally.ensures.1 in
    let none : length (pending it c.loop-found.at.n tally.result.step c.loop-found.at.depth (numbers c.loop-found.frames)) ≡ 0 =
    rw floor (ap length (pending_last it c.loop-found.at.n tally.result.step (numbers c.loop-found.frames) (tally.ensures.0.ends (ap down_to over)))) in
    (rw kept i.long, omega (arith, same, i.counts, none), λ l. omega (arith, same, i.counts, none))

pub loop-found-smaller : goal.loop-found-smaller
loop-found-smaller c =
    let a = c.args in
    let it = lent a.plain a.rules.now a.goal.now a.second.now a.calls.now a.answers.now in
    let i = c.loop-found.invariant in
    moved_less it c.requires.0 _ _ _ _ _ _ _ _ _ _ i.sound c.tally-stop.ensures.0 (omega (arith, i.long, c.requires.2)) c.in-Some.ensures

pub loop-found-preserved : goal.loop-found-preserved
loop-found-preserved c =
    let a = c.args in
    let it = lent a.plain a.rules.now a.goal.now a.second.now a.calls.now a.answers.now in
    let i = c.loop-found.invariant in
    let tally = c.tally-stop in
    let room : a.asked < length (numbers c.loop-found.frames) = omega (arith, i.long, c.requires.2) in
    let same = tallied_pending it c.loop-found.at.depth (numbers c.loop-found.frames) tally.ensures.1 in
    let moved = moved_pending it c.requires.0 _ _ _ _ _ _ _ _ _ _ i.sound tally.ensures.0 room c.in-Some.ensures in
    record {
      sound = moved_sound it c.requires.0 _ _ _ _ _ _ _ _ _ _ i.sound tally.ensures.0 room c.in-Some.ensures;
      counts = omega (arith, same, i.counts, ap length moved);
      few = c.if-most-found.false;
      long = moved_long c.in-Some.ensures ∙ i.long;
    }
