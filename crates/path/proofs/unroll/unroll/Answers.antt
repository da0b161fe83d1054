use Prim.Native.Nat.{◌<◌}
use native.Mathlib.Omega.{arith}
use mathlib.Core.Path.{◌≡◌, refl, ap, ◌∙◌}
use mathlib.Core.List.{[]}
use lib.ListN.{length}
use Rattle.cells.specs.Numbers.{numbers}
use Rattle.unfolding.proofs.Walk.{lent, checked_less}
use Rattle.unfolding.proofs.Leads.{led_less}
use Rattle.unfolding.proofs.Frames.{sound_first, pending, pending_last, moved_long, moved_sound, moved_pending, moved_less}
use Rattle.unfolding.proofs.Unrolling.{unrolling_first, unrolling_room, unrolling_more, unrolling_moved, unrolling_all}
use Rattle.path.specs.Inner.{down_to}
use Rattle.path.proofs.unroll.unroll.Goals as goal

pub loop-next-init : goal.loop-next-init
loop-next-init c = record { sound = sound_first _ _ _; unrolling = unrolling_first _ _ _ _; long = refl }

pub run-stop-requires : goal.run-stop-requires
run-stop-requires c =
    let a = c.args in
    let it = lent a.plain a.rules.now a.goal.now a.second.now a.calls.now a.answers.now in
    let i = c.loop-next.invariant in
    let low = i.sound.low in (
      checked_less (omega (arith, low)) c.requires.0,
      omega (arith, low, c.requires.1),
      led_less (omega (arith, low)) c.requires.3,
      i.sound.fresh,
      i.sound.within,
      omega (arith, unrolling_room it i.unrolling, c.requires.4, i.unrolling.put.long),
    )

pub turn-requires : goal.turn-requires
turn-requires c =
    let p = c.requires in
    let i = c.loop-next.invariant in
    let low = i.sound.low in
    (omega (arith, low, p.0.readable.most), c.run-stop.ensures.0.short, omega (arith, low, p.0.readable.most), omega (arith, low, i.long, p.2))

pub returns-in-None : goal.returns-in-None
returns-in-None c =
    let a = c.args in
    let it = lent a.plain a.rules.now a.goal.now a.second.now a.calls.now a.answers.now in
    let i = c.loop-next.invariant in
    let run = c.run-stop in
    let (over, floor, kept) = c.in-None.ensures in
    let none : pending it c.loop-next.at.n run.result.step c.loop-next.at.depth (numbers c.loop-next.frames) ≡ [] =
    rw floor (pending_last it c.loop-next.at.n run.result.step (numbers c.loop-next.frames) (run.ensures.0.ends (ap down_to over))) in
    unrolling_all it (unrolling_more it i.unrolling run.ensures.1) none

pub loop-next-smaller : goal.loop-next-smaller
loop-next-smaller c =
    let a = c.args in
    let it = lent a.plain a.rules.now a.goal.now a.second.now a.calls.now a.answers.now in
    let i = c.loop-next.invariant in
    moved_less it c.requires.0 _ _ _ _ _ _ _ _ _ _ i.sound c.run-stop.ensures.0 (omega (arith, i.long, c.requires.2)) c.in-Some.ensures

pub loop-next-preserved : goal.loop-next-preserved
loop-next-preserved c =
    let a = c.args in
    let it = lent a.plain a.rules.now a.goal.now a.second.now a.calls.now a.answers.now in
    let i = c.loop-next.invariant in
    let run = c.run-stop in
    let room : a.asked < length (numbers c.loop-next.frames) = omega (arith, i.long, c.requires.2) in
    let moved = moved_pending it c.requires.0 _ _ _ _ _ _ _ _ _ _ i.sound run.ensures.0 room c.in-Some.ensures in
    record {
      sound = moved_sound it c.requires.0 _ _ _ _ _ _ _ _ _ _ i.sound run.ensures.0 room c.in-Some.ensures;
      unrolling = unrolling_moved it moved (unrolling_more it i.unrolling run.ensures.1);
      long = moved_long c.in-Some.ensures ∙ i.long;
    }
