-- `walk_all` meets its contract. Assumes nothing.
use Prim.Native.Nat.{◌<◌}
use native.Mathlib.Omega.{arith}
use Rattle.steps.proofs.StateLaws.{one_shl}
use Rattle.gains.proofs.Gaining.{came_start}
use Rattle.gains.proofs.walk_all.Goals as goal

pub walk_on-more-requires : goal.walk_on-more-requires
walk_on-more-requires c =
    let low : c.args.place < 64 = omega arith in
    (c.loop-r.invariant.ready, omega arith, omega arith, rw (one_shl _ low) (came_start _ _ _ _ c.loop-r.r))
