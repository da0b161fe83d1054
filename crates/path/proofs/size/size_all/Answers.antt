-- `size_all` meets its contract. Assumes nothing.
use native.Mathlib.Omega.{arith}
use mathlib.Core.Path.{◌≡◌, refl}
use lib.ListN.{length-set}
use Rattle.unfolding.proofs.Walk.{checked_less}
use Rattle.unfolding.proofs.Sizes.{sized_none, sized_more}
use Rattle.path.proofs.size.size_all.Goals as goal

pub loop-n-init : goal.loop-n-init
loop-n-init c = record { long = refl; sized = sized_none _ _ _ }

pub size-added-requires : goal.size-added-requires
size-added-requires c = (checked_less (omega arith) c.requires.0, omega (arith, c.requires.1), c.requires.2, c.loop-n.invariant.sized)

pub put-requires : goal.put-requires
put-requires c = (omega (arith, c.requires.1), omega (arith, c.size-added.ensures, c.requires.3))

pub loop-n-preserved : goal.loop-n-preserved
loop-n-preserved c =
    let i = c.loop-n.invariant in
    record { long = rw c.put.ensures (simp length-set i.long); sized = rw c.put.ensures (sized_more i.sized (omega (arith, c.requires.1)) c.size-added.ensures) }

pub returns : goal.returns
returns c =
    let e : c.loop-n.n ≡ c.args.count = omega arith in
    (c.loop-n.invariant.long, rw e at c.loop-n.invariant.sized)
