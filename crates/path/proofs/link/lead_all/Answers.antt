-- `lead_all` meets its contract. Assumes nothing.
use native.Mathlib.Omega.{arith}
use mathlib.Core.Path.{◌≡◌, refl}
use lib.ListN.{length-set}
use Rattle.unfolding.proofs.Walk.{checked_less}
use Rattle.unfolding.proofs.Leads.{led_none, led_more, lead_small}
use Rattle.path.proofs.link.lead_all.Goals as goal

pub loop-n-init : goal.loop-n-init
loop-n-init c = record { long = refl; led = led_none _ _ }

pub lead-to-requires : goal.lead-to-requires
lead-to-requires c = (checked_less (omega arith) c.requires.0, omega (arith, c.requires.1), c.loop-n.invariant.led)

pub packed-requires : goal.packed-requires
packed-requires c = omega (arith, lead_small c.lead-to.ensures, c.requires.0.readable.most)

pub put-requires : goal.put-requires
put-requires c = (omega (arith, c.requires.1), omega (arith, c.packed.ensures, lead_small c.lead-to.ensures, c.requires.0.readable.most))

pub loop-n-preserved : goal.loop-n-preserved
loop-n-preserved c =
    let i = c.loop-n.invariant in
    record { long = rw (c.put.ensures, c.packed.ensures) (simp length-set i.long); led = rw (c.put.ensures, c.packed.ensures) (led_more i.led (omega (arith, c.requires.1)) c.lead-to.ensures) }

pub returns : goal.returns
returns c =
    let e : c.loop-n.n ≡ c.args.count = omega arith in
    (c.loop-n.invariant.long, rw e at c.loop-n.invariant.led)
