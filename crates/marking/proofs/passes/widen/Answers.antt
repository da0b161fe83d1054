-- `widen` meets its contract. Assumes nothing.
use native.Mathlib.Omega.{arith}
use Rattle.marking.proofs.passes.widen.Goals as goal

pub rule_steps-requires : goal.rule_steps-requires
rule_steps-requires c = (c.requires.2, c.requires.3.counts _ c.requires.2)

pub walk_mask-mask-requires : goal.walk_mask-mask-requires
walk_mask-mask-requires c =
    let pre = c.requires in
    (pre.0, omega (arith, pre.0.within, pre.0.few), rw c.rule_steps.ensures (pre.3.good _ pre.2))

pub add-requires : goal.add-requires
add-requires c = let pre = c.requires in (pre.2, pre.3, omega (arith, pre.1, pre.0.within, pre.0.few), pre.0.room)

pub returns : goal.returns
returns c = record { mask = c.walk_mask-mask.result; walked = rw (← c.rule_steps.ensures) c.walk_mask-mask.ensures; added = c.add.ensures }
