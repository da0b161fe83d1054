-- `pass` meets its contract. Assumes nothing.
use native.Mathlib.Omega.{arith}
use Rattle.gains.proofs.Widening.{guide_kept}
use Rattle.marking.proofs.Turning.{turned_none, turned_all}
use Rattle.marking.proofs.passes.pass.Goals as goal

pub loop-r-init : goal.loop-r-init
loop-r-init c = let pre = c.requires in turned_none _ _ _ _ pre.2 pre.1 _ _ pre.3

pub turn-more-requires : goal.turn-more-requires
turn-more-requires c = let pre = c.requires in (guide_kept pre.0 c.loop-r.invariant.grown.size, pre.1, omega arith, pre.2)

pub loop-r-preserved : goal.loop-r-preserved
loop-r-preserved c = c.turn-more.ensures _ c.loop-r.invariant

pub returns : goal.returns
returns c = let pre = c.requires in turned_all _ _ _ _ pre.2 pre.1 (omega arith) c.loop-r.invariant
