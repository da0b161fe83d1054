-- `walk_mask` meets its contract. Assumes nothing.
use Rattle.steps.proofs.StateLaws.{one_shl}
use Rattle.masks.proofs.Walking.{walk_none, walk_more}
use Rattle.masks.proofs.walk_mask.Goals as goal

pub loop-step-init : goal.loop-step-init
loop-step-init c = rw (one_shl c.args.place c.requires.1) (walk_none _ _ _ c.requires.0 c.args.place)

pub loop-step-preserved : goal.loop-step-preserved
loop-step-preserved c = walk_more _ _ _ c.requires.0 c.args.body.now c.requires.1 c.loop-step-test.true c.loop-step.invariant c.spread-mask.ensures
