-- `stale` meets its contract. Assumes nothing.
use native.Mathlib.Omega.{arith}
use borrow.Author.Count.{below_more}
use Rattle.gains.proofs.Widening.{no_call_words}
use Rattle.marking.proofs.passes.stale.Goals as goal

pub loop-step-preserved : goal.loop-step-preserved
loop-step-preserved c = below_more _ c.loop-step.step-index c.loop-step.invariant (c.calls.ensures c.if-calls.false)

pub returns : goal.returns
returns c e = (c.if-gained-eq0.false, no_call_words _ c.args.body.now (λ q h. c.loop-step.invariant q (omega (arith, h))))
