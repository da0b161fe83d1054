use native.Mathlib.Omega.{arith}
use mathlib.Core.Path.{◌≡◌}
use Rattle.stowing.proofs.AnswerStows.{unstow_more, unstow_all}
use Rattle.stowing.proofs.unstow_answers.Goals as goal

pub loop-x-preserved : goal.loop-x-preserved
loop-x-preserved c = unstow_more c.loop-x.invariant (omega arith) (omega arith) c.unstow_answer.ensures

pub returns : goal.returns
returns c = let e : c.loop-x.x ≡ c.args.m = omega arith in unstow_all (rw e at c.loop-x.invariant) c.clear_from.ensures
