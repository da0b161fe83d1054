use Prim.Native.Nat.{◌+◌, ◌-◌}
use native.Mathlib.Omega.{arith}
use mathlib.Core.Path.{◌≡◌}
use Rattle.desk.proofs.AnswerLaws.{spread_more}
use Rattle.desk.proofs.spread_all.Goals as goal

pub loop-x-preserved : goal.loop-x-preserved
loop-x-preserved c = let e : c.loop-x.x ≡ c.loop-x.x - 1 + 1 = omega arith in spread_more (rw e at c.loop-x.invariant) c.spread.ensures
