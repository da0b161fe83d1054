use native.Mathlib.Omega.{arith}
use mathlib.Core.Path.{◌≡◌}
use Rattle.uses.proofs.look_back.Goals as goal

pub returns-clause-looked : goal.returns-clause-looked
returns-clause-looked c = let e : c.loop-x.x ≡ c.args.known = omega arith in rw e at c.loop-x.invariant.looked
