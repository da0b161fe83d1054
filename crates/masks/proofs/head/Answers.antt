-- `head` meets its contract. Assumes nothing.
use native.Mathlib.Omega.{arith}
use mathlib.Core.Path.{refl}
use Rattle.masks.proofs.head.Goals as goal

pub overflow_cast-result : goal.overflow_cast-result
overflow_cast-result c = omega (arith, c.requires.1.heads c.args.r c.requires.0)

pub returns : goal.returns
returns c = (refl, c.requires.1.heads c.args.r c.requires.0)
