-- `get` meets its contract: the unit is that of `quarter`. Assumes nothing.
use native.Mathlib.Omega.{arith}
use mathlib.Core.Path.{refl}
use Rattle.quarters.specs.Quarters.{quarter}
use Rattle.quarters.proofs.get.Goals as goal

pub returns : goal.returns
unfolding quarter
returns c = (rw c.unit_of.ensures.0 refl, omega arith)
