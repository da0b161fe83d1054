-- `unit_of` meets its contract: 16 places up for each quarter below. Assumes nothing.
use native.Mathlib.Omega.{arith}
use Rattle.quarters.proofs.QuarterLaws.{unit_shl, unit_positive}
use Rattle.quarters.proofs.unit_of.Goals as goal

pub returns : goal.returns
returns c = let j = c.args.j in let e = unit_shl j (omega arith) in (omega (arith, e), omega (arith, e, unit_positive j (omega arith)))
