-- `with_quarter` meets its contract: the laws of a quarter taken away and another given, at this unit. Assumes nothing.
use native.Mathlib.Omega.{arith}
use Rattle.quarters.proofs.QuarterLaws.{given_fits, changed_fits, quarter_changed}
use Rattle.quarters.proofs.with_quarter.Goals as goal

pub overflow_mul-result-2 : goal.overflow_mul-result-2
overflow_mul-result-2 c = let a = c.args in rw c.unit_of-unit.ensures.0 (omega (arith, given_fits a.word a.v (omega arith) a.j (omega arith)))

pub overflow_add-result : goal.overflow_add-result
overflow_add-result c = let a = c.args in rw c.unit_of-unit.ensures.0 (omega (arith, changed_fits a.word a.v (omega arith) (omega arith) a.j (omega arith)))

pub returns : goal.returns
returns c = let a = c.args in rw c.unit_of-unit.ensures.0 (quarter_changed a.word a.v (omega arith) a.j (omega arith))
