-- `get_two` meets its contract: the bytes by what each counts. Assumes nothing.
use native.Mathlib.Omega.{arith}
use native.Mathlib.Nat.{add-zero}
use Rattle.cells.specs.Numbers.{number}
use Rattle.cells.proofs.get_two.Goals as goal

pub returns : goal.returns
unfolding number
returns c = (rw (add-zero c.args.at) (omega arith), omega arith)
