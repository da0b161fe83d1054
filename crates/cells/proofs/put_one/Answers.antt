-- `put_one` meets its contract. Assumes nothing.
use native.Mathlib.Omega.{arith}
use Rattle.cells.proofs.NumberLaws.{kept_first}
use Rattle.cells.proofs.put_one.Goals as goal

pub returns : goal.returns
returns c = kept_first c.args.bytes.now c.args.at c.args.value (omega arith)
