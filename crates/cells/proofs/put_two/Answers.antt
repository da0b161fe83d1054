-- `put_two` meets its contract: one byte after the other is put. Assumes nothing.
use native.Mathlib.Omega.{arith}
use lib.ListN.{length-set}
use Rattle.cells.proofs.NumberLaws.{kept_first, kept_next}
use Rattle.cells.proofs.put_two.Goals as goal

pub bounds-bytes-at-2 : goal.bounds-bytes-at-2
bounds-bytes-at-2 c = simp length-set (omega arith)

pub returns : goal.returns
returns c =
    let a = c.args in
    let one = kept_first a.bytes.now a.at a.value (omega arith) in
    kept_next 1 one (omega arith) (omega arith)
