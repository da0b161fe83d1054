-- `put` meets its contract: the bytes of number n alone are put anew, in two parts. Assumes nothing.
use native.Mathlib.Omega.{arith}
use Rattle.cells.proofs.NumberLaws.{there, numbers_put}
use Rattle.cells.proofs.put.Goals as goal

pub overflow_mul-n : goal.overflow_mul-n
overflow_mul-n c = omega (arith, (there c.args.bytes.now c.args.n c.requires.0).few)

pub put_two-requires : goal.put_two-requires
put_two-requires c =
    let t = there c.args.bytes.now c.args.n c.requires.0 in
    omega (arith, t.few, t.fits)

pub overflow_add-n : goal.overflow_add-n
overflow_add-n c = omega (arith, (there c.args.bytes.now c.args.n c.requires.0).few)

pub put_one-requires : goal.put_one-requires
put_one-requires c = omega (arith, (there c.args.bytes.now c.args.n c.requires.0).fits, c.put_two.ensures.long)

pub returns : goal.returns
returns c =
    let a = c.args in
    numbers_put a.bytes.now _ _ a.n a.value c.requires.0 c.requires.1 c.put_two.ensures c.put_one.ensures
