-- `get` meets its contract: number n is made up of its two parts. Assumes nothing.
use native.Mathlib.Omega.{arith}
use Rattle.cells.proofs.NumberLaws.{number_at, there, joined_bytes}
use Rattle.cells.proofs.get.Goals as goal

pub overflow_mul-n : goal.overflow_mul-n
overflow_mul-n c = omega (arith, (there c.args.bytes.now c.args.n c.requires).few)

pub get_two-requires : goal.get_two-requires
get_two-requires c =
    let t = there c.args.bytes.now c.args.n c.requires in
    omega (arith, t.few, t.fits)

pub overflow_add-n : goal.overflow_add-n
overflow_add-n c = omega (arith, (there c.args.bytes.now c.args.n c.requires).few)

pub byte-requires : goal.byte-requires
byte-requires c = omega (arith, (there c.args.bytes.now c.args.n c.requires).fits)

pub returns : goal.returns
returns c = rw (number_at c.args.bytes.now c.args.n c.requires, joined_bytes c.args.bytes.now c.args.n) (omega (arith, c.get_two.ensures.0, c.byte.ensures.0))
