-- `part` meets its contract: a part that ends in the first sheet is the first's, any other is the second's. Assumes nothing.
use mathlib.Core.Path.{sym, ◌∙◌}
use Prim.Native.Nat.{◌-◌}
use native.Mathlib.Omega.{arith}
use lib.ListN.{length, length-append}
use Rattle.chars.proofs.Ends.{part_slice}
use Rattle.parts.proofs.Slices.{slice_first, slice_second}
use Rattle.parts.proofs.part.Goals as goal

pub returns-then-e-n : goal.returns-then-e-n
returns-then-e-n c =
    let s = c.args.first.now in
    let t = c.args.second.now in
    part_slice s c.args.a c.args.e c.requires.ordered c.if-e-n.true ∙ sym (slice_first s t c.args.a c.args.e c.if-e-n.true)

pub overflow_sub-result : goal.overflow_sub-result
overflow_sub-result c = c.requires.whole (omega (arith, c.if-e-n.false))

pub slice_bounds-result-end-2 : goal.slice_bounds-result-end-2
slice_bounds-result-end-2 c =
    let n = length-append c.args.first.now c.args.second.now in
    omega (arith, c.requires.within)

pub returns : goal.returns
returns c =
    let s = c.args.first.now in
    let t = c.args.second.now in
    let a = c.args.a in
    let e = c.args.e in
    let h = c.requires.whole (omega (arith, c.if-e-n.false)) in
    let n = length-append s t in
    let o = c.requires.ordered in
    part_slice t (a - length s) (e - length s) (omega arith) (omega (arith, c.requires.within)) ∙ sym (slice_second s t a e h (omega arith))
