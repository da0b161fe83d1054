-- `alone` meets its contract: the places lent are as many as the limits, and the tables have them. Assumes nothing.
use native.Mathlib.Omega.{arith}
use mathlib.Core.Path.{sym}
use lib.Seq.{length-take-le}
use Rattle.alone.proofs.alone.Goals as goal

pub slice_bounds-within-end-2 : goal.slice_bounds-within-end-2
slice_bounds-within-end-2 c =
    let p = c.requires.rows_len in
    sym (length-take-le _ _ (omega (arith, p.0, p.1)))

pub slice_bounds-within-end-4 : goal.slice_bounds-within-end-4
slice_bounds-within-end-4 c = sym (length-take-le _ _ (omega (arith, c.requires.rows_len.1)))

pub within-requires : goal.within-requires
within-requires c =
    let p = c.requires.rows_len in
    record { accepted = c.requires.accepted; rows_len = (length-take-le _ _ (omega (arith, p.0, p.1)), length-take-le _ _ (omega (arith, p.1)), omega (arith, p.1)); answers_bound = p.2 }
