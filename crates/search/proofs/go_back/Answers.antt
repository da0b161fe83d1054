-- The answer that is left is one of the known, and these fit their table.
use native.Mathlib.Omega.{arith}
use mathlib.Core.Path.{refl}
use Rattle.search.proofs.go_back.Goals as goal

pub final_of-requires : goal.final_of-requires
final_of-requires c =
    let (m, l, f, x) = c.requires.by_index in
    omega (arith, (c.in_ok-later.ensures.found _ refl).1, l, f.fits, f.small, f.long)

pub overflow_add-result-2 : goal.overflow_add-result-2
overflow_add-result-2 c =
    let (m, l, f, x) = c.requires.by_index in
    omega (arith, (c.in_ok-later.ensures.found _ refl).1, l, f.fits, f.small, f.long)
