-- `list_states` meets its contract: the rooms are all 0. Assumes nothing.
use native.Mathlib.Omega.{arith}
use Rattle.cells.proofs.NumberLaws.{zeros}
use Rattle.path.proofs.list.list_states.Goals as goal

pub list_within-requires : goal.list_within-requires
list_within-requires c =
    let p = c.requires in
    (p.0, omega arith, zeros 196608 (omega arith), zeros 196608 (omega arith))
