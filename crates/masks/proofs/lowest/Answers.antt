-- `lowest` meets its contract. Assumes nothing.
use native.Mathlib.Omega.{arith}
use lib.Count.{trailing_le}
use borrow.Author.Rules.{rules}
use Rattle.steps.proofs.StateLaws.{held_low}
use Rattle.masks.proofs.Walking.{lowest_bit}
use Rattle.masks.proofs.lowest.Goals as goal

pub overflow_cast-result : goal.overflow_cast-result
overflow_cast-result c = omega (arith, trailing_le 64 c.args.mask)

pub returns : goal.returns
returns c =
    let set = lowest_bit 64 c.args.mask c.requires (search rules) in
    (held_low 64 _ _ (search rules) set, set)
