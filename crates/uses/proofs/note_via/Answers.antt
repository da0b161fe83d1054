-- `note_via` meets its contract. Assumes nothing.
use native.Mathlib.Omega.{arith}
use Rattle.uses.proofs.UsesLaws.{both_most}
use Rattle.uses.proofs.note_via.Goals as goal

pub put-requires : goal.put-requires
put-requires c = (omega (arith, c.requires), omega arith, omega (arith, c.after_both-after.ensures, both_most c.via_of-was.result c.args.last c.via_of-was.ensures.1))
