-- `note` meets its contract. Assumes nothing.
use Prim.Native.Nat.{◌-◌}
use mathlib.Core.Path.{refl}
use lib.ListN.{get_or}
use Rattle.gains.proofs.Gaining.{and_left}
use Rattle.gains.proofs.note.Goals as goal

pub returns : goal.returns
returns c = (λ j. and_left c.args.found (18446744073709551615 - get_or c.args.notes.now c.args.at 0) j, refl)
