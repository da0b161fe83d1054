-- `push` meets its contract. Assumes nothing.
use Prim.Native.Nat.{◌*◌}
use native.Mathlib.Omega.{arith}
use mathlib.Core.Path.{refl}
use lib.ListN.{length-set}
use Rattle.parts.proofs.PartLists.{grows_with}
use Rattle.parts.proofs.push.Goals as goal

pub bounds-list-n-2 : goal.bounds-list-n-2
bounds-list-n-2 c = let n = length-set c.args.list.now (2 * c.args.n) c.args.a in omega (arith, c.requires)

pub returns : goal.returns
returns c = record { by_index = λ cut u l. grows_with u c.args.list.now c.args.a c.args.e cut c.args.n c.requires l; value = refl }
