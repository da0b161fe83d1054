-- `copy` meets its contract. Assumes nothing.
use Prim.Native.Nat.{◌+◌, ◌-◌}
use borrow.Author.Rules.{rules}
use native.Mathlib.Omega.{arith}
use mathlib.Core.Path.{◌≡◌}
use lib.ListN.{drop}
use lib.Seq.{paste}
use Rattle.path.proofs.Copying.{copied_within}
use Rattle.path.proofs.write.copy.Goals as goal

pub returns : goal.returns
returns c =
    let a = c.args in
    let long : a.from + a.n - a.from ≡ a.n = omega arith in
    let after : c.copy_within.new.self ≡ paste a.list.now a.to (drop a.from a.list.now) (a.from + a.n - a.from) = search rules in
    rw (after, long) (copied_within a.list.now a.from a.to a.n c.requires.0 c.requires.1)
