use Prim.Native.Nat.{ℕ, ◌/◌, ◌%◌}
use native.Mathlib.Omega.{arith}
use mathlib.Core.Path.{◌≡◌, ap, ap₂, ◌∙◌}
use mathlib.Core.List.{List}
use lib.ListN.{length, take, set}
use Rattle.archive.specs.Archive.{column, part}
use Rattle.archive.proofs.Tabulated.{columns_none, columns_more}
use Rattle.archive.proofs.columns.Goals as goal

pub loop-j-init : goal.loop-j-init
loop-j-init c = columns_none _ _ _ _

pub loop-j-preserved : goal.loop-j-preserved
loop-j-preserved c =
    let a = c.args in
    let now = c.loop-j in
    let next = column (now.j % a.m) (part a.size (now.j / a.m) a.list.now) in
    let r : c.column.result ≡ next = c.column.ensures ∙ ap (column (now.j % a.m)) c.part.ensures in
    ap₂ (λ (l : List ℕ) (v : ℕ). set l now.j v) now.invariant r ∙ columns_more a.size a.m a.list.now (take a.n a.out.now) now.j (omega arith)
