-- `texts::put_all` meets its contract. The invariant: what puts the parts from i on puts all of them. Assumes nothing.
use mathlib.Core.Path.{◌≡◌}
use mathlib.Core.List.{List, ◌++◌}
use Prim.Native.Nat.{ℕ, ◌+◌, ◌-◌, ◌≤◌}
use lib.ListN.{length}
use Rattle.writer.proofs.Filling.{Gives}
use Rattle.parts.specs.Parts.{parts_from, wrapped}
use Rattle.parts.proofs.texts.put_all.Given as goal

abbrev pub invariant-loop-i : goal.invariant-loop-i
invariant-loop-i l =
    (l.p + length (wrapped l.word l.end (parts_from (l.first ++ l.second) l.list l.i (l.hi - l.i))) ≡ l.at + length (wrapped l.word l.end (parts_from (l.first ++ l.second) l.list l.lo (l.hi - l.lo)))) × (length l.out ≡ length l.initial.out)
    × ((o : List ℕ) (q : ℕ) → Gives l.out l.p (wrapped l.word l.end (parts_from (l.first ++ l.second) l.list l.i (l.hi - l.i))) o q → Gives l.initial.out l.at (wrapped l.word l.end (parts_from (l.first ++ l.second) l.list l.lo (l.hi - l.lo))) o q)
