-- `texts::size` meets its contract. The invariant: the size so far and that of the parts from i on make the whole. Assumes nothing.
use mathlib.Core.Path.{◌≡◌}
use mathlib.Core.List.{List, ◌++◌}
use Prim.Native.Nat.{ℕ, ◌+◌, ◌*◌, ◌-◌, ◌≤◌}
use lib.ListN.{length}
use Rattle.parts.specs.Parts.{parts_from, wrapped}
use Rattle.parts.proofs.texts.size.Given as goal

abbrev pub invariant-loop-i : goal.invariant-loop-i
invariant-loop-i l =
    (l.n ≤ 131080 * (l.i - l.lo))
    × ((w z : List ℕ) → length w + length z ≡ l.around → l.n + length (wrapped w z (parts_from (l.first ++ l.second) l.list l.i (l.hi - l.i))) ≡ length (wrapped w z (parts_from (l.first ++ l.second) l.list l.lo (l.hi - l.lo))))
