-- `texts::held` meets its contract. The invariant: what adds those of the parts from i on that hold adds those of all of them. Assumes nothing.
use mathlib.Core.Path.{◌≡◌}
use mathlib.Core.List.{List}
use Prim.Native.Nat.{ℕ, ◌+◌, ◌-◌, ◌≤◌}
use lib.ListN.{length}
use Rattle.writer.specs.Text.{holding}
use Rattle.parts.specs.Parts.{Inside, Grows, parts_from}
use Rattle.parts.proofs.texts.held.Given as goal

abbrev pub invariant-loop-i : goal.invariant-loop-i
invariant-loop-i l =
    (l.at ≤ l.n) × (l.n ≤ l.at + (l.i - l.lo)) × (length l.list ≡ length l.initial.list)
    × ((cut : ℕ) (u : List ℕ) → Inside cut u l.initial.list l.at → Inside cut u l.list l.n
    × ((v : List ℕ) (q : ℕ) → Grows cut u l.list l.n v q (holding (l.i - l.lo) l.state.0 (parts_from u l.list l.i (l.hi - l.i))) → Grows cut u l.initial.list l.at v q (holding 0 l.state.0 (parts_from u l.initial.list l.lo (l.hi - l.lo)))))
