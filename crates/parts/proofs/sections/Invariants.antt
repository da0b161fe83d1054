-- `sections` meets its contract. The invariant: what adds the parts of the lines from `a` on adds those of all of them.
-- The measure is what is left of the sheet. Assumes nothing.
use mathlib.Core.Path.{◌≡◌}
use mathlib.Core.List.{List, ◌++◌}
use Prim.Native.Nat.{ℕ, ◌+◌, ◌-◌, ◌≤◌, ◌<◌}
use lib.ListN.{length, drop}
use Rattle.chars.specs.Pieces.{lines}
use Rattle.parts.specs.Parts.{Grows, section}
use Rattle.parts.proofs.sections.Given as goal

abbrev pub invariant-loop-a : goal.invariant-loop-a
invariant-loop-a l =
    (l.a ≤ length l.s + 1) × (l.n + length (section l.word (lines (drop l.a l.s))) ≡ l.at + length (section l.word (lines l.s))) × (length l.list ≡ length l.initial.list)
    × ((cut : ℕ) (b z : List ℕ) → length b ≡ l.base → (cut < l.base + length l.s → cut ≤ l.base) → (v : List ℕ) (q : ℕ) → Grows cut (b ++ (l.s ++ z)) l.list l.n v q (section l.word (lines (drop l.a l.s))) → Grows cut (b ++ (l.s ++ z)) l.initial.list l.at v q (section l.word (lines l.s)))

abbrev pub decreases-loop-a : goal.decreases-loop-a
decreases-loop-a l = length l.s + 1 - l.a
