-- `gather` meets its contract. The invariant: what adds the new ones of the parts from i on adds those of all of them. Assumes nothing.
use mathlib.Core.Path.{◌≡◌}
use mathlib.Core.List.{List, ◌++◌}
use Prim.Native.Nat.{ℕ, ◌+◌, ◌-◌, ◌≤◌}
use lib.ListN.{length}
use Rattle.parts.specs.Parts.{Inside, Grows, parts_from, news}
use Rattle.parts.proofs.gather.Given as goal

abbrev pub invariant-loop-i : goal.invariant-loop-i
invariant-loop-i l =
    (l.at ≤ l.n) × (l.n ≤ l.at + (l.i - l.lo)) × (length l.list ≡ length l.initial.list) × Inside (length l.first) (l.first ++ l.second) l.list l.n
    × ((v : List ℕ) (q : ℕ) → Grows (length l.first) (l.first ++ l.second) l.list l.n v q (news (parts_from (l.first ++ l.second) l.list l.base (l.n - l.base)) (parts_from (l.first ++ l.second) l.list l.i (l.hi - l.i)))
    → Grows (length l.first) (l.first ++ l.second) l.initial.list l.at v q (news (parts_from (l.first ++ l.second) l.initial.list l.base (l.at - l.base)) (parts_from (l.first ++ l.second) l.initial.list l.lo (l.hi - l.lo))))
