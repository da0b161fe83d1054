-- `retreat` meets its contract: the places looked at have no answer left. Assumes nothing.
use Prim.Native.Nat.{ℕ, ◌<◌, ◌≤◌}
use Rattle.desk.specs.Desk.{packed_answers}
use Rattle.invariants.proofs.Turn.{SpentRow}
use Rattle.search.proofs.retreat.Given as goal

abbrev pub invariant-loop-place : goal.invariant-loop-place
invariant-loop-place l = (q : ℕ) → l.place ≤ q → q < l.at → SpentRow l.body (packed_answers l.answers l.known) l.known l.chosen q
