-- `goal_into` meets its contract. The loop's invariant: the first i steps are read. Assumes nothing.
use Prim.Native.Nat.{ℕ, ◌<◌, ◌≤◌}
use mathlib.Core.Path.{◌≡◌}
use lib.ListN.{length, get_or}
use Rattle.sharing.specs.Parties.{account_at}
use Rattle.accounts.proofs.reading.goal_into.Given as goal

abbrev pub invariant-loop-i : goal.invariant-loop-i
invariant-loop-i l = (l.count ≤ 16) × (length (account_at l.kept l.at).goal ≡ l.count) × ((k : ℕ) → k < l.i → get_or l.goal k 0 ≡ get_or (account_at l.kept l.at).goal k 0)
