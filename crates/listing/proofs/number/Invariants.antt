-- At each place before i stands its number or, from n on, 0. Assumes nothing.
use Rattle.std.proofs.Common.{◌≡◌, ℕ, ◌<◌, ◌≤◌, get_or}
use Rattle.listing.proofs.number.Given as goal

abbrev pub invariant-loop-i : goal.invariant-loop-i
invariant-loop-i l = (j : ℕ) → j < l.i → (j < l.n → get_or l.list j 0 ≡ j) × (l.n ≤ j → get_or l.list j 0 ≡ 0)
