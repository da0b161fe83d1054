-- At each place before i stands the number of its line or, from n on, 0. Assumes nothing.
use Rattle.std.proofs.Common.{◌≡◌, ℕ, ◌+◌, ◌*◌, ◌<◌, ◌≤◌, get_or}
use Rattle.radix.specs.Lines.{line_width}
use Rattle.listing.proofs.take_numbers.Given as goal

abbrev pub invariant-loop-i : goal.invariant-loop-i
invariant-loop-i l =
    (j : ℕ) → j < l.i → (j < l.n → get_or l.list j 0 ≡ get_or l.words (l.at + line_width * j + 2) 0) × (l.n ≤ j → get_or l.list j 0 ≡ 0)
