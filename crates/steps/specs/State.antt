-- States, and what an update makes of one (document 01, "What the logic says"). Assumes nothing.
use Rattle.std.specs.Prelude.{ℕ, ◌+◌, ◌-◌, ◌/◌, ◌%◌, ◌^◌, Bool, cond, eqb}

-- "A state is a set of at most 64 fluents, held as an unsigned 64-bit number": that it has no more bits is what acceptance gives.
abbrev pub State : Type 0
State = ℕ

-- Bit k of the number, 0 or 1.
abbrev pub bit : State → ℕ → ℕ
bit s k = s / 2 ^ k % 2

-- "Fluent k holds exactly if bit k is set."
abbrev pub holds : State → ℕ → Bool
holds s k = eqb (bit s k) 1

-- "The state with p added", also where p held already.
abbrev pub added : State → ℕ → State
added s k = cond (holds s k) s (s + 2 ^ k)

-- "The state with p removed", also where p did not hold.
abbrev pub removed : State → ℕ → State
removed s k = cond (holds s k) (s - 2 ^ k) s
