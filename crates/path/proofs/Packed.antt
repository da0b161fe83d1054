-- A record as a table has it, one more than its number, or 0 for none. Assumes nothing.
use Prim.Native.Nat.{ℕ, ◌-◌, ◌≤◌}
use native.Mathlib.Omega.{arith}
use mathlib.Core.Path.{◌≡◌}
use Rattle.std.specs.Prelude.{Option, None, Some}
use Rattle.std.specs.Option.{SomeIff}
use Rattle.path.specs.Inner.{down_to}

-- one less, where there is one, and one more again
pub down_sub : (o : Option ℕ) (n : ℕ) → SomeIff o (1 ≤ n) (n - 1) → down_to o ≡ n
down_sub None n h = omega (arith, h)
down_sub (Some x) n h = omega (arith, h)
