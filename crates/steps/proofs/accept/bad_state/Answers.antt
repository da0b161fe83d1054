-- `bad_state` meets its contract: a 64-bit number divided by 2 ^ 64 or more is 0. Assumes nothing.
use Prim.Native.Nat.{◌/◌, ◌^◌}
use mathlib.Core.Path.{◌≡◌, refl}
use native.Mathlib.Omega.{arith}
use native.Mathlib.Nat.{div-eq_of_lt}
use borrow.Author.Tests.{le-ltb}
use lib.Pow.{pow_mono}
use Rattle.steps.specs.Acceptance.{bad_state}
use Rattle.steps.proofs.accept.bad_state.Goals as goal

pub returns-else-fluents-lt64 : goal.returns-else-fluents-lt64
unfolding bad_state
returns-else-fluents-lt64 c =
    let a = c.args in
    let none : a.start / 2 ^ a.fluents ≡ 0 = div-eq_of_lt (omega (arith, pow_mono c.if-fluents-lt64.false)) in
    rw (none, le-ltb _ _ c.if-fluents-lt64.false) refl
