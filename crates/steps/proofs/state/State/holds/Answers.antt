-- `State::holds` meets its contract: a 64-bit number has no bit from 64 on. Assumes nothing.
use mathlib.Core.Path.{◌≡◌, refl}
use native.Mathlib.Omega.{arith}
use borrow.Author.Tests.{le-ltb}
use Rattle.steps.specs.State.{bit}
use Rattle.steps.proofs.StateLaws.{high}
use Rattle.steps.proofs.state.State.holds.Goals as goal

pub returns-else-k-lt64 : goal.returns-else-k-lt64
returns-else-k-lt64 c =
    let a = c.args in
    let none : bit a.self.0 a.k ≡ 0 = high 64 a.k a.self.0 (omega arith) (omega arith) in
    rw (none, le-ltb _ _ c.if-k-lt64.false) refl
