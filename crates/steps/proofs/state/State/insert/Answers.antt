-- `State::insert` meets its contract: where bit k is clear, 2 ^ k is added without a carry. Assumes nothing.
use Prim.Native.Nat.{◌<◌}
use mathlib.Core.Path.{◌≡◌, refl, sym, ◌∙◌}
use mathlib.Core.Bool.{true, false}
use native.Mathlib.Omega.{arith}
use borrow.Author.Tests.{lt-ltb, le-ltb}
use Rattle.steps.specs.State.{holds}
use Rattle.steps.proofs.StateLaws.{room, not_held, one_shl}
use Rattle.steps.proofs.state.State.insert.Goals as goal

pub overflow_add-result : goal.overflow_add-result
overflow_add-result c =
    let a = c.args in
    let no : holds a.self.0 a.k ≡ false = sym c.holds.ensures ∙ c.if-not-holds.true in
    let low : a.k < 64 = c.if-k-lt64.true in
    omega (arith, one_shl a.k low, room 64 a.k a.self.0 low (omega arith) (not_held a.self.0 a.k no))
