-- `State::delete` meets its contract: a bit that is set is below 64, and 2 ^ k can be taken off. Assumes nothing.
use Prim.Native.Nat.{ℕ, ◌-◌}
use mathlib.Core.Path.{◌≡◌, refl, sym, ap, ◌∙◌}
use mathlib.Core.Bool.{true, false}
use native.Mathlib.Omega.{arith}
use Rattle.steps.specs.State.{holds}
use Rattle.steps.proofs.StateLaws.{has, held, held_low, one_shl}
use Rattle.steps.proofs.state.State.delete.Goals as goal

pub overflow_shl-result : goal.overflow_shl-result
overflow_shl-result c =
    let a = c.args in
    held_low 64 a.k a.self.0 (omega arith) (held a.self.0 a.k (sym c.holds.ensures ∙ c.if-holds.true))
