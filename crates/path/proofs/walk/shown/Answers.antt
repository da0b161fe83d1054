-- `shown` meets its contract. Assumes nothing.
use Prim.Native.Nat.{ℕ}
use mathlib.Core.Path.{sym, ap, ◌∙◌}
use mathlib.Core.Bool.{Bool, cond}
use Rattle.unfolding.proofs.Walk.{shown_length}
use Rattle.path.proofs.walk.shown.Goals as goal

pub returns-then-kind : goal.returns-then-kind
returns-then-kind c t = sym (shown_length _ t ∙ ap (λ (b : Bool). cond {A = ℕ} b 1 0) c.if-kind.true)

pub returns-else-kind : goal.returns-else-kind
returns-else-kind c t = sym (shown_length _ t ∙ ap (λ (b : Bool). cond {A = ℕ} b 1 0) c.if-kind.false)
