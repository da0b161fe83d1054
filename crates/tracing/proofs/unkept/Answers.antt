-- `unkept` meets its contract. Assumes nothing.
use mathlib.Core.Path.{sym, ◌∙◌, refl}
use borrow.Author.Tests.{eq-eqb, ne_eqb}
use Rattle.refusals.proofs.Numbers.{number-not_zero}
use Rattle.tracing.proofs.unkept.Goals as goal

pub returns-in-Err : goal.returns-in-Err
returns-in-Err c = rw (ne_eqb _ 0 (λ z. number-not_zero _ (c.in-Err.ensures ∙ z))) c.in-Err.ensures

pub returns-in-Ok : goal.returns-in-Ok
returns-in-Ok c = rw (eq-eqb _ 0 (sym c.in-Ok.ensures)) refl
