-- `trace` meets its contract: refused, too few places, or listed. Assumes nothing.
use native.Mathlib.Omega.{arith}
use mathlib.Core.Path.{refl, sym}
use Rattle.refusals.proofs.Numbers.{number-not_zero}
use Rattle.tracing.proofs.TracedLaws.{walkable, refused, too_few, listed_all}
use Rattle.tracing.proofs.trace.Goals as goal

pub returns-in-Err : goal.returns-in-Err
returns-in-Err c =
    let a = c.args in
    rw (c.refused.ensures.0, c.refused.ensures.1) (refused a.fluents a.actions a.rules.now a.kept.now a.calls.now a.answers.now a.«record» a.states.now _ c.in-Err.ensures (number-not_zero _))

pub list_states-requires : goal.list_states-requires
list_states-requires c =
    let a = c.args in
    (walkable a.fluents a.actions a.rules.now a.kept.now a.calls.now a.answers.now c.requires a.«record» (sym c.in_default.ensures), omega arith)

pub returns-in_default-list_states : goal.returns-in_default-list_states
returns-in_default-list_states c =
    let a = c.args in
    rw (c.refused-in_default-list_states.ensures.0, c.refused-in_default-list_states.ensures.1)
    (too_few a.fluents a.actions a.rules.now a.kept.now a.calls.now a.answers.now a.«record» a.states.now c.requires (sym c.in_default.ensures) _ _ c.in_default-list_states.ensures refl)

pub returns : goal.returns
returns c =
    let a = c.args in
    listed_all a.fluents a.actions a.rules.now a.kept.now a.calls.now a.answers.now a.«record» a.states.now c.requires (sym c.in_default.ensures) _ _ c.in-Some.ensures _ refl
