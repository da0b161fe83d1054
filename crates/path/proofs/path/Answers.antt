-- `path` meets its contract: refused, too few places, or listed. Assumes nothing.
use native.Mathlib.Omega.{arith}
use mathlib.Core.Path.{refl, sym}
use Rattle.refusals.proofs.Numbers.{number-not_zero}
use Rattle.path.specs.Answered.{handed}
use Rattle.path.proofs.OutcomeLaws.{walkable, refused, too_few, listed_all}
use Rattle.path.proofs.path.Goals as goal

pub returns-in-Err : goal.returns-in-Err
returns-in-Err c =
    let a = c.args in
    let l = handed a.fluents a.actions a.rules.now a.goal.now a.calls.now a.call_count a.answers.now a.answer_count in
    rw c.number.ensures (refused l a.«record» a.states.now _ c.in-Err.ensures (number-not_zero _))

pub list_states-requires : goal.list_states-requires
list_states-requires c =
    let a = c.args in
    let l = handed a.fluents a.actions a.rules.now a.goal.now a.calls.now a.call_count a.answers.now a.answer_count in
    (walkable l a.«record» (sym c.in_default.ensures), omega arith)

pub returns-in_default-list_states : goal.returns-in_default-list_states
returns-in_default-list_states c =
    let a = c.args in
    let l = handed a.fluents a.actions a.rules.now a.goal.now a.calls.now a.call_count a.answers.now a.answer_count in
    rw c.number-in_default-list_states.ensures (too_few l a.«record» a.states.now (sym c.in_default.ensures) _ _ c.in_default-list_states.ensures refl)

pub returns : goal.returns
returns c =
    let a = c.args in
    let l = handed a.fluents a.actions a.rules.now a.goal.now a.calls.now a.call_count a.answers.now a.answer_count in
    listed_all l a.«record» a.states.now (sym c.in_default.ensures) _ _ c.in-Some.ensures _ refl
