-- `show` meets its contract. Assumes nothing.
use native.Mathlib.Omega.{arith}
use mathlib.Core.Path.{sym, ◌∙◌}
use Rattle.steps.specs.Words.{step_of}
use Rattle.unfolding.proofs.Walk.{shown_small}
use Rattle.unfolding.proofs.Unrolling.{put_unshown, put_shown}
use Rattle.path.proofs.unroll.show.Goals as goal

pub returns-then-shown-eq0 : goal.returns-then-shown-eq0
returns-then-shown-eq0 c =
    let a = c.args in
    let none = sym (c.shown.ensures a.state) ∙ c.if-shown-eq0.true in
    (omega (arith, none), put_unshown (step_of a.step) a.state a.at a.list.now none)

pub bounds-list-at : goal.bounds-list-at
bounds-list-at c =
    let a = c.args in
    omega (arith, c.shown.ensures a.state, c.if-shown-eq0.false, c.requires)

pub overflow_add-result : goal.overflow_add-result
overflow_add-result c =
    let a = c.args in
    omega (arith, c.shown.ensures a.state, c.if-shown-eq0.false, c.requires, c.well_formed)

pub returns : goal.returns
returns c =
    let a = c.args in
    let size = c.shown.ensures a.state in
    (omega (arith, size, c.if-shown-eq0.false, shown_small (step_of a.step) a.state), put_shown (step_of a.step) a.state a.at a.list.now (omega (arith, size, c.if-shown-eq0.false)) (omega (arith, size, c.if-shown-eq0.false, c.requires)))
