-- `texts::held_one` meets its contract. Assumes nothing.
use mathlib.Core.Path.{sym, ◌∙◌}
use native.Mathlib.Omega.{arith}
use Rattle.parts.specs.Parts.{part_at}
use Rattle.parts.proofs.PartLists.{grows_none, grows_as}
use Rattle.parts.proofs.Turns.{held_here, held_not}
use Rattle.parts.proofs.texts.held_one.Goals as goal

pub returns-then-holds : goal.returns-then-holds
returns-then-holds c =
    let a = c.args in
    let x = c.copy in
    let h = sym c.holds.ensures ∙ c.if-holds.true in
    let n = x.ensures.value in
    record { by_index = λ cut u g. grows_as cut u _ _ _ _ _ _ (sym (held_here a.k a.state.0 (part_at u a.list.now a.i) h)) (x.ensures.by_index cut u g); lower_bound = (omega arith, omega arith) }

pub returns : goal.returns
returns c =
    let a = c.args in
    let h = sym c.holds.ensures ∙ c.if-holds.false in
    record { by_index = λ cut u g. grows_as cut u _ _ _ _ _ _ (sym (held_not a.k a.state.0 (part_at u a.list.now a.i) h)) (grows_none cut u a.list.now a.n); lower_bound = (omega arith, omega arith) }
