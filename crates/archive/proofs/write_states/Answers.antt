-- `write_states` meets its contract. Assumes nothing.
use native.Mathlib.Omega.{arith}
use mathlib.Core.Path.{sym, ◌∙◌}
use lib.ListN.{length}
use Rattle.std.proofs.lemmas.Result.{err_from_is_err_and}
use Rattle.refusals.proofs.Numbers.{number-not_zero}
use Rattle.archive.proofs.Outcomes.{refused, restored_outcome, restore_passed}
use Rattle.archive.proofs.write_states.Goals as goal

pub returns-in_err-may_restore : goal.returns-in_err-may_restore
returns-in_err-may_restore c =
    let p = err_from_is_err_and c.from_residual.result c.from_residual.ensures.1 in
    rw (p.1, p.2) (refused _ _ _ _ c.in_err-may_restore.ensures (number-not_zero _))

pub columns-requires : goal.columns-requires
columns-requires c =
    let a = c.args in
    let passed = restore_passed a.fluents a.count a.words.now (length a.states.now) (sym c.in_ok-may_restore.ensures) in
    (passed.0, omega arith, passed.3, omega (arith, passed.3))

pub returns : goal.returns
returns c = restored_outcome _ _ _ _ _ (sym c.in_ok-may_restore.ensures) c.columns.ensures
