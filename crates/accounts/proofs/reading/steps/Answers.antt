-- `steps` meets its contract: by whether rows are held. Assumes nothing.
use native.Mathlib.Omega.{arith}
use mathlib.Core.Path.{sym, ◌∙◌}
use Rattle.accounts.proofs.AccountWords.{step_count}
use Rattle.accounts.proofs.reading.steps.Goals as goal

pub returns-then-holds : goal.returns-then-holds
returns-then-holds c =
    let a = c.args in
    rw (sym c.holds.ensures ∙ c.if-holds.true) at (step_count a.kept.now a.at (omega arith))

pub returns-else-holds : goal.returns-else-holds
returns-else-holds c =
    let a = c.args in
    rw (sym c.holds.ensures ∙ c.if-holds.false) at (step_count a.kept.now a.at (omega arith))
