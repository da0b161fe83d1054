-- `start` meets its contract: by whether rows are held. Assumes nothing.
use mathlib.Core.Path.{sym, ◌∙◌}
use Rattle.accounts.proofs.AccountWords.{start_word}
use Rattle.accounts.proofs.reading.start.Goals as goal

pub returns-then-holds : goal.returns-then-holds
returns-then-holds c = rw (start_word, sym c.holds.ensures ∙ c.if-holds.true)

pub returns-else-holds : goal.returns-else-holds
returns-else-holds c = rw (start_word, sym c.holds.ensures ∙ c.if-holds.false)
