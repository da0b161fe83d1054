-- `entered` meets its contract: by the party. Assumes nothing.
use native.Mathlib.Omega.{arith}
use mathlib.Core.Path.{◌∙◌}
use Rattle.accounts.proofs.KeptWords.{short_first, short_second, entered_first, entered_second}
use Rattle.accounts.proofs.writing.entered.Goals as goal

pub entry_at-requires : goal.entry_at-requires
entry_at-requires c = (omega (arith, c.requires.0.long), short_first c.requires.0)

pub returns-then-second : goal.returns-then-second
returns-then-second c = λ a e. c.ledger.ensures ∙ entered_second _ c.requires.0.long a _ _ c.if-second.true c.entry_at.ensures e

pub entry_at-requires-else-second : goal.entry_at-requires-else-second
entry_at-requires-else-second c = (omega (arith, c.requires.0.long), short_second c.requires.0)

pub returns-else-second : goal.returns-else-second
returns-else-second c = λ a e. c.ledger-else-second.ensures ∙ entered_first _ c.requires.0.long a _ _ c.if-second.false e c.entry_at-else-second.ensures
