-- `step` meets its contract. Assumes nothing.
use Rattle.accounts.proofs.AccountWords.{goal_word}
use Rattle.accounts.proofs.reading.step.Goals as goal

pub returns : goal.returns
returns c = goal_word _ _ _
