-- `ledger` meets its contract. Assumes nothing.
use Rattle.accounts.proofs.KeptWords.{joined}
use Rattle.accounts.proofs.writing.ledger.Goals as goal

pub returns : goal.returns
returns c = rw (c.copy_from_slice.ensures.after, c.copy_from_slice-2.ensures.after) (joined _ _ _ _ c.requires.0 c.requires.1)
