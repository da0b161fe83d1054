-- `handed_back` meets its contract: by the count of words. Assumes nothing.
use mathlib.Core.Path.{refl}
use borrow.Author.Tests.{eq-eqb, ne_eqb}
use Rattle.sharing.specs.Parties.{account_words, ledger_words}
use Rattle.accounts.proofs.writing.handed_back.Goals as goal

pub returns-else-kept-eq-LEDGER_WORDS : goal.returns-else-kept-eq-LEDGER_WORDS
unfolding account_words ledger_words
returns-else-kept-eq-LEDGER_WORDS c = rw (ne_eqb _ _ c.if-kept-eq-LEDGER_WORDS.false) refl
