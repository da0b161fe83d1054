-- `vacant` meets its contract: two stores. Assumes nothing.
use mathlib.Core.Path.{refl}
use Rattle.sharing.specs.Parties.{account_words}
use Rattle.accounts.proofs.writing.vacant.Goals as goal

pub returns : goal.returns
unfolding account_words
returns c = refl
