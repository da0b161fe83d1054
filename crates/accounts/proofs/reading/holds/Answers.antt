-- `holds` meets its contract. Assumes nothing.
use mathlib.Core.Path.{refl}
use Rattle.sharing.specs.Parties.{account_at}
use Rattle.accounts.proofs.reading.holds.Goals as goal

pub returns : goal.returns
unfolding account_at
returns c = refl
