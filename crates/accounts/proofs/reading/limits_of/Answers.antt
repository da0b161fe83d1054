-- `limits_of` meets its contract. Assumes nothing.
use mathlib.Core.Path.{refl}
use Rattle.sharing.specs.Parties.{account_at}
use Rattle.accounts.proofs.reading.limits_of.Goals as goal

pub returns : goal.returns
unfolding account_at
returns c = record { calls_value = refl; answers_value = refl }
