-- `place` meets its contract. Assumes nothing.
use Rattle.sharing.specs.Parties.{party_of}
use Rattle.accounts.specs.Accounts.{place_of}
use Rattle.accounts.proofs.writing.place.Goals as goal

pub returns-then-second : goal.returns-then-second
unfolding party_of place_of
returns-then-second c = rw c.if-second.true

pub returns-else-second : goal.returns-else-second
unfolding party_of place_of
returns-else-second c = rw c.if-second.false
