-- `copy` meets its contract. Assumes nothing.
use Rattle.parts.proofs.copy.Goals as goal

pub returns : goal.returns
returns c = let x = c.push in record { by_index = λ cut u h. x.ensures.by_index cut u h.lies; value = x.ensures.value }
