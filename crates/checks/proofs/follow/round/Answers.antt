-- `round` meets its contract. Assumes nothing.
use Rattle.checks.proofs.follow.round.Goals as goal

pub round_of-requires : goal.round_of-requires
round_of-requires c = rw c.answer_width.ensures c.requires

pub returns : goal.returns
returns c m = rw c.answer_width.ensures at c.round_of.ensures
