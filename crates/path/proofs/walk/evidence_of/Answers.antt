-- `evidence_of` meets its contract. Assumes nothing.
use Rattle.checks.proofs.WidthLaws.{answer_others}
use Rattle.path.proofs.walk.evidence_of.Goals as goal

pub evidence_of-requires : goal.evidence_of-requires
evidence_of-requires c = (answer_others c.args.plain c.args.n c.answer_width.ensures c.requires.0, c.requires.1)

pub returns : goal.returns
returns c = rw c.answer_width.ensures at c.evidence_of.ensures
