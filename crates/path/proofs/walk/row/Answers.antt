-- `row` meets its contract. Assumes nothing.
use Rattle.checks.proofs.WidthLaws.{answer_others}
use Rattle.path.proofs.walk.row.Goals as goal

pub call_of-requires : goal.call_of-requires
call_of-requires c = answer_others c.args.plain c.args.n c.answer_width.ensures c.requires

pub returns : goal.returns
returns c = rw c.answer_width.ensures at c.call_of.ensures
