-- `note` meets its contract, by the two quarters it puts. Assumes nothing.
use Rattle.index.proofs.IndexLaws.{noted_by}
use Rattle.index.proofs.note.Goals as goal

pub returns : goal.returns
returns c = noted_by c.get-head.ensures.0 c.put.ensures c.put-2.ensures
