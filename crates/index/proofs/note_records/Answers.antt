use Rattle.index.proofs.IndexLaws.{chained_more}
use Rattle.index.proofs.note_records.Goals as goal

pub loop-i-preserved : goal.loop-i-preserved
loop-i-preserved c = chained_more c.loop-i.i c.bucket_of-k.ensures.value c.bucket_of-k.ensures.below c.loop-i.invariant c.note.ensures
