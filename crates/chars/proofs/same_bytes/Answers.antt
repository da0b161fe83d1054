-- `same_bytes` meets its contract: it is the `==` of slices. Assumes nothing.
use Rattle.chars.proofs.Names.{same_pointwise}
use Rattle.chars.proofs.same_bytes.Goals as goal

pub returns : goal.returns
returns c = cc (same_pointwise c.args.x.now c.args.y.now)
