-- `told` meets its contract. Assumes nothing.
use mathlib.Core.Path.{refl}
use Rattle.writer.proofs.Outcomes.{told_refused}
use Rattle.merge.proofs.told.Goals as goal

pub returns-then-told-ne0 : goal.returns-then-told-ne0
returns-then-told-ne0 c = (told_refused c.args.s.now c.read-told.result c.read-told.ensures.value c.if-told-ne0.true, refl)

pub returns : goal.returns
returns c = (c.read-told.ensures.value, c.if-told-ne0.false)
