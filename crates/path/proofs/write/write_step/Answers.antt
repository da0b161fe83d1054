-- `write_step` meets its contract, by the step's kind. Assumes nothing.
use native.Mathlib.Omega.{arith}
use mathlib.Core.Path.{sym, ◌∙◌}
use Rattle.unfolding.proofs.Lies.{copied_same}
use Rattle.unfolding.proofs.Writing.{stepped_copy, stepped_none, stepped_store}
use Rattle.path.proofs.write.write_step.Goals as goal

pub copy-requires : goal.copy-requires
copy-requires c = (c.requires.1 (sym c.is_call.ensures ∙ c.if-is_call.true), c.requires.0)

pub returns-then-from-at : goal.returns-then-from-at
returns-then-from-at c = stepped_copy (sym c.is_call.ensures ∙ c.if-is_call.true) c.copy.ensures

pub returns-else-from-at : goal.returns-else-from-at
returns-else-from-at c = stepped_copy (sym c.is_call.ensures ∙ c.if-is_call.true) (rw c.if-from-at.false (copied_same _ _ _))

pub returns-then-size-ne0 : goal.returns-then-size-ne0
returns-then-size-ne0 c = stepped_store (sym c.is_call.ensures ∙ c.if-is_call.false) (omega (arith, c.if-size-ne0.true)) (omega arith)

pub returns-else-size-ne0 : goal.returns-else-size-ne0
returns-else-size-ne0 c = stepped_none c.if-size-ne0.false
