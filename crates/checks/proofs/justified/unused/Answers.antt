-- `unused` meets its contract. Assumes nothing.
use native.Mathlib.Omega.{arith}
use mathlib.Core.Path.{◌∙◌}
use Rattle.checks.proofs.WidthLaws.{answer_others}
use Rattle.checks.proofs.ClearLaws.{evidence_clear}
use Rattle.checks.proofs.justified.unused.Goals as goal

pub overflow_mul-at : goal.overflow_mul-at
overflow_mul-at c = omega (arith, answer_others c.args.plain c.args.n c.answer_width.ensures c.requires.0)

pub overflow_add-at : goal.overflow_add-at
overflow_add-at c = omega (arith, answer_others c.args.plain c.args.n c.answer_width.ensures c.requires.0)

pub overflow_add-at-2 : goal.overflow_add-at-2
overflow_add-at-2 c = omega (arith, answer_others c.args.plain c.args.n c.answer_width.ensures c.requires.0)

pub overflow_add-at-3 : goal.overflow_add-at-3
overflow_add-at-3 c = omega (arith, answer_others c.args.plain c.args.n c.answer_width.ensures c.requires.0)

pub clear_between-requires : goal.clear_between-requires
clear_between-requires c = (omega arith, omega (arith, answer_others c.args.plain c.args.n c.answer_width.ensures c.requires.0))

pub returns : goal.returns
returns c = rw c.answer_width.ensures at (c.clear_between.ensures ∙ evidence_clear _ _ _)
