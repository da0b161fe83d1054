-- `action` meets its contract. Assumes nothing.
use native.Mathlib.Omega.{arith}
use mathlib.Core.Path.{sym, ◌∙◌}
use Rattle.steps.proofs.EachBelow.{true_not_false}
use Rattle.checks.proofs.WidthLaws.{call_key, answer_within}
use Rattle.path.proofs.walk.action.Goals as goal

pub row-requires : goal.row-requires
row-requires c = answer_within c.args.plain c.args.n c.requires.long (omega arith)

pub action_of-requires : goal.action_of-requires
action_of-requires c = call_key c.args.plain _ c.call_width.ensures (rw c.row.ensures (c.requires.called c.args.n (omega arith)))

pub returns-then-plain : goal.returns-then-plain
returns-then-plain c k = rw (c.row.ensures, c.call_width.ensures) at c.action_of.ensures

pub returns : goal.returns
returns c k = absurd (true_not_false (sym k ∙ c.if-plain.false))
