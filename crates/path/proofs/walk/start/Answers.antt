-- `start` meets its contract. Assumes nothing.
use native.Mathlib.Omega.{arith}
use Rattle.checks.proofs.WidthLaws.{call_key, answer_within}
use Rattle.path.proofs.walk.start.Goals as goal

pub row-requires : goal.row-requires
row-requires c = answer_within c.args.plain c.args.n c.requires.long (omega arith)

pub state_of-requires : goal.state_of-requires
state_of-requires c = call_key c.args.plain _ c.call_width.ensures (rw c.row.ensures (c.requires.called c.args.n (omega arith)))

pub returns : goal.returns
returns c = rw (c.row.ensures, c.call_width.ensures) at c.state_of.ensures
