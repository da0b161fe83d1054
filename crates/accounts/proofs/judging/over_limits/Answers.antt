-- `over_limits` meets its contract. Assumes nothing.
use mathlib.Core.Path.{sym, ◌∙◌}
use Rattle.sharing.specs.Charged.{over_limits}
use Rattle.accounts.proofs.judging.over_limits.Goals as goal

pub returns-then-over : goal.returns-then-over
unfolding over_limits
returns-then-over c = rw (rw c.room_of-call_room.ensures at (sym c.over.ensures ∙ c.if-over.true)) c.if-over.true

pub returns-else-over : goal.returns-else-over
unfolding over_limits
returns-else-over c = rw (rw c.room_of-call_room.ensures at (sym c.over.ensures ∙ c.if-over.false)) (rw c.room_of-answer_room.ensures at c.over-else-over.ensures)
