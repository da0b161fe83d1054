-- `over_room` meets its contract. Assumes nothing.
use mathlib.Core.Path.{refl}
use borrow.Author.Tests.{lt-ltb, le-ltb}
use Rattle.checks.specs.Checks.{over_room}
use Rattle.checks.proofs.tables.over_room.Goals as goal

pub returns-then-room_of-call_count : goal.returns-then-room_of-call_count
unfolding over_room
returns-then-room_of-call_count c = rw (← c.room_of.ensures, lt-ltb _ _ c.if-room_of-call_count.true) refl

pub returns-else-room_of-call_count : goal.returns-else-room_of-call_count
unfolding over_room
returns-else-room_of-call_count c = rw (← c.room_of.ensures, le-ltb _ _ c.if-room_of-call_count.false, c.room_of-else-room_of-call_count.ensures) refl
