-- `over_rooms` meets its contract. Assumes nothing.
use borrow.Author.Tests.{lt-ltb, le-ltb}
use Rattle.accounts.proofs.KeptWords.{rooms_placed}
use Rattle.accounts.proofs.judging.over_rooms.Goals as goal

pub returns-then-call_room-kept : goal.returns-then-call_room-kept
returns-then-call_room-kept c =
    let a = c.args in
    rw (rooms_placed a.kept.now c.requires a.calls.now a.answers.now, lt-ltb _ _ (rw c.room_of-call_room.ensures at c.if-call_room-kept.true)) (lt-ltb _ _ c.if-call_room-kept.true)

pub returns-else-call_room-kept : goal.returns-else-call_room-kept
returns-else-call_room-kept c =
    let a = c.args in
    rw (
      rooms_placed a.kept.now c.requires a.calls.now a.answers.now,
      le-ltb _ _ (rw c.room_of-call_room.ensures at c.if-call_room-kept.false),
      c.room_of-answer_room.ensures,
    )
