-- `look_at_new` meets its contract. The invariant: the answers from x on are noted, and the callers of their records lie between. Assumes nothing.
use Prim.Native.Nat.{◌≤◌}
use Rattle.desk.specs.Desk.{packed_answers}
use Rattle.uses.specs.Uses.{uses_in, Between, Lighted, LooksAlone}
use Rattle.uses.proofs.look_at_new.Given as goal

abbrev pub invariant-loop-x : goal.invariant-loop-x
invariant-loop-x l = record {
  low : l.low ≤ l.walked;
  high : l.high ≤ 65536;
  between : Between (packed_answers l.answers l.known) (uses_in l.calls l.initial.list) l.low l.high l.x l.known;
  lighted : Lighted (packed_answers l.answers l.known) (uses_in l.calls l.initial.list) (uses_in l.calls l.list) l.seen l.known l.x;
  looks : LooksAlone l.initial.list l.list;
}
