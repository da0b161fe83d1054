-- `look_back` meets its contract. The invariant: all is looked at for the new answers before x. Assumes nothing.
use mathlib.Core.Bool.{true}
use Rattle.desk.specs.Desk.{packed_answers}
use Rattle.uses.specs.Uses.{uses_in, Looked, LooksAlone}
use Rattle.uses.proofs.look_back.Given as goal

abbrev pub invariant-loop-x : goal.invariant-loop-x
invariant-loop-x l = record {
  looked : Looked (packed_answers l.answers l.known) (uses_in l.calls l.initial.list) (uses_in l.calls l.list) l.seen l.known l.x true;
  looks : LooksAlone l.initial.list l.list;
}
