-- `look_before` meets its contract. The invariant: the answer `via - 1` is still to be looked at. Assumes nothing.
use mathlib.Core.Bool.{true}
use Rattle.desk.specs.Desk.{packed_answers}
use Rattle.uses.specs.Uses.{Uses, uses_in, Looked, Heating, LooksAlone}
use Rattle.uses.proofs.look_before.Given as goal

abbrev pub invariant-back : goal.invariant-back
invariant-back l = record {
  heating : (u : Uses) → Looked (packed_answers l.answers l.known) u (uses_in l.calls l.initial.list) l.seen l.known l.x true
      → Heating (packed_answers l.answers l.known) u (uses_in l.calls l.list) l.seen l.known l.x l.via;
  looks : LooksAlone l.initial.list l.list;
}
