-- The answer chosen at a call step is one of the known.
use Prim.Native.Nat.{◌-◌}
use native.Mathlib.Omega.{arith}
use mathlib.Core.Path.{sym, ◌∙◌}
use Rattle.search.proofs.retreat.Goals as goal

pub later_answer-later-requires : goal.later_answer-later-requires
later_answer-later-requires c = record {
  x_lt_known = c.requires.at_in_bounds.2 (c.loop-place.place - 1) (omega arith) (sym c.is_call.ensures ∙ c.if-is_call.true);
  by_index = c.requires.by_index;
}
