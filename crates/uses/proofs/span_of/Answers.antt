-- `span_of` meets its contract. Assumes nothing.
use mathlib.Core.Bool.{false}
use Rattle.uses.proofs.UsesLaws.{spans_same}
use Rattle.uses.proofs.HeatLaws.{begun, begun_none}
use Rattle.uses.proofs.span_of.Goals as goal

pub returns-then-seen-gt0-clause-begun : goal.returns-then-seen-gt0-clause-begun
returns-then-seen-gt0-clause-begun c = begun c.args.walked c.if-seen-gt0.true c.requires.answers_held.1 c.look_at_new-within.ensures.lighted c.look_back.ensures.looked

pub returns-then-seen-gt0-clause-spans : goal.returns-then-seen-gt0-clause-spans
returns-then-seen-gt0-clause-spans c = spans_same (begun c.args.walked c.if-seen-gt0.true c.requires.answers_held.1 c.look_at_new-within.ensures.lighted c.look_back.ensures.looked).low c.look_at_new-within.ensures.spans

pub returns-else-seen-gt0-clause-spans : goal.returns-else-seen-gt0-clause-spans
returns-else-seen-gt0-clause-spans c = spans_same (begun_none c.args.walked false c.look_at_new-within.ensures.lighted).low c.look_at_new-within.ensures.spans
