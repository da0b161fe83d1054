-- `taken` meets its contract. Assumes nothing.
use mathlib.Core.Path.{sym}
use Rattle.class.proofs.Turns.{places_none, places_ends}
use Rattle.evaluator.specs.Evaluated.{told}
use Rattle.class.proofs.taken.Goals as goal

pub returns-then-run-eq0 : goal.returns-then-run-eq0
returns-then-run-eq0 c = let r = c.args.run in sym (places_ends (told r.refusal r.ends r.calls r.answers r.rounds) c.if-run-eq0.true)

pub returns-else-run-eq0 : goal.returns-else-run-eq0
returns-else-run-eq0 c = let r = c.args.run in sym (places_none (told r.refusal r.ends r.calls r.answers r.rounds) c.if-run-eq0.false)
