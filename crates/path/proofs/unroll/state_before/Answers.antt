-- `state_before` meets its contract. Assumes nothing.
use native.Mathlib.Omega.{arith}
use mathlib.Core.Path.{sym, ◌∙◌}
use Rattle.checks.proofs.WidthLaws.{answer_within, answer_others}
use Rattle.unfolding.proofs.Rests.{state_at, fresh_final}
use Rattle.path.proofs.unroll.state_before.Goals as goal

pub returns-then-q-eq0 : goal.returns-then-q-eq0
unfolding state_at
returns-then-q-eq0 c = rw c.if-q-eq0.true c.start.ensures

pub evidence_of-used-requires : goal.evidence_of-used-requires
evidence_of-used-requires c = (answer_within c.args.plain c.args.n c.requires.0.readable.long (omega arith), omega arith)

pub final_of-requires : goal.final_of-requires
final_of-requires c =
    let below = (fresh_final c.requires.0 c.args.n c.args.q (omega arith) c.requires.1 c.if-q-eq0.false).0 in
    answer_others c.args.plain _ c.answer_width.ensures (answer_within c.args.plain _ c.requires.0.readable.long (omega (arith, c.evidence_of-used.ensures, below)))

pub returns : goal.returns
returns c = rw (c.answer_width.ensures, c.evidence_of-used.ensures) at c.final_of.ensures ∙ sym (fresh_final c.requires.0 c.args.n c.args.q (omega arith) c.requires.1 c.if-q-eq0.false).1
