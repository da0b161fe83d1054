-- `earlier` meets its contract. Assumes nothing.
use native.Mathlib.Omega.{arith}
use mathlib.Core.Path.{refl}
use borrow.Author.Tests.{lt-ltb, le-ltb}
use Rattle.checks.proofs.WidthLaws.{answer_within, answers_more}
use Rattle.checks.proofs.follow.earlier.Goals as goal

pub round-requires : goal.round-requires
round-requires c = answer_within c.args.plain _ (answers_more c.args.plain c.args.n c.requires.0) (omega arith)

pub round-requires-then-evidence-n : goal.round-requires-then-evidence-n
round-requires-then-evidence-n c = c.requires.0

pub returns-then-evidence-n : goal.returns-then-evidence-n
returns-then-evidence-n c calls m =
    let a = c.args in
    rw (lt-ltb a.evidence a.n (omega arith), ← c.round.ensures m, ← c.round-then-evidence-n.ensures m) refl

pub returns : goal.returns
returns c calls m =
    let a = c.args in
    rw (le-ltb a.evidence a.n (omega arith)) refl
