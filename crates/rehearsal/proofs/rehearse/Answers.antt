-- `rehearse` meets its contract: what the reader gives is what the book asks of the evaluator. Assumes nothing.
use mathlib.Core.Path.{refl, sym, ap}
use lib.ListN.{replicate}
use lib.Seq.{length-take-le}
use borrow.Author.Rules.{rules}
use Rattle.sheet.specs.declared.Sheet.{Sheet}
use Rattle.rehearsal.specs.declared.Rehearsal.{Rehearsal}
use Rattle.rehearsal.specs.Rehearsed.{not_read, evaluated}
use Rattle.rehearsal.proofs.Reading.{Read, read_accepted, read_refused, few_rules, rules_fit, goal_fits, asks}
use Rattle.rehearsal.proofs.rehearse.Goals as goal

abbrev refusal_at : Sheet → Rehearsal
refusal_at x = record { refusal = x.refusal; line = x.line; ends = 0; calls = 0; answers = 0; rounds = 0 }

pub returns-then-read-ne0 : goal.returns-then-read-ne0
returns-then-read-ne0 c =
    let (number, line, e, g) = read_refused c.args.text.now (replicate 4608 0) refl c.read-read.result c.read-read.ensures.value c.if-read-ne0.true in
    not_read number line e (ap (λ (x : Sheet). refusal_at x) g) refl

pub overflow_mul-used : goal.overflow_mul-used
overflow_mul-used c = let f = few_rules ((let read : Read c.args.text.now c.read-read.new.rules c.read-read.result = read_accepted c.args.text.now (replicate 4608 0) refl c.read-read.new.rules c.read-read.result c.read-read.ensures.value c.read-read.ensures.rules_after c.if-read-ne0.false in read)) in search rules

pub slice_bounds-words-end : goal.slice_bounds-words-end
slice_bounds-words-end c = rules_fit ((let read : Read c.args.text.now c.read-read.new.rules c.read-read.result = read_accepted c.args.text.now (replicate 4608 0) refl c.read-read.new.rules c.read-read.result c.read-read.ensures.value c.read-read.ensures.rules_after c.if-read-ne0.false in read))

pub slice_bounds-evaluate-end : goal.slice_bounds-evaluate-end
slice_bounds-evaluate-end c = sym (length-take-le _ _ (rules_fit ((let read : Read c.args.text.now c.read-read.new.rules c.read-read.result = read_accepted c.args.text.now (replicate 4608 0) refl c.read-read.new.rules c.read-read.result c.read-read.ensures.value c.read-read.ensures.rules_after c.if-read-ne0.false in read))))

pub slice_bounds-goal-end : goal.slice_bounds-goal-end
slice_bounds-goal-end c = goal_fits ((let read : Read c.args.text.now c.read-read.new.rules c.read-read.result = read_accepted c.args.text.now (replicate 4608 0) refl c.read-read.new.rules c.read-read.result c.read-read.ensures.value c.read-read.ensures.rules_after c.if-read-ne0.false in read))

pub slice_bounds-evaluate-end-2 : goal.slice_bounds-evaluate-end-2
slice_bounds-evaluate-end-2 c = sym (length-take-le _ _ (goal_fits ((let read : Read c.args.text.now c.read-read.new.rules c.read-read.result = read_accepted c.args.text.now (replicate 4608 0) refl c.read-read.new.rules c.read-read.result c.read-read.ensures.value c.read-read.ensures.rules_after c.if-read-ne0.false in read))))

pub returns : goal.returns
returns c =
    let R = (let read : Read c.args.text.now c.read-read.new.rules c.read-read.result = read_accepted c.args.text.now (replicate 4608 0) refl c.read-read.new.rules c.read-read.result c.read-read.ensures.value c.read-read.ensures.rules_after c.if-read-ne0.false in read) in
    evaluated R.book c.evaluate-run.new.calls c.evaluate-run.new.answers c.evaluate-run.new.list R.is refl (rw (← asks R) c.evaluate-run.ensures)
