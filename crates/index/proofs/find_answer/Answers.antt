-- `find_answer` meets its contract: an answer is found by the keys of its record. Assumes nothing.
use Rattle.index.proofs.IndexLaws.{answers_keyed}
use Rattle.index.proofs.find_answer.Goals as goal

pub find-requires-clause-keyed : goal.find-requires-clause-keyed
find-requires-clause-keyed c = answers_keyed c.args.answers.now c.args.m c.args.most c.requires.1
