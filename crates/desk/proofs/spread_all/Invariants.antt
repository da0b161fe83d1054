-- `spread_all` meets its contract. The loop's invariant: the records from x on are given. Assumes nothing.
use Rattle.desk.specs.Desk.{AnswersSpread}
use Rattle.desk.proofs.spread_all.Given as goal

abbrev pub invariant-loop-x : goal.invariant-loop-x
invariant-loop-x l = AnswersSpread l.initial.answers l.m l.x l.answers
