-- `stow_answers` meets its contract. The loop's invariant: the records from x on are put aside. Assumes nothing.
use Rattle.stowing.proofs.AnswerStows.{Stowing}
use Rattle.stowing.proofs.stow_answers.Given as goal

abbrev pub invariant-loop-x : goal.invariant-loop-x
invariant-loop-x l = Stowing l.most l.m l.x l.initial.answers l.answers
