-- `unstow_answers` meets its contract. The loop's invariant: the first x records are given. Assumes nothing.
use Rattle.stowing.proofs.AnswerStows.{Unstowing}
use Rattle.stowing.proofs.unstow_answers.Given as goal

abbrev pub invariant-loop-x : goal.invariant-loop-x
invariant-loop-x l = Unstowing l.most l.m l.x l.initial.answers l.answers
