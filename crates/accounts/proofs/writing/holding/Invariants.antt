-- `holding` meets its contract. The loop's invariant: i words of the goal are written. Assumes nothing.
use lib.ListN.{length, get_or}
use Rattle.accounts.proofs.AccountWords.{Laying}
use Rattle.accounts.proofs.writing.holding.Given as goal

abbrev pub invariant-loop-i : goal.invariant-loop-i
invariant-loop-i l = Laying (get_or l.initial.words 0 0) (get_or l.initial.words 1 0) 1 (get_or l.initial.words 3 0) (length l.goal) l.goal l.i l.words
