use native.Mathlib.Omega.{arith}
use mathlib.Core.Path.{refl, ◌∙◌}
use lib.ListN.{length-set}
use lib.Seq.{get_or-set_same, get_or-set_other}
use borrow.Author.Count.{below_none, below_more}
use Rattle.accounts.proofs.AccountWords.{goal_taken}
use Rattle.accounts.proofs.GoalWords.{word_bad, too_long, step_bad}
use Rattle.accounts.proofs.reading.goal_into.Goals as goal

pub returns-then-count-gt-MOST_STEPS : goal.returns-then-count-gt-MOST_STEPS
returns-then-count-gt-MOST_STEPS c = record { long = refl; read = λ l. absurd (omega arith); none = λ l f a. too_long f a _ (c.steps-count.ensures.many c.if-count-gt-MOST_STEPS.true) }

pub returns-then-word-gt-MOST_WORD : goal.returns-then-word-gt-MOST_WORD
returns-then-word-gt-MOST_WORD c =
    let l = c.loop-i in
    let w = c.step-word.ensures.word (omega arith) in
    record { long = l.auto.goal; read = λ k. absurd (omega arith); none = λ k f a. step_bad f a _ (omega arith) l.i (omega arith) (word_bad f a _ (omega (arith, w))) }

pub returns : goal.returns
returns c =
    let l = c.loop-i in
    record { long = l.auto.goal; read = λ k. goal_taken _ l.goal _ l.invariant.1 (omega arith) (λ j h. l.invariant.2 j (omega arith)); none = λ k. absurd (omega arith) }
