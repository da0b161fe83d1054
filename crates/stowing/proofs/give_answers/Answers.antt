-- `give_answers` meets its contract: the records are copied to where those put aside stand, and given. Assumes nothing.
use Rattle.stowing.proofs.AnswerStows.{given_all}
use Rattle.stowing.proofs.give_answers.Goals as goal

pub returns : goal.returns
returns c = given_all c.copy.ensures c.unstow_answers.ensures
