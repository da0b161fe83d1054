-- `close_answers` meets its contract: the records are spread, the rest is cleared. Assumes nothing.
use native.Mathlib.Omega.{arith}
use Rattle.desk.proofs.AnswerLaws.{all_closed}
use Rattle.desk.proofs.close_answers.Goals as goal

pub returns : goal.returns
returns c = all_closed c.spread_all.ensures c.clear_from.ensures (omega arith) (omega arith)
