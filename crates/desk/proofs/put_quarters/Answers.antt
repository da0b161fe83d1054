-- `put_quarters` meets its contract: four stores. Assumes nothing.
use native.Mathlib.Omega.{arith}
use Rattle.desk.proofs.AnswerLaws.{written_one, written_store}
use Rattle.quarters.proofs.QuarterLaws.{quarter_0, quarter_1, quarter_2, quarter_3}
use Rattle.desk.proofs.put_quarters.Goals as goal

pub returns : goal.returns
returns c =
    let w = c.args.word in
    rw (quarter_0 w, quarter_1 w, quarter_2 w, quarter_3 w) (written_store _ (written_store _ (written_store _ (written_one c.args.words.now c.args.at _ (omega arith)) (omega arith)) (omega arith)) (omega arith))
