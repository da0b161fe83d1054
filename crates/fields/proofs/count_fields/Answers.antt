-- `count_fields` meets its contract. Assumes nothing.
use Rattle.std.proofs.Common.{ap, length, arith}
use Rattle.chars.proofs.Ends.{fields_gone}
use Rattle.fields.proofs.count_fields.Goals as goal

pub loop-at-preserved : goal.loop-at-preserved
loop-at-preserved c =
    let x = ap length c.field_end-at.ensures.cut in
    record { within = omega arith; less = omega arith; counted = omega arith }

pub returns : goal.returns
returns c = omega (arith, ap length (fields_gone c.args.s.now c.loop-at.at c.args.e c.loop-at-test.false))
