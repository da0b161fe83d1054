use Rattle.std.proofs.Common.{arith, rules}
use Rattle.sorting.proofs.Shuffles.{shuffled_refl}
use Rattle.sorting.proofs.Ascents.{rising_sorted}
use Rattle.desk.specs.Desk.{packed_answers}
use Rattle.finals.proofs.FinalsLaws.{finals_short}
use Rattle.finals.proofs.Listing.{listed}
use Rattle.finals.proofs.list.Goals as goal

pub returns-then-is_rising-clause-finals_listed : goal.returns-then-is_rising-clause-finals_listed
returns-then-is_rising-clause-finals_listed c =
    let g = c.gather-found.ensures in
    listed (packed_answers c.args.answers.now c.args.m) c.args.row (record { counted = g.0; is = g.1 })
    (rising_sorted (shuffled_refl _ _ _ _) (c.is_rising.ensures c.if-is_rising.true)) (omega arith) c.requires.room.1

pub by_lines-requires : goal.by_lines-requires
by_lines-requires c =
    let short = finals_short (packed_answers c.args.answers.now c.args.m) c.args.row c.args.m in
    (search rules, omega (arith, c.gather-found.ensures.0, c.requires.room.0, short))

pub returns-clause-finals_listed : goal.returns-clause-finals_listed
returns-clause-finals_listed c =
    let g = c.gather-found.ensures in
    listed (packed_answers c.args.answers.now c.args.m) c.args.row (record { counted = g.0; is = g.1 })
    c.by_lines.ensures.sorted (omega arith) c.requires.room.1
