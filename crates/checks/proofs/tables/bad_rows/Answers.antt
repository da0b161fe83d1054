-- `bad_rows` meets its contract: the call records, then the answer records. Assumes nothing.
use mathlib.Core.Path.{refl}
use Rattle.checks.specs.Checks.{bad_plain}
use Rattle.checks.proofs.RecordLaws.{both_tested}
use Rattle.checks.proofs.tables.bad_rows.Goals as goal

pub good_calls-requires : goal.good_calls-requires
good_calls-requires c = c.requires.2

pub all_justified-requires : goal.all_justified-requires
all_justified-requires c = c.requires

pub returns-then-good_calls : goal.returns-then-good_calls
unfolding bad_plain
returns-then-good_calls c = both_tested c.good_calls.ensures c.if-good_calls.true c.all_justified.ensures

pub returns : goal.returns
unfolding bad_plain
returns c = rw (← c.good_calls.ensures, c.if-good_calls.false) refl
