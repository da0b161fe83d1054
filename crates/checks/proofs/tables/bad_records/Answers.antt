-- `bad_records` meets its contract: the call records, then the answer records. Assumes nothing.
use mathlib.Core.Path.{refl}
use Rattle.checks.specs.Checks.{good_calls, bad_records}
use Rattle.checks.proofs.RoomLaws.{within, short}
use Rattle.checks.proofs.RecordLaws.{both_tested}
use Rattle.checks.proofs.tables.bad_records.Goals as goal

pub good_calls-requires : goal.good_calls-requires
good_calls-requires c = (within _ _ _ _ c.requires.1).calls_fit

pub all_justified-requires : goal.all_justified-requires
all_justified-requires c =
    let w = within _ _ _ _ c.requires.1 in
    let s = short _ _ _ _ c.requires.0 in
    (s, s, w.calls_fit, w.answers_most, w.answers_fit)

pub returns-then-good_calls : goal.returns-then-good_calls
unfolding bad_records good_calls
returns-then-good_calls c = both_tested c.good_calls.ensures c.if-good_calls.true c.all_justified.ensures

pub returns : goal.returns
unfolding bad_records good_calls
returns c = rw (← c.good_calls.ensures, c.if-good_calls.false) refl
