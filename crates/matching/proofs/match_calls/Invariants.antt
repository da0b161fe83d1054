-- `match_calls` meets its contract. The loop's invariant: the first i calls are told off, and all but flags stays.
-- Assumes nothing.
use Rattle.records.specs.Records.{call_width}
use Rattle.desk.specs.Desk.{open_calls}
use Rattle.matching.specs.Flags.{Kept, flag, Matched}
use Rattle.matching.specs.Matching.{call_row, stowed_calls}
use Rattle.matching.proofs.match_calls.Given as goal

abbrev pub invariant-loop-i : goal.invariant-loop-i
invariant-loop-i l =
    Kept call_width 2 l.n l.initial.rows l.rows
    × Matched (call_row (stowed_calls l.call_room l.calls l.actions l.stowed)) l.i (call_row (open_calls l.initial.rows l.n)) l.n (flag call_width 2 l.rows)
