-- `match_answers` meets its contract. The loop's invariant: the first x answers are told off, and all but flags stays.
-- Assumes nothing.
use Rattle.desk.specs.Desk.{packed_width}
use Rattle.matching.specs.Flags.{Kept, flag, Matched}
use Rattle.matching.specs.Matching.{stowed_row, run_row}
use Rattle.matching.proofs.match_answers.Given as goal

abbrev pub invariant-loop-x : goal.invariant-loop-x
invariant-loop-x l =
    Kept packed_width 3 l.m l.initial.answers l.answers
    × Matched (stowed_row l.call_room l.calls l.actions l.most l.initial.answers) l.x (run_row l.rows l.initial.answers) l.m (flag packed_width 3 l.answers)
