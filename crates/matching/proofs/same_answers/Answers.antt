-- `same_answers` meets its contract: the flags tell whether the rows are the same, and no flag is a part of a row. Assumes nothing.
use Rattle.matching.proofs.Pairs.{told_whether, whether_same}
use Rattle.matching.proofs.FlagLaws.{kept_on, kept_back}
use Rattle.matching.proofs.RunLaws.{answers_ready_kept, answers_same_kept, answers_apart}
use Rattle.matching.proofs.same_answers.Goals as goal

pub match_answers-requires-clause-by_index : goal.match_answers-requires-clause-by_index
match_answers-requires-clause-by_index c = let (stowed, g, h) = c.requires in (stowed, g, answers_ready_kept h c.clear_flags.ensures.0)

pub returns-then-match_answers : goal.returns-then-match_answers
returns-then-match_answers c =
    let a = c.args in
    let (stowed, g, h) = c.requires in
    let k = c.clear_flags.ensures.0 in
    let e = c.if-match_answers.ensures in
    let h' = answers_ready_kept h k in
    let b = c.all_flags.result in (
      kept_on k e.0,
      whether_same b (answers_same_kept h' (kept_back k) a.call_room a.rows.now a.calls.now a.actions.now)
          (answers_same_kept h k a.call_room a.rows.now a.calls.now a.actions.now)
          (told_whether (answers_apart h' g) e.1 b c.all_flags.ensures),
    )

pub returns-else-match_answers : goal.returns-else-match_answers
returns-else-match_answers c =
    let a = c.args in
    let (stowed, g, h) = c.requires in
    let k = c.clear_flags.ensures.0 in
    let e = c.if-match_answers.ensures in
    (kept_on k e.0, rw c.if-match_answers.false (λ p. e.1 (answers_same_kept h k a.call_room a.rows.now a.calls.now a.actions.now p)))
