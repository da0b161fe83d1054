-- `same_calls` meets its contract: the flags tell whether the rows are the same, and no flag is a part of a row. Assumes nothing.
use Rattle.matching.proofs.Pairs.{told_whether, whether_same}
use Rattle.matching.proofs.FlagLaws.{kept_on, kept_back}
use Rattle.matching.proofs.RunLaws.{calls_ready_kept, calls_same_kept, calls_apart}
use Rattle.matching.proofs.same_calls.Goals as goal

pub returns-then-match_calls : goal.returns-then-match_calls
returns-then-match_calls c =
    let k = c.clear_flags.ensures.0 in
    let e = c.if-match_calls.ensures in
    let b = c.all_flags.result in (
      kept_on k e.0,
      whether_same b (calls_same_kept (kept_back k)) (calls_same_kept k)
          (told_whether (calls_apart _ (calls_ready_kept k c.requires).once) e.1 b c.all_flags.ensures),
    )

pub returns-else-match_calls : goal.returns-else-match_calls
returns-else-match_calls c =
    let k = c.clear_flags.ensures.0 in
    let e = c.if-match_calls.ensures in
    (kept_on k e.0, rw c.if-match_calls.false (λ p. e.1 (calls_same_kept k p)))
