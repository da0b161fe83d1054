use mathlib.Core.Path.{sym}
use Rattle.desk.specs.Desk.{packed_width}
use Rattle.matching.specs.Flags.{Kept, RowFound}
use Rattle.matching.specs.Matching.{stowed_row, run_row, AnswersReady}
use Rattle.matching.proofs.Pairs.{found_same}
use Rattle.matching.proofs.FlagLaws.{marked_kept, marked_on, marked_refused}
use Rattle.matching.proofs.RunLaws.{answers_ready_kept, answers_flagged, fewer_kept, stowed_row_kept, run_row_kept}
use Rattle.matching.proofs.match_answers.Goals as goal

pub answer_of-y-requires : goal.answer_of-y-requires
answer_of-y-requires c =
    let (stowed, g, h) = c.requires.by_index in
    (stowed, g, fewer_kept ((let ready : AnswersReady c.args.n c.requires.by_index.0 c.loop-x.answers c.args.m c.args.most c.args.kept = answers_ready_kept c.requires.by_index.2 c.loop-x.invariant.0 in ready)) c.loop-x.x c.loop-x-test.true)

pub returns-then-not-mark : goal.returns-then-not-mark
returns-then-not-mark c =
    let l = c.loop-x in
    let e = c.if-not-mark.ensures in (
      (let kept : let a = c.args in
          Kept packed_width 3 a.m a.answers.now c.mark.new.words = marked_kept _ _ c.mark.result c.loop-x.invariant.0 c.mark.ensures in kept),
      marked_refused l.x _ (answers_flagged ((let ready : AnswersReady c.args.n c.requires.by_index.0 c.loop-x.answers c.args.m c.args.most c.args.kept = answers_ready_kept c.requires.by_index.2 c.loop-x.invariant.0 in ready))) l.invariant.1 ((let found : let a = c.args in
          RowFound (stowed_row a.call_room a.calls.now a.actions.now a.most a.answers.now c.loop-x.x)
          (run_row a.rows.now a.answers.now) a.m c.answer_of-y.result = let a = c.args in
          let l = c.loop-x in
          let h = c.requires.by_index.2 in
          found_same (sym (stowed_row_kept h l.invariant.0 a.call_room a.calls.now a.actions.now l.x))
          (λ j b. sym (run_row_kept h l.invariant.0 a.rows.now j)) c.answer_of-y.ensures in found)) c.loop-x-test.true e,
    )

pub loop-x-preserved : goal.loop-x-preserved
loop-x-preserved c =
    let l = c.loop-x in
    let e = c.if-not-mark.ensures in (
      (let kept : let a = c.args in
          Kept packed_width 3 a.m a.answers.now c.mark.new.words = marked_kept _ _ c.mark.result c.loop-x.invariant.0 c.mark.ensures in kept),
      marked_on l.x _ (answers_flagged ((let ready : AnswersReady c.args.n c.requires.by_index.0 c.loop-x.answers c.args.m c.args.most c.args.kept = answers_ready_kept c.requires.by_index.2 c.loop-x.invariant.0 in ready))) l.invariant.1 ((let found : let a = c.args in
          RowFound (stowed_row a.call_room a.calls.now a.actions.now a.most a.answers.now c.loop-x.x)
          (run_row a.rows.now a.answers.now) a.m c.answer_of-y.result = let a = c.args in
          let l = c.loop-x in
          let h = c.requires.by_index.2 in
          found_same (sym (stowed_row_kept h l.invariant.0 a.call_room a.calls.now a.actions.now l.x))
          (λ j b. sym (run_row_kept h l.invariant.0 a.rows.now j)) c.answer_of-y.ensures in found)) e,
    )
