-- `finish` meets its contract: the answer stood, was added, or has no room. Assumes nothing.
use native.Mathlib.Omega.{arith}
use mathlib.Core.Path.{refl}
use lib.ListN.{length}
use Rattle.records.specs.Records.{room, call_width}
use Rattle.tabling.proofs.Evidence.{Among}
use Rattle.invariants.proofs.Turn.{turn_answers_full}
use Rattle.invariants.proofs.Frames.{uses_same, answered_open, answered_index, answered_uses, ended}
use Rattle.search.specs.Leaving.{Stays, past_of}
use Rattle.search.proofs.finish.Goals as goal

pub add_answer-put-requires : goal.add_answer-put-requires
add_answer-put-requires c =
    let o = c.requires.kept.0 in
    record { answers_open = (o.answers_open, c.requires.kept.1.of_answers, omega (arith, o.calls_open.stored.fits, o.calls_open.stored.most, c.requires.kept.2)); by_index = c.requires.by_index }

pub returns-then-put : goal.returns-then-put
returns-then-put c =
    let a = c.args in
    let j = a.job in record {
      stays = (
        (let stays : Stays c.args.job.most c.args.calls.now c.args.list.now c.args.answers.now c.add_answer-put.new.calls c.args.list.now c.args.n
            c.add_answer-put.new.answers c.add_answer-put.result.count = let x = c.add_answer-put.ensures in
            record {
              calls_long = x.answers_kept.long;
              list_long = refl;
              answers_long = x.answers_kept.answers_long;
              kept = record { calls_open = answered_open x.answers_kept c.requires.kept.2 c.requires.kept.0.calls_open; answers_open = x.answers_open_2.0 };
              indexed = record { of_calls = answered_index x.answers_kept c.requires.kept.1.of_calls; of_answers = x.answers_open_2.1 };
              uses_more = uses_same (answered_uses x.answers_kept c.args.list.now);
            } in stays),
        refl,
      );
      stepped = λ bodies roots b begun body at h T. turn_answers_full bodies (Among roots) b j.known j.rule j.row j.walk (past_of j begun) body T h (room call_width (length a.calls.now)) c.add_answer-put.ensures.answer_put c.if-put.true;
    }

pub returns : goal.returns
returns c =
    let a = c.args in
    let j = a.job in record {
      stays = (
        (let stays : Stays c.args.job.most c.args.calls.now c.args.list.now c.args.answers.now c.add_answer-put.new.calls c.args.list.now c.args.n
            c.add_answer-put.new.answers c.add_answer-put.result.count = let x = c.add_answer-put.ensures in
            record {
              calls_long = x.answers_kept.long;
              list_long = refl;
              answers_long = x.answers_kept.answers_long;
              kept = record { calls_open = answered_open x.answers_kept c.requires.kept.2 c.requires.kept.0.calls_open; answers_open = x.answers_open_2.0 };
              indexed = record { of_calls = answered_index x.answers_kept c.requires.kept.1.of_calls; of_answers = x.answers_open_2.1 };
              uses_more = uses_same (answered_uses x.answers_kept c.args.list.now);
            } in stays),
        refl,
      );
      stepped = λ bodies roots b begun body at h T.
          (ended bodies (Among roots) b j.known j.rule j.row j.walk (past_of j begun) body a.calls.now a.list.now a.n a.answers.now a.m T h c.add_answer-put.ensures.answers_kept c.add_answer-put.ensures.answer_put c.if-put.false, refl);
    }
