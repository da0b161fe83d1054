-- `compare_aside` meets its contract: the free words are filled, and the rows of the run are told off against those put aside. Assumes nothing.
use mathlib.Core.Path.{refl, ap, ◌∙◌}
use Rattle.steps.proofs.EachBelow.{true_not_false}
use Rattle.records.specs.Records.{room}
use Rattle.stowing.specs.Stowing.{call_words, answer_words}
use Rattle.balancing.proofs.PutAside.{ready_at, compared_at, compared_spared}
use Rattle.std.proofs.lemmas.Result.{err_from_is_err_and}
use Rattle.balancing.proofs.aside.compare_aside.Goals as goal

pub returns-in_err-filled : goal.returns-in_err-filled
returns-in_err-filled c =
    let p = err_from_is_err_and c.from_residual.result c.from_residual.ensures.1 in
    let F = c.in_err-filled.ensures in
    rw (p.1, p.2) record { spared = F.spared; compared = record { outgrown = λ e. (F.outgrown refl, refl); found = λ e. absurd (true_not_false e) } }

pub same_rows-same-requires : goal.same_rows-same-requires
same_rows-same-requires c =
    let F = c.in_ok-filled.ensures in
    let r = c.room_of-places in
    let s = c.room_of-most in
    ready_at F refl c.requires.rows_len.1 r.result s.result
    (r.ensures ∙ ap (room call_words) F.spared.calls_long) (s.ensures ∙ ap (room answer_words) F.spared.answers_long)

pub returns : goal.returns
returns c =
    let F = c.in_ok-filled.ensures in
    let a = c.requires.rows_len.1 in
    let r = c.room_of-places in
    let s = c.room_of-most in
    let m = c.same_rows-same in record {
      spared = compared_spared F refl a m.ensures.kept.0 m.ensures.kept.1;
      compared = compared_at F refl a r.result s.result m.result (r.ensures ∙ ap (room call_words) F.spared.calls_long)
          (s.ensures ∙ ap (room answer_words) F.spared.answers_long) m.ensures.whether;
    }
