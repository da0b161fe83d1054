-- `evaluated` meets its contract: the tables are put aside, compared, and given back word for word. Assumes nothing.
use native.Mathlib.Omega.{arith}
use Rattle.balancing.proofs.PutAside.{put_aside, answers_back, calls_back, compared_plain}
use Rattle.std.proofs.lemmas.Result.{MatchResult-weaker}
use Rattle.balancing.proofs.aside.evaluated.Goals as goal

pub compare_aside-found-requires : goal.compare_aside-found-requires
compare_aside-found-requires c =
    let r = c.room_of-places in
    let s = c.room_of-most in
    let x = c.stow_calls in
    let y = c.stow_answers in
    let lent = c.requires.lent.0 in
    let h = c.requires.lent.1 in record {
      accepted = c.requires.accepted;
      rows_len = (
        omega (arith, lent.rows_long, x.ensures.calls_stowed.long),
        put_aside h r.result s.result r.ensures s.ensures x.ensures.calls_stowed y.ensures (omega (arith, h.calls_few, lent.bytes_long, x.ensures.actions_len_unchanged)),
      );
    }

pub unstow_answers-requires : goal.unstow_answers-requires
unstow_answers-requires c =
    let h = c.requires.lent.1 in
    let s = c.room_of-most in
    let y = c.stow_answers in
    let f = c.compare_aside-found in
    record {
      few = omega (arith, h.answers_few, s.ensures);
      fits = omega (arith, s.ensures, y.ensures.long, f.ensures.spared.answers_long);
      bound = omega (arith, s.ensures);
    }

pub unstow_calls-requires : goal.unstow_calls-requires
unstow_calls-requires c =
    let h = c.requires.lent.1 in
    let r = c.room_of-places in
    let x = c.stow_calls in
    let f = c.compare_aside-found in
    record {
      few = omega (arith, h.calls_few, r.ensures);
      fits = omega (arith, r.ensures, x.ensures.calls_stowed.long, f.ensures.spared.calls_long);
      bound = omega (arith, r.ensures);
      places = omega (arith, h.calls_few, c.requires.lent.0.bytes_long, x.ensures.actions_len_unchanged);
    }

pub returns : goal.returns
returns c =
    let h = c.requires.lent.1 in
    let r = c.room_of-places in
    let s = c.room_of-most in
    let x = c.stow_calls in
    let y = c.stow_answers in
    let f = c.compare_aside-found.ensures in
    let u = c.unstow_answers.ensures in
    let v = c.unstow_calls.ensures in record {
      calls_unchanged = (
        calls_back h r.result s.result r.ensures s.ensures x.ensures.calls_stowed y.ensures f.spared v,
        answers_back h r.result s.result r.ensures s.ensures x.ensures.calls_stowed y.ensures f.spared u,
      );
      rows_len_unchanged = (f.spared.rows_long, x.ensures.actions_len_unchanged);
      compared = MatchResult-weaker c.compare_aside-found.result f.compared
          (λ _ C. compared_plain h r.result s.result r.ensures s.ensures x.ensures.calls_stowed y.ensures C)
          (λ _ C. compared_plain h r.result s.result r.ensures s.ensures x.ensures.calls_stowed y.ensures C);
    }
