-- `within` meets its contract: the places are full, or what is found of the goal's call are the ends. Assumes nothing.
use native.Mathlib.Omega.{arith}
use mathlib.Core.Path.{refl, ◌∙◌}
use Rattle.sharing.specs.Parties.{vacant}
use Rattle.alone.specs.Alone.{over}
use Rattle.alone.proofs.Counted.{outgrown_exceeds, ends_told, given_full}
use Rattle.std.proofs.lemmas.Result.{err_from_is_err_and}
use Rattle.alone.proofs.within.Goals as goal

pub returns-in_err-filled : goal.returns-in_err-filled
returns-in_err-filled c =
    let p = err_from_is_err_and c.from_residual.result c.from_residual.ensures.1 in
    let a = c.args in
    let F = c.in_err-filled.ensures in
    let exceeds = outgrown_exceeds a.rules.now a.goal.now a.start c.requires.accepted.2 (vacant a.limits.calls a.limits.answers) (omega (arith, c.requires.rows_len)) (omega arith) (F.outgrown refl) in
    rw p.1 record { rows_len_unchanged = (F.calls_long, F.list_long, F.answers_long); ran_alone = over refl exceeds refl }

pub ends_of-found-requires : goal.ends_of-found-requires
ends_of-found-requires c =
    let F = c.in_ok-filled.ensures in
    let K = F.kept refl in
    let s = K.calls_open.stored in
    record { n_in_bounds = (s.fits, s.most, (F.whole refl).valid.answers_once); m_le_most = (K.answers_open.fits, K.answers_open.small, omega (arith, c.requires.answers_bound, F.answers_long)) }

pub returns : goal.returns
returns c =
    let a = c.args in
    let F = c.in_ok-filled.ensures in
    let K = F.kept refl in
    let E = c.ends_of-found.ensures in
    let none = vacant a.limits.calls a.limits.answers in
    let W = given_full a.rules.now a.goal.now a.start c.requires.accepted.2 none c.fill_rows.new.calls c.fill_rows.new.answers
    c.in_ok-filled.filled.calls c.in_ok-filled.filled.answers E.calls_closed.0 (F.whole refl) in
    record {
      rows_len_unchanged = (E.calls_closed.0.long ∙ F.calls_long, F.list_long, E.calls_closed.1 ∙ F.answers_long);
      ran_alone = ends_told a.rules.now a.goal.now a.start c.requires.accepted.2 none _ W (omega (arith, c.requires.rows_len, F.calls_long, K.calls_open.stored.fits)) K.answers_open.fits E.call_finals;
    }
