-- `run_kept` meets its contract: 23 and 24, 30 by the counts of the run alone, and else the rows of both. Assumes nothing.
use Prim.Native.Nat.{ℕ, ◌*◌}
use native.Mathlib.Omega.{arith}
use mathlib.Core.Path.{◌≡◌, refl, sym, ap, ◌∙◌}
use lib.ListN.{length}
use Rattle.refusals.proofs.Numbers.{number-not_zero}
use Rattle.steps.proofs.AcceptanceLaws.{start_accepted}
use Rattle.records.specs.Records.{room, call_width}
use Rattle.evaluator.specs.Evaluated.{Asked, asked, refused_with, run_asked}
use Rattle.sharing.specs.Parties.{Account, account_of, account_at, ledger_of, party_of}
use Rattle.sharing.specs.Charged.{plain_call_width}
use Rattle.sharing.specs.Shared.{refused, gives_up, takes_up}
use Rattle.sharing.proofs.Entering.{gives_up_enterable, takes_up_enterable}
use Rattle.accounts.proofs.KeptWords.{account_placed, place_inside, limits_within}
use Rattle.alone.proofs.AsShared.{ran_fits}
use Rattle.panel.specs.Reply.{panel}
use Rattle.panel.proofs.Fits.{as_kept_fitting, fitting_on}
use Rattle.panel.proofs.Entries.{leaves_entered}
use Rattle.panel.proofs.Outcomes.{goal_refused, limits_exceeded, ran_through}
use Rattle.panel.proofs.running.run_kept.Goals as goal
use Rattle.panel.proofs.running.run_kept.Goals.{After-limits_of-own}

-- ---- the run that is asked for, and the party's account

abbrev run_of : After-limits_of-own → Asked
run_of c = asked c.args.fluents c.args.actions c.args.rules.now c.args.goal.now c.args.start

abbrev account : After-limits_of-own → Account
account c = account_of (ledger_of c.args.kept.now) (party_of c.args.second)

accepted : (c : After-limits_of-own) → refused_with (run_of c) ≡ 0
accepted c = sym c.in_default.ensures

own : (c : After-limits_of-own) → account_at c.args.kept.now c.place.result ≡ account c
own c = ap (λ (n : ℕ). account_at c.args.kept.now n) c.place.ensures ∙ sym (account_placed c.args.kept.now c.requires.rules_value.1.long (party_of c.args.second))

calls_are : (c : After-limits_of-own) → c.limits_of-own.result.calls ≡ (account c).call_limit
calls_are c = c.limits_of-own.ensures.calls_value ∙ ap (λ (a : Account). a.call_limit) (own c)

answers_are : (c : After-limits_of-own) → c.limits_of-own.result.answers ≡ (account c).answer_limit
answers_are c = c.limits_of-own.ensures.answers_value ∙ ap (λ (a : Account). a.answer_limit) (own c)

-- ---- the answers

pub give_up-left-requires : goal.give_up-left-requires
give_up-left-requires c =
    record {
      by_index = (c.args.fluents, c.args.actions, as_kept_fitting c.requires.rules_value.0 c.requires.rules_value.1);
      rows_len = c.requires.rows_len;
    }

pub returns-in-Err : goal.returns-in-Err
returns-in-Err c =
    let run = asked c.args.fluents c.args.actions c.args.rules.now c.args.goal.now c.args.start in
    let before = panel c.args.calls.now c.args.answers.now c.args.ends.now in
    let own = account_of (ledger_of c.args.kept.now) (party_of c.args.second) in
    let left = c.give_up-left in
    goal_refused (party_of c.args.second) run c.args.kept.now before _ _ (λ z. number-not_zero _ (c.in-Err.ensures ∙ z))
    (c.refused.ensures ∙ ap (λ (n : ℕ). refused n left.result.words) c.in-Err.ensures)
    (leaves_entered (party_of c.args.second) run before _ (gives_up own) (gives_up_enterable run own)
    c.requires.rules_value.0 c.requires.rules_value.1 refl refl left.ensures) refl

pub limits_of-own-requires : goal.limits_of-own-requires
limits_of-own-requires c = omega (arith, place_inside c.args.second, c.place.ensures, c.requires.rules_value.1.long)

pub alone-requires : goal.alone-requires
alone-requires c =
    let r = (goal.at.alone-requires c).After-limits_of-own in
    let acc = (start_accepted c.args.fluents c.args.actions c.args.rules.now c.args.goal.now c.args.start (accepted r)).0 in
    let fits = as_kept_fitting c.requires.rules_value.0 c.requires.rules_value.1 in
    let (m, n) = limits_within (ledger_of c.args.kept.now) c.args.calls.now c.args.answers.now fits.limits (party_of c.args.second) in
    record { accepted = (c.args.fluents, c.args.actions, acc, acc); rows_len = (c.requires.rows_len, omega (arith, calls_are r, m), omega (arith, answers_are r, n)) }

pub give_up-left-requires-in-Err-alone : goal.give_up-left-requires-in-Err-alone
give_up-left-requires-in-Err-alone c =
    let r = (goal.at.give_up-left-requires-in-Err-alone c).After-limits_of-own in
    let lone = c.alone.ensures in
    let long : length c.alone.new.calls ≡ length c.args.calls.now = lone.rows_len_unchanged.1 in
    let answers_long : length c.alone.new.answers ≡ length c.args.answers.now = lone.rows_len_unchanged.2 in
    let fits_on = fitting_on long answers_long (as_kept_fitting c.requires.rules_value.0 c.requires.rules_value.1) in
    let rows_long = lone.rows_len_unchanged.0 ∙ c.requires.rows_len ∙ ap (λ (n : ℕ). call_width * room plain_call_width n) (sym long) in
    record { by_index = (c.args.fluents, c.args.actions, fits_on); rows_len = rows_long }

pub returns-in-Err-alone : goal.returns-in-Err-alone
returns-in-Err-alone c =
    let r = (goal.at.returns-in-Err-alone c).After-limits_of-own in
    let lone = c.alone.ensures in
    let long : length c.alone.new.calls ≡ length c.args.calls.now = lone.rows_len_unchanged.1 in
    let answers_long : length c.alone.new.answers ≡ length c.args.answers.now = lone.rows_len_unchanged.2 in
    let fits_on = fitting_on long answers_long (as_kept_fitting c.requires.rules_value.0 c.requires.rules_value.1) in
    let rows_long = lone.rows_len_unchanged.0 ∙ c.requires.rows_len ∙ ap (λ (n : ℕ). call_width * room plain_call_width n) (sym long) in
    limits_exceeded (party_of c.args.second) (run_of r) c.args.kept.now (panel c.args.calls.now c.args.answers.now c.args.ends.now) _ _ (accepted r) (calls_are r) (answers_are r)
    c.in-Err-alone.ensures.ran_alone refl c.refused-in-Err-alone.ensures
    (leaves_entered (party_of c.args.second) (run_of r) (panel c.args.calls.now c.args.answers.now c.args.ends.now) _ (gives_up (account r))
    (gives_up_enterable (run_of r) (account r)) c.requires.rules_value.0 c.requires.rules_value.1 long answers_long c.give_up-left-in-Err-alone.ensures)

pub take_up-left-requires : goal.take_up-left-requires
take_up-left-requires c =
    let r = (goal.at.take_up-left-requires c).After-limits_of-own in
    let lone = c.alone.ensures in
    let long : length c.alone.new.calls ≡ length c.args.calls.now = lone.rows_len_unchanged.1 in
    let answers_long : length c.alone.new.answers ≡ length c.args.answers.now = lone.rows_len_unchanged.2 in
    let fits_on = fitting_on long answers_long (as_kept_fitting c.requires.rules_value.0 c.requires.rules_value.1) in
    let rows_long = lone.rows_len_unchanged.0 ∙ c.requires.rows_len ∙ ap (λ (n : ℕ). call_width * room plain_call_width n) (sym long) in
    record {
      by_index = (c.args.fluents, c.args.actions, fits_on, accepted r);
      not_exceeds = ran_fits (account r) (calls_are r) (answers_are r) (run_asked (run_of r)) c.in-Ok.ensures.ran_alone refl;
      rows_len = rows_long;
    }

pub returns-in-Ok : goal.returns-in-Ok
returns-in-Ok c =
    let r = (goal.at.returns-in-Ok c).After-limits_of-own in
    let lone = c.alone.ensures in
    let long : length c.alone.new.calls ≡ length c.args.calls.now = lone.rows_len_unchanged.1 in
    let answers_long : length c.alone.new.answers ≡ length c.args.answers.now = lone.rows_len_unchanged.2 in
    let fits_on = fitting_on long answers_long (as_kept_fitting c.requires.rules_value.0 c.requires.rules_value.1) in
    let rows_long = lone.rows_len_unchanged.0 ∙ c.requires.rows_len ∙ ap (λ (n : ℕ). call_width * room plain_call_width n) (sym long) in
    let within = ran_fits (account r) (calls_are r) (answers_are r) (run_asked (run_of r)) c.in-Ok.ensures.ran_alone refl in
    ran_through (party_of c.args.second) (run_of r) c.args.kept.now (panel c.args.calls.now c.args.answers.now c.args.ends.now) _ _ (accepted r) (calls_are r) (answers_are r)
    c.in-Ok.ensures.ran_alone refl c.told.ensures
    (leaves_entered (party_of c.args.second) (run_of r) (panel c.args.calls.now c.args.answers.now c.args.ends.now) _ (takes_up (account r) (run_of r))
    (takes_up_enterable (run_of r) (account r) (accepted r) within) c.requires.rules_value.0 c.requires.rules_value.1 long answers_long c.take_up-left.ensures)
