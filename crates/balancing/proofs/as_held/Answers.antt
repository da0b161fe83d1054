-- `as_held` meets its contract: the records, the rows and the limits, one after the other, tell whether the tables are as kept. Assumes nothing.
use Prim.Native.Nat.{ℕ, ◌≤◌}
use native.Mathlib.Omega.{arith}
use mathlib.Core.Path.{◌≡◌, refl, subst, ◌∙◌}
use mathlib.Core.Bool.{true, false}
use mathlib.Core.List.{List}
use lib.ListN.{get_or}
use borrow.Author.Tests.{not-true, not-false}
use Rattle.steps.proofs.AcceptanceLaws.{AcceptedWords}
use Rattle.records.proofs.BodyLaws.{short_of}
use Rattle.matching.specs.Flags.{Whether}
use Rattle.sharing.specs.Parties.{Party, first, second, Account, Ledger, account_of, account_at, ledger_of}
use Rattle.balancing.specs.Balancing.{call_room, answer_room, Handed, BothSized}
use Rattle.balancing.proofs.PutAside.{handed_again, lent_again, rooms_again}
use Rattle.balancing.proofs.GoodRows.{good_handed}
use Rattle.balancing.proofs.Judged.{read_account, account_read, ledger_said, kept_words, calls_fit, answers_fit, compared_held, kept_good, kept_held, limits_tell, Good, Held}
use Rattle.balancing.proofs.as_held.Goals as goal
use Rattle.balancing.proofs.as_held.Goals.{After-start-second_start}

-- what is kept, from its words and its accounts
abbrev ledger_at : List ℕ → Account → Account → Ledger
ledger_at w a b = record { first = a; second = b; calls = get_or w 42 0; answers = get_or w 43 0 }

-- ---- what has been read

abbrev own : After-start-second_start → Account
own c = read_account (account_at c.args.kept.now 0) c.holds.result c.args.goal.now c.start-start.result

abbrev other : After-start-second_start → Account
other c = read_account (account_at c.args.kept.now 21) c.holds-2.result c.args.second.now c.start-second_start.result

abbrev ledger : After-start-second_start → Ledger
ledger c = ledger_at c.args.kept.now (own c) (other c)

own_read : (c : After-start-second_start) → account_at c.args.kept.now 0 ≡ own c
own_read c = account_read (account_at c.args.kept.now 0) c.holds.ensures c.requires.goal_value.0 c.start-start.ensures

other_read : (c : After-start-second_start) → account_at c.args.kept.now 21 ≡ other c
other_read c = account_read (account_at c.args.kept.now 21) c.holds-2.ensures c.requires.goal_value.1 c.start-second_start.ensures

said : (c : After-start-second_start) → ledger_of c.args.kept.now ≡ ledger c
said c = ledger_said c.args.kept.now c.requires.rules_value.1.long (own_read c) (other_read c) refl refl

accepted : (c : After-start-second_start) (q : Party) → AcceptedWords c.args.fluents c.args.actions c.args.rules.now (account_of (ledger c) q).goal
accepted c = kept_words _ _ _ _ _ _ c.requires.rules_value.0 c.requires.rules_value.1 (ledger c) (said c)

own_accepted : (c : After-start-second_start) → AcceptedWords c.args.fluents c.args.actions c.args.rules.now c.args.goal.now
unfolding account_of
own_accepted c = accepted c first

other_accepted : (c : After-start-second_start) → AcceptedWords c.args.fluents c.args.actions c.args.rules.now c.args.second.now
unfolding account_of
other_accepted c = accepted c second

calls_few : (c : After-start-second_start) → (ledger c).calls ≤ call_room c.args.calls.now
calls_few c = calls_fit _ _ _ _ _ _ c.requires.rules_value.0 c.requires.rules_value.1 (ledger c) (said c)

answers_few : (c : After-start-second_start) → (ledger c).answers ≤ answer_room c.args.answers.now
answers_few c = answers_fit _ _ _ _ _ _ c.requires.rules_value.0 c.requires.rules_value.1 (ledger c) (said c)

-- The records are good, and the rows are those of the goals.
abbrev GoodRows : After-start-second_start → Type 0
GoodRows c = Good _ _ _ _ _ _ c.requires.rules_value.0 c.requires.rules_value.1 (ledger c) (said c)

abbrev HeldRows : After-start-second_start → Type 0
HeldRows c = Held _ _ _ _ _ _ c.requires.rules_value.0 c.requires.rules_value.1 (ledger c) (said c)

handed : (c : After-start-second_start) → GoodRows c → Handed c.args.calls.now (ledger c).calls c.args.answers.now (ledger c).answers
handed c g = good_handed _ _ _ _ _ _ _ _ _ (own_accepted c).few_actions (calls_few c) (answers_few c) g

-- ---- the answers

pub good_tables-requires : goal.good_tables-requires
good_tables-requires c =
    let r = (goal.at.good_tables-requires c).After-start-second_start in
    (short_of _ _ (own_accepted r), short_of _ _ (other_accepted r), calls_few r, answers_few r)

pub returns-then-not-good_tables : goal.returns-then-not-good_tables
returns-then-not-good_tables c =
    let r = (goal.at.returns-then-not-good_tables c).After-start-second_start in
    let bad = subst (Whether (GoodRows r)) c.if-not-good_tables.true c.good_tables.ensures in
    record { calls_unchanged = (refl, refl); rows_len_unchanged = (refl, refl); whether = λ k. bad (kept_good _ _ _ _ _ _ c.requires.rules_value.0 c.requires.rules_value.1 (ledger r) (said r) k) }

pub evaluated-evaluated-requires : goal.evaluated-evaluated-requires
evaluated-evaluated-requires c =
    let r = (goal.at.evaluated-evaluated-requires c).After-start-second_start in
    let good = subst (Whether (GoodRows r)) c.if-not-good_tables.false c.good_tables.ensures in
    record { accepted = (c.args.fluents, c.args.actions, own_accepted r, other_accepted r); lent = (c.requires.rules_value.2, handed r good) }

pub returns-in_default : goal.returns-in_default
returns-in_default c =
    let r = (goal.at.returns-in_default c).After-start-second_start in
    let x = c.evaluated-evaluated.ensures in
    let not_held = compared_held _ _ _ _ _ _ c.requires.rules_value.0 c.requires.rules_value.1 (ledger r) (said r) true false c.in_default.ensures.compared in
    record {
      calls_unchanged = x.calls_unchanged;
      rows_len_unchanged = x.rows_len_unchanged;
      whether = λ k. not_held (kept_held _ _ _ _ _ _ c.requires.rules_value.0 c.requires.rules_value.1 (ledger r) (said r) k);
    }

pub returns-then-not-found : goal.returns-then-not-found
returns-then-not-found c =
    let r = (goal.at.returns-then-not-found c).After-start-second_start in
    let x = c.evaluated-evaluated.ensures in
    let told = compared_held _ _ _ _ _ _ c.requires.rules_value.0 c.requires.rules_value.1 (ledger r) (said r) false c.in-Ok.found.same c.in-Ok.ensures.compared in
    let not_held = subst (Whether (HeldRows r)) (not-true c.in-Ok.found.same c.if-not-found.true) told in
    record { calls_unchanged = x.calls_unchanged; rows_len_unchanged = x.rows_len_unchanged; whether = λ k. not_held (kept_held _ _ _ _ _ _ c.requires.rules_value.0 c.requires.rules_value.1 (ledger r) (said r) k) }

pub both_within-requires : goal.both_within-requires
both_within-requires c =
    let r = (goal.at.both_within-requires c).After-start-second_start in
    let good = subst (Whether (GoodRows r)) c.if-not-good_tables.false c.good_tables.ensures in
    let x = c.evaluated-evaluated.ensures in
    record {
      accepted = ((c.args.fluents, c.args.actions, own_accepted r, other_accepted r), omega (arith, c.requires.rules_value.1.long), c.requires.goal_value.0, c.requires.goal_value.1);
      lent = (lent_again x.rows_len_unchanged.0 x.rows_len_unchanged.1 x.calls_unchanged.0 c.requires.rules_value.2, handed_again x.calls_unchanged.0 x.calls_unchanged.1 (handed r good));
    }

pub returns : goal.returns
returns c =
    let r = (goal.at.returns c).After-start-second_start in
    let a = c.args in
    let l = ledger r in
    let x = c.evaluated-evaluated.ensures in
    let w = c.both_within in
    let y = w.ensures in
    let good = subst (Whether (GoodRows r)) c.if-not-good_tables.false c.good_tables.ensures in
    let told = compared_held _ _ _ _ _ _ c.requires.rules_value.0 c.requires.rules_value.1 l (said r) false c.in-Ok.found.same c.in-Ok.ensures.compared in
    let held = subst (Whether (HeldRows r)) (not-false c.in-Ok.found.same c.if-not-found.false) told in
    let both = rooms_again (λ (j k : ℕ). BothSized a.rules.now (account_at a.kept.now 0) (account_at a.kept.now 21) j k l.calls l.answers w.result)
    x.calls_unchanged.0 x.calls_unchanged.1 y.both_sized in
    let mine = subst (λ (m : Account). BothSized a.rules.now m (account_at a.kept.now 21) (call_room a.calls.now) (answer_room a.answers.now) l.calls l.answers w.result)
    (own_read r) both in
    let ours = subst (λ (m : Account). BothSized a.rules.now (own r) m (call_room a.calls.now) (answer_room a.answers.now) l.calls l.answers w.result)
    (other_read r) mine in
    record {
      calls_unchanged = (y.calls_unchanged.0 ∙ x.calls_unchanged.0, y.calls_unchanged.1 ∙ x.calls_unchanged.1);
      rows_len_unchanged = (y.rows_len_unchanged.0 ∙ x.rows_len_unchanged.0, y.rows_len_unchanged.1 ∙ x.rows_len_unchanged.1);
      whether = limits_tell _ _ _ _ _ _ c.requires.rules_value.0 c.requires.rules_value.1 l (said r) good held w.result ours;
    }
