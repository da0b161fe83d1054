-- What a run leaves, the next takes: under the same book it does not meet 91, and the other's account and both parties' limits stay. Assumes nothing.
use Prim.Native.Nat.{ℕ, ◌≤◌}
use native.Mathlib.Omega.{arith}
use mathlib.Core.Path.{◌≡◌, refl, ap, ◌∙◌}
use mathlib.Core.Bool.{Bool, true, false, cond, ◌||◌}
use mathlib.Core.List.{List}
use mathlib.Core.Logic.{◌≢◌}
use lib.ListN.{length}
use lib.Dec.{eqb, ltb}
use borrow.Author.Tests.{ltb-false, eq-eqb}
use Rattle.refusals.specs.Sharing.{sharing_refusals}
use Rattle.steps.specs.Acceptance.{bad_counts, bad_length, bad_rules, bad_goal, bad_state, words_refusal, refusal_of}
use Rattle.steps.proofs.AcceptanceLaws.{start_accepted}
use Rattle.steps.proofs.EachBelow.{true_not_false}
use Rattle.evaluator.specs.Evaluated.{Asked, refused_with}
use Rattle.sharing.specs.Parties.{Party, first, second, Account, Ledger, account_of, entered, account_at, ledger_width, ledger_of}
use Rattle.sharing.specs.Charged.{AsKept}
use Rattle.sharing.specs.Shared.{Panel, Reply, gives_up, takes_up, Entered, Shared, refused_book, refused_kept, refused_goal, refused_full, refused_list, listed}
use Rattle.sharing.proofs.Ledgers.{ProperAccount, ProperLedger, vacant_proper, entered_proper, ledger_read}

-- ---- accounts that are read

left_false : (b c : Bool) → (b || c) ≡ false → b ≡ false
left_false true c h = absurd (true_not_false h)
left_false false c h = refl

goal_short : (fluents actions : ℕ) (goal : List ℕ) → bad_goal fluents actions goal ≡ false → length goal ≤ 16
unfolding bad_goal
goal_short fluents actions goal h = omega (arith, ltb-false 16 (length goal) (left_false (ltb 16 (length goal)) _ h))

account_proper : (words : List ℕ) (i : ℕ) → length (account_at words i).goal ≤ 16 → ProperAccount (account_at words i)
unfolding account_at
account_proper words i short = record { short = short; goal_none = λ e. rw e refl; start_none = λ e. rw e refl }

-- Words with good goals say a proper ledger.
pub words_proper : (fluents actions : ℕ) (words : List ℕ) → length words ≡ ledger_width
    → ((p : Party) → bad_goal fluents actions (account_of (ledger_of words) p).goal ≡ false) → ProperLedger (ledger_of words)
unfolding ledger_of account_of
words_proper fluents actions words long goals p = by p (goal_short fluents actions _ (goals p))
  where
    by : (p : Party) → length (account_of (ledger_of words) p).goal ≤ 16 → ProperAccount (account_of (ledger_of words) p)
    by first = rw (eq-eqb (length words) ledger_width long) (account_proper words 0)
    by second = rw (eq-eqb (length words) ledger_width long) (account_proper words 21)

-- So do those that are as kept.
pub kept_proper : {fluents actions : ℕ} {rules words calls answers : List ℕ} → AsKept fluents actions rules words calls answers → ProperLedger (ledger_of words)
kept_proper {fluents} {actions} {words = words} k = words_proper fluents actions words k.long k.goals

-- ---- what is kept after a run

-- The other party.
unfoldable pub other : Party → Party
other first = second
other second = first

entered_own : (l : Ledger) (p : Party) (a : Account) (n m : ℕ) → account_of (entered l p a n m) p ≡ a
unfolding account_of entered
entered_own l first a n m = refl
entered_own l second a n m = refl

entered_other : (l : Ledger) (p : Party) (a : Account) (n m : ℕ) → account_of (entered l p a n m) (other p) ≡ account_of l (other p)
unfolding account_of entered other
entered_other l first a n m = refl
entered_other l second a n m = refl

module _ {p : Party} {q : Asked} {words kept : List ℕ} {before after : Panel} {a : Account} (E : Entered p q words before after a kept) (proper : ProperAccount a) where
  abbrev now : Ledger
  now = entered (ledger_of words) p a E.calls E.answers

  pub entered_ledger : ledger_of kept ≡ now
  entered_ledger = ap ledger_of E.kept_words ∙ ledger_read now (entered_proper (ledger_of words) p a E.calls E.answers (kept_proper E.stood) proper)

  -- The party has its account then, and the other the one that it had.
  pub own_account : account_of (ledger_of kept) p ≡ a
  own_account = ap (λ (l : Ledger). account_of l p) entered_ledger ∙ entered_own (ledger_of words) p a E.calls E.answers

  pub other_account : account_of (ledger_of kept) (other p) ≡ account_of (ledger_of words) (other p)
  other_account = ap (λ (l : Ledger). account_of l (other p)) entered_ledger ∙ entered_other (ledger_of words) p a E.calls E.answers

-- The accounts that runs leave are proper.
pub gives_up_proper : (a : Account) → ProperAccount (gives_up a)
gives_up_proper a = vacant_proper a.call_limit a.answer_limit

pub takes_up_proper : (a : Account) (q : Asked) → refused_with q ≡ 0 → ProperAccount (takes_up a q)
takes_up_proper a q h = record {
  short = (start_accepted q.fluents q.actions q.rules q.goal q.start h).0.short;
  goal_none = λ e. absurd (true_not_false e);
  start_none = λ e. absurd (true_not_false e);
}

-- ---- 91

pub refusal_few : (fluents actions : ℕ) (rules goal : List ℕ) (start : ℕ) → refusal_of fluents actions rules goal start ≤ 24
unfolding refusal_of words_refusal
refusal_few fluents actions rules goal start = by (bad_counts fluents actions) (bad_length rules) (bad_rules fluents actions rules) (bad_goal fluents actions goal) (bad_state fluents start)
  where
    by : (b c d e f : Bool) → cond (eqb (cond b 20 (cond c 21 (cond d 22 (cond e 23 0)))) 0) (cond f 24 0) (cond b 20 (cond c 21 (cond d 22 (cond e 23 0)))) ≤ 24
    by true c d e f = omega arith
    by false true d e f = omega arith
    by false false true e f = omega arith
    by false false false true f = omega arith
    by false false false false true = omega arith
    by false false false false false = omega arith

-- "What ... a run refused with none of 20 to 22 and 91, left does not meet 91 under the same book": neither party's next run is refused with it.
pub not_91_next : {p p' : Party} {q q' : Asked} {words kept : List ℕ} {before after after' : Panel} {a : Account} {r : Reply} → Entered p q words before after a kept
    → Shared p' q' kept after after' r → q'.fluents ≡ q.fluents → q'.actions ≡ q.actions → q'.rules ≡ q.rules → r.refusal ≢ sharing_refusals.not_as_kept
not_91_next {q = q} {q'} E (refused_book n z s) f a b e =
    n (rw (f, a, b) E.accepted_book)
not_91_next E (refused_kept k n z s) f a b e = n (rw (f, a, b) E.stands)
not_91_next {q' = q'} E (refused_goal n t z s) f a b e =
    omega (arith, e, ap (λ (r : Reply). r.refusal) z, refusal_few q'.fluents q'.actions q'.rules q'.goal q'.start)
not_91_next E (refused_full k x t z s) f a b e = omega (arith, e, ap (λ (r : Reply). r.refusal) z)
not_91_next E (refused_list t u z l s) f a b e = omega (arith, e, z)
not_91_next E (listed t u z l up s) f a b e = omega (arith, e, z)
