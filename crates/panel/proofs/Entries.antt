-- What is left where one party has another account: words that fit again, and so what a run may leave. Assumes nothing.
use Prim.Native.Nat.{ℕ}
use native.Mathlib.Omega.{arith}
use mathlib.Core.Path.{◌≡◌, refl, sym, ap, subst, ◌∙◌}
use mathlib.Core.Bool.{true, false}
use mathlib.Core.List.{List, []}
use lib.ListN.{length}
use Rattle.steps.specs.Acceptance.{bad_goal, bad_state, words_refusal}
use Rattle.evaluator.specs.Evaluated.{Asked}
use Rattle.sharing.specs.Parties.{Party, first, second, Account, Ledger, account_of, entered, ledger_words, ledger_width, ledger_of}
use Rattle.sharing.specs.Charged.{run_held, over_limits, Exceeds}
use Rattle.sharing.specs.Shared.{Panel, book_refusal, AsKeptUnder, Entered}
use Rattle.sharing.proofs.Ledgers.{ProperLedger, entered_proper, ledger_length, ledger_read}
use Rattle.sharing.proofs.Runs.{words_proper}
use Rattle.sharing.proofs.Entering.{Enterable, entered_all, limits_stay, enters}
use Rattle.panel.specs.Left.{Fitting, counted, Left, Leaves}

-- Fitting, of the ledger that the words say.
fitting_by : {fluents actions : ℕ} {rules words calls answers : List ℕ} (l : Ledger) → ledger_of words ≡ l → words_refusal fluents actions rules [] ≡ 0
    → length words ≡ ledger_width → ((p : Party) → bad_goal fluents actions (account_of l p).goal ≡ false) → ((p : Party) → bad_state fluents (account_of l p).start ≡ false)
    → over_limits l calls answers ≡ false → ((p : Party) → (account_of l p).holds ≡ true → ¬ Exceeds (run_held rules (account_of l p)) (account_of l p))
    → Fitting fluents actions rules words calls answers
fitting_by l e b n g s m w = record { book = b; long = n; goals = rw e g; starts = rw e s; limits = rw e m; within = rw e w }

-- Only the counts are other.
entered_counted : (l : Ledger) (p : Party) (a : Account) (n m : ℕ) → counted (entered l p a 0 0) n m ≡ entered l p a n m
unfolding entered
entered_counted l first a n m = refl
entered_counted l second a n m = refl

entered_counts : (l : Ledger) (p : Party) (a : Account) (n m : ℕ) → ((entered l p a n m).calls ≡ n) × ((entered l p a n m).answers ≡ m)
unfolding entered
entered_counts l first a n m = (refl, refl)
entered_counts l second a n m = (refl, refl)

module _ (p : Party) (q : Asked) {words calls answers : List ℕ} (F : Fitting q.fluents q.actions q.rules words calls answers)
    (a : Account) (enter : Enterable q (account_of (ledger_of words) p) a) {bare : List ℕ} (e : bare ≡ ledger_words (entered (ledger_of words) p a 0 0)) where
  abbrev now : Ledger
  now = entered (ledger_of words) p a 0 0

  proper : ProperLedger now
  proper = entered_proper (ledger_of words) p a 0 0 (words_proper q.fluents q.actions words F.long F.goals) enter.proper

  read : ledger_of bare ≡ now
  read = ap ledger_of e ∙ ledger_read now proper

  -- The words with this account and no counts fit.
  pub entered_fitting : Fitting q.fluents q.actions q.rules bare calls answers
  entered_fitting = fitting_by now read F.book (ap length e ∙ ledger_length now proper)
      (entered_all (λ (x : Account). bad_goal q.fluents q.actions x.goal ≡ false) (ledger_of words) p a 0 0 enter.goal F.goals)
      (entered_all (λ (x : Account). bad_state q.fluents x.start ≡ false) (ledger_of words) p a 0 0 enter.start F.starts)
      (limits_stay (ledger_of words) p a 0 0 calls answers calls answers enter.limits refl refl F.limits)
      (entered_all (λ (x : Account). x.holds ≡ true → ¬ Exceeds (run_held q.rules x) x) (ledger_of words) p a 0 0 enter.within F.within)

  -- The rows of their goals are those of the words with these counts.
  pub left_leaves : {calls' answers' kept : List ℕ} (n m : ℕ) → Left q.rules (counted (ledger_of bare) n m) calls answers calls' answers'
      → kept ≡ ledger_words (entered (ledger_of words) p a n m) → Leaves q.rules words p a calls answers calls' answers' kept
  left_leaves {calls'} {answers'} n m L k = record {
    calls_count = n;
    answers_count = m;
    kept_words = k;
    left = subst (λ (l : Ledger). Left q.rules l calls answers calls' answers')
        (ap (λ (l : Ledger). counted l n m) read ∙ entered_counted (ledger_of words) p a n m) L;
  }

-- What is left is what a run may leave.
pub leaves_entered : (p : Party) (q : Asked) {words kept calls answers : List ℕ} (before after : Panel) (a : Account) → Enterable q (account_of (ledger_of words) p) a
    → book_refusal q ≡ 0 → AsKeptUnder q words before → length calls ≡ length before.calls → length answers ≡ length before.answers
    → Leaves q.rules words p a calls answers after.calls after.answers kept → Entered p q words before after a kept
leaves_entered p q {words} {kept} before after a enter ok stood c d L =
    let l = L.left in
    let (e, f) = entered_counts (ledger_of words) p a L.calls_count L.answers_count in
    subst (λ (ws : List ℕ). Entered p q words before after a ws) (sym L.kept_words)
    (enters p q words before after ok stood L.calls_count L.answers_count (omega (arith, e, l.calls_fit)) (omega (arith, f, l.answers_fit)) (l.calls_long ∙ c) (l.answers_long ∙ d) a enter l.balanced)
