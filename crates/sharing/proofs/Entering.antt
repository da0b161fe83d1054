-- What is to be shown of the tables that a run leaves: that they are balanced and within their rooms. The rest of `Entered`, and of `Alone` under any
-- number of the goal, follows. Assumes nothing.
use Prim.Native.Nat.{ℕ, ◌<◌, ◌≤◌}
use native.Mathlib.Omega.{arith}
use mathlib.Core.Path.{◌≡◌, refl, sym, ◌∙◌}
use mathlib.Core.Bool.{true, false}
use mathlib.Core.List.{List, map}
use mathlib.Core.Logic.{◌⊎◌, ⊎_map}
use lib.ListN.{length, length-map}
use borrow.Author.Tests.{le-ltb}
use Rattle.steps.specs.State.{State}
use Rattle.steps.specs.Deduction.{ComesToCall}
use Rattle.steps.specs.Run.{Goal, End}
use Rattle.steps.specs.Acceptance.{bad_goal, bad_state}
use Rattle.steps.specs.Counting.{Exactly, Outnumbers}
use Rattle.records.specs.Records.{room}
use Rattle.evaluator.specs.Evaluated.{Asked, refused_with, run_asked}
use Rattle.sharing.specs.Parties.{Party, first, second, Account, Ledger, account_of, entered, ledger_words, ledger_of}
use Rattle.sharing.specs.Charged.{plain_call_width, plain_answer_width, CallAs, AnswerAs, run_held, Balanced, over_limits, over_rooms, Exceeds}
use Rattle.sharing.specs.Shared.{Panel, Reply, book_refusal, gives_up, takes_up, AsKeptUnder, Entered, Alone, account}
use Rattle.sharing.proofs.Ledgers.{ProperAccount, entered_proper, ledger_length, ledger_read}
use Rattle.sharing.proofs.AsKept.{as_kept_by, vacant_goal, vacant_start}
use Rattle.sharing.proofs.Exchange.{calls_outnumber, answers_outnumber, calls_exchanged, answers_exchanged, accepted_low}
use Rattle.sharing.proofs.Refusals.{good_goal, good_start}
use Rattle.sharing.proofs.Runs.{kept_proper, gives_up_proper, takes_up_proper}

-- ---- tables

-- What holds of the account and of every account of the ledger holds of every account of the ledger with it.
pub entered_all : (P : Account → Type 0) (l : Ledger) (p : Party) (a : Account) (n m : ℕ) → P a → ((p' : Party) → P (account_of l p')) → (p' : Party) → P (account_of (entered l p a n m) p')
unfolding account_of entered
entered_all P l first a n m h all first = h
entered_all P l first a n m h all second = all second
entered_all P l second a n m h all first = all first
entered_all P l second a n m h all second = h

-- The limits stay.
abbrev pub SameLimits : Account → Account → Type 0
SameLimits a b = (a.call_limit ≡ b.call_limit) × (a.answer_limit ≡ b.answer_limit)

pub limits_stay : (l : Ledger) (p : Party) (a : Account) (n m : ℕ) (calls answers calls' answers' : List ℕ) → SameLimits a (account_of l p) → length calls' ≡ length calls → length answers' ≡ length answers
    → over_limits l calls answers ≡ false → over_limits (entered l p a n m) calls' answers' ≡ false
unfolding account_of entered over_limits
limits_stay l first a n m calls answers calls' answers' (c, d) e f h = rw (c, d, e, f) h
limits_stay l second a n m calls answers calls' answers' (c, d) e f h = rw (c, d, e, f) h

-- An account that may be entered: proper, with the limits it had, no bad goal or start, and within its limits if it holds rows.
pub record Enterable (q : Asked) (was a : Account) : Type 0 where
  pub proper : ProperAccount a
  pub limits : SameLimits a was
  pub goal : bad_goal q.fluents q.actions a.goal ≡ false
  pub start : bad_state q.fluents a.start ≡ false
  pub within : a.holds ≡ true → ¬ Exceeds (run_held q.rules a) a

-- 23, 24 and 30: the account with its limits alone.
pub gives_up_enterable : (q : Asked) (a : Account) → Enterable q a (gives_up a)
gives_up_enterable q a = record {
  proper = gives_up_proper a;
  limits = (refl, refl);
  goal = vacant_goal q.fluents q.actions;
  start = vacant_start q.fluents;
  within = λ e. absurd (not_held e);
}
  where
    not_held : false ≡ true → ⊥
    not_held e = let z : ◌≡◌ {A = ℕ} 0 1 = cc in omega arith

-- 31 and 0: the rows of this run, within the limits.
pub takes_up_enterable : (q : Asked) (a : Account) → refused_with q ≡ 0 → ¬ Exceeds (run_asked q) a → Enterable q a (takes_up a q)
takes_up_enterable q a h f = record {
  proper = takes_up_proper a q h;
  limits = (refl, refl);
  goal = good_goal q.fluents q.actions q.rules q.goal q.start h;
  start = good_start q.fluents q.actions q.rules q.goal q.start h;
  within = λ e. f;
}

module _ (p : Party) (q : Asked) (words : List ℕ) (before after : Panel) (ok : book_refusal q ≡ 0) (stood : AsKeptUnder q words before) (n m : ℕ)
    (calls_fit : n ≤ room plain_call_width (length after.calls)) (answers_fit : m ≤ room plain_answer_width (length after.answers))
    (calls_long : length after.calls ≡ length before.calls) (answers_long : length after.answers ≡ length before.answers) where
  module _ (a : Account) (enter : Enterable q (account p q words) a) where
    abbrev now : Ledger
    now = entered (ledger_of words) p a n m

    counts_fit : over_rooms now after.calls after.answers ≡ false
    unfolding over_rooms entered
    counts_fit = by p
      where
        by : (p : Party) → over_rooms (entered (ledger_of words) p a n m) after.calls after.answers ≡ false
        by first = rw (le-ltb (room plain_call_width (length after.calls)) n calls_fit, le-ltb (room plain_answer_width (length after.answers)) m answers_fit) refl
        by second = rw (le-ltb (room plain_call_width (length after.calls)) n calls_fit, le-ltb (room plain_answer_width (length after.answers)) m answers_fit) refl

    -- Balanced tables with this account are what a run may leave.
    pub enters : Balanced q.rules now after.calls after.answers → Entered p q words before after a (ledger_words now)
    enters b = record {
      accepted_book = ok;
      stood = stood;
      calls = n;
      answers = m;
      kept_words = refl;
      calls_long = calls_long;
      answers_long = answers_long;
      stands = as_kept_by now (ledger_read now proper) (ledger_length now proper)
          (entered_all (λ (x : Account). bad_goal q.fluents q.actions x.goal ≡ false) (ledger_of words) p a n m enter.goal stood.goals)
          (entered_all (λ (x : Account). bad_state q.fluents x.start ≡ false) (ledger_of words) p a n m enter.start stood.starts)
          counts_fit
          (limits_stay (ledger_of words) p a n m before.calls before.answers after.calls after.answers enter.limits calls_long answers_long stood.limits)
          b
          (entered_all (λ (x : Account). x.holds ≡ true → ¬ Exceeds (run_held q.rules x) x) (ledger_of words) p a n m enter.within stood.within);
    }
      where
        proper : (p' : Party) → ProperAccount (account_of (entered (ledger_of words) p a n m) p')
        proper = entered_proper (ledger_of words) p a n m (kept_proper stood) enter.proper

  -- 23, 24 and 30: the other's rows alone.
  pub gives_up_enters : Balanced q.rules (entered (ledger_of words) p (gives_up (account p q words)) n m) after.calls after.answers
      → Entered p q words before after (gives_up (account p q words)) (ledger_words (entered (ledger_of words) p (gives_up (account p q words)) n m))
  gives_up_enters b = enters (gives_up (account p q words)) (gives_up_enterable q (account p q words)) b

  -- 31 and 0: the rows of both.
  pub takes_up_enters : refused_with q ≡ 0 → ¬ Exceeds (run_asked q) (account p q words)
      → Balanced q.rules (entered (ledger_of words) p (takes_up (account p q words) q) n m) after.calls after.answers
      → Entered p q words before after (takes_up (account p q words) q) (ledger_words (entered (ledger_of words) p (takes_up (account p q words) q) n m))
  takes_up_enters h f b = enters (takes_up (account p q words) q) (takes_up_enterable q (account p q words) h f) b

-- ---- counts

-- A run counted under any number of its goal from 64 on is counted as alone.
module _ (q : Asked) (ok : refused_with q ≡ 0) (g : ℕ) (high : 64 ≤ g) where
  low_calls : (a : ℕ) (D : State) → ComesToCall (run_asked q).book (run_asked q).start (run_asked q).goal a D → a < 64
  low_calls = accepted_low q.fluents q.actions q.rules q.goal q.start ok

  pub exceeds_under : (a : Account) → Exceeds (run_asked q) a → Outnumbers (CallAs g (run_asked q)) a.call_limit ⊎ Outnumbers (AnswerAs g (run_asked q)) a.answer_limit
  exceeds_under a x = ⊎_map (calls_outnumber (run_asked q) low_calls Goal g (omega arith) high a.call_limit) (answers_outnumber (run_asked q) low_calls Goal g (omega arith) high a.answer_limit) x

  pub under_exceeds : (a : Account) → Outnumbers (CallAs g (run_asked q)) a.call_limit ⊎ Outnumbers (AnswerAs g (run_asked q)) a.answer_limit → Exceeds (run_asked q) a
  under_exceeds a x = ⊎_map (calls_outnumber (run_asked q) low_calls g Goal high (omega arith) a.call_limit) (answers_outnumber (run_asked q) low_calls g Goal high (omega arith) a.answer_limit) x

  pub alone_under : (a : Account) (r : Reply) → ¬ Exceeds (run_asked q) a → {cs : List (ℕ × State)} {as' : List (ℕ × State × State)} {es : List State}
      → Exactly (CallAs g (run_asked q)) cs → Exactly (AnswerAs g (run_asked q)) as' → Exactly (End (run_asked q)) es
      → r.calls ≡ length cs → r.answers ≡ length as' → r.ends ≡ length es → Alone q a r
  alone_under a r f {cs} {as'} {es} c n e many many' ends = record {
    accepted = ok;
    fits = f;
    calls = map _ cs;
    calls_all = calls_exchanged (run_asked q) low_calls g Goal high (omega arith) c;
    calls_many = many ∙ sym (length-map cs _);
    answers = map _ as';
    answers_all = answers_exchanged (run_asked q) low_calls g Goal high (omega arith) n;
    answers_many = many' ∙ sym (length-map as' _);
    ends = es;
    ends_all = e;
    ends_many = ends;
  }
