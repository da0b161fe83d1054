-- A ledger's 44 words say that ledger again. Assumes nothing.
use Prim.Native.Nat.{ℕ, ◌+◌, ◌-◌, ◌≤◌}
use native.Mathlib.Omega.{arith}
use mathlib.Core.Path.{◌≡◌, refl, sym, ap, ◌∙◌}
use mathlib.Core.Bool.{Bool, true, false, cond, not}
use mathlib.Core.List.{List, [], ◌∷◌, ◌++◌}
use lib.ListN.{get_or, length, take, drop, replicate, length-append, length-replicate}
use lib.Seq.{take-append-le, take-append_seam, drop_at, drop-drop, get_or_at, get_or-append-add, get_or-drop}
use lib.Dec.{eqb}
use borrow.Author.Tests.{eq-eqb}
use Rattle.steps.specs.State.{State}
use Rattle.sharing.specs.Parties.{Party, first, second, Account, Ledger, vacant, opened, account_of, entered, account_words, ledger_words, account_at, ledger_width, ledger_of}

-- An account as the operations leave it: a goal of at most 16 steps, and none where no rows are held.
pub record ProperAccount (a : Account) : Type 0 where
  pub short : length a.goal ≤ 16
  pub goal_none : a.holds ≡ false → a.goal ≡ []
  pub start_none : a.holds ≡ false → a.start ≡ 0

abbrev pub ProperLedger : Ledger → Type 0
ProperLedger l = (p : Party) → ProperAccount (account_of l p)

pub vacant_proper : (calls answers : ℕ) → ProperAccount (vacant calls answers)
vacant_proper calls answers = record { short = omega arith; goal_none = λ e. refl; start_none = λ e. refl }

pub opened_proper : (c₁ a₁ c₂ a₂ : ℕ) → ProperLedger (opened c₁ a₁ c₂ a₂)
unfolding account_of
opened_proper c₁ a₁ c₂ a₂ first = vacant_proper c₁ a₁
opened_proper c₁ a₁ c₂ a₂ second = vacant_proper c₂ a₂

pub entered_proper : (l : Ledger) (p : Party) (a : Account) (n m : ℕ) → ProperLedger l → ProperAccount a → ProperLedger (entered l p a n m)
unfolding account_of entered
entered_proper l first a n m proper h first = h
entered_proper l first a n m proper h second = proper second
entered_proper l second a n m proper h first = proper first
entered_proper l second a n m proper h second = h

-- ---- an account

pub account_length : (a : Account) → ProperAccount a → length (account_words a) ≡ 21
unfolding account_words
account_length a proper =
    let z : length (a.goal ++ replicate (16 - length a.goal) 0) ≡ 16 =
    length-append a.goal (replicate (16 - length a.goal) 0) ∙ omega (arith, length-replicate {A = ℕ} (16 - length a.goal) 0, proper.short) in
    omega (arith, z)

-- the account that these words say
account_by : ℕ → ℕ → ℕ → ℕ → ℕ → List ℕ → Account
account_by calls answers h start steps words = let holds = not (eqb h 0) in
    record { call_limit = calls; answer_limit = answers; holds = holds; goal = cond holds (take steps words) []; start = cond holds start 0 }

-- words before it say nothing of it
account_later : (words : List ℕ) (i : ℕ) → account_at words i ≡ account_at (drop i words) 0
unfolding account_at account_by
account_later words i = λ k. account_by (at {n = i} 0 (omega arith) k) (at 1 refl k) (at 2 refl k) (at 3 refl k) (at 4 refl k) (sym (drop-drop 5 i words) k)
  where
    at : {n : ℕ} (j : ℕ) → n ≡ i + j → get_or words n 0 ≡ get_or (drop i words) j 0
    at j e = ap (λ (n : ℕ). get_or words n 0) e ∙ sym (get_or-drop i words j 0)

-- nor do words past it
account_read : (a : Account) (rest : List ℕ) → ProperAccount a → account_at (account_words a ++ rest) 0 ≡ a
unfolding account_at account_words
account_read a rest proper = by a.holds refl
  where
    goal_read : take (length a.goal) ((a.goal ++ replicate (16 - length a.goal) 0) ++ rest) ≡ a.goal
    goal_read =
        take-append-le (length a.goal) (a.goal ++ replicate (16 - length a.goal) 0) rest (omega (arith, length-append a.goal (replicate (16 - length a.goal) 0)))
        ∙ take-append_seam a.goal (replicate (16 - length a.goal) 0)

    by : (b : Bool) → a.holds ≡ b → account_at (account_words a ++ rest) 0 ≡ a
    by true e = λ k. record { call_limit = a.call_limit; answer_limit = a.answer_limit; holds = (flag k); goal = goals k; start = starts k }
      where
        flag : not (eqb (cond a.holds 1 0) 0) ≡ a.holds
        flag = rw e refl

        goals : cond (not (eqb (cond a.holds 1 0) 0)) (take (length a.goal) ((a.goal ++ replicate (16 - length a.goal) 0) ++ rest)) [] ≡ a.goal
        goals = rw e goal_read

        starts : cond (not (eqb (cond a.holds 1 0) 0)) a.start 0 ≡ a.start
        starts = rw e refl
    by false e = λ k. record { call_limit = a.call_limit; answer_limit = a.answer_limit; holds = (flag k); goal = goals k; start = starts k }
      where
        flag : not (eqb (cond a.holds 1 0) 0) ≡ a.holds
        flag = rw e refl

        goals : cond (not (eqb (cond a.holds 1 0) 0)) (take (length a.goal) ((a.goal ++ replicate (16 - length a.goal) 0) ++ rest)) [] ≡ a.goal
        goals = rw e (sym (proper.goal_none e))

        starts : cond (not (eqb (cond a.holds 1 0) 0)) a.start 0 ≡ a.start
        starts = rw e (sym (proper.start_none e))

-- ---- a ledger

module _ (l : Ledger) (proper : ProperLedger l) where
  long₁ : length (account_words l.first) ≡ 21
  unfolding account_of
  long₁ = account_length l.first (proper first)

  long₂ : length (account_words l.second) ≡ 21
  unfolding account_of
  long₂ = account_length l.second (proper second)

  abbrev counts : List ℕ
  counts = l.calls ∷ l.answers ∷ []

  abbrev later : List ℕ
  later = account_words l.second ++ counts

  pub ledger_length : length (ledger_words l) ≡ ledger_width
  unfolding ledger_words
  ledger_length = omega (arith, long₁, long₂, length-append (account_words l.first) later, length-append (account_words l.second) counts)

  dropped : drop 21 (ledger_words l) ≡ later
  unfolding ledger_words
  dropped = drop_at (account_words l.first) later 21 long₁

  -- "The counts of records in the tables"
  counted : (j n : ℕ) → n ≡ 21 + (21 + j) → get_or (ledger_words l) n 0 ≡ get_or counts j 0
  counted j n e =
      ap (λ (n : ℕ). get_or (ledger_words l) n 0) e
      ∙ sym (get_or-drop 21 (ledger_words l) (21 + j) 0)
      ∙ ap (λ (ws : List ℕ). get_or ws (21 + j) 0) dropped
      ∙ ap (λ (m : ℕ). get_or later (m + j) 0) (sym long₂)
      ∙ get_or-append-add (account_words l.second) counts j 0

  -- What is kept comes back as it was.
  pub ledger_read : ledger_of (ledger_words l) ≡ l
  unfolding ledger_of ledger_words account_of
  ledger_read = ap (λ (b : Bool). cond b read (opened 0 0 0 0)) (eq-eqb (length (ledger_words l)) ledger_width ledger_length)
      ∙ (λ k. record { first = of_first k; second = of_second k; calls = counted 0 42 refl k; answers = counted 1 43 refl k })
    where
      read : Ledger
      read = record {
        first = account_at (ledger_words l) 0;
        second = account_at (ledger_words l) 21;
        calls = get_or (ledger_words l) 42 0;
        answers = get_or (ledger_words l) 43 0;
      }

      of_first : account_at (ledger_words l) 0 ≡ l.first
      of_first = account_read l.first later (proper first)

      of_second : account_at (ledger_words l) 21 ≡ l.second
      of_second =
          account_later (ledger_words l) 21
          ∙ ap (λ (ws : List ℕ). account_at ws 0) dropped
          ∙ account_read l.second counts (proper second)
