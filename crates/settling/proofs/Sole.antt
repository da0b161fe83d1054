-- One party's rows alone: the calls and answers of a ledger in which it alone holds rows are those of its run. Assumes nothing.
use Prim.Native.Nat.{ℕ}
use mathlib.Core.Path.{◌≡◌, refl, sym}
use mathlib.Core.Bool.{true}
use mathlib.Core.List.{List}
use mathlib.Core.Logic.{◌↔◌, ◌⊎◌, ⊎_map}
use Rattle.steps.specs.State.{State}
use Rattle.steps.specs.Words.{run_of}
use Rattle.steps.specs.Counting.{Exactly, Outnumbers}
use Rattle.steps.proofs.EachBelow.{true_not_false}
use Rattle.steps.proofs.Counting.{exactly_map, outnumbers_map}
use Rattle.sharing.specs.Parties.{Party, first, second, goal_number, Account, Ledger, opened, account_of, entered}
use Rattle.sharing.specs.Charged.{CallAs, AnswerAs, run_held, KeptCall, KeptAnswer}
use Rattle.accounts.specs.Accounts.{holding}

-- The ledger in which this party alone holds rows, those of this goal from this start.
abbrev pub sole : Party → List ℕ → State → ℕ → ℕ → Ledger
sole p goal start n m = entered (opened 0 0 0 0) p (holding 0 0 goal start) n m

module _ (goal : List ℕ) (start : State) (n m : ℕ) where
  -- What is so of a party that holds rows is so of this one.
  only : (Q : Party → Account → Type 0) (p : Party)
      → ((p' : Party) × ((account_of (sole p goal start n m) p').holds ≡ true) × Q p' (account_of (sole p goal start n m) p')) ↔ Q p (holding 0 0 goal start)
  unfolding account_of entered
  only Q first = (λ (p, h, k). by p h k, λ k. (first, refl, k))
    where
      by : (p : Party) → (account_of (sole first goal start n m) p).holds ≡ true → Q p (account_of (sole first goal start n m) p) → Q first (holding 0 0 goal start)
      by first h k = k
      by second h k = absurd (true_not_false (sym h))
  only Q second = (λ (p, h, k). by p h k, λ k. (second, refl, k))
    where
      by : (p : Party) → (account_of (sole second goal start n m) p).holds ≡ true → Q p (account_of (sole second goal start n m) p) → Q second (holding 0 0 goal start)
      by first h k = absurd (true_not_false (sym h))
      by second h k = k

  module _ (rules : List ℕ) (p : Party) where
    pub sole_calls : {xs : List (ℕ × State)} → Exactly (KeptCall rules (sole p goal start n m)) xs → Exactly (CallAs (goal_number p) (run_of rules goal start)) xs
    sole_calls e = exactly_map (λ c. only (λ (p : Party) (a : Account). CallAs (goal_number p) (run_held rules a) c) p) e

    pub sole_answers : {xs : List (ℕ × State × State)} → Exactly (KeptAnswer rules (sole p goal start n m)) xs → Exactly (AnswerAs (goal_number p) (run_of rules goal start)) xs
    sole_answers e = exactly_map (λ c. only (λ (p : Party) (a : Account). AnswerAs (goal_number p) (run_held rules a) c) p) e

    -- More than there are places for is more of its calls or answers.
    pub sole_outgrown : (k j : ℕ) → Outnumbers (KeptCall rules (sole p goal start n m)) k ⊎ Outnumbers (KeptAnswer rules (sole p goal start n m)) j
        → Outnumbers (CallAs (goal_number p) (run_of rules goal start)) k ⊎ Outnumbers (AnswerAs (goal_number p) (run_of rules goal start)) j
    sole_outgrown k j o = ⊎_map (outnumbers_map k (λ c x. (only (λ (p : Party) (a : Account). CallAs (goal_number p) (run_held rules a) c) p).0 x))
        (outnumbers_map j (λ c x. (only (λ (p : Party) (a : Account). AnswerAs (goal_number p) (run_held rules a) c) p).0 x)) o
