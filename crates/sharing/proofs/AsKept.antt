-- What an unrefused opening leaves is as kept, and two parties within their limits need no more rows than both limits together. Assumes nothing.
use Prim.Native.Nat.{ℕ, ◌+◌, ◌<◌}
use native.Mathlib.Omega.{arith}
use native.Mathlib.Nat.{zero-div}
use mathlib.Core.Path.{◌≡◌, refl, sym}
use mathlib.Core.Bool.{true, false, ◌||◌}
use mathlib.Core.List.Memᴰ
use mathlib.Core.List.{List, [], ◌∷◌, Memᴰ}
use mathlib.Core.Logic.{◌⊎◌, inl, inr}
use lib.ListN.{length, replicate, length-replicate}
use lib.Dec.{ltb}
use borrow.Author.Tests.{le-ltb}
use Rattle.steps.specs.State.{State}
use Rattle.steps.specs.Deduction.{ComesToCall}
use Rattle.steps.specs.Run.{Run, Goal}
use Rattle.steps.specs.Acceptance.{each_below, bad_goal, bad_state, refusal_of}
use Rattle.steps.specs.Counting.{none, Exactly, Outnumbers, rows}
use Rattle.steps.proofs.Counting.{outnumbers_map}
use Rattle.steps.proofs.EachBelow.{true_not_false}
use Rattle.records.specs.Records.{room}
use Rattle.unfolding.proofs.Places.{no_place}
use Rattle.sharing.specs.Parties.{Party, first, second, goal_number, Ledger, opened, account_of, ledger_words, ledger_width, ledger_of}
use Rattle.sharing.specs.Charged.{plain_call_width, plain_answer_width, CallAs, AnswerAs, run_held, KeptCall, KeptAnswer, Balanced, over_limits, over_rooms, Exceeds, AsKept}
use Rattle.sharing.specs.Shared.{Opening, no_room, emptied}
use Rattle.sharing.proofs.Ledgers.{opened_proper, ledger_length, ledger_read}
use Rattle.sharing.proofs.Exchange.{calls_outnumber, answers_outnumber, accepted_low}
use Rattle.sharing.proofs.Union.{union_outnumbered}

-- As kept, of the ledger that the words say.
pub as_kept_by : {fluents actions : ℕ} {rules words calls answers : List ℕ} (l : Ledger) → ledger_of words ≡ l → length words ≡ ledger_width
    → ((p : Party) → bad_goal fluents actions (account_of l p).goal ≡ false) → ((p : Party) → bad_state fluents (account_of l p).start ≡ false)
    → over_rooms l calls answers ≡ false → over_limits l calls answers ≡ false → Balanced rules l calls answers
    → ((p : Party) → (account_of l p).holds ≡ true → ¬ Exceeds (run_held rules (account_of l p)) (account_of l p)) → AsKept fluents actions rules words calls answers
as_kept_by l e n g s c m b w = record { long = n; goals = rw e g; starts = rw e s; counts = rw e c; limits = rw e m; balanced = rw e b; within = rw e w }

-- ---- an opening

-- No goal is no bad one, and 0 no bad start.
pub vacant_goal : (fluents actions : ℕ) → bad_goal fluents actions [] ≡ false
unfolding bad_goal each_below
vacant_goal fluents actions = refl

pub vacant_start : (fluents : ℕ) → bad_state fluents 0 ≡ false
unfolding bad_state
vacant_start fluents = rw zero-div refl

module _ (c₁ a₁ c₂ a₂ : ℕ) where
  abbrev l : Ledger
  l = opened c₁ a₁ c₂ a₂

  nobody : (p : Party) → (account_of l p).holds ≡ true → ⊥
  unfolding account_of
  nobody first h = true_not_false (sym h)
  nobody second h = true_not_false (sym h)

  no_goals : (fluents actions : ℕ) (p : Party) → bad_goal fluents actions (account_of l p).goal ≡ false
  unfolding account_of
  no_goals fluents actions first = vacant_goal fluents actions
  no_goals fluents actions second = vacant_goal fluents actions

  no_starts : (fluents : ℕ) (p : Party) → bad_state fluents (account_of l p).start ≡ false
  unfolding account_of
  no_starts fluents first = vacant_start fluents
  no_starts fluents second = vacant_start fluents

  empty_balanced : (rules : List ℕ) (n m : ℕ) → Balanced rules l (replicate n 0) (replicate m 0)
  unfolding rows
  empty_balanced rules n m = record {
    calls_held = record { once = none; members = λ c. (λ k. absurd (Memᴰ.not-nil k), λ (p, h, k). absurd (nobody p h)) };
    answers_held = record { once = none; members = λ c. (λ k. absurd (Memᴰ.not-nil k), λ (p, h, k). absurd (nobody p h)) };
    justified = λ x h. absurd (omega arith);
    calls_past = λ i h. no_place n i;
    answers_past = λ i h. no_place m i;
  }

  -- no records are over no room
  none_over : (n m : ℕ) → (ltb n 0 || ltb m 0) ≡ false
  none_over n m = rw (le-ltb n 0 (omega arith), le-ltb m 0 (omega arith)) refl

  -- The tables that an opening empties are as kept under any book.
  pub opened_as_kept : (fluents actions : ℕ) (rules calls answers : List ℕ) → over_limits l calls answers ≡ false
      → AsKept fluents actions rules (ledger_words l) (replicate (length calls) 0) (replicate (length answers) 0)
  unfolding over_limits over_rooms
  opened_as_kept fluents actions rules calls answers h =
      as_kept_by l (ledger_read l (opened_proper c₁ a₁ c₂ a₂)) (ledger_length l (opened_proper c₁ a₁ c₂ a₂)) (no_goals fluents actions) (no_starts fluents)
      (none_over (room plain_call_width (length (replicate {A = ℕ} (length calls) 0))) (room plain_answer_width (length (replicate {A = ℕ} (length answers) 0))))
      (rw (length-replicate {A = ℕ} (length calls) 0, length-replicate {A = ℕ} (length answers) 0) h)
      (empty_balanced rules (length calls) (length answers)) (λ p e. absurd (nobody p e))

  -- "What an unrefused opening ... left does not meet 91".
  pub opening_as_kept : (fluents actions : ℕ) (rules : List ℕ) {calls answers kept calls' answers' : List ℕ} → Opening l calls answers 0 kept calls' answers'
      → AsKept fluents actions rules kept calls' answers'
  opening_as_kept fluents actions rules (no_room v e k c a) = absurd (omega (arith, e))
  opening_as_kept fluents actions rules {calls} {answers} (emptied v e k c a) = rw (k, c, a) (opened_as_kept fluents actions rules calls answers v)

-- ---- two parties within their limits

some_of : {X : Type 0} {P : X → Type 0} (n : ℕ) → Outnumbers P n → (x : X) × P x
some_of n ([], d, all, long) = absurd (omega arith)
some_of n (x ∷ xs, d, all, long) = (x, all x (Memᴰ.head refl))

module _ (fluents actions : ℕ) (rules : List ℕ) (l : Ledger)
    (good : (p : Party) → (account_of l p).holds ≡ true → refusal_of fluents actions rules (account_of l p).goal (account_of l p).start ≡ 0)
    (within : (p : Party) → (account_of l p).holds ≡ true → ¬ Exceeds (run_held rules (account_of l p)) (account_of l p)) where
  abbrev run_by : Party → Run
  run_by p = run_held rules (account_of l p)

  low : (p : Party) → (account_of l p).holds ≡ true → (a : ℕ) (D : State) → ComesToCall (run_by p).book (run_by p).start (run_by p).goal a D → a < 64
  low p h = accepted_low fluents actions rules (account_of l p).goal (account_of l p).start (good p h)

  -- Their calls together do not outnumber both limits of calls,
  pub calls_fit : ¬ Outnumbers (KeptCall rules l) (l.first.call_limit + l.second.call_limit)
  unfolding account_of goal_number
  calls_fit o = by (union_outnumbered Of₁ Of₂ l.first.call_limit l.second.call_limit (outnumbers_map _ part o))
    where
      Of₁ : ℕ × State → Type 0
      Of₁ c = (l.first.holds ≡ true) × CallAs Goal (run_held rules l.first) c

      Of₂ : ℕ × State → Type 0
      Of₂ c = (l.second.holds ≡ true) × CallAs 65 (run_held rules l.second) c

      part : (c : ℕ × State) → KeptCall rules l c → Of₁ c ⊎ Of₂ c
      part c (first, h, k) = inl (h, k)
      part c (second, h, k) = inr (h, k)

      by : Outnumbers Of₁ l.first.call_limit ⊎ Outnumbers Of₂ l.second.call_limit → ⊥
      by (inl x) = let (c, (h, k)) = some_of _ x in within first h (inl (outnumbers_map _ (λ c k. k.1) x))
      by (inr x) =
          let (c, (h, k)) = some_of _ x in
          within second h (inl (calls_outnumber (run_held rules l.second) (low second h) 65 Goal (omega arith) (omega arith) _ (outnumbers_map _ (λ c k. k.1) x)))

  -- and no more do their answers both limits of answers.
  pub answers_fit : ¬ Outnumbers (KeptAnswer rules l) (l.first.answer_limit + l.second.answer_limit)
  unfolding account_of goal_number
  answers_fit o = by (union_outnumbered Of₁ Of₂ l.first.answer_limit l.second.answer_limit (outnumbers_map _ part o))
    where
      Of₁ : ℕ × State × State → Type 0
      Of₁ c = (l.first.holds ≡ true) × AnswerAs Goal (run_held rules l.first) c

      Of₂ : ℕ × State × State → Type 0
      Of₂ c = (l.second.holds ≡ true) × AnswerAs 65 (run_held rules l.second) c

      part : (c : ℕ × State × State) → KeptAnswer rules l c → Of₁ c ⊎ Of₂ c
      part c (first, h, k) = inl (h, k)
      part c (second, h, k) = inr (h, k)

      by : Outnumbers Of₁ l.first.answer_limit ⊎ Outnumbers Of₂ l.second.answer_limit → ⊥
      by (inl x) = let (c, (h, k)) = some_of _ x in within first h (inr (outnumbers_map _ (λ c k. k.1) x))
      by (inr x) =
          let (c, (h, k)) = some_of _ x in
          within second h (inr (answers_outnumber (run_held rules l.second) (low second h) 65 Goal (omega arith) (omega arith) _ (outnumbers_map _ (λ c k. k.1) x)))
