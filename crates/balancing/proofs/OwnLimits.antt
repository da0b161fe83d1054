-- A party's own calls and answers against its limits: it has no more than the tables hold, or as many as its goal has alone. Assumes nothing.
use Prim.Native.Nat.{ℕ, ◌<◌, ◌≤◌}
use native.Mathlib.Omega.{arith}
use native.Mathlib.Decide.{dec_lt}
use mathlib.Core.Path.{◌≡◌, refl, sym, subst, ◌∙◌}
use mathlib.Core.Bool.{Bool, true, false}
use mathlib.Core.List.{List, []}
use mathlib.Core.Logic.{◌⊎◌, inl, inr, ⊎_elim, ⊎_map}
use Rattle.steps.specs.State.{State}
use Rattle.steps.specs.Deduction.{ComesToCall}
use Rattle.steps.specs.Run.{Run, Goal, Call, Answer}
use Rattle.steps.specs.Words.{run_of}
use Rattle.steps.specs.Acceptance.{words_refusal, refusal_of}
use Rattle.steps.specs.Counting.{Exactly, Outnumbers}
use Rattle.steps.proofs.EachBelow.{true_not_false}
use Rattle.steps.proofs.AcceptanceLaws.{AcceptedWords, accepted, start_accepted}
use Rattle.steps.proofs.Counting.{outnumbers_map}
use Rattle.steps.proofs.Rows.{rows_outnumber}
use Rattle.records.specs.Bodies.{bodies_with}
use Rattle.records.specs.Finished.{call_rows, answer_rows}
use Rattle.records.proofs.Growth.{Tables}
use Rattle.tabling.proofs.Evidence.{Among}
use Rattle.tabling.proofs.Closed.{Whole}
use Rattle.tabling.proofs.Adding.{Outgrown}
use Rattle.matching.specs.Flags.{Whether}
use Rattle.matching.specs.Matching.{SameRows}
use Rattle.matching.proofs.Pairs.{whether_same}
use Rattle.joint.specs.Joint.{roots_of}
use Rattle.sharing.specs.Parties.{Party, first, second, goal_number, Account, Ledger, vacant, account_of, entered}
use Rattle.sharing.specs.Charged.{run_held, KeptCall, KeptAnswer, kept_calls, kept_answers, Exceeds}
use Rattle.sharing.proofs.Union.{outnumbers_less}
use Rattle.sharing.proofs.Exchange.{calls_outnumber, answers_outnumber, accepted_low}
use Rattle.sharing.proofs.TwoGoals.{number_high, outgrown_kept, whole_calls, whole_answers}
use Rattle.accounts.specs.Accounts.{holding}
use Rattle.settling.proofs.KeptBodies.{whole_kept, outgrown_held}
use Rattle.settling.proofs.KeptRoots.{KeptRoots, root_in, in_root}
use Rattle.settling.proofs.Sole.{sole_calls, sole_answers, sole_outgrown}
use Rattle.balancing.specs.Balancing.{Compared, Sized, no_rows, by_both, too_many, counted, BothSized}

-- A test of something that is so, and of something that is not.
pub so : {P : Type 0} {r : Bool} → r ≡ true → P → Whether P r
so {P} e h = subst (Whether P) (sym e) h

pub not_so : {P : Type 0} {r : Bool} → r ≡ false → (P → ⊥) → Whether P r
not_so {P} e h = subst (Whether P) (sym e) h

-- ---- what is found

-- The goal and the start of the account, as they were read, evaluated alone.
module _ (rules : List ℕ) (a : Account) {goal : List ℕ} {start : State} (goal_read : goal ≡ a.goal) (start_read : start ≡ a.start) (holds : a.holds ≡ true)
    {places most : ℕ} {t : Tables} {full same : Bool} {k j : ℕ}
    (C : Compared (bodies_with rules true false goal goal) (roots_of true false start start) places most t full k j same) {n m : ℕ} where
  pub own_outgrown : full ≡ true → Sized rules a places most n m false
  own_outgrown f = too_many refl holds
      (subst (λ (g : List ℕ). Outgrown (bodies_with rules true false g g) (Among (roots_of true false a.start a.start)) places most) goal_read
      (subst (λ (x : ℕ). Outgrown (bodies_with rules true false goal goal) (Among (roots_of true false x x)) places most) start_read (C.outgrown f).0))

  pub own_counted : {x y : ℕ} (r : Bool) → full ≡ false → x ≡ a.call_limit → y ≡ a.answer_limit → Whether ((k ≤ x) × (j ≤ y)) r → Sized rules a places most n m r
  own_counted {x} {y} r f c d w = by (C.found f)
    where
      by : (e : Tables) × Whole (bodies_with rules true false goal goal) (Among (roots_of true false start start)) 0 e × (e.calls.count ≡ k) × (e.answers.count ≡ j)
          × Whether (SameRows t e) same → Sized rules a places most n m r
      by (e, W, p, q, _) = counted holds e
          (subst (λ (g : List ℕ). Whole (bodies_with rules true false g g) (Among (roots_of true false a.start a.start)) 0 e) goal_read
          (subst (λ (x : ℕ). Whole (bodies_with rules true false goal goal) (Among (roots_of true false x x)) 0 e) start_read W))
          (whether_same r (λ (u, v). (omega arith, omega arith)) (λ (u, v). (omega arith, omega arith)) w)

-- ---- a goal alone

module _ (fluents actions : ℕ) (rules goal : List ℕ) (start : State) (ok : words_refusal fluents actions rules [] ≡ 0)
    (good : refusal_of fluents actions rules goal start ≡ 0) where
  -- The ledger in which the first party alone holds rows, those of this goal.
  abbrev one : Ledger
  one = record { first = holding 0 0 goal start; second = vacant 0 0; calls = 0; answers = 0 }

  one_accepted : (p : Party) → AcceptedWords fluents actions rules (account_of one p).goal
  unfolding account_of
  one_accepted first = (start_accepted fluents actions rules goal start good).0
  one_accepted second = accepted fluents actions rules [] ok

  -- Its closed tables hold just its calls and answers.
  module _ (e : Tables) (W : Whole (bodies_with rules true false goal goal) (Among (roots_of true false start start)) 0 e) where
    pub alone_calls : Exactly (Call (run_of rules goal start)) (call_rows e.calls)
    unfolding entered goal_number
    alone_calls = sole_calls goal start 0 0 rules first
        (whole_calls rules one one_accepted (KeptRoots rules one one_accepted) (root_in rules one one_accepted) (in_root rules one one_accepted) e (whole_kept rules one W))

    pub alone_answers : Exactly (Answer (run_of rules goal start)) (answer_rows e.calls e.answers)
    unfolding entered goal_number
    alone_answers = sole_answers goal start 0 0 rules first
        (whole_answers rules one one_accepted (KeptRoots rules one one_accepted) (root_in rules one one_accepted) (in_root rules one one_accepted) e (whole_kept rules one W))

  pub alone_outgrown : (n m : ℕ) → Outgrown (bodies_with rules true false goal goal) (Among (roots_of true false start start)) n m
      → Outnumbers (Call (run_of rules goal start)) n ⊎ Outnumbers (Answer (run_of rules goal start)) m
  unfolding entered goal_number
  alone_outgrown n m o = sole_outgrown goal start 0 0 rules first n m
      (outgrown_kept rules one one_accepted (KeptRoots rules one one_accepted) (root_in rules one one_accepted) (in_root rules one one_accepted) n m (outgrown_held rules one n m o))

-- ---- a party of the ledger

module _ (fluents actions : ℕ) (rules : List ℕ) (l : Ledger) (ok : words_refusal fluents actions rules [] ≡ 0)
    (good : (p : Party) → refusal_of fluents actions rules (account_of l p).goal (account_of l p).start ≡ 0) (calls answers : List ℕ)
    (calls_held : Exactly (KeptCall rules l) (call_rows (kept_calls l calls)))
    (answers_held : Exactly (KeptAnswer rules l) (answer_rows (kept_calls l calls) (kept_answers l answers))) (p : Party) where
  abbrev Within : Type 0
  Within = (account_of l p).holds ≡ true → ¬ Exceeds (run_held rules (account_of l p)) (account_of l p)

  -- Its calls and answers are among those that the tables hold.
  tables_within : l.calls ≤ (account_of l p).call_limit → l.answers ≤ (account_of l p).answer_limit → Within
  tables_within c d h x = ⊎_elim
      (λ y. omega (arith, (rows_outnumber _ l.calls calls_held (account_of l p).call_limit).0 (outnumbers_map _ (λ k z. (p, h, z)) (calls_outnumber run low Goal (goal_number p) (omega arith) (number_high p) _ y))))
      (λ y. omega (arith, (rows_outnumber _ l.answers answers_held (account_of l p).answer_limit).0 (outnumbers_map _ (λ k z. (p, h, z)) (answers_outnumber run low Goal (goal_number p) (omega arith) (number_high p) _ y)))) x
    where
      run : Run
      run = run_held rules (account_of l p)

      low : (a : ℕ) (D : State) → ComesToCall run.book run.start run.goal a D → a < 64
      low = accepted_low fluents actions rules (account_of l p).goal (account_of l p).start (good p)

  -- The count tells.
  counted_within : (e : Tables) → Exactly (Call (run_held rules (account_of l p))) (call_rows e.calls)
      → Exactly (Answer (run_held rules (account_of l p))) (answer_rows e.calls e.answers) → (account_of l p).holds ≡ true → (r : Bool)
      → Whether ((e.calls.count ≤ (account_of l p).call_limit) × (e.answers.count ≤ (account_of l p).answer_limit)) r → Whether Within r
  counted_within e c a h true (x, y) = λ z k. ⊎_elim
      (λ o. omega (arith, (rows_outnumber _ e.calls.count c (account_of l p).call_limit).0 o))
      (λ o. omega (arith, (rows_outnumber _ e.answers.count a (account_of l p).answer_limit).0 o)) k
  counted_within e c a h false w = λ z. by (z h) (dec_lt (account_of l p).call_limit e.calls.count) (dec_lt (account_of l p).answer_limit e.answers.count)
    where
      by : ¬ Exceeds (run_held rules (account_of l p)) (account_of l p) → Dec ((account_of l p).call_limit < e.calls.count)
          → Dec ((account_of l p).answer_limit < e.answers.count) → ⊥
      by n (yes k) d = n (inl ((rows_outnumber _ e.calls.count c (account_of l p).call_limit).1 k))
      by n (no k) (yes d) = n (inr ((rows_outnumber _ e.answers.count a (account_of l p).answer_limit).1 d))
      by n (no k) (no d) = w (omega arith, omega arith)

  -- What is found of its limits tells whether it is within them.
  pub sized_within : {places most : ℕ} (r : Bool) → (account_of l p).call_limit ≤ places → (account_of l p).answer_limit ≤ most
      → Sized rules (account_of l p) places most l.calls l.answers r → Whether Within r
  sized_within r c d (no_rows e h) = so e (λ z. absurd (true_not_false (sym z ∙ h)))
  sized_within r c d (by_both e x y) = so e (tables_within x y)
  sized_within {places} {most} r c d (too_many e h o) = not_so e (λ z. z h (⊎_map (outnumbers_less c) (outnumbers_less d)
      (alone_outgrown fluents actions rules (account_of l p).goal (account_of l p).start ok (good p) places most o)))
  sized_within r c d (counted h e W w) = counted_within e
      (alone_calls fluents actions rules (account_of l p).goal (account_of l p).start ok (good p) e W)
      (alone_answers fluents actions rules (account_of l p).goal (account_of l p).start ok (good p) e W) h r w

-- Both parties: the second tells where the first is within its limits.
pub both_sized : {rules : List ℕ} {a b : Account} {places most n m : ℕ} (r : Bool) → Sized rules a places most n m true → Sized rules b places most n m r
    → BothSized rules a b places most n m r
both_sized true s t = (s, t)
both_sized false s t = inr t
