-- What balanced tables are: their roots stand, each record stands once, each call is reached, each answer justified, and there is nothing more; and
-- two parties within their limits never outgrow tables that have room for both. Assumes nothing.
use Prim.Native.Nat.{ℕ, zero, suc, ◌+◌, ◌<◌, ◌≤◌}
use native.Mathlib.Omega.{arith}
use native.Mathlib.Decide.{dec_lt}
use mathlib.Core.Path.{◌≡◌, refl, sym, ap, ◌∙◌}
use mathlib.Core.Bool.{true, false}
use mathlib.Core.List.{List}
use mathlib.Core.Logic.{◌≢◌, inl, ⊎_elim}
use Rattle.steps.specs.State.{State}
use Rattle.steps.specs.Acceptance.{refusal_of}
use Rattle.steps.specs.Counting.{Distinct, more, rows}
use Rattle.steps.proofs.AcceptanceLaws.{AcceptedWords}
use Rattle.steps.proofs.Rows.{rows_in, rows_out, row_is, rows_outnumber}
use Rattle.records.specs.Storage.{CallAt, AnswerAt}
use Rattle.records.proofs.Growth.{Tables, tables, HeldCall}
use Rattle.records.proofs.Justification.{justified_out}
use Rattle.tabling.proofs.Evidence.{Valid}
use Rattle.tabling.proofs.Adding.{Outgrown}
use Rattle.sharing.specs.Parties.{Party, Ledger, account_of}
use Rattle.sharing.specs.Charged.{KeptCall, KeptAnswer, kept_calls, kept_answers, run_held, bodies_kept, Balanced, Exceeds}
use Rattle.sharing.proofs.Union.{outnumbers_less}
use Rattle.sharing.proofs.AsKept.{calls_fit, answers_fit}
use Rattle.sharing.proofs.TwoGoals.{KeptRoot, of_call, outgrown_kept}

-- rows without repeats are apart
rows_apart : {X : Type 0} (row : ℕ → X) (n : ℕ) → Distinct (rows row n) → (i j : ℕ) → i < j → j < n → row i ≢ row j
unfolding rows
rows_apart row zero d i j l h = absurd (omega arith)
rows_apart row (suc n) (more new d) i j l h = by (dec_lt j n) (rows_apart row n d i j l)
  where
    by : Dec (j < n) → (j < n → row i ≢ row j) → row i ≢ row j
    by (yes k) before = before k
    by (no k) before = let z : j ≡ n = omega arith in rw z (new (row i) (rows_in row n i (row i) (omega arith) refl))

module _ {fluents actions : ℕ} (rules : List ℕ) (l : Ledger) (acc : (p : Party) → AcceptedWords fluents actions rules (account_of l p).goal)
    (Root : ℕ → State → Type 0) (root_in : (a : ℕ) (D : State) → Root a D → KeptRoot rules l acc a D) (in_root : (a : ℕ) (D : State) → KeptRoot rules l acc a D → Root a D) where
  module _ (calls answers : List ℕ) (B : Balanced rules l calls answers) where
    abbrev t : Tables
    t = tables (kept_calls l calls) (kept_answers l answers)

    abbrev call_row : ℕ → ℕ × State
    call_row i = (t.calls.action i, t.calls.state i)

    abbrev answer_row : ℕ → ℕ × State × State
    answer_row x = (t.calls.action (t.answers.call x), t.calls.state (t.answers.call x), t.answers.final x)

    -- What is to be checked of tables that may come from anybody holds of balanced ones.
    pub balanced_valid : Valid (bodies_kept rules l) Root t
    balanced_valid = record {
      roots = λ a D r. stands a D (rows_out call_row l.calls (a, D) ((B.calls_held.members (a, D)).1 (root_call a D (root_in a D r))));
      calls_once = λ i j a D k h x y. rows_apart call_row l.calls B.calls_held.once i j k h (λ z. ((x.has_action ∙ sym y.has_action) z, (x.has_state ∙ sym y.has_state) z));
      answers_once = λ x y row f k h c d. rows_apart answer_row l.answers B.answers_held.once x y k h
          (λ z. (t.calls.action ((c.has_call ∙ sym d.has_call) z), t.calls.state ((c.has_call ∙ sym d.has_call) z), (c.has_final ∙ sym d.has_final) z));
      reached = λ i k. of_call rules l acc Root root_in in_root (row_is call_row l.calls B.calls_held i k);
      justified = λ x k. justified_out (B.justified x k);
    }
      where
        root_call : (a : ℕ) (D : State) → KeptRoot rules l acc a D → KeptCall rules l (a, D)
        root_call a D (p, h, e, d) = (p, h, inl (e, d))

        stands : (a : ℕ) (D : State) → (i : ℕ) × (i < l.calls) × (◌≡◌ {A = ℕ × State} (a, D) (call_row i)) → HeldCall t (a, D)
        stands a D (i, k, e) = (i, k, record { has_action = sym (ap (λ (c : ℕ × State). c.0) e); has_state = sym (ap (λ (c : ℕ × State). c.1) e) })

    -- There is nothing more: a search over them finds no room wanting.
    pub balanced_all : ¬ Outgrown (bodies_kept rules l) Root l.calls l.answers
    balanced_all o = ⊎_elim (λ x. omega (arith, (rows_outnumber call_row l.calls B.calls_held l.calls).0 x))
        (λ x. omega (arith, (rows_outnumber answer_row l.answers B.answers_held l.answers).0 x)) (outgrown_kept rules l acc Root root_in in_root l.calls l.answers o)

  -- Two parties within their limits never outgrow tables that have room for both limits.
  pub never_outgrown : ((p : Party) → (account_of l p).holds ≡ true → refusal_of fluents actions rules (account_of l p).goal (account_of l p).start ≡ 0)
      → ((p : Party) → (account_of l p).holds ≡ true → ¬ Exceeds (run_held rules (account_of l p)) (account_of l p))
      → (n m : ℕ) → l.first.call_limit + l.second.call_limit ≤ n → l.first.answer_limit + l.second.answer_limit ≤ m → ¬ Outgrown (bodies_kept rules l) Root n m
  never_outgrown good within n m h k o = ⊎_elim (λ x. calls_fit fluents actions rules l good within (outnumbers_less h x))
      (λ x. answers_fit fluents actions rules l good within (outnumbers_less k x)) (outgrown_kept rules l acc Root root_in in_root n m o)
