-- Tables that are as kept meet no fault of the path under the same book: of a record that is counted it says nothing but 43, and of one that is not 41.
-- "Record numbers, order, the path shown and so 41 and 43 may depend on the other party": no other refusal of the path does. Assumes nothing.
use Prim.Native.Nat.{ℕ, ◌^◌, ◌<◌, ◌≤◌}
use native.Mathlib.Nat.{div-eq_of_lt}
use mathlib.Core.Path.{◌≡◌, refl}
use mathlib.Core.Bool.{Bool, true, false, cond, not, ◌||◌}
use mathlib.Core.List.{List, []}
use mathlib.Core.Logic.{inl, inr}
use lib.ListN.{length}
use lib.Dec.{ltb}
use borrow.Author.Tests.{eq-eqb, lt-ltb, le-ltb}
use Rattle.refusals.specs.Path.{path_refusals}
use Rattle.steps.specs.State.{State}
use Rattle.steps.specs.Acceptance.{bad_state, words_refusal, refusal_of}
use Rattle.steps.proofs.EachBelow.{each_all}
use Rattle.steps.proofs.AcceptanceLaws.{words_accepted, accepted_calls}
use Rattle.steps.proofs.Rows.{row_is}
use Rattle.records.specs.Records.{justified}
use Rattle.checks.specs.Checks.{all_justified}
use Rattle.sharing.specs.Parties.{Party, first, second, Ledger, account_of, ledger_of}
use Rattle.sharing.specs.Charged.{KeptCall, kept_calls, kept_answers, goal_kept, bodies_kept, AsKept}
use Rattle.sharing.specs.SharedPath.{good_call_kept, goals_refusal, bad_rows, shared_states, shared_fault, traced_refusal}
use Rattle.sharing.proofs.Refusals.{accepted_with, good_start}
use Rattle.sharing.proofs.TwoGoals.{kept_goal}

low_state : (fluents s : ℕ) → s < 2 ^ fluents → bad_state fluents s ≡ false
unfolding bad_state
low_state fluents s l = rw (div-eq_of_lt l) refl

or_true : (b : Bool) → (b || true) ≡ true
or_true true = refl
or_true false = refl

module _ (fluents actions : ℕ) (rules words calls answers : List ℕ) (ok : words_refusal fluents actions rules [] ≡ 0) (K : AsKept fluents actions rules words calls answers) where
  abbrev l : Ledger
  l = ledger_of words

  good : (p : Party) → refusal_of fluents actions rules (account_of l p).goal (account_of l p).start ≡ 0
  good p = accepted_with fluents actions rules (account_of l p).goal (account_of l p).start ok (K.goals p) (K.starts p)

  goal_good : (p : Party) → words_refusal fluents actions rules (account_of l p).goal ≡ 0
  goal_good p = words_accepted fluents actions rules (account_of l p).goal (account_of l p).start (good p)

  no_23 : goals_refusal fluents actions rules words calls answers ≡ 0
  unfolding goals_refusal account_of
  no_23 = rw (eq-eqb _ 0 (goal_good first)) (goal_good second)

  call_good : (i : ℕ) → i < l.calls → good_call_kept fluents actions l (kept_calls l calls) i ≡ true
  unfolding good_call_kept
  call_good i h = by (row_is _ l.calls K.balanced.calls_held i h)
    where
      by : KeptCall rules l ((kept_calls l calls).action i, (kept_calls l calls).state i) → good_call_kept fluents actions l (kept_calls l calls) i ≡ true
      by (p, k, inl (e, d)) =
          rw (kept_goal l p ((kept_calls l calls).action i) k e, d, good_start fluents actions rules (account_of l p).goal (account_of l p).start (good p)) refl
      by (p, k, inr c) =
          let (a, s) = accepted_calls fluents actions rules (account_of l p).goal (account_of l p).start (good p) ((kept_calls l calls).action i) ((kept_calls l calls).state i) c in
          rw (lt-ltb ((kept_calls l calls).action i) actions a, low_state fluents ((kept_calls l calls).state i) s, or_true (goal_kept l ((kept_calls l calls).action i))) refl

  no_42 : bad_rows fluents actions rules words calls answers ≡ false
  unfolding bad_rows all_justified
  no_42 =
      rw (
        each_all (good_call_kept fluents actions l (kept_calls l calls)) l.calls call_good,
        each_all (λ x. justified (kept_calls l calls) (kept_answers l answers) x (bodies_kept rules l)) l.answers K.balanced.justified,
      ) refl

  -- A record that is counted meets none of 20 to 23 and 40 to 42,
  pub as_kept_sound : (x : ℕ) → x < l.answers → shared_fault fluents actions rules words calls answers x ≡ 0
  unfolding shared_fault
  as_kept_sound x h = rw (eq-eqb _ 0 no_23, K.counts, lt-ltb x l.answers h, no_42) refl

  -- and any other meets 41.
  pub as_kept_41 : (x : ℕ) → l.answers ≤ x → shared_fault fluents actions rules words calls answers x ≡ path_refusals.no_record
  unfolding shared_fault
  as_kept_41 x h = rw (eq-eqb _ 0 no_23, K.counts, le-ltb x l.answers h) refl

  -- So its path is listed, or its list is too short.
  pub as_kept_path : (x : ℕ) (list : List ℕ) → x < l.answers → traced_refusal fluents actions rules words calls answers x list
      ≡ cond (ltb (length list) (length (shared_states fluents actions rules words calls answers x))) path_refusals.states_short 0
  unfolding traced_refusal
  as_kept_path x list h = rw (eq-eqb _ 0 (as_kept_sound x h)) refl
