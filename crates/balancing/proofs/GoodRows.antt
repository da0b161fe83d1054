-- Tables that are balanced meet no 42, and those that meet none may be put aside. Assumes nothing.
use Prim.Native.Nat.{ℕ, ◌^◌, ◌<◌, ◌≤◌}
use native.Mathlib.Omega.{arith}
use native.Mathlib.Nat.{div-eq_of_lt}
use mathlib.Core.Path.{◌≡◌, refl, sym, ◌∙◌}
use mathlib.Core.Bool.{Bool, true, false}
use mathlib.Core.List.{List}
use mathlib.Core.Logic.{◌⊎◌, inl, inr}
use Rattle.steps.specs.State.{State}
use Rattle.steps.specs.Acceptance.{bad_state, refusal_of}
use Rattle.steps.proofs.EachBelow.{each_at, each_all}
use Rattle.steps.proofs.AcceptanceLaws.{accepted_calls}
use Rattle.steps.proofs.Rows.{row_is}
use Rattle.records.specs.Records.{Calls, Answers, Bodies, justified, goal_rule}
use Rattle.records.specs.Bodies.{is_goal}
use Rattle.checks.specs.Checks.{good_row, all_justified, bad_plain}
use Rattle.checks.proofs.JustifiedLaws.{justified_same}
use Rattle.checks.proofs.RecordLaws.{by_state}
use Rattle.checks.proofs.RowLaws.{rows_justified, actions_most, evidence_fits, call_stands}
use Rattle.stowing.specs.Stowing.{plain_calls, plain_answers}
use Rattle.sharing.specs.Parties.{Party, Ledger, account_of}
use Rattle.sharing.specs.Charged.{KeptCall, kept_calls, kept_answers, goal_kept, bodies_kept, Balanced}
use Rattle.sharing.proofs.TwoGoals.{kept_goal}
use Rattle.sharing.proofs.Refusals.{good_start}
use Rattle.settling.proofs.KeptBodies.{bodies_held, fits_same, words_same}
use Rattle.balancing.specs.Balancing.{call_room, answer_room, GoodTables, Handed}

low_state : (fluents s : ℕ) → s < 2 ^ fluents → bad_state fluents s ≡ false
unfolding bad_state
low_state fluents s l = rw (div-eq_of_lt l) refl

-- ---- from balanced tables

module _ (fluents actions : ℕ) (rules : List ℕ) (l : Ledger)
    (good : (p : Party) → refusal_of fluents actions rules (account_of l p).goal (account_of l p).start ≡ 0) where
  -- The goals that stand are those kept.
  stands_kept : (a : ℕ) → goal_kept l a ≡ true → is_goal l.first.holds l.second.holds a ≡ true
  stands_kept a h =
      let same : is_goal l.first.holds l.second.holds a ≡ goal_kept l a = fits_same rules l goal_rule a in
      same ∙ h

  -- A kept call is of a goal kept or of an action below the count, and its state has no bit at or above the fluent count.
  kept_good : (a : ℕ) (D : State) → KeptCall rules l (a, D)
      → ((is_goal l.first.holds l.second.holds a ≡ true) ⊎ (a < actions)) × (bad_state fluents D ≡ false)
  kept_good a D (p, h, inl (e, d)) =
      (inl (stands_kept a (kept_goal l p a h e)), rw d (good_start fluents actions rules (account_of l p).goal (account_of l p).start (good p)))
  kept_good a D (p, h, inr c) =
      let (x, s) = accepted_calls fluents actions rules (account_of l p).goal (account_of l p).start (good p) a D c in
      (inr x, low_state fluents D s)

  module _ (calls answers : List ℕ) where
    abbrev rows : Calls
    rows = kept_calls l calls

    abbrev ends : Answers
    ends = kept_answers l answers

    abbrev Bad : Bool
    Bad = bad_plain l.first.holds l.second.holds fluents actions (bodies_held rules l) rows ends

    justified_held : (x : ℕ) → justified rows ends x (bodies_held rules l) ≡ justified rows ends x (bodies_kept rules l)
    justified_held x = justified_same rows ends x (bodies_held rules l) (bodies_kept rules l) (fits_same rules l) (words_same rules l)

    -- Balanced tables meet no 42.
    pub balanced_right : Balanced rules l calls answers → Bad ≡ false
    unfolding bad_plain all_justified
    balanced_right b =
        rw (
          each_all (good_row l.first.holds l.second.holds fluents actions rows) l.calls row_good,
          each_all (λ x. justified rows ends x (bodies_held rules l)) l.answers (λ x k. justified_held x ∙ b.justified x k),
        ) refl
      where
        row_good : (i : ℕ) → i < l.calls → good_row l.first.holds l.second.holds fluents actions rows i ≡ true
        row_good i k =
            let (a, s) = kept_good (rows.action i) (rows.state i) (row_is _ l.calls b.calls_held i k) in
            sym (by_state l.first.holds l.second.holds fluents actions rows i {a = rows.action i} {b = false} refl a (sym s))

    -- Where no 42 is met every answer is justified.
    pub right_justified : Bad ≡ false → (x : ℕ) → x < l.answers → justified rows ends x (bodies_kept rules l) ≡ true
    unfolding all_justified
    right_justified e x k =
        sym (justified_held x)
        ∙ each_at (λ x. justified rows ends x (bodies_held rules l)) l.answers
        (rows_justified l.first.holds l.second.holds fluents actions (bodies_held rules l) rows ends e) x k

-- ---- from tables that meet no 42

module _ (first second : Bool) (fluents actions : ℕ) (bodies : Bodies) (calls : List ℕ) (n : ℕ) (answers : List ℕ) (m : ℕ) where
  pub good_handed : actions ≤ 64 → n ≤ call_room calls → m ≤ answer_room answers → GoodTables first second fluents actions bodies calls n answers m
      → Handed calls n answers m
  good_handed few c a g =
      let all = rows_justified first second fluents actions bodies (plain_calls calls n) (plain_answers answers m) g.right in
      record {
        calls_few = c;
        answers_few = a;
        actions = record { small = λ i l. omega (arith, actions_most first second fluents actions bodies (plain_calls calls n) (plain_answers answers m) g.right few i l) };
        evidence = record { small = λ x q l h. evidence_fits (plain_calls calls n) (plain_answers answers m) bodies all x l (omega arith) q h };
        of_calls = λ x l. call_stands (plain_calls calls n) (plain_answers answers m) bodies all x l;
        calls_past = g.calls_past;
        answers_past = g.answers_past;
      }
