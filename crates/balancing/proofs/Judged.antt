-- What is found of the records, of the rows and of the limits makes the tables as kept, or not. Assumes nothing.
use Prim.Native.Nat.{ℕ, ◌≤◌}
use native.Mathlib.Omega.{arith}
use mathlib.Core.Path.{◌≡◌, refl, sym, subst, ◌∙◌}
use mathlib.Core.Bool.{Bool, true, false}
use mathlib.Core.List.{List, []}
use mathlib.Core.Logic.{inl, inr, ⊎_elim}
use lib.ListN.{length, get_or}
use lib.Dec.{ltb}
use borrow.Author.Tests.{ltb-false}
use Rattle.steps.specs.State.{State}
use Rattle.steps.specs.Acceptance.{bad_goal, bad_state, words_refusal, refusal_of}
use Rattle.steps.specs.Counting.{Exactly}
use Rattle.steps.proofs.AcceptanceLaws.{AcceptedWords, start_accepted}
use Rattle.steps.proofs.Rows.{rows_outnumber}
use Rattle.records.specs.Records.{room}
use Rattle.records.specs.Finished.{call_rows, answer_rows}
use Rattle.tabling.proofs.Adding.{Outgrown}
use Rattle.matching.specs.Flags.{Whether}
use Rattle.matching.proofs.SameRows.{same_rows_exactly, exactly_same_rows}
use Rattle.joint.specs.Joint.{roots_of}
use Rattle.sharing.specs.Parties.{Party, first, second, Account, Ledger, account_of, account_at, ledger_of, ledger_width}
use Rattle.sharing.specs.Charged.{plain_call_width, run_held, KeptCall, KeptAnswer, kept_calls, kept_answers, over_rooms, over_limits, Exceeds, Balanced, AsKept}
use Rattle.sharing.proofs.AsKept.{as_kept_by}
use Rattle.sharing.proofs.Refusals.{accepted_with}
use Rattle.sharing.proofs.TwoGoals.{outgrown_kept, whole_calls, whole_answers}
use Rattle.accounts.specs.Accounts.{Sound}
use Rattle.accounts.proofs.GoalWords.{left_false, right_false}
use Rattle.accounts.proofs.KeptWords.{first_placed, second_placed, calls_placed, answers_placed, limits_within}
use Rattle.settling.proofs.KeptBodies.{bodies_held, whole_kept, outgrown_held}
use Rattle.settling.proofs.KeptRoots.{KeptRoots, root_in, in_root}
use Rattle.balancing.specs.Balancing.{call_room, answer_room, plain_tables, GoodTables, Compared, BothSized}
use Rattle.balancing.proofs.OwnLimits.{not_so, sized_within}
use Rattle.balancing.proofs.GoodRows.{balanced_right, right_justified}

-- ---- the ledger as it is read

-- An account that was read: its limits, and whether it holds rows, its goal and its start.
abbrev pub read_account : Account → Bool → List ℕ → State → Account
read_account a holds goal start = record { call_limit = a.call_limit; answer_limit = a.answer_limit; holds = holds; goal = goal; start = start }

pub account_read : (a : Account) {holds : Bool} {goal : List ℕ} {start : State} → holds ≡ a.holds → goal ≡ a.goal → start ≡ a.start
    → a ≡ read_account a holds goal start
account_read a h g s = λ i. read_account a (sym h i) (sym g i) (sym s i)

-- The ledger of two such accounts and the counts.
pub ledger_said : (words : List ℕ) {a b : Account} {n m : ℕ} → length words ≡ ledger_width → account_at words 0 ≡ a → account_at words 21 ≡ b
    → n ≡ get_or words 42 0 → m ≡ get_or words 43 0 → ledger_of words ≡ record { first = a; second = b; calls = n; answers = m }
ledger_said words long e f c d = λ i. record {
  first = (first_placed words long ∙ e) i;
  second = (second_placed words long ∙ f) i;
  calls = (calls_placed words long ∙ sym c) i;
  answers = (answers_placed words long ∙ sym d) i;
}

-- ---- what is sound, of the ledger

module _ (fluents actions : ℕ) (rules words calls answers : List ℕ) (ok : words_refusal fluents actions rules [] ≡ 0)
    (s : Sound fluents actions words calls answers) (l : Ledger) (said : ledger_of words ≡ l) where
  -- Each goal from its start is accepted.
  pub kept_accepted : (p : Party) → refusal_of fluents actions rules (account_of l p).goal (account_of l p).start ≡ 0
  kept_accepted p = subst (λ (l : Ledger). refusal_of fluents actions rules (account_of l p).goal (account_of l p).start ≡ 0) said
      (accepted_with fluents actions rules _ _ ok (s.goals p) (s.starts p))

  pub kept_words : (p : Party) → AcceptedWords fluents actions rules (account_of l p).goal
  kept_words p = (start_accepted fluents actions rules (account_of l p).goal (account_of l p).start (kept_accepted p)).0

  counts_right : over_rooms l calls answers ≡ false
  counts_right = subst (λ (l : Ledger). over_rooms l calls answers ≡ false) said s.counts

  limits_right : over_limits l calls answers ≡ false
  limits_right = subst (λ (l : Ledger). over_limits l calls answers ≡ false) said s.limits

  pub calls_fit : l.calls ≤ call_room calls
  unfolding over_rooms
  calls_fit = ltb-false _ _ (left_false (ltb (room plain_call_width (length calls)) l.calls) _ counts_right)

  pub answers_fit : l.answers ≤ answer_room answers
  unfolding over_rooms
  answers_fit = ltb-false _ _ (right_false (ltb (room plain_call_width (length calls)) l.calls) _ counts_right)

  -- Each limit is within the room.
  pub call_limit_fits : (p : Party) → (account_of l p).call_limit ≤ call_room calls
  call_limit_fits p = (limits_within l calls answers limits_right p).0

  pub answer_limit_fits : (p : Party) → (account_of l p).answer_limit ≤ answer_room answers
  answer_limit_fits p = (limits_within l calls answers limits_right p).1

  -- ---- the rows

  abbrev pub Held : Type 0
  Held = Exactly (KeptCall rules l) (call_rows (kept_calls l calls)) × Exactly (KeptAnswer rules l) (answer_rows (kept_calls l calls) (kept_answers l answers))

  -- Tables whose counts are within their rooms do not hold rows that outgrow these.
  outgrown_not : Outgrown (bodies_held rules l) (KeptRoots rules l kept_words) (call_room calls) (answer_room answers) → Held → ⊥
  outgrown_not o (c, a) = ⊎_elim
      (λ x. omega (arith, (rows_outnumber _ l.calls c (call_room calls)).0 x, calls_fit))
      (λ x. omega (arith, (rows_outnumber _ l.answers a (answer_room answers)).0 x, answers_fit))
      (outgrown_kept rules l kept_words (KeptRoots rules l kept_words) (root_in rules l kept_words) (in_root rules l kept_words) _ _ (outgrown_held rules l _ _ o))

  -- Rows told off against those of the kept goals tell whether the tables hold just these.
  pub compared_held : {n m : ℕ} (full same : Bool)
      → Compared (bodies_held rules l) (roots_of l.first.holds l.second.holds l.first.start l.second.start) (call_room calls) (answer_room answers)
      (plain_tables calls l.calls answers l.answers) full n m same → Whether Held same
  compared_held true same c = let (o, e) = c.outgrown refl in not_so e (outgrown_not o)
  compared_held false true c =
      let (e, W, k, j, t) = c.found refl in
      let W' = whole_kept rules l W in
      same_rows_exactly t (whole_calls rules l kept_words (KeptRoots rules l kept_words) (root_in rules l kept_words) (in_root rules l kept_words) e W')
      (whole_answers rules l kept_words (KeptRoots rules l kept_words) (root_in rules l kept_words) (in_root rules l kept_words) e W')
  compared_held false false c =
      let (e, W, k, j, t) = c.found refl in
      let W' = whole_kept rules l W in
      λ (x, y). t (exactly_same_rows x (whole_calls rules l kept_words (KeptRoots rules l kept_words) (root_in rules l kept_words) (in_root rules l kept_words) e W') y
      (whole_answers rules l kept_words (KeptRoots rules l kept_words) (root_in rules l kept_words) (in_root rules l kept_words) e W'))

  -- ---- all

  abbrev pub Good : Type 0
  Good = GoodTables l.first.holds l.second.holds fluents actions (bodies_held rules l) calls l.calls answers l.answers

  abbrev Within : Party → Type 0
  Within p = (account_of l p).holds ≡ true → ¬ Exceeds (run_held rules (account_of l p)) (account_of l p)

  pub judged_kept : Good → Held → ((p : Party) → Within p) → AsKept fluents actions rules words calls answers
  judged_kept g (c, a) w = as_kept_by l said s.long
      (subst (λ (l : Ledger). (p : Party) → bad_goal fluents actions (account_of l p).goal ≡ false) said s.goals)
      (subst (λ (l : Ledger). (p : Party) → bad_state fluents (account_of l p).start ≡ false) said s.starts) counts_right limits_right
      (record {
        calls_held = c;
        answers_held = a;
        justified = right_justified fluents actions rules l kept_accepted calls answers g.right;
        calls_past = g.calls_past;
        answers_past = g.answers_past;
      }) w

  module _ (k : AsKept fluents actions rules words calls answers) where
    balanced : Balanced rules l calls answers
    balanced = subst (λ (l : Ledger). Balanced rules l calls answers) said k.balanced

    pub kept_good : Good
    kept_good = record {
      right = balanced_right fluents actions rules l kept_accepted calls answers balanced;
      calls_past = balanced.calls_past;
      answers_past = balanced.answers_past;
    }

    pub kept_held : Held
    kept_held = (balanced.calls_held, balanced.answers_held)

    pub kept_within : (p : Party) → Within p
    kept_within = subst (λ (l : Ledger). (p : Party) → (account_of l p).holds ≡ true → ¬ Exceeds (run_held rules (account_of l p)) (account_of l p)) said k.within

  -- The limits tell where the tables hold the rows of the kept goals.
  pub limits_tell : Good → Held → (r : Bool) → BothSized rules l.first l.second (call_room calls) (answer_room answers) l.calls l.answers r
      → Whether (AsKept fluents actions rules words calls answers) r
  unfolding account_of
  limits_tell g (c, a) true (x, y) = judged_kept g (c, a) each
    where
      each : (p : Party) → Within p
      each first = sized_within fluents actions rules l ok kept_accepted calls answers c a first true (call_limit_fits first) (answer_limit_fits first) x
      each second = sized_within fluents actions rules l ok kept_accepted calls answers c a second true (call_limit_fits second) (answer_limit_fits second) y
  limits_tell g (c, a) false (inl x) = λ k.
      sized_within fluents actions rules l ok kept_accepted calls answers c a first false (call_limit_fits first) (answer_limit_fits first) x (kept_within k first)
  limits_tell g (c, a) false (inr y) = λ k.
      sized_within fluents actions rules l ok kept_accepted calls answers c a second false (call_limit_fits second) (answer_limit_fits second) y (kept_within k second)
