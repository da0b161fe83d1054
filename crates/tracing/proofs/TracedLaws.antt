-- The answer of a path over shared tables by its cases, and what no fault means. Assumes nothing.
use Prim.Native.Nat.{ℕ, ◌+◌, ◌*◌, ◌<◌, ◌≤◌}
use native.Mathlib.Omega.{arith}
use mathlib.Core.Path.{◌≡◌, refl, sym, ap, ◌∙◌}
use mathlib.Core.Bool.{Bool, true, false, cond, not}
use mathlib.Core.List.{List, [], ◌∷◌}
use mathlib.Core.Logic.{◌≢◌}
use lib.ListN.{length, get_or}
use lib.Dec.{eqb, ltb}
use borrow.Author.Tests.{eq-eqb, ne_eqb, eqb-true, eqb-false, lt-ltb, le-ltb, ltb-true, ltb-false, not-false}
use Rattle.std.specs.Prelude.{Option, None, Some}
use Rattle.refusals.specs.Path.{path_refusals}
use Rattle.steps.specs.State.{State}
use Rattle.steps.specs.Run.{Goal}
use Rattle.steps.specs.Acceptance.{each_below, words_refusal}
use Rattle.steps.proofs.EachBelow.{both}
use Rattle.records.specs.Records.{bodies_of, goal_rule, room}
use Rattle.records.specs.Storage.{calls_in, answers_in, call_width_of, answer_width_of}
use Rattle.records.specs.Bodies.{Short, bodies_with}
use Rattle.checks.specs.Checks.{all_justified, bad_plain}
use Rattle.checks.proofs.RoomLaws.{short}
use Rattle.unfolding.proofs.Walk.{Lent, lent, bodies_lent, Checked, start_at, added_by}
use Rattle.unfolding.proofs.Writing.{PathListed}
use Rattle.unfolding.proofs.Checking.{checked_by, path_added}
use Rattle.path.proofs.Told.{Told, told_fault, told_short, told_listed}
use Rattle.sharing.specs.Parties.{goal_number, Account, opened, Ledger, account_at, ledger_width, ledger_of}
use Rattle.sharing.specs.Charged.{plain_call_width, plain_answer_width, kept_calls, kept_answers, goal_kept, goal_under, bodies_kept, over_rooms}
use Rattle.sharing.specs.SharedPath.{good_call_kept, goals_refusal, bad_rows, shared_states, shared_fault, traced_refusal, Traced}
use Rattle.sharing.proofs.SharedRows.{rows_shared}
use Rattle.accounts.specs.Accounts.{account_width}
use Rattle.accounts.proofs.GoalWords.{left_false, right_false}
use Rattle.accounts.proofs.KeptWords.{first_placed, second_placed, calls_placed, answers_placed}
use Rattle.settling.proofs.KeptBodies.{fits_same, words_same}
use Rattle.tracing.specs.Tracing.{GoalsKept}

module _ (fluents actions : ℕ) (rules words calls answers : List ℕ) where
  abbrev l : Ledger
  l = ledger_of words

  abbrev first_refusal : ℕ
  first_refusal = words_refusal fluents actions rules l.first.goal

  abbrev second_refusal : ℕ
  second_refusal = words_refusal fluents actions rules l.second.goal

  abbrev refusal : ℕ
  refusal = goals_refusal fluents actions rules words calls answers

  abbrev over : Bool
  over = over_rooms l calls answers

  abbrev bad : Bool
  bad = bad_rows fluents actions rules words calls answers

  abbrev fault : ℕ → ℕ
  fault = shared_fault fluents actions rules words calls answers

  abbrev path : ℕ → List State
  path = shared_states fluents actions rules words calls answers

  -- ---- both goals

  pub first_refused : first_refusal ≢ 0 → first_refusal ≡ refusal
  unfolding goals_refusal
  first_refused n = rw (ne_eqb first_refusal 0 n) refl

  pub second_told : first_refusal ≡ 0 → second_refusal ≡ refusal
  unfolding goals_refusal
  second_told e = rw (eq-eqb first_refusal 0 e) refl

  -- ---- the fault

  module _ (x : ℕ) where
    pub bad_words : refusal ≢ 0 → refusal ≡ fault x
    unfolding shared_fault
    bad_words n = rw (ne_eqb refusal 0 n) refl

    module _ (none : refusal ≡ 0) where
      pub too_many : over ≡ true → path_refusals.bad_record_count ≡ fault x
      unfolding shared_fault
      too_many e = rw (eq-eqb refusal 0 none, e) refl

      module _ (fits : over ≡ false) where
        pub not_below : l.answers ≤ x → path_refusals.no_record ≡ fault x
        unfolding shared_fault
        not_below h = rw (eq-eqb refusal 0 none, fits, le-ltb x l.answers h) refl

        pub not_right : (b : Bool) → x < l.answers → bad ≡ b → cond b path_refusals.bad_record 0 ≡ fault x
        unfolding shared_fault
        not_right b h e = rw (eq-eqb refusal 0 none, fits, lt-ltb x l.answers h, e) refl

    -- no fault
    pub record Sane : Type 0 where
      pub in_room : over ≡ false
      pub in_table : x < l.answers
      pub right : bad ≡ false

    sane : refusal ≡ 0 → fault x ≡ 0 → Sane
    unfolding shared_fault
    sane none e = by over (ltb x l.answers) bad refl refl refl (rw (eq-eqb refusal 0 none) at e)
      where
        by : (b c d : Bool) → over ≡ b → ltb x l.answers ≡ c → bad ≡ d
            → ◌≡◌ {A = ℕ} (cond b path_refusals.bad_record_count (cond (not c) path_refusals.no_record (cond d path_refusals.bad_record 0))) 0 → Sane
        by true c d p q r z = absurd (omega arith)
        by false false d p q r z = absurd (omega arith)
        by false true true p q r z = absurd (omega arith)
        by false true false p q r z = record { in_room = p; in_table = ltb-true x l.answers q; right = r }

  -- ---- the records

  -- Counts that are not over their rooms are of records that stand.
  pub record Within : Type 0 where
    pub calls_fit : plain_call_width * l.calls ≤ length calls
    pub answers_fit : plain_answer_width * l.answers ≤ length answers
    pub answers_most : l.answers ≤ 65536

  pub within : over ≡ false → Within
  unfolding over_rooms
  within e =
      let c = ltb-false (room plain_call_width (length calls)) l.calls (left_false _ _ e) in
      let a = ltb-false (room plain_answer_width (length answers)) l.answers (right_false (ltb (room plain_call_width (length calls)) l.calls) _ e) in
      record { calls_fit = omega arith; answers_fit = omega arith; answers_most = omega arith }

  -- What is lent to be walked.
  abbrev pub it : Lent
  it = lent true rules l.first.goal l.second.goal calls answers

  same_words : (i a : ℕ) → (bodies_kept rules l).words i a ≡ (bodies_lent it).words i a
  unfolding goal_under goal_number
  same_words i a = refl

  -- A body that is kept goes with an action of what is lent: a goal with 64.
  more_bodies : (i a : ℕ) → (bodies_kept rules l).fits i a ≡ true → (b : ℕ) × ((bodies_lent it).fits i b ≡ true)
  more_bodies i a h = by (eqb i goal_rule) refl h
    where
      by : (c : Bool) → eqb i goal_rule ≡ c → cond c (goal_kept l a) ((bodies_of rules []).fits i a) ≡ true → (b : ℕ) × ((bodies_lent it).fits i b ≡ true)
      by true z h = (Goal, rw z refl)
      by false z h = (a, rw z (rw z at h))

  all_right : bad ≡ false → all_justified (kept_calls l calls) (kept_answers l answers) (bodies_kept rules l) ≡ true
  unfolding bad_rows
  all_right e = (both (each_below l.calls (good_call_kept fluents actions l (kept_calls l calls))) _ (not-false _ e)).1

  -- ---- the goals kept

  module _ {goal second : List ℕ} (k : GoalsKept fluents actions rules words goal second) where
    first_good : first_refusal ≡ 0
    first_good = rw k.first_is at k.first_good

    second_good : second_refusal ≡ 0
    second_good = rw k.second_is at k.second_good

    pub none_refused : refusal ≡ 0
    none_refused = sym (second_told first_good) ∙ second_good

    pub short_goals : Short rules goal × Short rules second
    short_goals = (short fluents actions rules goal k.first_good, short fluents actions rules second k.second_good)

    -- what is checked of the records is 42
    pub rows_checked : {held held' b : Bool} {n m : ℕ} → held ≡ (account_at words 0).holds → held' ≡ (account_at words account_width).holds → n ≡ get_or words 42 0 → m ≡ get_or words 43 0
        → b ≡ bad_plain held held' fluents actions (bodies_with rules held held' goal second) (calls_in (call_width_of true) calls n) (answers_in (answer_width_of true) answers m) → b ≡ bad
    rows_checked {held} {held'} {b} {n} {m} e f g h r =
        let held_is : held ≡ l.first.holds = e ∙ sym (ap (λ (a : Account). a.holds) (first_placed words k.long)) in
        let held'_is : held' ≡ l.second.holds = f ∙ sym (ap (λ (a : Account). a.holds) (second_placed words k.long)) in
        let n_is : n ≡ l.calls = g ∙ sym (calls_placed words k.long) in
        let m_is : m ≡ l.answers = h ∙ sym (answers_placed words k.long) in
        rw (held_is, held'_is, n_is, m_is, k.first_is, k.second_is) at r ∙ rows_shared fluents actions rules words calls answers (fits_same rules l) (words_same rules l)

    pub walkable : (x : ℕ) → fault x ≡ 0 → Checked (lent true rules goal second calls answers) (x + 1)
    walkable x e =
        let s = sane x none_refused e in
        let w = within s.in_room in
        rw (k.first_is, k.second_is)
        (checked_by it l.calls l.answers (bodies_kept rules l) same_words x more_bodies (short fluents actions rules l.first.goal first_good)
        (short fluents actions rules l.second.goal second_good) w.calls_fit w.answers_most w.answers_fit (all_right s.right) s.in_table)

  -- ---- words that are not 44

  module _ (other : length words ≢ ledger_width) where
    nothing_kept : l ≡ opened 0 0 0 0
    unfolding ledger_of
    nothing_kept = rw (ne_eqb (length words) ledger_width other) refl

    abbrev book : ℕ
    book = words_refusal fluents actions rules []

    book_is : refusal ≡ book
    unfolding goals_refusal
    book_is = rw nothing_kept (by (eqb book 0))
      where
        by : (b : Bool) → cond b book book ≡ book
        by true = refl
        by false = refl

    none_over : over ≡ false
    unfolding over_rooms
    none_over = rw (nothing_kept, le-ltb (room plain_call_width (length calls)) 0 (omega arith), le-ltb (room plain_answer_width (length answers)) 0 (omega arith)) refl

    -- 20 to 22, or 41
    pub unkept_fault : (x : ℕ) → (cond (eqb book 0) path_refusals.no_record book ≡ fault x) × (cond (eqb book 0) path_refusals.no_record book ≢ 0)
    unkept_fault x = by (eqb book 0) refl
      where
        none : l.answers ≤ x
        none = rw nothing_kept (omega arith)

        by : (b : Bool) → eqb book 0 ≡ b → (cond b path_refusals.no_record book ≡ fault x) × (cond b path_refusals.no_record book ≢ 0)
        by true z = (not_below x (book_is ∙ eqb-true book 0 z) none_over none, λ e. omega (arith, e))
        by false z = let n : book ≢ 0 = eqb-false book 0 z in (sym book_is ∙ bad_words x (λ e. n (sym book_is ∙ e)), n)

  -- ---- the answer

  module _ (x : ℕ) (list : List ℕ) where
    traced : {refusal states : ℕ} {list' : List ℕ} → Told (fault x) (path x) list refusal states list'
        → Traced fluents actions rules words calls answers x list refusal states list'
    unfolding traced_refusal
    traced t = record { the_refusal = t.the_refusal; the_count = t.the_count; the_list = t.the_list }

    pub refused : (f : ℕ) → f ≡ fault x → f ≢ 0 → Traced fluents actions rules words calls answers x list f 0 list
    refused f e n = traced (told_fault f (fault x) (path x) list e n)

    abbrev states : List ℕ
    states = start_at it x ∷ added_by it x

    same : path x ≡ states
    same = path_added it l.calls l.answers (bodies_kept rules l) same_words x

    module _ {goal second : List ℕ} (k : GoalsKept fluents actions rules words goal second) (none : fault x ≡ 0) (told : Option ℕ) (list' : List ℕ)
        (listed : PathListed (start_at (lent true rules goal second calls answers) x ∷ added_by (lent true rules goal second calls answers) x) (length list) list told list') where
      there : PathListed (path x) (length list) list told list'
      there = rw same (rw (k.first_is, k.second_is) at listed)

      pub too_few : told ≡ None → Traced fluents actions rules words calls answers x list path_refusals.states_short 0 list'
      too_few z = traced (told_short (fault x) (path x) list none there z)

      pub listed_all : (count : ℕ) → told ≡ Some count → Traced fluents actions rules words calls answers x list 0 count list'
      listed_all count n = traced (told_listed (fault x) (path x) list none there n)
