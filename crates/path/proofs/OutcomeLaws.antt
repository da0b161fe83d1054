-- The path's answer by its cases, and what no fault means. Assumes nothing.
use Prim.Native.Nat.{ℕ, ◌+◌, ◌<◌, ◌≤◌}
use native.Mathlib.Omega.{arith}
use mathlib.Core.Path.{◌≡◌, refl, sym, subst}
use mathlib.Core.Bool.{Bool, true, false, cond, not}
use mathlib.Core.List.{List, ◌∷◌}
use mathlib.Core.Logic.{◌≢◌}
use lib.ListN.{length}
use lib.Dec.{eqb, ltb}
use borrow.Author.Tests.{eq-eqb, ne_eqb, eqb-true, eqb-false, lt-ltb, le-ltb, ltb-true}
use Rattle.std.specs.Prelude.{Option, None, Some}
use Rattle.refusals.specs.Run.{run_refusals}
use Rattle.refusals.specs.Path.{path_refusals}
use Rattle.steps.specs.Acceptance.{bad_counts, bad_length, bad_rules, bad_goal, words_refusal}
use Rattle.steps.proofs.EachBelow.{each_at}
use Rattle.steps.proofs.AcceptanceLaws.{accepted}
use Rattle.records.specs.Records.{justified}
use Rattle.checks.specs.Checks.{over_room, all_justified, bad_records}
use Rattle.checks.proofs.RoomLaws.{within, short}
use Rattle.checks.proofs.RecordLaws.{Proper, never_bad}
use Rattle.unfolding.proofs.Walk.{Lent, lent, Checked, start_at, added_by}
use Rattle.unfolding.proofs.Writing.{PathListed}
use Rattle.unfolding.proofs.Checking.{checked_by, records_justified, path_added}
use Rattle.unfolding.proofs.Soundness.{Executed, executed}
use Rattle.path.specs.Answered.{Handed, call_records, answer_records, bodies, states_of, fault, too_short, path_refusal, state_count, list_after, Answered}
use Rattle.path.proofs.Told.{Told, told_fault, told_short, told_listed}

words_not_42 : (fluents actions : ℕ) (rules goal : List ℕ) → words_refusal fluents actions rules goal ≢ path_refusals.bad_record
unfolding words_refusal
words_not_42 fluents actions rules goal = by (bad_counts fluents actions) (bad_length rules) (bad_rules fluents actions rules) (bad_goal fluents actions goal)
  where
    by : (a b c d : Bool) → ◌≡◌ {A = ℕ} (cond a run_refusals.bad_counts (cond b run_refusals.bad_length (cond c run_refusals.bad_rule (cond d run_refusals.bad_goal 0)))) path_refusals.bad_record → ⊥
    by true b c d e = omega arith
    by false true c d e = omega arith
    by false false true d e = omega arith
    by false false false true e = omega arith
    by false false false false e = omega arith

module _ (l : Handed) (x : ℕ) where
  abbrev words : ℕ
  words = words_refusal l.fluents l.actions l.rules l.goal

  abbrev over : Bool
  over = over_room l.calls l.call_count l.answers l.answer_count

  abbrev bad : Bool
  bad = bad_records l.fluents l.actions (bodies l) (call_records l) (answer_records l)

  -- ---- the fault

  pub bad_words : words ≢ 0 → words ≡ fault l x
  unfolding fault
  bad_words n = rw (ne_eqb words 0 n) refl

  module _ (none : words ≡ 0) where
    pub over_rooms : over ≡ true → path_refusals.bad_record_count ≡ fault l x
    unfolding fault
    over_rooms e = rw (eq-eqb words 0 none, e) refl

    module _ (fits : over ≡ false) where
      pub not_below : l.answer_count ≤ x → path_refusals.no_record ≡ fault l x
      unfolding fault
      not_below h = rw (eq-eqb words 0 none, fits, le-ltb x l.answer_count h) refl

      pub not_right : (b : Bool) → x < l.answer_count → bad ≡ b → cond b path_refusals.bad_record 0 ≡ fault l x
      unfolding fault
      not_right b h e = rw (eq-eqb words 0 none, fits, lt-ltb x l.answer_count h, e) refl

  -- no fault
  pub record Sane : Type 0 where
    pub good_words : words ≡ 0
    pub in_room : over ≡ false
    pub in_table : x < l.answer_count
    pub right : bad ≡ false

  pub sane : fault l x ≡ 0 → Sane
  unfolding fault
  sane e = by (eqb words 0) over (ltb x l.answer_count) bad refl refl refl refl e
    where
      by : (a b c d : Bool) → eqb words 0 ≡ a → over ≡ b → ltb x l.answer_count ≡ c → bad ≡ d
          → ◌≡◌ {A = ℕ} (cond a (cond b path_refusals.bad_record_count (cond (not c) path_refusals.no_record (cond d path_refusals.bad_record 0))) words) 0 → Sane
      by false b c d p q r s z = absurd (eqb-false words 0 p z)
      by true true c d p q r s z = absurd (omega arith)
      by true false false d p q r s z = absurd (omega arith)
      by true false true true p q r s z = absurd (omega arith)
      by true false true false p q r s z = record { good_words = eqb-true words 0 p; in_room = q; in_table = ltb-true x l.answer_count r; right = s }

  -- What is lent to be walked: a run alone has no second goal, and its own stands for it.
  abbrev pub it : Lent
  it = lent false l.rules l.goal l.goal l.calls l.answers

  pub walkable : fault l x ≡ 0 → Checked it (x + 1)
  walkable e =
      let s = sane e in
      let w = within l.calls l.call_count l.answers l.answer_count s.in_room in
      let g = short l.fluents l.actions l.rules l.goal s.good_words in
      checked_by it l.call_count l.answer_count (bodies l) (λ i a. refl) x (λ i a h. (a, h)) g g w.calls_fit w.answers_most w.answers_fit
      (records_justified l.fluents l.actions (bodies l) (call_records l) (answer_records l) s.right) s.in_table

  -- where there is no fault the path is an execution of the logic
  pub path_executed : fault l x ≡ 0 → Executed l.rules l.goal (call_records l) (answer_records l) x
  unfolding all_justified
  path_executed e =
      let s = sane e in
      let all = records_justified l.fluents l.actions (bodies l) (call_records l) (answer_records l) s.right in
      executed (accepted l.fluents l.actions l.rules l.goal s.good_words) (call_records l) (answer_records l) l.answer_count
      (each_at (λ n. justified (call_records l) (answer_records l) n (bodies l)) l.answer_count all) x s.in_table

  -- ---- the answer

  module _ (list : List ℕ) where
    answered : {refusal states : ℕ} {list' : List ℕ} → Told (fault l x) (states_of l x) list refusal states list' → Answered l x list refusal states list'
    unfolding path_refusal too_short state_count list_after
    answered t = record { the_refusal = t.the_refusal; the_count = t.the_count; the_list = t.the_list }

    pub refused : (f : ℕ) → f ≡ fault l x → f ≢ 0 → Answered l x list f 0 list
    refused f e n = answered (told_fault f (fault l x) (states_of l x) list e n)

    abbrev path : List ℕ
    path = start_at it x ∷ added_by it x

    same : states_of l x ≡ path
    same = path_added it l.call_count l.answer_count (bodies l) (λ i a. refl) x

    module _ (none : fault l x ≡ 0) (told : Option ℕ) (list' : List ℕ) (listed : PathListed path (length list) list told list') where
      there : PathListed (states_of l x) (length list) list told list'
      there = subst (λ (p : List ℕ). PathListed p (length list) list told list') (sym same) listed

      pub too_few : told ≡ None → Answered l x list path_refusals.states_short 0 list'
      too_few z = answered (told_short (fault l x) (states_of l x) list none there z)

      pub listed_all : (count : ℕ) → told ≡ Some count → Answered l x list 0 count list'
      listed_all count n = answered (told_listed (fault l x) (states_of l x) list none there n)

    -- what an evaluation leaves is never refused with 42
    pub never_42 : ((i : ℕ) → i < l.call_count → Proper l.fluents l.actions (call_records l) i)
        → ((n : ℕ) → n < l.answer_count → justified (call_records l) (answer_records l) n (bodies l) ≡ true) → path_refusal l x list ≢ path_refusals.bad_record
    unfolding path_refusal fault
    never_42 proper just e =
        by (eqb words 0) over (ltb x l.answer_count) (too_short l x list)
        (rw (never_bad l.fluents l.actions (bodies l) (call_records l) (answer_records l) proper just) at e)
      where
        by : (w b c d : Bool) → cond (eqb (cond w (cond b path_refusals.bad_record_count (cond (not c) path_refusals.no_record 0)) words) 0) (cond d path_refusals.states_short 0) (cond w (cond b path_refusals.bad_record_count (cond (not c) path_refusals.no_record 0)) words) ≡ path_refusals.bad_record → ⊥
        by true true c d z = absurd (omega arith)
        by true false true true z = absurd (omega arith)
        by true false true false z = absurd (omega arith)
        by true false false d z = absurd (omega arith)
        by false b c d z = either (eqb words 0) z
          where
            either : (w : Bool) → cond w (cond d path_refusals.states_short 0) words ≡ path_refusals.bad_record → ⊥
            either true k = or d k
              where
                or : (d : Bool) → ◌≡◌ {A = ℕ} (cond d path_refusals.states_short 0) path_refusals.bad_record → ⊥
                or true k = omega arith
                or false k = omega arith
            either false k = words_not_42 l.fluents l.actions l.rules l.goal k
