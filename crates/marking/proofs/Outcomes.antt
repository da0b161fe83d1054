-- What `mark` gives and leaves, from what its parts give: an unrefused record is walked over a cleared table, which is then saturated. Assumes nothing.
use Prim.Native.Nat.{ℕ, ◌+◌, ◌*◌, ◌/◌, ◌%◌, ◌<◌, ◌≤◌}
use native.Mathlib.Omega.{arith}
use mathlib.Core.Path.{◌≡◌, refl, sym, ap, subst, ◌∙◌}
use mathlib.Core.Bool.{Bool, true, false, cond, not, ◌&&◌}
use mathlib.Core.List.{List, []}
use mathlib.Core.Logic.{◌↔◌, ◌≢◌}
use lib.Dec.{eqb, ltb}
use lib.ListN.{get_or, length}
use borrow.Author.Tests.{eqb-true, ltb-true, ltb-false, not-true, not-false}
use Rattle.refusals.specs.Marking.{marking_refusals}
use Rattle.steps.specs.State.{bit}
use Rattle.steps.specs.Step.{Body, Rule}
use Rattle.steps.specs.Words.{body_of, head_of, words_of, book_of}
use Rattle.steps.specs.Widths.{rule_width}
use Rattle.steps.specs.Inner.{is_call}
use Rattle.steps.specs.Acceptance.{good_step, refusal_of}
use Rattle.steps.proofs.AcceptanceLaws.{AcceptedWords, start_accepted, rule_step}
use Rattle.steps.proofs.Deductions.{RuleOf, rule}
use Rattle.steps.proofs.EachBelow.{both, each_at, true_not_false}
use Rattle.steps.proofs.StateLaws.{no_bit}
use Rattle.steps.proofs.Tables.{Walk}
use Rattle.steps.proofs.WordLaws.{book_member}
use Rattle.masks.specs.Masks.{Carried, Held, Mask, WalkTo, GoodWord, GoodWords, Guide, Walkable, SoundMarks, AllSettled}
use Rattle.marking.specs.Marking.{Question, bad_recorded_steps, refusal, Yes, RecordMarked, refused, marked}
use Rattle.marking.specs.Inner.{Ran, Cleared}
use Rattle.marking.proofs.Marks.{Taken, size_recorded, Saturated, marks_table, yes_bit}

-- ---- what passes the tests

passed : (b : Bool) (n m : ℕ) → n ≢ 0 → cond b n m ≡ 0 → (b ≡ false) × (m ≡ 0)
passed true n m ne e = absurd (ne e)
passed false n m ne e = (refl, e)

good_word : (fluents actions w : ℕ) → fluents ≤ 64 → actions ≤ 64 → good_step fluents actions w ≡ true → GoodWord w
unfolding good_step
good_word fluents actions w f a e =
    let (k, i) = both (ltb (w / 256) 5) (ltb (w % 256) (cond (is_call w) actions fluents)) e in
    (ltb-true (w / 256) 5 k, low (is_call w) (ltb-true (w % 256) _ i))
  where
    low : (b : Bool) → w % 256 < cond b actions fluents → w % 256 < 64
    low true l = omega arith
    low false l = omega arith

module _ (q : Question) (room : ℕ) (e : refusal q room ≡ 0) where
  -- the refusals met here alone
  abbrev later : ℕ
  later = cond (ltb 63 (length q.words)) marking_refusals.long_record (cond (ltb room 4096) marking_refusals.marks_short (cond (bad_recorded_steps q.fluents q.actions q.words) marking_refusals.bad_recorded_step 0))

  tests : (refusal_of q.fluents q.actions q.rules q.goal q.start ≡ 0) × (length q.words ≤ 63) × (4096 ≤ room)
      × (bad_recorded_steps q.fluents q.actions q.words ≡ false)
  unfolding refusal
  tests = by (eqb (refusal_of q.fluents q.actions q.rules q.goal q.start) 0) refl e
    where
      rest : later ≡ 0
          → (length q.words ≤ 63) × (4096 ≤ room) × (bad_recorded_steps q.fluents q.actions q.words ≡ false)
      rest f =
          let (a, g) = passed (ltb 63 (length q.words)) marking_refusals.long_record _ (λ z. omega arith) f in
          let (b, h) = passed (ltb room 4096) marking_refusals.marks_short _ (λ z. omega arith) g in
          let (c, _) = passed (bad_recorded_steps q.fluents q.actions q.words) marking_refusals.bad_recorded_step 0 (λ z. omega arith) h in
          (ltb-false 63 _ a, ltb-false room 4096 b, c)

      by : (b : Bool) → eqb (refusal_of q.fluents q.actions q.rules q.goal q.start) 0 ≡ b
          → cond b later (refusal_of q.fluents q.actions q.rules q.goal q.start) ≡ 0
          → (refusal_of q.fluents q.actions q.rules q.goal q.start ≡ 0) × (length q.words ≤ 63) × (4096 ≤ room)
          × (bad_recorded_steps q.fluents q.actions q.words ≡ false)
      by true z f = let (few, room, good) = rest f in (eqb-true _ 0 z, few, room, good)
      by false z f = absurd (true_not_false (rw f at z))

  pub room_enough : 4096 ≤ room
  room_enough = tests.2

  accepted : AcceptedWords q.fluents q.actions q.rules q.goal
  accepted = (start_accepted q.fluents q.actions q.rules q.goal q.start tests.0).0

  each_good : (i : ℕ) → i < length q.words → (is_call (get_or q.words i 0) ≡ false) × (good_step q.fluents q.actions (get_or q.words i 0) ≡ true)
  unfolding bad_recorded_steps
  each_good i l =
      let (a, b) = both (not (is_call (get_or q.words i 0))) (good_step q.fluents q.actions (get_or q.words i 0))
      (each_at (λ i. not (is_call (get_or q.words i 0)) && good_step q.fluents q.actions (get_or q.words i 0)) (length q.words) (not-false _ tests.3) i l) in
      (not-true _ a, b)

  pub taken_of : {runs : ℕ} → Ran (body_of q.words) q.start runs → Taken q runs
  taken_of ran = record { accepted = accepted; few = tests.1; plain = λ i l. (each_good i l).0; good = λ i l. (each_good i l).1; ran = ran }

module _ {q : Question} {runs : ℕ} (taken : Taken q runs) where
  pub walkable_of : Walkable q.rules
  walkable_of = record {
    few = taken.accepted.few_rules;
    heads = λ r l. omega (arith, taken.accepted.heads r l, taken.accepted.few_actions);
    counts = taken.accepted.counts;
    good = λ r l i h. good_word q.fluents q.actions _ taken.accepted.few_fluents taken.accepted.few_actions (rule_step taken.accepted r i l h);
  }

  pub goal_good : GoodWords q.goal
  goal_good i l = good_word q.fluents q.actions _ taken.accepted.few_fluents taken.accepted.few_actions (taken.accepted.goal_steps i l)

  pub guide_of : (table : List ℕ) → 4096 ≤ length table → Guide q.words runs table
  guide_of table room = record {
    within = omega (arith, taken.ran.within, size_recorded q);
    few = taken.few;
    plain = taken.plain;
    good = λ i l. good_word q.fluents q.actions _ taken.accepted.few_fluents taken.accepted.few_actions (taken.good i l);
    room = room;
  }

  -- ---- the table

  pub saturated_of : {before table : List ℕ} → AllSettled q.rules q.words runs 0 before table → Saturated q runs taken table
  saturated_of {table = table} all = record { sound = all.sound.each; closed = closed }
    where
      closed : (a i j : ℕ) (body : Body) → i ≤ runs → RuleOf (book_of q.rules) a body → Walk (Carried (body_of q.words) runs) (Held table) i body j [] → Held table a i j
      closed a i j body l (rule r m e) w =
          let (k, lk, f) = book_member q.rules 0 (length q.rules / rule_width) r m in
          let head : head_of q.rules k ≡ a = ap (λ (r : Rule). r.head) (sym f) ∙ e in
          let walk : WalkTo q.words runs table i (words_of q.rules k) j = subst (λ (b : Body). Walk (Carried (body_of q.words) runs) (Held table) i b j []) (ap (λ (r : Rule). r.body) f) w in
          subst (λ (a : ℕ). Held table a i j) head (all.closed i (omega arith) l k (omega arith) j walk)

-- a cleared table has no bits
pub cleared_sound : (rules steps : List ℕ) (runs : ℕ) {before table : List ℕ} → Cleared before table → SoundMarks rules steps runs table
cleared_sound rules steps runs {table = table} cleared = record {
  each = λ a i j (la, li, lj, e). absurd (omega (arith, e, no_bit j, ap (λ (n : ℕ). bit n j) (cleared.none (64 * a + i) (omega arith))));
}

-- ---- the outcome

pub refused_outcome : (q : Question) (before : List ℕ) (told : ℕ) → told ≡ refusal q (length before) → told ≢ 0 → RecordMarked q before told 0 before
refused_outcome q before told e ne = refused (λ z. ne (e ∙ z)) e refl refl

module _ (q : Question) (before cleared after : List ℕ) (e : refusal q (length before) ≡ 0) (runs : ℕ) (ran : Ran (body_of q.words) q.start runs) where
  pub marked_outcome : Cleared before cleared → AllSettled q.rules q.words runs 0 cleared after → (ends : ℕ)
      → Mask ends (WalkTo q.words runs after 0 q.goal) → RecordMarked q before 0 (bit ends (length q.words)) after
  marked_outcome clear all ends mask = marked e refl (omega arith) yes (marks_table q runs taken saturated before (all.size ∙ clear.size) (λ n l. all.past n l ∙ clear.past n l))
    where
      taken : Taken q runs
      taken = taken_of q (length before) e ran

      saturated : Saturated q runs taken after
      saturated = saturated_of taken all

      few : length q.words < 64
      few = omega (arith, taken.few)

      yes : (bit ends (length q.words) ≡ 1) ↔ Yes q
      yes =
          let (to, from) = yes_bit q runs taken saturated in
          (λ b. from (mask.only (length q.words) few b), λ y. mask.every (length q.words) few (to y))
