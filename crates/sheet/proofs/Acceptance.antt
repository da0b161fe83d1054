-- What an accepted sheet says is accepted by the evaluator: counts, rule words, goal and start meet none of 20 to 24. Assumes nothing.
use mathlib.Core.Path.{◌≡◌, refl, ap, sym, ◌∙◌}
use mathlib.Core.Bool.{true, false}
use mathlib.Core.List.{List, [], ◌∷◌}
use Prim.Native.Nat.{ℕ, zero, suc, ◌+◌, ◌-◌, ◌*◌, ◌/◌, ◌%◌, ◌^◌, ◌≤◌, ◌<◌}
use native.Mathlib.Nat.{div-eq_of_lt}
use native.Mathlib.Omega.{arith}
use native.Mathlib.Decide.{dec_lt}
use lib.ListN.{length, get_or, replicate, length-append, length-replicate, get_or-replicate, get_or-append}
use lib.Seq.{get_or-append-add}
use borrow.Author.Tests.{lt-ltb, le-ltb, eq-eqb}
use Rattle.steps.specs.Words.{head_of, count_of}
use Rattle.steps.specs.Widths.{rule_width}
use Rattle.steps.specs.Acceptance.{good_word, good_rule, bad_counts, bad_length, bad_rules, bad_goal, bad_state, words_refusal, refusal_of}
use Rattle.steps.proofs.EachBelow.{each_all}
use Rattle.fields.specs.Book.{Book, padded, rule_words, joined}
use Rattle.lines.specs.Reader.{read_sheet, written}
use Rattle.sheet.proofs.Valid.{Valid, GoodSteps}
use Rattle.sheet.proofs.ValidSheets.{sheet_valid}

pub padded_length : (ws : List ℕ) → length ws ≤ 16 → length (padded ws) ≡ 16
padded_length ws h =
    let a = length-append ws (replicate (16 - length ws) 0) in
    let b = length-replicate {A = ℕ} (16 - length ws) 0 in
    omega arith

-- rules of rule_width words each, one after the other
abbrev pub Rows : List (List ℕ) → Type 0
Rows rs = (i : ℕ) → i < length rs → length (get_or rs i []) ≡ rule_width

joined_length : (rs : List (List ℕ)) → Rows rs → length (joined rs) ≡ rule_width * length rs
joined_length [] h = refl
joined_length (r ∷ rs) h =
    let a = length-append r (joined rs) in
    let b = h 0 (omega arith) in
    let c = joined_length rs (λ i l. h (suc i) (omega arith)) in
    omega arith

joined_at : (rs : List (List ℕ)) → Rows rs → (r j : ℕ) → r < length rs → j < rule_width → get_or (joined rs) (rule_width * r + j) 0 ≡ get_or (get_or rs r []) j 0
joined_at [] h r j l m = absurd (omega arith)
joined_at (x ∷ rs) h zero j l m =
    let b = h 0 (omega arith) in
    let e : rule_width * 0 + j ≡ j = omega arith in
    rw e (get_or-append x (joined rs) 0 j (omega arith))
joined_at (x ∷ rs) h (suc r) j l m =
    let b = h 0 (omega arith) in
    let e : rule_width * suc r + j ≡ length x + (rule_width * r + j) = omega arith in
    rw e (get_or-append-add x (joined rs) (rule_width * r + j) 0 ∙ joined_at rs (λ i k. h (suc i) (omega arith)) r j (omega arith) m)

-- a step word of a rule, used or not
module _ (f a : ℕ) (ws : List ℕ) (g : GoodSteps f a ws) where
  word_at : (i : ℕ) → i < 16 → good_word f a (length ws) i (get_or (padded ws) i 0) ≡ true
  unfolding good_word
  word_at i l = by (dec_lt i (length ws))
    where
      by : Dec (i < length ws) → good_word f a (length ws) i (get_or (padded ws) i 0) ≡ true
      by (yes k) = rw (lt-ltb i (length ws) k, get_or-append ws (replicate (16 - length ws) 0) 0 i k) (g.each i k)
      by (no k) =
          let m = i - length ws in
          let e : i ≡ length ws + m = omega arith in
          let z : get_or (padded ws) i 0 ≡ 0 = ap (λ (j : ℕ). get_or (padded ws) j 0) e ∙ get_or-append-add ws (replicate (16 - length ws) 0) m 0 ∙ get_or-replicate (16 - length ws) m 0 0 (omega arith) in
          rw (le-ltb i (length ws) (omega arith), z)

module _ (b : Book) (v : Valid b) where
  abbrev fluents : ℕ
  fluents = length b.names.fluents

  abbrev actions : ℕ
  actions = length b.names.actions

  pub rows : Rows b.rules
  rows i l =
      let g = v.rules i l in
      let p = padded_length g.steps g.good.few in
      ap length g.is ∙ ap (λ (n : ℕ). suc (suc n)) p

  pub words_count : length (joined b.rules) ≡ rule_width * length b.rules
  words_count = joined_length b.rules rows

  row_at : (r j : ℕ) (l : r < length b.rules) → j < rule_width → get_or (joined b.rules) (rule_width * r + j) 0 ≡ get_or (rule_words (v.rules r l).head (v.rules r l).steps) j 0
  row_at r j l m = joined_at b.rules rows r j l m ∙ ap (λ (x : List ℕ). get_or x j 0) (v.rules r l).is

  rule_good : (r : ℕ) → r < length b.rules → good_rule fluents actions (joined b.rules) r ≡ true
  unfolding good_rule
  rule_good r l =
      let g = v.rules r l in
      let z : rule_width * r + 0 ≡ rule_width * r = omega arith in
      let h : head_of (joined b.rules) r ≡ g.head = ap (λ (i : ℕ). get_or (joined b.rules) i 0) (sym z) ∙ row_at r 0 l (omega arith) in
      let n : count_of (joined b.rules) r ≡ length g.steps = row_at r 1 l (omega arith) in
      let few = g.good.few in
      rw (h, n, lt-ltb g.head actions g.action, lt-ltb (length g.steps) 17 (omega arith)) (each_all _ 16 (word r l))
    where
      word : (r : ℕ) (l : r < length b.rules) (i : ℕ) → i < 16 → good_word fluents actions (length (v.rules r l).steps) i (get_or (joined b.rules) (rule_width * r + 2 + i) 0) ≡ true
      word r l i m =
          let e : rule_width * r + 2 + i ≡ rule_width * r + suc (suc i) = omega arith in
          let x = ap (λ (j : ℕ). get_or (joined b.rules) j 0) e ∙ row_at r (suc (suc i)) l (omega arith) in
          rw x (word_at fluents actions (v.rules r l).steps (v.rules r l).good i m)

  counts_good : bad_counts fluents actions ≡ false
  unfolding bad_counts
  counts_good = rw (le-ltb 64 fluents v.few_fluents, le-ltb 64 actions v.few_actions)

  number : length (joined b.rules) / rule_width ≡ length b.rules
  number = let s = words_count in omega arith

  length_good : bad_length (joined b.rules) ≡ false
  unfolding bad_length
  length_good =
      let s = words_count in
      let m : length (joined b.rules) % rule_width ≡ 0 = omega arith in
      rw (eq-eqb (length (joined b.rules) % rule_width) 0 m, number, le-ltb 256 (length b.rules) v.few_rules)

  rules_good : bad_rules fluents actions (joined b.rules) ≡ false
  unfolding bad_rules
  rules_good = rw (number, each_all (good_rule fluents actions (joined b.rules)) (length b.rules) rule_good)

  goal_good : bad_goal fluents actions b.goal ≡ false
  unfolding bad_goal
  goal_good = rw (le-ltb 16 (length b.goal) v.goal.few, each_all _ (length b.goal) v.goal.each)

  start_good : bad_state fluents b.start ≡ false
  unfolding bad_state
  start_good = rw (eq-eqb (b.start / 2 ^ fluents) 0 (div-eq_of_lt v.start))

  pub words_accepted : words_refusal fluents actions (joined b.rules) b.goal ≡ 0
  unfolding words_refusal
  words_accepted = rw (counts_good, length_good, rules_good, goal_good)

  pub valid_accepted : refusal_of fluents actions (joined b.rules) b.goal b.start ≡ 0
  unfolding refusal_of
  valid_accepted = rw (words_accepted, start_good)

-- counts, rule words, goal and start of an accepted sheet meet none of 20 to 24
pub sheet_meets_none : (s : List ℕ) (b : Book) → read_sheet s ≡ written b
    → refusal_of (length b.names.fluents) (length b.names.actions) (joined b.rules) b.goal b.start ≡ 0
sheet_meets_none s b e = valid_accepted b (sheet_valid s b e)
