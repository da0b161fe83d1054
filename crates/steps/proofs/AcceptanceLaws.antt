-- What acceptance gives: counts and indices in range, no head and no call is the goal's number, and states that stay below 2 ^ fluents.
-- Assumes nothing.
use Prim.Native.Nat.{ℕ, zero, suc, ◌+◌, ◌-◌, ◌*◌, ◌/◌, ◌%◌, ◌^◌, ◌<◌, ◌≤◌}
use native.Mathlib.Omega.{arith}
use native.Mathlib.Nat.{div-lt_iff_lt-mul}
use mathlib.Core.Path.{◌≡◌, refl, ap, subst, ◌∙◌}
use mathlib.Core.Bool.{Bool, true, false, cond, not, ◌||◌}
use mathlib.Core.List.Memᴰ
use mathlib.Core.List.{List, ◌∷◌, Memᴰ}
use mathlib.Core.Logic.{◌≢◌, ⊎_elim}
use lib.ListN.{get_or, drop, length}
use lib.Pow.{pow_pos}
use lib.Seq.{get_or-take, get_or-drop}
use lib.Dec.{eqb, ltb}
use borrow.Author.Tests.{lt-ltb, ltb-true, ltb-false, eqb-true, not-false}
use Rattle.refusals.specs.Run.{run_refusals}
use Rattle.steps.specs.State.{State, holds, added, removed}
use Rattle.steps.specs.Step.{Step, query, insert, delete, call, deny, Body, Rule, Book}
use Rattle.steps.specs.Deduction.{ComesToCall, ◌⊢◌, Move, queries, inserts, deletes, calls, denies, Deduction, done, move}
use Rattle.steps.specs.Run.{Goal}
use Rattle.steps.specs.Words.{step_by, step_of, body_of, head_of, count_of, words_of, book_of, run_of}
use Rattle.steps.specs.Widths.{rule_width}
use Rattle.steps.specs.Acceptance.{good_step, good_word, good_rule, bad_counts, bad_length, bad_rules, bad_goal, bad_state, words_refusal, refusal_of}
use Rattle.steps.proofs.StateLaws.{room, not_held}
use Rattle.steps.proofs.EachBelow.{both, each_at, true_not_false}
use Rattle.steps.proofs.Lists.{member_at}
use Rattle.steps.proofs.WordLaws.{book_member, words_short}
use Rattle.steps.proofs.Exactness.{Separate}

-- ---- the facts, one for each part of the table

-- a step's index is below the count of fluents, for a call of actions
abbrev pub Indexed : ℕ → ℕ → Step → Type 0
Indexed fluents actions (query p) = p < fluents
Indexed fluents actions (insert p) = p < fluents
Indexed fluents actions (delete p) = p < fluents
Indexed fluents actions (call a) = a < actions
Indexed fluents actions (deny p) = p < fluents

-- rule words and goal that meet none of 20 to 23
pub record AcceptedWords (fluents actions : ℕ) (rules goal : List ℕ) : Type 0 where
  pub few_fluents : fluents ≤ 64
  pub few_actions : actions ≤ 64
  pub whole : length rules % rule_width ≡ 0
  pub few_rules : length rules / rule_width ≤ 256
  pub heads : (r : ℕ) → r < length rules / rule_width → head_of rules r < actions
  pub counts : (r : ℕ) → r < length rules / rule_width → count_of rules r ≤ 16
  pub steps : (r i : ℕ) → r < length rules / rule_width → i < count_of rules r → good_step fluents actions (get_or rules (rule_width * r + 2 + i) 0) ≡ true
  pub short : length goal ≤ 16
  pub goal_steps : (i : ℕ) → i < length goal → good_step fluents actions (get_or goal i 0) ≡ true

neither : (a b : Bool) → (a || b) ≡ false → (a ≡ false) × (b ≡ false)
neither true b e = absurd (true_not_false e)
neither false b e = (refl, e)

next_test : (b : Bool) (n m : ℕ) → (n ≡ 0 → ⊥) → cond b n m ≡ 0 → (b ≡ false) × (m ≡ 0)
next_test true n m fault e = absurd (fault e)
next_test false n m fault e = (refl, e)

rule_good : (fluents actions : ℕ) (rules : List ℕ) (r : ℕ) → good_rule fluents actions rules r ≡ true
    → (head_of rules r < actions) × (count_of rules r ≤ 16) × ((i : ℕ) → i < count_of rules r → good_step fluents actions (get_or rules (rule_width * r + 2 + i) 0) ≡ true)
unfolding good_rule good_word
rule_good fluents actions rules r e =
    let (h, t) = both (ltb (head_of rules r) actions) _ e in
    let (n, ws) = both (ltb (count_of rules r) 17) _ t in
    let few : count_of rules r < 17 = ltb-true (count_of rules r) 17 n in (
      ltb-true (head_of rules r) actions h,
      omega arith,
      λ i l. rw (lt-ltb i (count_of rules r) l) at (each_at (λ i. good_word fluents actions (count_of rules r) i (get_or rules (rule_width * r + 2 + i) 0)) 16 ws i (omega arith)),
    )

pub accepted : (fluents actions : ℕ) (rules goal : List ℕ) → words_refusal fluents actions rules goal ≡ 0 → AcceptedWords fluents actions rules goal
unfolding words_refusal bad_counts bad_length bad_rules bad_goal
accepted fluents actions rules goal e =
    let (c, e₁) = next_test (bad_counts fluents actions) run_refusals.bad_counts _ (λ z. omega arith) e in
    let (l, e₂) = next_test (bad_length rules) run_refusals.bad_length _ (λ z. omega arith) e₁ in
    let (r, e₃) = next_test (bad_rules fluents actions rules) run_refusals.bad_rule _ (λ z. omega arith) e₂ in
    let (g, e₄) = next_test (bad_goal fluents actions goal) run_refusals.bad_goal 0 (λ z. omega arith) e₃ in
    let (cf, ca) = neither (ltb 64 fluents) (ltb 64 actions) c in
    let (lw, lf) = neither (not (eqb (length rules % rule_width) 0)) (ltb 256 (length rules / rule_width)) l in
    let (gs, ge) = neither (ltb 16 (length goal)) _ g in
    let rule : (k : ℕ) → k < length rules / rule_width → good_rule fluents actions rules k ≡ true = each_at (good_rule fluents actions rules) (length rules / rule_width) (not-false _ r) in
    record {
      few_fluents = ltb-false 64 fluents cf;
      few_actions = ltb-false 64 actions ca;
      whole = eqb-true (length rules % rule_width) 0 (not-false _ lw);
      few_rules = ltb-false 256 (length rules / rule_width) lf;
      heads = λ k h. (rule_good fluents actions rules k (rule k h)).0;
      counts = λ k h. (rule_good fluents actions rules k (rule k h)).1;
      steps = λ k i h. (rule_good fluents actions rules k (rule k h)).2 i;
      short = ltb-false 16 (length goal) gs;
      goal_steps = each_at (λ i. good_step fluents actions (get_or goal i 0)) (length goal) (not-false _ ge);
    }

-- none of 20 to 24: none of 20 to 23
pub words_accepted : (fluents actions : ℕ) (rules goal : List ℕ) (start : ℕ) → refusal_of fluents actions rules goal start ≡ 0 → words_refusal fluents actions rules goal ≡ 0
unfolding refusal_of
words_accepted fluents actions rules goal start e = by (eqb (words_refusal fluents actions rules goal) 0) refl e
  where
    by : (b : Bool) → eqb (words_refusal fluents actions rules goal) 0 ≡ b → cond b (cond (bad_state fluents start) run_refusals.bad_start 0) (words_refusal fluents actions rules goal) ≡ 0
        → words_refusal fluents actions rules goal ≡ 0
    by true z e = eqb-true (words_refusal fluents actions rules goal) 0 z
    by false z e = e

-- and the start has no bit at or above the fluent count
pub start_accepted : (fluents actions : ℕ) (rules goal : List ℕ) (start : ℕ) → refusal_of fluents actions rules goal start ≡ 0
    → AcceptedWords fluents actions rules goal × (start < 2 ^ fluents)
unfolding refusal_of bad_state
start_accepted fluents actions rules goal start e =
    let z = words_accepted fluents actions rules goal start e in
    let (s, _) = next_test (bad_state fluents start) run_refusals.bad_start 0 (λ z. omega arith) (rw z at e) in
    let q : start / 2 ^ fluents ≡ 0 = eqb-true (start / 2 ^ fluents) 0 (not-false _ s) in
    (accepted fluents actions rules goal z, omega (arith, (div-lt_iff_lt-mul {k = 2 ^ fluents} {x = start} {y = 1} (pow_pos fluents)).0 (omega arith)))

-- ---- indices

step_indexed : (fluents actions k i : ℕ) → k < 5 → i < cond (eqb k 3) actions fluents → Indexed fluents actions (step_by k i)
unfolding step_by
step_indexed fluents actions zero i l h = h
step_indexed fluents actions (suc zero) i l h = h
step_indexed fluents actions (suc (suc zero)) i l h = h
step_indexed fluents actions (suc (suc (suc zero))) i l h = h
step_indexed fluents actions (suc (suc (suc (suc zero)))) i l h = h
step_indexed fluents actions (suc (suc (suc (suc (suc k))))) i l h = absurd (omega arith)

pub good_indexed : (fluents actions w : ℕ) → good_step fluents actions w ≡ true → Indexed fluents actions (step_of w)
unfolding good_step
good_indexed fluents actions w e =
    let (k, i) = both (ltb (w / 256) 5) (ltb (w % 256) (cond (eqb (w / 256) 3) actions fluents)) e in
    step_indexed fluents actions (w / 256) (w % 256) (ltb-true (w / 256) 5 k) (ltb-true (w % 256) _ i)

-- every step of a body has its index in range
abbrev pub IndexedBody : ℕ → ℕ → Body → Type 0
IndexedBody fluents actions body = (x : Step) → Memᴰ x body → Indexed fluents actions x

words_indexed : (fluents actions : ℕ) (ws : List ℕ) → ((i : ℕ) → i < length ws → good_step fluents actions (get_or ws i 0) ≡ true) → IndexedBody fluents actions (body_of ws)
words_indexed fluents actions ws good x m =
    let (w, n, e) = Memᴰ.of_map step_of ws m in
    let (i, l, f) = member_at 0 n in
    subst (Indexed fluents actions) (ap step_of f ∙ e) (good_indexed fluents actions (get_or ws i 0) (good i l))

module _ {fluents actions : ℕ} {rules goal : List ℕ} (acc : AcceptedWords fluents actions rules goal) where
  pub rule_step : (r i : ℕ) → r < length rules / rule_width → i < length (words_of rules r) → good_step fluents actions (get_or (words_of rules r) i 0) ≡ true
  rule_step r i h l =
      let b : i < count_of rules r = omega (arith, words_short rules r) in
      rw (get_or-take (count_of rules r) (drop (rule_width * r + 2) rules) i 0 b, get_or-drop (rule_width * r + 2) rules i 0) (acc.steps r i h b)

  pub goal_indexed : IndexedBody fluents actions (body_of goal)
  goal_indexed = words_indexed fluents actions goal acc.goal_steps

  pub words_indexed_of : (i : ℕ) → i < length rules / rule_width → IndexedBody fluents actions (body_of (words_of rules i))
  words_indexed_of i l = words_indexed fluents actions (words_of rules i) (λ k j. rule_step i k l j)

  pub rule_indexed : (r : Rule) → Memᴰ r (book_of rules) → (r.head < actions) × IndexedBody fluents actions r.body
  rule_indexed r m =
      let (i, l, e) = book_member rules 0 (length rules / rule_width) r m in
      rw e (acc.heads i (omega arith), words_indexed_of i (omega arith))

  apart : {body : Body} → IndexedBody fluents actions body → (b : ℕ) → Memᴰ (call b) body → b ≢ Goal
  apart indexed b m = λ g. omega (arith, indexed (call b) m, acc.few_actions)

  -- no head and no call is 64
  pub separate : (start : State) → Separate (run_of rules goal start)
  separate start = record {
    heads = λ r m g. omega (arith, (rule_indexed r m).0, acc.few_actions);
    bodies = λ r m. apart (rule_indexed r m).1;
    goal = apart goal_indexed;
  }

-- ---- states

added_below : (fluents p s : ℕ) → p < fluents → s < 2 ^ fluents → added s p < 2 ^ fluents
added_below fluents p s l h = by (holds s p) refl
  where
    by : (b : Bool) → holds s p ≡ b → cond b s (s + 2 ^ p) < 2 ^ fluents
    by true e = h
    by false e = room fluents p s l h (not_held s p e)

removed_below : (p s n : ℕ) → s < n → removed s p < n
removed_below p s n h = by (holds s p)
  where
    by : (b : Bool) → cond b (s - 2 ^ p) s < n
    by true = omega arith
    by false = h

module _ {fluents actions : ℕ} {book : Book} (rules_indexed : (r : Rule) → Memᴰ r book → IndexedBody fluents actions r.body) where
  -- what is kept from sequent to sequent: a state below 2 ^ fluents, and steps with their indices in range
  abbrev Kept : State → Body → Type 0
  Kept D body = (D < 2 ^ fluents) × IndexedBody fluents actions body

  tail_indexed : {x : Step} {body : Body} → IndexedBody fluents actions (x ∷ body) → IndexedBody fluents actions body
  tail_indexed indexed y m = indexed y (Memᴰ.tail m)

  move_kept : {D D' : State} {xs ys : Body} → Move book (D ⊢ xs) (D' ⊢ ys) → Kept D xs → Kept D' ys
  move_kept (queries h) (l, indexed) = (l, tail_indexed indexed)
  move_kept (denies h) (l, indexed) = (l, tail_indexed indexed)
  move_kept (inserts {D} {p}) (l, indexed) = (added_below fluents p D (indexed (insert p) (Memᴰ.head refl)) l, tail_indexed indexed)
  move_kept (deletes {D} {p}) (l, indexed) = (removed_below p D (2 ^ fluents) l, tail_indexed indexed)
  move_kept (calls r m e) (l, indexed) = (l, λ x k. ⊎_elim (rules_indexed r m x) (tail_indexed indexed x) (Memᴰ.append_cases r.body k))

  deduction_kept : {D D' : State} {xs ys : Body} → Deduction book (D ⊢ xs) (D' ⊢ ys) → Kept D xs → Kept D' ys
  deduction_kept done k = k
  deduction_kept (move {T = E ⊢ zs} m d) k = deduction_kept d (move_kept m k)

  pub deduction_below : {D D' : State} {xs ys : Body} → Deduction book (D ⊢ xs) (D' ⊢ ys) → D < 2 ^ fluents → IndexedBody fluents actions xs → D' < 2 ^ fluents
  deduction_below d l indexed = (deduction_kept d (l, indexed)).0

-- Accepted states stay below 2 ^ fluents: every state that a deduction of the goal from the start reaches is.
pub accepted_below : (fluents actions : ℕ) (rules goal : List ℕ) (start : State) → refusal_of fluents actions rules goal start ≡ 0
    → (D : State) (rest : Body) → Deduction (book_of rules) (start ⊢ body_of goal) (D ⊢ rest) → D < 2 ^ fluents
accepted_below fluents actions rules goal start e D rest d =
    let (acc, l) = start_accepted fluents actions rules goal start e in
    deduction_below (λ r m. (rule_indexed acc r m).1) d l (goal_indexed acc)

-- A call that a deduction of the goal from the start comes to is of an action below the count, in a state below 2 ^ fluents.
pub accepted_calls : (fluents actions : ℕ) (rules goal : List ℕ) (start : State) → refusal_of fluents actions rules goal start ≡ 0
    → (a : ℕ) (D : State) → ComesToCall (book_of rules) start (body_of goal) a D → (a < actions) × (D < 2 ^ fluents)
accepted_calls fluents actions rules goal start e a D (rest, d) =
    let (acc, l) = start_accepted fluents actions rules goal start e in
    let (below, indexed) = deduction_kept (λ r m. (rule_indexed acc r m).1) d (l, goal_indexed acc) in
    (indexed (call a) (Memᴰ.head refl), below)
