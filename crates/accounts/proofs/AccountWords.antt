-- An account read from its words, and written. Assumes nothing.
use Prim.Native.Nat.{ℕ, ◌+◌, ◌-◌, ◌<◌, ◌≤◌}
use native.Mathlib.Omega.{arith}
use native.Mathlib.Decide.{dec_lt}
use mathlib.Core.Path.{◌≡◌, refl, sym, ap, ◌∙◌}
use mathlib.Core.Bool.{Bool, true, false, cond, not}
use mathlib.Core.List.{List, [], ◌∷◌, ◌++◌}
use lib.ListN.{length, get_or, take, drop, set, replicate, length-set, length-take, length-drop, length-append, length-replicate, get_or-replicate, take-append-drop, get_or-append, get_or-eq_default}
use lib.Seq.{length-take-le, get_or-take, get_or-drop, get_or-set_same, get_or-set_other, get_or-append-add, take-set-le, ext_get_or}
use lib.Dec.{eqb}
use borrow.Author.Count.{below_none, below_more}
use Rattle.sharing.specs.Parties.{account_at}
use Rattle.accounts.specs.Accounts.{account_width, StepCount, GoalWord}

-- ---- read

module _ (words : List ℕ) (at : ℕ) where
  abbrev counted : ℕ
  counted = get_or words (at + 4) 0

  abbrev steps : List ℕ
  steps = take counted (drop (at + 5) words)

  pub goal_word : (i : ℕ) → GoalWord words at i (get_or words (at + 5 + i) 0)
  unfolding account_at
  goal_word i = record { word = by (eqb (get_or words (at + 2) 0) 0) }
    where
      by : (b : Bool) → i < length (cond (not b) steps []) → get_or words (at + 5 + i) 0 ≡ get_or (cond (not b) steps []) i 0
      by true l = absurd (omega arith)
      by false l = sym (get_or-take counted (drop (at + 5) words) i 0 (omega (arith, length-take counted (drop (at + 5) words))) ∙ get_or-drop (at + 5) words i 0)

  pub step_count : at + 22 ≤ length words → StepCount (account_at words at).goal (cond (account_at words at).holds counted 0)
  unfolding account_at
  step_count inside = by (eqb (get_or words (at + 2) 0) 0)
    where
      by : (b : Bool) → StepCount (cond (not b) steps []) (cond (not b) counted 0)
      by true = record { few = λ l. refl; many = λ l. absurd (omega arith) }
      by false =
          let e = length-take counted (drop (at + 5) words) in
          let d = length-drop (at + 5) words in
          record { few = λ l. omega (arith, e, d); many = λ l. omega (arith, e, d) }

  pub start_word : (account_at words at).start ≡ cond (account_at words at).holds (get_or words (at + 3) 0) 0
  unfolding account_at
  start_word = refl

pub count_few : {goal : List ℕ} {r : ℕ} → StepCount goal r → length goal ≤ 16 → r ≤ 16
count_few {r = r} s short = elim (dec_lt 16 r) [ yes l ↦ absurd (omega (arith, s.many l)) | no l ↦ omega arith ]

-- The goal in places of its own.
pub goal_taken : (goal places : List ℕ) (r : ℕ) → length goal ≡ r → r ≤ length places → ((k : ℕ) → k < r → get_or places k 0 ≡ get_or goal k 0)
    → take r places ≡ goal
goal_taken goal places r e l same =
    let n : length (take r places) ≡ r = length-take-le r places l in
    ext_get_or 0 (take r places) goal (n ∙ sym e) (λ k h. get_or-take r places k 0 (omega (arith, n)) ∙ same k (omega (arith, n)))

-- ---- written

zeros : (n i : ℕ) → ◌≡◌ {A = ℕ} (get_or (replicate n 0) i 0) 0
zeros n i = elim (dec_lt i n) [
  | yes l ↦ get_or-replicate n i 0 0 l
  | no l ↦ get_or-eq_default (replicate n 0) 0 (omega (arith, length-replicate {A = ℕ} n 0))
]

-- The words of an account of which j goal words are written: the first five, those, and 0.
pub record Laying (a b h s n : ℕ) (goal : List ℕ) (j : ℕ) (words : List ℕ) : Type 0 where
  pub long : length words ≡ account_width
  pub head : take 5 words ≡ a ∷ b ∷ h ∷ s ∷ n ∷ []
  pub done : (i : ℕ) → i < j → get_or words (5 + i) 0 ≡ get_or goal i 0
  pub rest : (i : ℕ) → j ≤ i → get_or words (5 + i) 0 ≡ 0

pub laid_none : (a b h s n : ℕ) (goal : List ℕ) → Laying a b h s n goal 0 (a ∷ b ∷ h ∷ s ∷ n ∷ replicate 16 0)
laid_none a b h s n goal = record {
  long = refl;
  head = refl;
  done = below_none _;
  rest = λ i l. sym (get_or-drop 5 (a ∷ b ∷ h ∷ s ∷ n ∷ replicate 16 0) i 0) ∙ zeros 16 i;
}

pub laid_more : {a b h s n j v : ℕ} {goal words : List ℕ} → Laying a b h s n goal j words → j < 16 → v ≡ get_or goal j 0
    → Laying a b h s n goal (j + 1) (set words (5 + j) v)
laid_more {j = j} {v} {goal} {words} y l e = record {
  long = simp length-set y.long;
  head = take-set-le 5 words (5 + j) v (omega arith) ∙ y.head;
  done = below_more _ j
      (λ i k. get_or-set_other words (5 + j) (5 + i) v 0 (omega arith) ∙ y.done i k)
      (get_or-set_same words (5 + j) v 0 (omega (arith, y.long)) ∙ e);
  rest = λ i k. get_or-set_other words (5 + j) (5 + i) v 0 (omega arith) ∙ y.rest i (omega arith);
}

pub laid_all : {a b h s n : ℕ} {goal words : List ℕ} → length goal ≤ 16 → Laying a b h s n goal (length goal) words
    → words ≡ a ∷ b ∷ h ∷ s ∷ n ∷ (goal ++ replicate (16 - length goal) 0)
laid_all {a} {b} {h} {s} {n} {goal} {words} short y =
    sym (take-append-drop 5 words)
    ∙ ap (λ (ws : List ℕ). ws ++ drop 5 words) y.head
    ∙ ap (λ (ws : List ℕ). a ∷ b ∷ h ∷ s ∷ n ∷ ws) (ext_get_or 0 (drop 5 words) (goal ++ unused) same at)
  where
    unused : List ℕ
    unused = replicate (16 - length goal) 0

    many : length unused ≡ 16 - length goal
    many = length-replicate (16 - length goal) 0

    same : length (drop 5 words) ≡ length (goal ++ unused)
    same = omega (arith, length-drop 5 words, y.long, length-append goal unused, many)

    by : (i k : ℕ) → i ≡ length goal + k → k < 16 - length goal → get_or (goal ++ unused) i 0 ≡ 0
    by i k e l = ap (λ (m : ℕ). get_or (goal ++ unused) m 0) e ∙ get_or-append-add goal unused k 0 ∙ get_or-replicate (16 - length goal) k 0 0 l

    at : (i : ℕ) → i < length (drop 5 words) → get_or (drop 5 words) i 0 ≡ get_or (goal ++ unused) i 0
    at i l = get_or-drop 5 words i 0 ∙ elim (dec_lt i (length goal)) [
      | yes k ↦ y.done i k ∙ sym (get_or-append goal unused 0 i k)
      | no k ↦ y.rest i (omega arith) ∙ sym (by i (i - length goal) (omega arith) (omega (arith, length-drop 5 words, y.long)))
    ]
