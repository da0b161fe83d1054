-- Laws of the list of one call record's final states: one record more, its members, its length, that they differ, and that they stay when the answers are given. Assumes nothing.
use Prim.Native.Nat.{ℕ, zero, suc, ◌+◌, ◌<◌, ◌≤◌}
use native.Mathlib.Omega.{arith}
use native.Mathlib.Numerals.{add-one}
use native.Mathlib.Decide.{dec_lt, ℕ_discrete}
use mathlib.Core.Path.{◌≡◌, refl, sym, ap, ◌∙◌}
use mathlib.Core.List.{List, [], ◌∷◌, ◌++◌, append-nil, Memᴰ}
use mathlib.Core.Bool.{cond}
use mathlib.Core.Logic.{◌↔◌, ⊎_elim}
use lib.Dec.{eqb}
use lib.ListN.{length, get_or, length-append, get_or-append}
use lib.Seq.{get_or-append_seam}
use borrow.Author.Tests.{eq-eqb, ne_eqb}
use Rattle.steps.specs.State.{State}
use Rattle.steps.specs.Counting.{Distinct, none, more, Exactly, Rising, rising_nil, rising_cons}
use Rattle.steps.proofs.Lists.{at_member, member_at}
use Rattle.records.specs.Records.{Calls, Answers, answer_table}
use Rattle.records.specs.Storage.{AnswerAt, HeldAnswer}
use Rattle.records.proofs.Growth.{AnswersOnce}
use Rattle.desk.specs.Desk.{packed_answers, AnswersClosed}
use Rattle.finals.specs.Finals.{finals_below, FinalsListed, CallFinals}

-- A list in which each number is less than those at later places is rising.
pub rising_by : (xs : List ℕ) → ((i j : ℕ) → i < j → j < length xs → get_or xs i 0 < get_or xs j 0) → Rising xs
rising_by [] h = rising_nil
rising_by (x ∷ xs) h =
    rising_cons
    (λ y (m : Memᴰ y xs). let (j, l, e) = member_at 0 m in rw e at (h 0 (suc j) (omega arith) (omega arith)))
    (rising_by xs (λ i j k l. h (suc i) (suc j) (omega arith) (omega arith)))

-- A list in which the numbers at any two places differ has no repeats.
distinct_by : (xs : List ℕ) → ((i j : ℕ) → i < j → j < length xs → get_or xs i 0 ≡ get_or xs j 0 → ⊥) → Distinct xs
distinct_by [] h = none
distinct_by (x ∷ xs) h =
    more
    (λ y (m : Memᴰ y xs) e. let (j, l, d) = member_at 0 m in h 0 (suc j) (omega arith) (omega arith) (sym (d ∙ e)))
    (distinct_by xs (λ i j k l. h (suc i) (suc j) (omega arith) (omega arith)))

module _ (answers : Answers) (row : ℕ) where
  pub finals_none : finals_below answers row 0 ≡ []
  unfolding finals_below
  finals_none = refl

  pub finals_more : {x : ℕ} → answers.call x ≡ row → finals_below answers row (x + 1) ≡ finals_below answers row x ++ (answers.final x ∷ [])
  unfolding finals_below
  finals_more {x} e = rw (add-one, eq-eqb (answers.call x) row e)

  pub finals_same : {x : ℕ} → (answers.call x ≡ row → ⊥) → finals_below answers row (x + 1) ≡ finals_below answers row x
  unfolding finals_below
  finals_same {x} ne = rw (add-one, ne_eqb (answers.call x) row ne, append-nil)

  -- By the number of records: each record is of the row or not.
  finals_ind : (P : ℕ → List State → Type 0) → P 0 []
      → ((x : ℕ) → answers.call x ≡ row → P x (finals_below answers row x) → P (x + 1) (finals_below answers row x ++ (answers.final x ∷ [])))
      → ((x : ℕ) → (answers.call x ≡ row → ⊥) → P x (finals_below answers row x) → P (x + 1) (finals_below answers row x))
      → (n : ℕ) → P n (finals_below answers row n)
  finals_ind P start found skipped zero = rw finals_none start
  finals_ind P start found skipped (suc x) =
      let h = finals_ind P start found skipped x in
      let step : P (x + 1) (finals_below answers row (x + 1)) = elim (ℕ_discrete (answers.call x) row) [
        | yes e ↦ rw (finals_more e) (found x e h)
        | no ne ↦ rw (finals_same ne) (skipped x ne h)
      ] in
      rw add-one at step

  pub finals_short : (n : ℕ) → length (finals_below answers row n) ≤ n
  finals_short = finals_ind (λ n l. length l ≤ n) (omega arith) (λ x e h. simp length-append (omega arith)) (λ x ne h. omega arith)

  -- The answers of the row below n, and no others.
  pub finals_in : (n : ℕ) {f : State} → Memᴰ f (finals_below answers row n) → (x : ℕ) × (x < n) × AnswerAt answers x row f
  finals_in n {f} = finals_ind (λ n l. Memᴰ f l → (x : ℕ) × (x < n) × AnswerAt answers x row f)
      (λ m. absurd (mathlib.Core.List.Memᴰ.not-nil m))
      (λ x e h m. ⊎_elim
      (λ (k : Memᴰ f (finals_below answers row x)). up x (h k))
      (λ (k : Memᴰ f (answers.final x ∷ [])). (x, omega arith, record { has_call = e; has_final = sym (mathlib.Core.List.Memᴰ.eq_of_singleton k) }))
      (mathlib.Core.List.Memᴰ.append_cases (finals_below answers row x) m))
      (λ x ne h m. up x (h m))
      n
    where
      up : (x : ℕ) → (y : ℕ) × (y < x) × AnswerAt answers y row f → (y : ℕ) × (y < x + 1) × AnswerAt answers y row f
      up x (y, l, a) = (y, omega arith, a)

  pub in_finals : (n x : ℕ) {f : State} → x < n → AnswerAt answers x row f → Memᴰ f (finals_below answers row n)
  in_finals n x {f} l a = finals_ind (λ n l. x < n → Memᴰ f l)
      (λ l. absurd (omega arith))
      (λ y e h l. elim (dec_lt x y) [
        | yes k ↦ mathlib.Core.List.Memᴰ.append_left _ (h k)
        | no k ↦ let z : x ≡ y = omega arith in mathlib.Core.List.Memᴰ.append_right (finals_below answers row y) (mathlib.Core.List.Memᴰ.head (sym a.has_final ∙ ap answers.final z))
      ])
      (λ y ne h l. elim (dec_lt x y) [
        | yes k ↦ h k
        | no k ↦ let z : x ≡ y = omega arith in absurd (ne (rw z at a.has_call))
      ])
      n l

  -- A record of the row below n has a place of its own.
  pub finals_place : (n x : ℕ) → x < n → answers.call x ≡ row → length (finals_below answers row x) < length (finals_below answers row n)
  finals_place n x l a = finals_ind (λ n l. x < n → length (finals_below answers row x) < length l)
      (λ l. absurd (omega arith))
      (λ y e h l. simp length-append (elim (dec_lt x y) [
        | yes k ↦ omega (arith, h k)
        | no k ↦ let z : x ≡ y = omega arith in rw z (omega arith)
      ]))
      (λ y ne h l. elim (dec_lt x y) [
        | yes k ↦ h k
        | no k ↦ let z : x ≡ y = omega arith in absurd (ne (rw z at a))
      ])
      n l

  pub finals_differ : AnswersOnce answers → (n : ℕ) → n ≤ answers.count
      → (i j : ℕ) → i < j → j < length (finals_below answers row n) → get_or (finals_below answers row n) i 0 ≡ get_or (finals_below answers row n) j 0 → ⊥
  finals_differ once = finals_ind (λ n l. n ≤ answers.count → (i j : ℕ) → i < j → j < length l → get_or l i 0 ≡ get_or l j 0 → ⊥)
      (λ b i j k l. absurd (omega arith))
      (λ x e h b i j k l d. last x e b i j k (simp length-append at l) (h (omega arith)) d)
      (λ x ne h b. h (omega arith))
    where
      last : (x : ℕ) → answers.call x ≡ row → x + 1 ≤ answers.count → (i j : ℕ) → i < j → j < length (finals_below answers row x) + 1
          → ((i j : ℕ) → i < j → j < length (finals_below answers row x) → get_or (finals_below answers row x) i 0 ≡ get_or (finals_below answers row x) j 0 → ⊥)
          → get_or (finals_below answers row x ++ (answers.final x ∷ [])) i 0 ≡ get_or (finals_below answers row x ++ (answers.final x ∷ [])) j 0 → ⊥
      last x e b i j k l h d =
          let xs = finals_below answers row x in
          let at_i = get_or-append xs (answers.final x ∷ []) 0 i (omega arith) in
          elim (dec_lt j (length xs)) [
            | yes m ↦ h i j k m (sym at_i ∙ d ∙ get_or-append xs (answers.final x ∷ []) 0 j m)
            | no m ↦
                let z : j ≡ length xs = omega arith in
                let v : get_or xs i 0 ≡ answers.final x = sym at_i ∙ d ∙ ap (λ p. get_or (xs ++ (answers.final x ∷ [])) p 0) z ∙ get_or-append_seam xs (answers.final x) [] 0 in
                let (y, c, a) = finals_in x (mathlib.Core.List.Memᴰ.cast (sym v) (at_member xs i 0 (omega arith))) in
                once y x row (answers.final x) c (omega arith) a (record { has_call = e; has_final = refl })
          ]

  pub finals_exactly : AnswersOnce answers → Exactly (HeldAnswer answers row) (finals_below answers row answers.count)
  finals_exactly once =
      let n = answers.count in
      record { once = distinct_by _ (finals_differ once n (omega arith)); members = λ f. (finals_in n, λ (x, l, a). in_finals n x l a) }

-- ---- answers as they are given

module _ {words words' : List ℕ} {m : ℕ} (c : AnswersClosed words m words') (row : ℕ) where
  abbrev was : Answers
  was = packed_answers words m

  abbrev is_now : Answers
  is_now = answer_table words' m

  finals_upto : (n : ℕ) → n ≤ m → finals_below is_now row n ≡ finals_below was row n
  unfolding finals_below
  finals_upto zero l = refl
  finals_upto (suc x) l = λ k. finals_upto x (omega arith) k ++ cond (eqb ((c.closed x (omega arith)).call k) row) ((c.closed x (omega arith)).final k ∷ []) []

  pub finals_given : finals_below is_now row m ≡ finals_below was row m
  finals_given = finals_upto m (omega arith)

  pub held_given : (f : State) → HeldAnswer was row f ↔ HeldAnswer is_now row f
  held_given f = (
    λ (x, l, a). (x, l, record { has_call = (c.closed x l).call ∙ a.has_call; has_final = (c.closed x l).final ∙ a.has_final }),
    λ (x, l, a). (x, l, record { has_call = sym (c.closed x l).call ∙ a.has_call; has_final = sym (c.closed x l).final ∙ a.has_final }),
  )

  pub listed_given : {list list' : List ℕ} → FinalsListed was row list list' → FinalsListed is_now row list list'
  listed_given L = record {
    finals = L.finals;
    rising = L.rising;
    members = λ f. (λ h. (held_given f).0 ((L.members f).0 h), λ h. (L.members f).1 ((held_given f).1 h));
    is = L.is;
  }

pub call_finals_given : {calls : Calls} {words words' list list' : List ℕ} {m a found : ℕ} {D : State} → AnswersClosed words m words'
    → CallFinals calls (packed_answers words m) a D found list list' → CallFinals calls (answer_table words' m) a D found list list'
call_finals_given c F = record {
  row = F.row;
  sought = F.sought;
  counted = F.counted ∙ ap length (sym (finals_given c F.row));
  short = F.short;
  listed = λ l. listed_given c F.row (F.listed l);
}
