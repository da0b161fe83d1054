-- Final states gathered at the head of a list, and then sorted. Assumes nothing.
use Prim.Native.Nat.{ℕ, suc, ◌+◌, ◌≤◌, ◌<◌}
use native.Mathlib.Omega.{arith}
use native.Mathlib.Numerals.{add-one}
use mathlib.Core.Path.{◌≡◌, sym, ap, ◌∙◌}
use mathlib.Core.List.Memᴰ
use mathlib.Core.List.{List, ◌∷◌, ◌++◌, append_assoc, Memᴰ}
use lib.ListN.{length, get_or, take, drop, set, length-append, length-drop, take-append-drop, get_or-append}
use lib.Seq.{drop-cons, set-append_seam, drop_at, length-take-le, get_or-take}
use Rattle.sorting.specs.Shuffled.{Sorted}
use Rattle.sorting.proofs.SortedLaws.{word_from, word_to, words_past, words_rising}
use Rattle.steps.proofs.Lists.{at_member, member_at}
use Rattle.records.specs.Records.{Answers}
use Rattle.records.proofs.Growth.{AnswersOnce}
use Rattle.finals.specs.Finals.{finals_below, FinalsListed}
use Rattle.finals.proofs.FinalsLaws.{rising_by, finals_none, finals_more, finals_same, finals_in, in_finals, finals_differ}

module _ (answers : Answers) (row : ℕ) where
  -- The final states of the first x records stand at the head of the list.
  pub record Gathered (list : List ℕ) (x : ℕ) (list' : List ℕ) (found : ℕ) : Type 0 where
    pub counted : found ≡ length (finals_below answers row x)
    pub is : list' ≡ finals_below answers row x ++ drop found list

  pub gathered_none : (list : List ℕ) → Gathered list 0 list 0
  gathered_none list = record { counted = rw finals_none; is = rw finals_none }

  pub gathered_same : {list list' : List ℕ} {x found : ℕ} → Gathered list x list' found → (answers.call x ≡ row → ⊥) → Gathered list (x + 1) list' found
  gathered_same g ne = record { counted = rw (finals_same answers row ne) g.counted; is = rw (finals_same answers row ne) g.is }

  pub gathered_more : {list list' : List ℕ} {x found : ℕ} → Gathered list x list' found → answers.call x ≡ row → found < length list
      → Gathered list (x + 1) (set list' found (answers.final x)) (found + 1)
  gathered_more {list} {list'} {x} {found} g e l =
      let xs = finals_below answers row x in
      let f = answers.final x in
      record {
        counted = rw (finals_more answers row e, length-append) (omega (arith, g.counted));
        is = ap (λ ys. set ys found f) (g.is ∙ ap (λ ys. xs ++ ys) (drop-cons list found 0 l))
            ∙ ap (λ p. set (xs ++ get_or list found 0 ∷ drop (suc found) list) p f) g.counted
            ∙ set-append_seam xs (get_or list found 0) (drop (suc found) list) f
            ∙ rw (finals_more answers row e, add-one, append_assoc);
      }

  pub gathered_length : {list list' : List ℕ} {x found : ℕ} → Gathered list x list' found → found ≤ length list → length list' ≡ length list
  gathered_length g l = ap length g.is ∙ simp (length-append, length-drop) (omega (arith, g.counted))

module _ (answers : Answers) (row : ℕ) {list list' list'' : List ℕ} {n : ℕ} (g : Gathered answers row list answers.count list' n) (s : Sorted 1 0 n list' list'') (fits : n ≤ length list) where
  abbrev xs : List ℕ
  xs = finals_below answers row answers.count

  past : drop n list' ≡ drop n list
  past = ap (drop n) g.is ∙ drop_at xs (drop n list) n (sym g.counted)

  size : length (take n list'') ≡ n
  size = length-take-le n list'' (omega (arith, gathered_length answers row g fits, s.shuffled.size))

  at : (i : ℕ) → i < n → get_or list' i 0 ≡ get_or xs i 0
  at i l = ap (λ ys. get_or ys i 0) g.is ∙ get_or-append xs (drop n list) 0 i (omega (arith, g.counted))

  -- The sorted words have the members of those gathered.
  was : {f : ℕ} → Memᴰ f (take n list'') → Memᴰ f xs
  was {f} m = by (member_at 0 m)
    where
      from : (i : ℕ) → i < n → get_or list'' i 0 ≡ f → (j : ℕ) × (j < n) × (get_or list'' i 0 ≡ get_or list' j 0) → Memᴰ f xs
      from i l e (j, k, d) = Memᴰ.cast (sym e ∙ d ∙ at j k) (at_member xs j 0 (omega (arith, g.counted)))

      by : (i : ℕ) × (i < length (take n list'')) × (get_or (take n list'') i 0 ≡ f) → Memᴰ f xs
      by (i, l, e) = let k : i < n = omega (arith, size) in from i k (sym (get_or-take n list'' i 0 k) ∙ e) (word_from s i k)

  is_now : {f : ℕ} → Memᴰ f xs → Memᴰ f (take n list'')
  is_now {f} m = by (member_at 0 m)
    where
      to : (j : ℕ) → j < n → get_or xs j 0 ≡ f → (i : ℕ) × (i < n) × (get_or list'' i 0 ≡ get_or list' j 0) → Memᴰ f (take n list'')
      to j k e (i, l, d) = Memᴰ.cast (sym (get_or-take n list'' i 0 l ∙ d ∙ at j k ∙ e)) (at_member (take n list'') i 0 (omega (arith, size)))

      by : (j : ℕ) × (j < length xs) × (get_or xs j 0 ≡ f) → Memᴰ f (take n list'')
      by (j, l, e) = let k : j < n = omega (arith, g.counted) in to j k e (word_to s j k)

  pub listed : AnswersOnce answers → FinalsListed answers row list list''
  listed once =
      record {
        finals = take n list'';
        rising = rising_by (take n list'') (λ i j l k.
            rw (get_or-take n list'' i 0 (omega (arith, size)), get_or-take n list'' j 0 (omega (arith, size)))
            (words_rising s differ i j l (omega (arith, size))));
        members = λ f. (λ m. finals_in answers row answers.count (was m), λ (x, l, a). is_now (in_finals answers row answers.count x l a));
        is = rw size (sym (take-append-drop n list'') ∙ ap (λ ys. take n list'' ++ ys) (words_past s ∙ past));
      }
    where
      differ : (i j : ℕ) → i < j → j < n → get_or list' i 0 ≡ get_or list' j 0 → ⊥
      differ i j l k e = finals_differ answers row once answers.count (omega arith) i j l (omega (arith, g.counted)) (sym (at i (omega arith)) ∙ e ∙ at j k)
