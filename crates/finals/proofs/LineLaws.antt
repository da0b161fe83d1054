-- Words sorted by way of lines. Assumes nothing.
use Prim.Native.Nat.{ℕ, ◌+◌, ◌*◌, ◌<◌, ◌≤◌}
use native.Mathlib.Omega.{arith}
use mathlib.Core.Path.{◌≡◌, sym, ap, ◌∙◌}
use mathlib.Core.List.{List}
use mathlib.Core.Logic.{◌⊎◌, inl, inr}
use lib.ListN.{get_or}
use Rattle.sorting.specs.Shuffled.{Before, key_at, Sorted}
use Rattle.sorting.proofs.Keys.{key_single}
use Rattle.radix.specs.Lines.{line_width, LinesSorted}
use Rattle.finals.specs.Finals.{Lined, Taken}

-- The words of the list come as their lines.
module _ {list list' words first sorted : List ℕ} {n at spare : ℕ} (L : Lined list n at words first) (S : LinesSorted at spare n first sorted) (T : Taken sorted at n list list') where
  abbrev from : ℕ → ℕ
  from = S.order.from

  came : (i : ℕ) → i < n → get_or list' i 0 ≡ get_or list (from i) 0
  came i l = T.words_are i l ∙ S.moved i 1 l (omega arith) ∙ L.second (from i) (S.order.from_in i (omega arith) l).1

  zero_first : (i : ℕ) → i < n → get_or sorted (at + line_width * i) 0 ≡ 0
  zero_first i l =
      let z : (q : ℕ) → at + line_width * q + 0 ≡ at + line_width * q = λ q. omega arith in
      ap (λ (x : ℕ). get_or sorted x 0) (sym (z i)) ∙ S.moved i 0 l (omega arith) ∙ ap (λ (x : ℕ). get_or first x 0) (z (from i)) ∙ L.first (from i) (S.order.from_in i (omega arith) l).1

  once : (i : ℕ) → 1 * i ≡ i
  once i = omega arith

  rises : (i j : ℕ) → i < j → j < n → Before (key_at 1 list' j) (key_at 1 list' i) → ⊥
  rises i j l m (inl k) = S.rising i j l m
      (inr (zero_first j m ∙ sym (zero_first i (omega arith)), omega (arith, T.words_are i (omega arith), T.words_are j m, ap (λ (p : ℕ). get_or list' p 0) (once i), ap (λ (p : ℕ). get_or list' p 0) (once j))))
  rises i j l m (inr (e, k)) = omega (arith, key_single 1 list' i (omega arith), key_single 1 list' j (omega arith))

  moved_word : (i k : ℕ) → i < n → k < 1 → get_or list' (1 * i + k) 0 ≡ get_or list (1 * from i + k) 0
  moved_word i k l h =
      let a : 1 * i + k ≡ i = omega arith in
      let b : 1 * from i + k ≡ from i = omega arith in
      ap (λ (p : ℕ). get_or list' p 0) a ∙ came i l ∙ ap (λ (p : ℕ). get_or list p 0) (sym b)

  stays_at : (p : ℕ) → (p < 1 * 0) ⊎ (1 * n ≤ p) → get_or list' p 0 ≡ get_or list p 0
  stays_at p (inl h) = absurd (omega arith)
  stays_at p (inr h) = T.past p (omega arith)

  pub sorted_by : Sorted 1 0 n list list'
  sorted_by = record {
    shuffled = record {
      size = T.long;
      from = from;
      back = S.order.back;
      from_in = S.order.from_in;
      back_in = S.order.back_in;
      from_back = S.order.from_back;
      back_from = S.order.back_from;
      moved = λ i k a l h. moved_word i k l h;
      stays = stays_at;
    };
    rising = λ i j a l m. rises i j l m;
  }
