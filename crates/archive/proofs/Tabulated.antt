-- Lists by their places, and the columns of the parts of a list. Assumes nothing.
use Prim.Native.Nat.{ℕ, zero, suc, ◌+◌, ◌*◌, ◌/◌, ◌%◌, ◌^◌, ◌<◌, ◌≤◌}
use native.Mathlib.Nat.{mul-add-div, mul-add-mod_self_left, mod-eq_of_lt, div-eq_of_lt}
use native.Mathlib.Numerals.{add-one}
use native.Mathlib.Omega.{arith}
use native.Mathlib.Decide.{dec_lt}
use mathlib.Core.Path.{◌≡◌, refl, sym, ap, ap₂, ◌∙◌}
use mathlib.Core.List.{List, [], ◌∷◌, ◌++◌, append_assoc}
use lib.ListN.{length, get_or, drop, set, length-append, length-take, get_or-append}
use lib.Pow.{pow_mono}
use lib.Seq.{drop-cons, set_at, get_or-take, get_or-drop, get_or_at}
use Rattle.steps.specs.State.{bit}
use Rattle.archive.specs.Archive.{tabulate, column, part, columns}
use Rattle.archive.proofs.Bits.{column_below, column_bit}

tabulate_length : (n : ℕ) (f : ℕ → ℕ) → length (tabulate n f) ≡ n
unfolding tabulate
tabulate_length zero f = refl
tabulate_length (suc n) f = length-append (tabulate n f) (f n ∷ []) ∙ omega (arith, tabulate_length n f)

tabulate_at : (n : ℕ) (f : ℕ → ℕ) (i : ℕ) → i < n → get_or (tabulate n f) i 0 ≡ f i
unfolding tabulate
tabulate_at zero f i l = absurd (omega arith)
tabulate_at (suc n) f i l = by (tabulate_at n f i) (dec_lt i n)
  where
    by : (i < n → get_or (tabulate n f) i 0 ≡ f i) → Dec (i < n) → get_or (tabulate n f ++ f n ∷ []) i 0 ≡ f i
    by earlier (yes k) = get_or-append (tabulate n f) (f n ∷ []) 0 i (omega (arith, tabulate_length n f)) ∙ earlier k
    by earlier (no k) = let e : i ≡ n = omega arith in rw e (get_or_at (tabulate n f) (f n) [] 0 n (tabulate_length n f))

-- Columns m for each part, n in all, of a list cut into parts of this size.
module _ (size m n : ℕ) (xs : List ℕ) where
  pub columns_length : length (columns size m n xs) ≡ n
  unfolding columns
  columns_length = tabulate_length n _

  columns_at : (j : ℕ) → j < n → get_or (columns size m n xs) j 0 ≡ column (j % m) (part size (j / m) xs)
  unfolding columns
  columns_at j l = tabulate_at n (λ j. column (j % m) (part size (j / m) xs)) j l

  -- column k of part b
  pub column_at : (b k : ℕ) → k < m → m * b + k < n → get_or (columns size m n xs) (m * b + k) 0 ≡ column k (part size b xs)
  column_at b k lk ln =
      let rest : (m * b + k) % m ≡ k = mul-add-mod_self_left m b k ∙ mod-eq_of_lt lk in
      let quotient : (m * b + k) / m ≡ b = mul-add-div {m = m} (omega arith) b k ∙ omega (arith, div-eq_of_lt lk) in
      columns_at (m * b + k) ln ∙ ap₂ (λ (j c : ℕ). column j (part size c xs)) rest quotient

  -- its bit i is bit k of word i of part b
  pub columns_bit : (b k i : ℕ) → k < m → i < size → m * b + k < n → bit (get_or (columns size m n xs) (m * b + k) 0) i ≡ bit (get_or xs (size * b + i) 0) k
  columns_bit b k i lk li ln =
      ap (λ (w : ℕ). bit w i) (column_at b k lk ln) ∙ column_bit k i (part size b xs)
      ∙ ap (λ (w : ℕ). bit w k) (get_or-take size (drop (size * b) xs) i 0 li ∙ get_or-drop (size * b) xs i 0)

  -- it has no more bits than a part has words
  pub columns_below : (j : ℕ) → j < n → get_or (columns size m n xs) j 0 < 2 ^ size
  columns_below j l =
      let words = part size (j / m) xs in
      let short : length words ≤ size = omega (arith, length-take size (drop (size * (j / m)) xs)) in
      rw (columns_at j l) (omega (arith, column_below (j % m) words, pow_mono short))

-- ---- columns written one by one

module _ (size m : ℕ) (xs out : List ℕ) where
  pub columns_none : out ≡ columns size m 0 xs ++ drop 0 out
  unfolding columns tabulate
  columns_none = refl

  pub columns_more : (j : ℕ) → j < length out
      → set (columns size m j xs ++ drop j out) j (column (j % m) (part size (j / m) xs)) ≡ columns size m (j + 1) xs ++ drop (j + 1) out
  unfolding columns tabulate
  columns_more j l =
      let f : ℕ → ℕ = λ j. column (j % m) (part size (j / m) xs) in
      rw (add-one, drop-cons out j 0 l)
      (set_at (tabulate j f) _ (drop (suc j) out) (f j) j (tabulate_length j f) ∙ sym (append_assoc (tabulate j f) (f j ∷ []) (drop (suc j) out)))
