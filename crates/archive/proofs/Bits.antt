-- The bits of a column. Assumes nothing.
use Prim.Native.Nat.{ℕ, zero, suc, ◌+◌, ◌-◌, ◌*◌, ◌%◌, ◌^◌, ◌<◌, ◌≤◌}
use native.Mathlib.Nat.{pow-suc, add_comm}
use native.Mathlib.Omega.{arith}
use mathlib.Core.Path.{◌≡◌, refl, sym, ap, ◌∙◌}
use mathlib.Core.List.{List, [], ◌∷◌}
use lib.ListN.{length, get_or, drop, length-drop, drop_of_length-le}
use lib.Seq.{drop-cons}
use lib.Pow.{pow_mono}
use Rattle.steps.specs.State.{bit}
use Rattle.steps.proofs.StateLaws.{no_bit, bit_zero, bit_suc}
use Rattle.archive.specs.Archive.{column}

-- a column has no more bits than there are words
pub column_below : (k : ℕ) (ws : List ℕ) → column k ws < 2 ^ length ws
unfolding column
column_below k [] = omega arith
column_below k (w ∷ rest) = omega (arith, column_below k rest, pow-suc 2 (length rest))

-- bit i of a column is bit k of word i; past the last word it is 0
pub column_bit : (k i : ℕ) (ws : List ℕ) → bit (column k ws) i ≡ bit (get_or ws i 0) k
unfolding column
column_bit k i [] = no_bit i ∙ sym (no_bit k)
column_bit k zero (w ∷ rest) = bit_zero _ ∙ omega arith
column_bit k (suc i) (w ∷ rest) = bit_suc _ i ∙ ap (λ (n : ℕ). bit n i) (omega arith) ∙ column_bit k i rest

-- ---- a column made from the last word down

pub column_end : (k : ℕ) (ws : List ℕ) → column k (drop (length ws) ws) ≡ 0
unfolding column
column_end k ws = rw (drop_of_length-le ws {i = length ws} (omega arith)) refl

-- one word more: its bit comes first, and a column of at most 64 words has 64 bits
pub column_next : (k i word : ℕ) (ws : List ℕ) → 0 < i → i ≤ length ws → length ws ≤ 64 → word ≡ column k (drop i ws)
    → (2 * word + bit (get_or ws (i - 1) 0) k ≡ column k (drop (i - 1) ws)) × (2 * word + bit (get_or ws (i - 1) 0) k < 2 ^ 64)
unfolding column
column_next k i word ws p l m w =
    let e : i ≡ suc (i - 1) = omega arith in
    let short : length (drop (i - 1) ws) ≤ 64 = omega (arith, length-drop (i - 1) ws) in
    let more : 2 * word + bit (get_or ws (i - 1) 0) k ≡ column k (drop (i - 1) ws) =
    ap (λ (n : ℕ). 2 * n + bit (get_or ws (i - 1) 0) k) (w ∙ ap (λ (j : ℕ). column k (drop j ws)) e)
    ∙ add_comm _ _ ∙ sym (ap (column k) (drop-cons ws (i - 1) 0 (omega arith))) in
    (more, omega (arith, more, column_below k (drop (i - 1) ws), pow_mono short))
