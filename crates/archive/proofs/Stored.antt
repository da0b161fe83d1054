-- What is stored is what request R-13 says, and storing and restoring are inverse, both ways. Assumes nothing.
use Prim.Native.Nat.{ℕ, ◌+◌, ◌*◌, ◌/◌, ◌%◌, ◌^◌, ◌<◌, ◌≤◌}
use native.Mathlib.Nat.{div-add-mod, mod-lt, div-lt_iff_lt-mul, mul-zero}
use native.Mathlib.Omega.{arith}
use native.Mathlib.Decide.{dec_lt}
use mathlib.Core.Path.{◌≡◌, sym, ap, ◌∙◌}
use mathlib.Core.List.{List}
use lib.Dec.{eqb}
use lib.ListN.{length, get_or, get_or-eq_default}
use lib.Seq.{ext_get_or}
use Rattle.steps.specs.State.{State, bit, holds}
use Rattle.steps.proofs.StateLaws.{no_bit, bits_same}
use Rattle.archive.specs.Archive.{blocks, stored, restored}
use Rattle.archive.proofs.Tabulated.{columns_length, columns_bit, columns_below}
use Rattle.archive.proofs.Counted.{in_words}

-- ---- the request's sentences

module _ (fluents : ℕ) (states : List State) where
  abbrev word : (b k : ℕ) → ℕ
  word b k = get_or (stored fluents states) (fluents * b + k) 0

  -- "For each block of 64 states there is one word per fluent": word k of block b is in place fluents * b + k, and has 64 bits.
  pub stored_length : length (stored fluents states) ≡ blocks (length states) * fluents
  stored_length = columns_length 64 fluents (blocks (length states) * fluents) states

  pub stored_below : (j : ℕ) → j < length (stored fluents states) → get_or (stored fluents states) j 0 < 2 ^ 64
  stored_below j l = columns_below 64 fluents (blocks (length states) * fluents) states j (omega (arith, stored_length))

  same_bit : (b k i : ℕ) → k < fluents → i < 64 → fluents * b + k < blocks (length states) * fluents → bit (word b k) i ≡ bit (get_or states (64 * b + i) 0) k
  same_bit b k i lk li ln = columns_bit 64 fluents (blocks (length states) * fluents) states b k i lk li ln

  -- "Bit i of a fluent's word is set exactly if it holds in state i of the block."
  pub bit_at : (b k i : ℕ) → k < fluents → i < 64 → 64 * b + i < length states → eqb (bit (word b k) i) 1 ≡ holds (get_or states (64 * b + i) 0) k
  bit_at b k i lk li l =
      let e : (64 * b + i) / 64 ≡ b = omega arith in
      ap (λ (n : ℕ). eqb n 1) (same_bit b k i lk li (rw e at (in_words (length states) fluents (64 * b + i) k l lk)))

  -- "Missing states in the last block leave 0 bits."
  pub missing : (b k i : ℕ) → k < fluents → i < 64 → fluents * b + k < length (stored fluents states) → length states ≤ 64 * b + i → bit (word b k) i ≡ 0
  missing b k i lk li ln l =
      same_bit b k i lk li (omega (arith, stored_length)) ∙ ap (λ (s : State). bit s k) (get_or-eq_default states 0 l) ∙ no_bit k

pub restored_length : (fluents count : ℕ) (words : List ℕ) → length (restored fluents count words) ≡ count
restored_length fluents count words = columns_length fluents 64 count words

-- a state restored has no bit at or above the fluent count
pub restored_below : (fluents count : ℕ) (words : List ℕ) (j : ℕ) → j < count → get_or (restored fluents count words) j 0 < 2 ^ fluents
restored_below fluents count words j l = columns_below fluents 64 count words j l

-- ---- "The inverse … gives back the same states": they have no bit at or above the fluent count.

module _ (fluents : ℕ) (states : List State) (good : (i : ℕ) → i < length states → get_or states i 0 < 2 ^ fluents) where
  abbrev back : List State
  back = restored fluents (length states) (stored fluents states)

  pub restored_stored : back ≡ states
  restored_stored = ext_get_or 0 back states (restored_length fluents (length states) _) (λ j l. same j (omega (arith, restored_length fluents (length states) (stored fluents states))))
    where
      same : (j : ℕ) → j < length states → get_or back j 0 ≡ get_or states j 0
      same j l = bits_same fluents _ _ (restored_below fluents (length states) _ j l) (good j l) (λ k lk.
          ap (λ (i : ℕ). bit (get_or back i 0) k) (sym (div-add-mod j 64))
          ∙ columns_bit fluents 64 (length states) (stored fluents states) (j / 64) (j % 64) k (omega arith) lk (omega arith)
          ∙ same_bit fluents states (j / 64) k (j % 64) lk (omega arith) (in_words (length states) fluents j k l lk)
          ∙ ap (λ (i : ℕ). bit (get_or states i 0) k) (div-add-mod j 64))

-- ---- "Storing what it gave yields the same words": they are of the right number and size, and no bit is set past the last state.

module _ (fluents count : ℕ) (words : List ℕ) (long : length words ≡ blocks count * fluents) (small : (j : ℕ) → j < length words → get_or words j 0 < 2 ^ 64)
    (clear : (k i : ℕ) → k < fluents → 0 < count % 64 → count % 64 ≤ i → bit (get_or words (fluents * (count / 64) + k) 0) i ≡ 0) where
  abbrev states : List State
  states = restored fluents count words

  -- bit k of state i of block b is bit i of the word of fluent k, also past the last state
  state_bit : (b k i : ℕ) → k < fluents → i < 64 → b < blocks count → bit (get_or states (64 * b + i) 0) k ≡ bit (get_or words (fluents * b + k) 0) i
  state_bit b k i lk li lb = by (dec_lt (64 * b + i) count)
    where
      by : Dec (64 * b + i < count) → bit (get_or states (64 * b + i) 0) k ≡ bit (get_or words (fluents * b + k) 0) i
      by (yes l) = columns_bit fluents 64 count words b i k li lk l
      by (no n) =
          let e : b ≡ count / 64 = omega arith in
          let past : get_or states (64 * b + i) 0 ≡ 0 = get_or-eq_default states 0 (omega (arith, restored_length fluents count words)) in
          ap (λ (w : ℕ). bit w k) past ∙ no_bit k ∙ sym (rw e (clear k i lk (omega arith) (omega arith)))

  abbrev again : List ℕ
  again = stored fluents states

  again_length : length again ≡ blocks count * fluents
  again_length = stored_length fluents states ∙ ap (λ (n : ℕ). blocks n * fluents) (restored_length fluents count words)

  -- the block of a word
  in_block : (j : ℕ) → j < blocks count * fluents → (0 < fluents) × (j / fluents < blocks count)
  in_block j l = by (dec_lt 0 fluents)
    where
      by : Dec (0 < fluents) → (0 < fluents) × (j / fluents < blocks count)
      by (yes pos) = (pos, (div-lt_iff_lt-mul pos).1 l)
      by (no n) = let e : fluents ≡ 0 = omega arith in absurd (omega (arith, rw (e, mul-zero) at l))

  pub stored_restored : again ≡ words
  stored_restored = ext_get_or 0 again words (again_length ∙ sym long) (λ j l. same j l (in_block j (omega (arith, again_length))))
    where
      same : (j : ℕ) → j < length again → (0 < fluents) × (j / fluents < blocks count) → get_or again j 0 ≡ get_or words j 0
      same j l (pos, lb) = bits_same 64 _ _ (stored_below fluents states j l) (small j (omega (arith, again_length, long))) (λ i li.
          ap (λ (n : ℕ). bit (get_or again n 0) i) (sym (div-add-mod j fluents))
          ∙ same_bit fluents states (j / fluents) (j % fluents) i (mod-lt j pos) li (rw (div-add-mod j fluents) (omega (arith, stored_length fluents states)))
          ∙ state_bit (j / fluents) (j % fluents) i (mod-lt j pos) li lb
          ∙ ap (λ (n : ℕ). bit (get_or words n 0) i) (div-add-mod j fluents))
