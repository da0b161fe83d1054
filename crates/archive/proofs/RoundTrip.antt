-- The two operations undo each other: what one has written, the other, given room, turns back into what the first was lent. Assumes nothing.
use Prim.Native.Nat.{ℕ, ◌+◌, ◌*◌, ◌/◌, ◌%◌, ◌^◌, ◌<◌, ◌≤◌}
use native.Mathlib.Nat.{mul_comm, div-eq_of_lt}
use native.Mathlib.Omega.{arith}
use native.Mathlib.Decide.{dec_lt}
use mathlib.Core.Path.{◌≡◌, refl, sym, ap, ◌∙◌}
use mathlib.Core.Bool.{false, not}
use mathlib.Core.List.{List, ◌++◌}
use lib.ListN.{length, get_or, take, drop, length-take, length-drop}
use lib.Pow.{pow_mono}
use borrow.Author.Tests.{eq-eqb, ne_eqb, le-ltb}
use Rattle.steps.specs.Acceptance.{bad_state}
use Rattle.steps.proofs.EachBelow.{each_all}
use Rattle.archive.specs.Archive.{part, blocks, stored, restored}
use Rattle.archive.specs.Archived.{bad_states, bad_bits, store_refusal, restore_refusal, StatesStored, StatesRestored}
use Rattle.archive.proofs.Bits.{column_below}
use Rattle.archive.proofs.Tabulated.{column_at}
use Rattle.archive.proofs.Counted.{last_block}
use Rattle.archive.proofs.Stored.{stored_length, restored_length, restored_below, restored_stored, stored_restored}
use Rattle.archive.proofs.Outcomes.{granted, written_first, store_passed, restore_passed}

-- ---- what one has written, the other refuses at most for want of room

module _ (fluents : ℕ) where
  -- a word of a last block that is not full has no bit past the last state
  last_below : (states : List ℕ) (k : ℕ) → k < fluents → 0 < length states % 64
      → get_or (stored fluents states) (length states / 64 * fluents + k) 0 < 2 ^ (length states % 64)
  last_below states k lk used =
      let b = length states / 64 in
      let n = blocks (length states) * fluents in
      let last : fluents * b + fluents ≡ n = ap (λ (j : ℕ). j + fluents) (mul_comm fluents b) ∙ last_block (length states) fluents used in
      let size : length (part 64 b states) ≤ length states % 64 = omega (arith, length-take 64 (drop (64 * b) states), length-drop (64 * b) states) in
      rw (mul_comm b fluents, column_at 64 fluents n states b k lk (omega arith)) (omega (arith, column_below k (part 64 b states), pow_mono size))

  clear_stored : (states : List ℕ) → bad_bits fluents (length states) (stored fluents states) ≡ false
  unfolding bad_bits
  clear_stored states = by (dec_lt 0 (length states % 64))
    where
      by : Dec (0 < length states % 64) → bad_bits fluents (length states) (stored fluents states) ≡ false
      by (yes used) =
          rw (ne_eqb (length states % 64) 0 (λ e. omega arith))
          (ap not (each_all _ fluents (λ k lk. eq-eqb _ 0 (div-eq_of_lt (last_below states k lk used)))))
      by (no none) = rw (eq-eqb (length states % 64) 0 (omega arith)) refl

  restore_accepts : (states : List ℕ) (room : ℕ) → fluents ≤ 64 → length states ≤ room → restore_refusal fluents (length states) (stored fluents states) room ≡ 0
  unfolding restore_refusal
  restore_accepts states room few l =
      rw (le-ltb 64 fluents few, eq-eqb _ _ (stored_length fluents states), clear_stored states, le-ltb room (length states) l) refl

  good_restored : (count : ℕ) (words : List ℕ) → bad_states fluents (restored fluents count words) ≡ false
  unfolding bad_states bad_state
  good_restored count words = ap not (each_all _ _ (λ i l.
      ap (λ b. not (not b)) (eq-eqb _ 0 (div-eq_of_lt (restored_below fluents count words i (omega (arith, restored_length fluents count words)))))))

  store_accepts : (count : ℕ) (words : List ℕ) (room : ℕ) → fluents ≤ 64 → length words ≡ blocks count * fluents → length words ≤ room
      → store_refusal fluents (restored fluents count words) room ≡ 0
  unfolding store_refusal
  store_accepts count words room few long l =
      let fits : blocks (length (restored fluents count words)) * fluents ≤ room = rw (restored_length fluents count words, ← long) l in
      rw (le-ltb 64 fluents few, good_restored count words, le-ltb room _ fits) refl

-- ---- the operations' round trips

-- "The inverse needs the count of states and gives back the same states": after a `store` that tells 0 and n, a `restore` of these n
-- words and of as many states, with room for them, tells 0 and leaves the states.
pub store_restore : (fluents n told m : ℕ) (states words words' out out' : List ℕ) → StatesStored fluents states words 0 n words' → length states ≤ length out
    → StatesRestored fluents (length states) (take n words') out told m out'
    → (told ≡ 0) × (m ≡ length states) × (out' ≡ states ++ drop (length states) out)
store_restore fluents n told m states words words' out out' s l r =
    let (few, good, _) = store_passed fluents states (length words) (sym s.refused) in
    let first : take n words' ≡ stored fluents states = written_first _ n (stored fluents states) words words' s in
    let back : restored fluents (length states) (stored fluents states) ≡ states = restored_stored fluents states good in
    let (zero-told, count, list) = granted _ told m _ out out' (restore_accepts fluents states (length out) few l) (rw first at r) in
    (zero-told, count ∙ ap length back, list ∙ ap (λ (xs : List ℕ). xs ++ drop (length xs) out) back)

-- "Storing what it gave yields the same words": after a `restore` of words of 64 bits that tells 0 and n, a `store` of these n states,
-- with room for the words, tells 0 and leaves the words.
pub restore_store : (fluents count n told m : ℕ) (words states states' out out' : List ℕ) → ((j : ℕ) → j < length words → get_or words j 0 < 2 ^ 64)
    → StatesRestored fluents count words states 0 n states' → length words ≤ length out → StatesStored fluents (take n states') out told m out'
    → (told ≡ 0) × (m ≡ length words) × (out' ≡ words ++ drop (length words) out)
restore_store fluents count n told m words states states' out out' small r l s =
    let (few, long, clear, _) = restore_passed fluents count words (length states) (sym r.refused) in
    let first : take n states' ≡ restored fluents count words = written_first _ n (restored fluents count words) states states' r in
    let back : stored fluents (restored fluents count words) ≡ words = stored_restored fluents count words long small clear in
    let (zero-told, number, list) = granted _ told m _ out out' (store_accepts fluents count words (length out) few long l) (rw first at s) in
    (zero-told, number ∙ ap length back, list ∙ ap (λ (xs : List ℕ). xs ++ drop (length xs) out) back)
