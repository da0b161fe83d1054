-- Outcomes of the two operations, and what an unrefused one tells. Assumes nothing.
use Prim.Native.Nat.{ℕ, ◌+◌, ◌*◌, ◌/◌, ◌%◌, ◌^◌, ◌<◌, ◌≤◌}
use native.Mathlib.Nat.{mul_comm, mod-lt}
use native.Mathlib.Omega.{arith}
use mathlib.Core.Path.{◌≡◌, refl, sym, ap, ◌∙◌}
use mathlib.Core.Bool.{Bool, true, false, cond, not}
use mathlib.Core.List.{List, ◌++◌}
use lib.Dec.{eqb, ltb}
use lib.ListN.{length, get_or, take, drop}
use lib.Pow.{split, pow_pos}
use lib.Seq.{take_at}
use borrow.Author.Tests.{eqb-true, ne_eqb, not-true, not-false, ltb-false}
use Rattle.refusals.specs.Run.{run_refusals}
use Rattle.refusals.specs.Archive.{archive_refusals}
use Rattle.steps.specs.State.{bit}
use Rattle.steps.specs.Acceptance.{bad_state}
use Rattle.steps.proofs.EachBelow.{each_at}
use Rattle.steps.proofs.StateLaws.{high}
use Rattle.archive.specs.Archive.{columns, blocks, stored, restored}
use Rattle.archive.specs.Archived.{bad_states, bad_words, bad_bits, store_refusal, restore_refusal, Archived, StatesStored, StatesRestored}
use Rattle.archive.proofs.Stored.{stored_length, restored_length}

-- ---- what makes an outcome

-- where refused
pub refused : (refusal : ℕ) (written out : List ℕ) (told : ℕ) → told ≡ refusal → (told ≡ 0 → ⊥) → Archived refusal written out told 0 out
refused refusal written out told e bad =
    let n : eqb refusal 0 ≡ false = ne_eqb _ _ (λ z. bad (e ∙ z)) in
    record {
      refused = e;
      counted = sym (ap (λ (t : Bool). cond t (length written) 0) n);
      output = sym (ap (λ (t : Bool). cond t (written ++ drop (length written) out) out) n);
    }

-- where n words are written
unrefused : (refusal n : ℕ) (written out left : List ℕ) → refusal ≡ 0 → length written ≡ n → left ≡ written ++ drop n out
    → Archived refusal written out 0 n left
unrefused refusal n written out left e l w =
    record { refused = sym e; counted = rw e (sym l); output = rw e (rw l w) }

-- what `store` has written, b blocks
pub stored_outcome : (fluents : ℕ) (states out left : List ℕ) (b : ℕ) → b ≡ blocks (length states) → store_refusal fluents states (length out) ≡ 0
    → left ≡ columns 64 fluents (b * fluents) states ++ drop (b * fluents) out → StatesStored fluents states out 0 (b * fluents) left
stored_outcome fluents states out left b eb e w =
    let n : b * fluents ≡ blocks (length states) * fluents = ap (λ (b : ℕ). b * fluents) eb in
    unrefused _ (b * fluents) (stored fluents states) out left e (stored_length fluents states ∙ sym n)
    (w ∙ ap (λ (n : ℕ). columns 64 fluents n states ++ drop (b * fluents) out) n)

-- what `restore` has written
pub restored_outcome : (fluents count : ℕ) (words out left : List ℕ) → restore_refusal fluents count words (length out) ≡ 0
    → left ≡ restored fluents count words ++ drop count out → StatesRestored fluents count words out 0 count left
restored_outcome fluents count words out left e w = unrefused _ count (restored fluents count words) out left e (restored_length fluents count words) w

-- ---- what an unrefused outcome tells

-- where the definition refuses nothing
pub granted : (refusal told n : ℕ) (written out left : List ℕ) → refusal ≡ 0 → Archived refusal written out told n left
    → (told ≡ 0) × (n ≡ length written) × (left ≡ written ++ drop (length written) out)
granted refusal told n written out left e o = (o.refused ∙ e, rw e at o.counted, rw e at o.output)

-- what was written stands first in the output
pub written_first : (refusal n : ℕ) (written out left : List ℕ) → Archived refusal written out 0 n left → take n left ≡ written
written_first refusal n written out left o =
    let (_, l, w) = granted refusal 0 n written out left (sym o.refused) o in
    ap (take n) w ∙ take_at written (drop (length written) out) n (sym l)

-- a check that is passed
pass : (t : Bool) (k n : ℕ) → 0 < k → cond t k n ≡ 0 → (t ≡ false) × (n ≡ 0)
pass true k n p e = absurd (omega arith)
pass false k n p e = (refl, e)

-- a number whose quotient by a power is 0 is below the power
below : (s w : ℕ) → eqb (s / 2 ^ w) 0 ≡ true → s < 2 ^ w
below s w e =
    let z : s / 2 ^ w ≡ 0 = eqb-true _ _ e in
    omega (arith, rw z at (split s w), mod-lt s (pow_pos w))

-- no bit is set past the last state
clear : (fluents count : ℕ) (words : List ℕ) → bad_bits fluents count words ≡ false
    → (k i : ℕ) → k < fluents → 0 < count % 64 → count % 64 ≤ i → bit (get_or words (fluents * (count / 64) + k) 0) i ≡ 0
unfolding bad_bits
clear fluents count words e k i lk used l =
    let n : eqb (count % 64) 0 ≡ false = ne_eqb (count % 64) 0 (λ z. omega arith) in
    ap (λ (j : ℕ). bit (get_or words (j + k) 0) i) (mul_comm fluents (count / 64))
    ∙ high (count % 64) i _ l (below _ _ (each_at _ _ (not-false _ (rw n at e)) k lk))

module _ (fluents : ℕ) where
  -- what `store` does not refuse
  pub store_passed : (states : List ℕ) (room : ℕ) → store_refusal fluents states room ≡ 0
      → (fluents ≤ 64) × ((i : ℕ) → i < length states → get_or states i 0 < 2 ^ fluents) × (blocks (length states) * fluents ≤ room)
  unfolding store_refusal bad_states bad_state
  store_passed states room e =
      let p20 = pass (ltb 64 fluents) run_refusals.bad_counts _ (omega arith) e in
      let p24 = pass (bad_states fluents states) run_refusals.bad_start _ (omega arith) p20.1 in
      let p80 = pass (ltb room (blocks (length states) * fluents)) archive_refusals.output_short 0 (omega arith) p24.1 in (
        ltb-false _ _ p20.0,
        (λ i l. below _ fluents (not-false _ (not-true _ (each_at _ _ (not-false _ p24.0) i l)))),
        ltb-false _ _ p80.0,
      )

  -- what `restore` does not refuse
  pub restore_passed : (count : ℕ) (words : List ℕ) (room : ℕ) → restore_refusal fluents count words room ≡ 0
      → (fluents ≤ 64) × (length words ≡ blocks count * fluents)
      × ((k i : ℕ) → k < fluents → 0 < count % 64 → count % 64 ≤ i → bit (get_or words (fluents * (count / 64) + k) 0) i ≡ 0) × (count ≤ room)
  unfolding restore_refusal
  restore_passed count words room e =
      let p20 = pass (ltb 64 fluents) run_refusals.bad_counts _ (omega arith) e in
      let p81 = pass (bad_words fluents count words) archive_refusals.bad_word_count _ (omega arith) p20.1 in
      let p82 = pass (bad_bits fluents count words) archive_refusals.bit_past_end _ (omega arith) p81.1 in
      let p80 = pass (ltb room count) archive_refusals.output_short 0 (omega arith) p82.1 in (
        ltb-false _ _ p20.0,
        eqb-true _ _ (not-false _ p81.0),
        clear fluents count words p82.0,
        ltb-false _ _ p80.0,
      )
