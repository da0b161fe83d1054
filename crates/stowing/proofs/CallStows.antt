-- Laws of call records put aside and given back. Assumes nothing.
use Prim.Native.Nat.{ℕ, zero, suc, ◌+◌, ◌*◌, ◌/◌, ◌%◌, ◌<◌, ◌≤◌}
use native.Mathlib.Omega.{arith}
use native.Mathlib.Decide.{dec_lt}
use native.Mathlib.Nat.{add-zero}
use mathlib.Core.Path.{◌≡◌, sym, ◌∙◌}
use mathlib.Core.List.{List}
use lib.ListN.{length, get_or}
use lib.Seq.{ext_get_or}
use Rattle.radix.proofs.Names.{word_at}
use Rattle.stowing.specs.Stowing.{call_words, CallsStowed, CallsUnstowed}

-- ---- records put aside

-- The records from i on are put aside; the words below those written stay.
pub record CallsStowing (most n i : ℕ) (words words' actions : List ℕ) : Type 0 where
  pub long : length words' ≡ length words
  pub actions_kept : (j : ℕ) → i ≤ j → j < n → get_or actions j 0 ≡ get_or words (call_words * j) 0
  pub states_kept : (j : ℕ) → i ≤ j → j < n → get_or words' (most + j) 0 ≡ get_or words (call_words * j + 1) 0
  pub below : (p : ℕ) → p < most + i → get_or words' p 0 ≡ get_or words p 0

-- ---- records given

-- The first i records have these actions and states; the words from theirs on stay.
pub record CallsLaying (i : ℕ) (action state : ℕ → ℕ) (words words' : List ℕ) : Type 0 where
  pub long : length words' ≡ length words
  pub actions : (j : ℕ) → j < i → get_or words' (call_words * j) 0 ≡ action j
  pub states : (j : ℕ) → j < i → get_or words' (call_words * j + 1) 0 ≡ state j
  pub past : (p : ℕ) → call_words * i ≤ p → get_or words' p 0 ≡ get_or words p 0

-- ---- put aside and given back

-- What was put aside comes back word for word where the states and actions put aside stayed and the words past the records were 0.
pub calls_unstowed_same : {most n : ℕ} {words aside aside' actions back : List ℕ} → CallsStowed most n words aside actions → length aside' ≡ length aside
    → ((i : ℕ) → i < n → get_or aside' (most + i) 0 ≡ get_or aside (most + i) 0) → CallsUnstowed most n aside' actions back
    → ((p : ℕ) → call_words * n ≤ p → get_or words p 0 ≡ 0) → back ≡ words
calls_unstowed_same {most} {n} {words} {aside} {aside'} {actions} {back} s long kept u past =
    ext_get_or 0 back words (u.long ∙ long ∙ s.long) (λ i l. elim (dec_lt i (call_words * n)) [
      | yes h ↦ word_at back (split i) ∙ at (i / call_words) (omega arith) (i % call_words) (omega arith) ∙ word_at words (sym (split i))
      | no h ↦ u.past i (omega arith) ∙ sym (past i (omega arith))
    ])
  where
    split : (i : ℕ) → i ≡ call_words * (i / call_words) + i % call_words
    split i = omega arith

    at : (i : ℕ) → i < n → (j : ℕ) → j < 2 → get_or back (call_words * i + j) 0 ≡ get_or words (call_words * i + j) 0
    at i l zero h = word_at back (add-zero (call_words * i)) ∙ u.actions i l ∙ s.actions_kept i l ∙ word_at words (sym (add-zero (call_words * i)))
    at i l (suc zero) h = u.states i l ∙ kept i l ∙ s.states_kept i l
    at i l (suc (suc j)) h = absurd (omega arith)
