-- Marks of a place 0 to 15 and a call record, as bits of one word for each record, under the number of the walk that set them:
-- a word of an earlier walk holds no mark, so a walk begins without clearing any. Assumes nothing.
use Prim.Native.Nat.{ℕ, ◌+◌, ◌*◌, ◌/◌, ◌%◌, ◌^◌, ◌<◌, ◌≤◌}
use native.Mathlib.Omega.{arith}
use native.Mathlib.Decide.{ℕ_discrete}
use mathlib.Core.Path.{◌≡◌, refl, sym, ap, ◌∙◌}
use mathlib.Core.Bool.{Bool, true, false, cond}
use mathlib.Core.List.{List}
use mathlib.Core.Logic.{◌⊎◌, inl, inr, ◌≢◌}
use lib.ListN.{get_or}
use lib.Dec.{eqb}
use borrow.Author.Tests.{eqb-true, eq-eqb, ne_eqb}
use Rattle.steps.specs.State.{bit, holds}
use Rattle.steps.proofs.StateLaws.{set_other, room, low_bit, high, held, not_held}
use Rattle.records.specs.Records.{call_width}
use Rattle.records.specs.Storage.{Stored}
use Rattle.desk.specs.Desk.{open_calls, mark_words, round_unit, round_top, action_unit}
use Rattle.marks.specs.Marks.{Mark, Stamped, word_in, with_mark, Marked, MarksAlone, MarksPut}

-- A walk has no mark among words that are all 0.
pub zeros_stamped : {marks : ℕ → ℕ} (walk : ℕ) → ((r : ℕ) → marks r ≡ 0) → walk < 65536 → Stamped marks walk
zeros_stamped walk z l = record { early = λ r. rw (z r) (omega arith); few = l }

-- ---- the word that is written
-- one bit more does not carry into the stamp
stamp_same : (w q : ℕ) → q < 16 → bit w q ≡ 0 → (w + 2 ^ q) / 65536 ≡ w / 65536
stamp_same w q l e =
    let low : w % 65536 + 2 ^ q < 65536 = room 16 q (w % 65536) l (omega arith) (low_bit w q 16 l ∙ e) in
    omega arith

bit_base : (walk q : ℕ) → q < 16 → bit (walk * 65536) q ≡ 0
bit_base walk q l = let z : walk * 65536 % 65536 ≡ 0 = omega arith in sym (low_bit (walk * 65536) q 16 l) ∙ ap (λ (n : ℕ). bit n q) z ∙ high 0 q 0 (omega arith) (omega arith)

module _ (marks : ℕ → ℕ) (walk q r : ℕ) where
  word_stamp : word_in marks walk r / 65536 ≡ walk
  unfolding word_in
  word_stamp = by (eqb (marks r / 65536) walk) refl
    where
      by : (b : Bool) → eqb (marks r / 65536) walk ≡ b → cond b (marks r) (walk * 65536) / 65536 ≡ walk
      by true e = eqb-true (marks r / 65536) walk e
      by false e = omega arith

  -- a bit of the word is a mark
  word_mark : (p : ℕ) → p < 16 → bit (word_in marks walk r) p ≡ 1 → Mark marks walk p r
  unfolding word_in
  word_mark p l = by (eqb (marks r / 65536) walk) refl
    where
      by : (b : Bool) → eqb (marks r / 65536) walk ≡ b → bit (cond b (marks r) (walk * 65536)) p ≡ 1 → Mark marks walk p r
      by true e h = record { small = l; stamp = eqb-true (marks r / 65536) walk e; held = h }
      by false e h = absurd (omega (arith, bit_base walk p l))

  mark_word : (p : ℕ) → Mark marks walk p r → bit (word_in marks walk r) p ≡ 1
  unfolding word_in
  mark_word p m = rw (eq-eqb (marks r / 65536) walk m.stamp) m.held

  pub word_free : q < 16 → ¬ Mark marks walk q r → bit (word_in marks walk r) q ≡ 0
  word_free l free = elim (ℕ_discrete (bit (word_in marks walk r) q) 1) [ yes e ↦ absurd (free (word_mark q l e)) | no n ↦ omega arith ]

  -- the word that is written has 32 bits
  pub word_fits : q < 16 → walk < 65536 → ¬ Mark marks walk q r → word_in marks walk r + 2 ^ q < 4294967296
  word_fits l few free = omega (arith, stamp_same (word_in marks walk r) q l (word_free l free), word_stamp)

  pub new_word : with_mark marks walk q r r ≡ word_in marks walk r + 2 ^ q
  unfolding with_mark
  new_word = rw (eq-eqb r r refl) refl

  pub old_word : (y : ℕ) → y ≢ r → with_mark marks walk q r y ≡ marks y
  unfolding with_mark
  old_word y n = rw (ne_eqb y r n) refl

  module _ (l : q < 16) (free : ¬ Mark marks walk q r) where
    pub mark_new : (p y : ℕ) → Mark (with_mark marks walk q r) walk p y → Mark marks walk p y ⊎ ((p ≡ q) × (y ≡ r))
    mark_new p y m = by (ℕ_discrete y r) (ℕ_discrete p q)
      where
        by : Dec (y ≡ r) → Dec (p ≡ q) → Mark marks walk p y ⊎ ((p ≡ q) × (y ≡ r))
        by (no n) d = let e = old_word y n in inl (record { small = m.small; stamp = rw e at m.stamp; held = rw e at m.held })
        by (yes e) (yes f) = inr (f, e)
        by (yes e) (no f) =
            let a : bit (word_in marks walk r + 2 ^ q) p ≡ 1 = rw (e, new_word) at m.held in
            inl (rw e (word_mark p m.small (sym (set_other (word_in marks walk r) q p f (word_free l free)) ∙ a)))

    pub mark_stamped : Stamped marks walk → Stamped (with_mark marks walk q r) walk
    mark_stamped s = record { early = λ y. early y (ℕ_discrete y r); few = s.few }
      where
        early : (y : ℕ) → Dec (y ≡ r) → with_mark marks walk q r y / 65536 ≤ walk
        early y (yes e) = rw (e, new_word, stamp_same (word_in marks walk r) q l (word_free l free), word_stamp) (omega arith)
        early y (no n) = rw (old_word y n) (s.early y)

-- What the code asks of a record's word.
pub marked_by : (marks : ℕ → ℕ) (walk q r : ℕ) → q < 16 → (b : Bool) → b ≡ holds (word_in marks walk r) q → Marked marks walk q r b
marked_by marks walk q r l true e = word_mark marks walk q r q l (held (word_in marks walk r) q (sym e))
marked_by marks walk q r l false e = λ m. omega (arith, not_held (word_in marks walk r) q (sym e), mark_word marks walk q r q m)

-- ---- in the words of the call table
pub alone_refl : (n : ℕ) (words : List ℕ) → MarksAlone n words words
alone_refl n words = record { long = refl; above = λ i. refl; states = λ i. refl; thirds = λ i. refl; past = λ p l. refl }

pub alone_trans : {n : ℕ} {words words' words'' : List ℕ} → MarksAlone n words words' → MarksAlone n words' words'' → MarksAlone n words words''
alone_trans a b = record {
  long = b.long ∙ a.long;
  above = λ i. b.above i ∙ a.above i;
  states = λ i. b.states i ∙ a.states i;
  thirds = λ i. b.thirds i ∙ a.thirds i;
  past = λ p l. b.past p l ∙ a.past p l;
}

-- Where marks alone differ, they do among more records too,
pub alone_up : {m n : ℕ} {words words' : List ℕ} → m ≤ n → MarksAlone m words words' → MarksAlone n words words'
alone_up l a = record { long = a.long; above = a.above; states = a.states; thirds = a.thirds; past = λ p h. a.past p (omega arith) }

-- the call records are the same
pub alone_calls : {n : ℕ} {words words' : List ℕ} → MarksAlone n words words' → (m : ℕ) → open_calls words' m ≡ open_calls words m
alone_calls {n} {words} {words'} a m = λ d. record { count = m; action = λ i. action i d; state = λ i. a.states i d; round = λ i. round i d }
  where
    action : (i : ℕ) → get_or words' (call_width * i) 0 / action_unit ≡ get_or words (call_width * i) 0 / action_unit
    action i = omega (arith, a.above i)

    round : (i : ℕ) → get_or words' (call_width * i) 0 / round_unit % round_top ≡ get_or words (call_width * i) 0 / round_unit % round_top
    round i = ap (λ (w : ℕ). w % round_top) (a.above i)

-- and 0 past them
pub alone_stored : {n : ℕ} {words words' : List ℕ} → MarksAlone n words words' → Stored call_width words n → Stored call_width words' n
alone_stored a s = record { fits = omega (arith, a.long, s.fits); most = s.most; past = λ i l. a.past i l ∙ s.past i l }

-- One mark more, in the words.
pub put_marked : {words words' : List ℕ} {r word : ℕ} (walk q : ℕ) → MarksPut words r word words' → word ≡ word_in (mark_words words) walk r + 2 ^ q
    → mark_words words' ≡ with_mark (mark_words words) walk q r
put_marked {words} {words'} {r} {word} walk q p e = λ d i. at i (ℕ_discrete i r) d
  where
    at : (i : ℕ) → Dec (i ≡ r) → mark_words words' i ≡ with_mark (mark_words words) walk q r i
    at i (yes z) = rw z (p.here ∙ e ∙ sym (new_word (mark_words words) walk q r))
    at i (no n) = p.other i n ∙ sym (old_word (mark_words words) walk q r i n)
