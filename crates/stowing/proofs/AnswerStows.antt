-- Laws of answer records put aside and given back. Assumes nothing.
use Prim.Native.Nat.{ℕ, zero, suc, ◌+◌, ◌*◌, ◌/◌, ◌%◌, ◌<◌, ◌≤◌}
use native.Mathlib.Omega.{arith}
use native.Mathlib.Decide.{dec_lt, ℕ_discrete}
use native.Mathlib.Nat.{add-zero}
use mathlib.Core.Path.{◌≡◌, sym, ap, ◌∙◌}
use mathlib.Core.List.{List}
use mathlib.Core.Logic.{inl, inr}
use lib.ListN.{length, get_or}
use lib.Seq.{ext_get_or}
use Rattle.quarters.specs.Quarters.{quarter}
use Rattle.quarters.proofs.QuarterLaws.{four, quarter_0, quarter_1, quarter_2, quarter_3}
use Rattle.records.specs.Records.{Answers}
use Rattle.radix.specs.Lines.{Copied}
use Rattle.radix.proofs.Names.{word_at}
use Rattle.desk.specs.Desk.{packed, packed_answers, Written, ClearedFrom}
use Rattle.stowing.specs.Stowing.{answer_words, stowed_words, freed_words, plain_answers, packed_from, stowed_answers, AnswerAlike, EvidenceSmall, Stowed, Unstowed, AnswersGiven, stowed_record, AnswerLaid}

-- ---- records that are the same

pub alike_trans : {a b c : Answers} {x : ℕ} → AnswerAlike a b x → AnswerAlike b c x → AnswerAlike a c x
alike_trans s t = record {
  call = s.call ∙ t.call;
  final = s.final ∙ t.final;
  rule = s.rule ∙ t.rule;
  evidence = λ q l. s.evidence q l ∙ t.evidence q l;
}

pub alike_sym : {a b : Answers} {x : ℕ} → AnswerAlike a b x → AnswerAlike b a x
alike_sym s = record { call = sym s.call; final = sym s.final; rule = sym s.rule; evidence = λ q l. sym (s.evidence q l) }

-- A record whose words stay is the same,
pub plain_kept : (words words' : List ℕ) (m x : ℕ)
    → ((p : ℕ) → answer_words * x ≤ p → p < answer_words * x + 19 → get_or words' p 0 ≡ get_or words p 0) → AnswerAlike (plain_answers words' m) (plain_answers words m) x
plain_kept words words' m x same = record {
  call = same (answer_words * x) (omega arith) (omega arith);
  final = same (answer_words * x + 1) (omega arith) (omega arith);
  rule = same (answer_words * x + 2) (omega arith) (omega arith);
  evidence = λ q l. same (answer_words * x + 3 + q) (omega arith) (omega arith);
}

-- also where it stands in 8 words, whatever becomes of the fourth.
pub packed_kept : (from : ℕ) (words words' : List ℕ) (m x : ℕ)
    → ((j : ℕ) → j < 8 → (j ≡ 3 → ⊥) → get_or words' (from + stowed_words * x + j) 0 ≡ get_or words (from + stowed_words * x + j) 0)
    → AnswerAlike (packed_from from words' m) (packed_from from words m) x
packed_kept from words words' m x same = record {
  call = rw (add-zero (from + stowed_words * x)) at (same 0 (omega arith) (omega arith));
  final = same 1 (omega arith) (omega arith);
  rule = same 2 (omega arith) (omega arith);
  evidence = λ q l. ap (λ (v : ℕ). quarter v (q % 4)) (same (4 + q / 4) (omega arith) (omega arith));
}

-- ---- a record put aside

quarter_packed : (words : List ℕ) (at k : ℕ) → k < 4 → quarter (packed words at) k ≡ get_or words (at + k) 0 % 65536
quarter_packed words at = four (λ k. quarter (packed words at) k ≡ get_or words (at + k) 0 % 65536)
    (quarter_0 (packed words at) ∙ (rw (add-zero at) (omega arith)))
    (quarter_1 (packed words at) ∙ omega arith)
    (quarter_2 (packed words at) ∙ omega arith)
    (quarter_3 (packed words at) ∙ omega arith)

-- The quarters of the last four words are the evidence.
stowed_place : (words : List ℕ) (x p : ℕ) → p < 4 → (k : ℕ) → k < 4
    → quarter (get_or (stowed_record words x) (4 + p) 0) k ≡ get_or words (answer_words * x + (3 + 4 * p) + k) 0 % 65536
stowed_place words x = four
    (λ p. (k : ℕ) → k < 4 → quarter (get_or (stowed_record words x) (4 + p) 0) k ≡ get_or words (answer_words * x + (3 + 4 * p) + k) 0 % 65536)
    (quarter_packed words (answer_words * x + 3)) (quarter_packed words (answer_words * x + 7))
    (quarter_packed words (answer_words * x + 11)) (quarter_packed words (answer_words * x + 15))

stowed_one : (from : ℕ) {words words' : List ℕ} (m x : ℕ) → Written words (from + stowed_words * x) (stowed_record words x) words'
    → ((q : ℕ) → q < 16 → (plain_answers words m).evidence x q < 65536) → AnswerAlike (packed_from from words' m) (plain_answers words m) x
stowed_one from {words} {words'} m x w small = record {
  call = word_at words' (sym (add-zero (from + stowed_words * x))) ∙ w.here 0 (omega arith);
  final = w.here 1 (omega arith);
  rule = w.here 2 (omega arith);
  evidence = λ q l.
      ap (λ (v : ℕ). quarter v (q % 4)) (w.here (4 + q / 4) (omega arith))
      ∙ stowed_place words x (q / 4) (omega arith) (q % 4) (omega arith)
      ∙ ap (λ (v : ℕ). v % 65536) (word_at words {q = answer_words * x + 3 + q} (omega arith))
      ∙ omega (arith, small q l);
}

-- The records from x on are put aside; the words below those written stay.
pub record Stowing (most m x : ℕ) (words words' : List ℕ) : Type 0 where
  pub long : length words' ≡ length words
  pub done : (y : ℕ) → x ≤ y → y < m → AnswerAlike (stowed_answers most words' m) (plain_answers words m) y
  pub below : (p : ℕ) → p < freed_words * most + stowed_words * x → get_or words' p 0 ≡ get_or words p 0

pub stow_more : {most m x : ℕ} {words words' words'' : List ℕ} → Stowing most m (x + 1) words words' → EvidenceSmall words m → x < m → m ≤ most
    → Written words' (freed_words * most + stowed_words * x) (stowed_record words' x) words'' → Stowing most m x words words''
stow_more {most} {m} {x} {words} {words'} {words''} s small l few w =
    let stood : AnswerAlike (plain_answers words' m) (plain_answers words m) x = plain_kept words words' m x (λ p a b. s.below p (omega arith)) in
    record {
      long = w.long ∙ s.long;
      done = λ y a b. elim (ℕ_discrete y x) [
        | yes e ↦ rw e (alike_trans (stowed_one (freed_words * most) m x w (λ q h. omega (arith, stood.evidence q h, small.small x q l h))) stood)
        | no ne ↦ alike_trans (packed_kept (freed_words * most) words' words'' m y (λ j h k. w.other _ (inr (omega arith)))) (s.done y (omega arith) b)
      ];
      below = λ p h. w.other p (inl h) ∙ s.below p (omega arith);
    }

pub stow_all : {most m : ℕ} {words words' : List ℕ} → Stowing most m 0 words words' → Stowed most m words words'
stow_all s = record { long = s.long; alike = λ x l. s.done x (omega arith) l }

-- ---- a record given

laid_alike : (from : ℕ) {words words' : List ℕ} (m x : ℕ) → AnswerLaid words (from + stowed_words * x) x words'
    → AnswerAlike (plain_answers words' m) (packed_from from words m) x
laid_alike from {words} m x a = record {
  call = a.call;
  final = a.final;
  rule = a.rule;
  evidence = λ q l. a.evidence q l ∙ ap (λ (v : ℕ). quarter v (q % 4)) (word_at words (omega arith));
}

-- The first x records are given; the words from theirs on stay.
pub record Unstowing (most m x : ℕ) (words words' : List ℕ) : Type 0 where
  pub long : length words' ≡ length words
  pub done : (y : ℕ) → y < x → AnswerAlike (plain_answers words' m) (stowed_answers most words m) y
  pub past : (p : ℕ) → answer_words * x ≤ p → get_or words' p 0 ≡ get_or words p 0

pub unstow_more : {most m x : ℕ} {words words' words'' : List ℕ} → Unstowing most m x words words' → x < m → m ≤ most
    → AnswerLaid words' (freed_words * most + stowed_words * x) x words'' → Unstowing most m (x + 1) words words''
unstow_more {most} {m} {x} {words} {words'} {words''} s l few a = record {
  long = a.long ∙ s.long;
  done = λ y h. elim (ℕ_discrete y x) [
    | yes e ↦ rw e (alike_trans (laid_alike (freed_words * most) m x a) (packed_kept (freed_words * most) words words' m x (λ j b k. s.past _ (omega arith))))
    | no ne ↦ alike_trans (plain_kept words' words'' m y (λ p b k. a.other p (inl (omega arith)))) (s.done y (omega arith))
  ];
  past = λ p h. a.other p (inr (omega arith)) ∙ s.past p (omega arith);
}

pub unstow_all : {most m : ℕ} {words words' words'' : List ℕ} → Unstowing most m m words words' → ClearedFrom words' (answer_words * m) words''
    → Unstowed most m words words''
unstow_all {most} {m} {words} {words'} {words''} s c = record {
  long = c.long ∙ s.long;
  alike = λ x l. alike_trans (plain_kept words' words'' m x (λ p h k. c.below p (omega arith))) (s.done x l);
  past = c.cleared;
}

-- Records of 8 words that are copied to where those put aside stand, and given.
pub given_all : {most m : ℕ} {words words' words'' : List ℕ} → Copied 0 (freed_words * most) (stowed_words * m) words words' → Unstowed most m words' words''
    → AnswersGiven m words words''
given_all {most} {m} {words} {words'} {words''} c u = record {
  long = u.long ∙ c.long;
  alike = λ x l. alike_trans (u.alike x l) (moved x l);
  past = u.past;
}
  where
    at : (k p p' : ℕ) → k < stowed_words * m → p ≡ freed_words * most + k → p' ≡ 0 + k → get_or words' p 0 ≡ get_or words p' 0
    at k p p' l e e' = word_at words' e ∙ c.copied k l ∙ word_at words (sym e')

    moved : (x : ℕ) → x < m → AnswerAlike (stowed_answers most words' m) (packed_answers words m) x
    moved x l = record {
      call = at (stowed_words * x) _ _ (omega arith) (omega arith) (omega arith);
      final = at (stowed_words * x + 1) _ _ (omega arith) (omega arith) (omega arith);
      rule = at (stowed_words * x + 2) _ _ (omega arith) (omega arith) (omega arith);
      evidence = λ q h. ap (λ (v : ℕ). quarter v (q % 4)) (at (stowed_words * x + 4 + q / 4) _ _ (omega arith) (omega arith) (omega arith));
    }

-- ---- put aside and given back

-- Records put aside are so while their words stay, the fourth of each may change,
pub stowed_alike : {most m : ℕ} {words aside aside' : List ℕ} → Stowed most m words aside → length aside' ≡ length aside
    → ((x : ℕ) → x < m → AnswerAlike (stowed_answers most aside' m) (stowed_answers most aside m) x) → Stowed most m words aside'
stowed_alike s long same = record { long = long ∙ s.long; alike = λ x l. alike_trans (same x l) (s.alike x l) }

-- whatever becomes of the words that are free.
pub stowed_kept : {most m : ℕ} {words aside aside' : List ℕ} → Stowed most m words aside → length aside' ≡ length aside
    → ((p : ℕ) → freed_words * most ≤ p → get_or aside' p 0 ≡ get_or aside p 0) → Stowed most m words aside'
stowed_kept {most} {m} {words} {aside} {aside'} s long same =
    stowed_alike s long (λ x l. packed_kept (freed_words * most) aside aside' m x (λ j h k. same _ (omega arith)))

-- The words of a record are those of the same record.
alike_words : (words words' : List ℕ) (m x : ℕ) → AnswerAlike (plain_answers words m) (plain_answers words' m) x → (j : ℕ) → j < 19
    → get_or words (answer_words * x + j) 0 ≡ get_or words' (answer_words * x + j) 0
alike_words words words' m x s zero l = word_at words (add-zero (answer_words * x)) ∙ s.call ∙ word_at words' (sym (add-zero (answer_words * x)))
alike_words words words' m x s (suc zero) l = s.final
alike_words words words' m x s (suc (suc zero)) l = s.rule
alike_words words words' m x s (suc (suc (suc q))) l = word_at words (omega arith) ∙ s.evidence q (omega arith) ∙ word_at words' (omega arith)

-- What was put aside comes back word for word where the words past the records were 0.
pub unstowed_same : {most m : ℕ} {words aside back : List ℕ} → Stowed most m words aside → Unstowed most m aside back
    → ((p : ℕ) → answer_words * m ≤ p → get_or words p 0 ≡ 0) → back ≡ words
unstowed_same {most} {m} {words} {aside} {back} s u past =
    ext_get_or 0 back words (u.long ∙ s.long) (λ i l. elim (dec_lt i (answer_words * m)) [
      | yes h ↦ word_at back (split i)
          ∙ alike_words back words m (i / answer_words) (alike_trans (u.alike (i / answer_words) (omega arith)) (s.alike (i / answer_words) (omega arith)))
          (i % answer_words) (omega arith)
          ∙ word_at words (sym (split i))
      | no h ↦ u.past i (omega arith) ∙ sym (past i (omega arith))
    ])
  where
    split : (i : ℕ) → i ≡ answer_words * (i / answer_words) + i % answer_words
    split i = omega arith
