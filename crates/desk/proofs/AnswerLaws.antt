-- Laws of answer records while a run lasts: one put, and all of them given. Assumes nothing.
use Prim.Native.Nat.{ℕ, ◌+◌, ◌-◌, ◌*◌, ◌/◌, ◌%◌, ◌<◌, ◌≤◌}
use native.Mathlib.Omega.{arith}
use native.Mathlib.Decide.{dec_lt, ℕ_discrete}
use native.Mathlib.Nat.{add-zero}
use mathlib.Core.Path.{◌≡◌, refl, sym, ap, ◌∙◌}
use mathlib.Core.Logic.{inl, inr, ⊎_elim}
use mathlib.Core.List.{List, [], ◌∷◌, ◌++◌}
use lib.ListN.{length, get_or, set, length-set, length-append, get_or-append}
use lib.Seq.{get_or-set_same, get_or-set_other, get_or-append-add}
use borrow.Author.Count.{below_none, below_more}
use Rattle.steps.specs.State.{State}
use Rattle.quarters.specs.Quarters.{quarter}
use Rattle.quarters.proofs.QuarterLaws.{four, quarter_0, quarter_1, quarter_2, quarter_3}
use Rattle.records.specs.Records.{answer_width}
use Rattle.records.specs.Storage.{AnswerAdded}
use Rattle.desk.specs.Desk.{packed_width, packed_answers, packed, packed_record, given_record, Written}
use Rattle.desk.specs.Desk.{AnswerClosed, AnswersSpread, AnswersClosed, ClearedFrom}

-- ---- words written one after another

pub written_one : (words : List ℕ) (at v : ℕ) → at < length words → Written words at (v ∷ []) (set words at v)
written_one words at v fits =
    let z : get_or (set words at v) (at + 0) 0 ≡ v = rw (add-zero at) (get_or-set_same words at v 0 fits) in
    record {
      long = simp length-set;
      other = λ p o. get_or-set_other words at p v 0 (⊎_elim (λ l. omega arith) (λ l. omega arith) o);
      here = below_more _ 0 (below_none _) z;
    }

pub written_append : {words words' words'' new more : List ℕ} {at : ℕ} → Written words at new words' → Written words' (at + length new) more words''
    → Written words at (new ++ more) words''
written_append {words} {words'} {words''} {new} {more} {at} a b =
    let e : length (new ++ more) ≡ length new + length more = length-append new more in
    record {
      long = b.long ∙ a.long;
      other = λ p o. b.other p (⊎_elim (λ l. inl (omega arith)) (λ l. inr (omega (arith, e))) o) ∙ a.other p (⊎_elim (λ l. inl l) (λ l. inr (omega (arith, e))) o);
      here = λ j l. elim (dec_lt j (length new)) [
        | yes h ↦ b.other (at + j) (inl (omega arith)) ∙ (a.here j h ∙ sym (get_or-append new more 0 j h))
        | no h ↦ later j (j - length new) (omega arith) (omega (arith, e))
      ];
    }
  where
    later : (j k : ℕ) → j ≡ length new + k → k < length more → get_or words'' (at + j) 0 ≡ get_or (new ++ more) j 0
    later j k e l = let z : at + j ≡ at + length new + k = omega arith in
        ap (λ (i : ℕ). get_or words'' i 0) z ∙ (b.here k l ∙ (sym (get_or-append-add new more k 0) ∙ ap (λ (i : ℕ). get_or (new ++ more) i 0) (sym e)))

pub written_store : {words words' new : List ℕ} {at : ℕ} (v : ℕ) → Written words at new words' → at + length new < length words
    → Written words at (new ++ (v ∷ [])) (set words' (at + length new) v)
written_store {words} {words'} {new} {at} v w fits = written_append w (written_one words' (at + length new) v (omega (arith, w.long)))

pub written_three : (words : List ℕ) (at a b c : ℕ) → at + 3 ≤ length words
    → Written words at (a ∷ b ∷ c ∷ []) (set (set (set words at a) (at + 1) b) (at + 2) c)
written_three words at a b c fits = written_store c (written_store b (written_one words at a (omega arith)) (omega arith)) (omega arith)

-- ---- one answer record more

quarter_packed : (evidence : List ℕ) (q k : ℕ) → k < 4 → quarter (packed evidence q) k ≡ get_or evidence (q + k) 0 % 65536
quarter_packed evidence q = four (λ k. quarter (packed evidence q) k ≡ get_or evidence (q + k) 0 % 65536)
    (quarter_0 (packed evidence q) ∙ (rw (add-zero q) (omega arith)))
    (quarter_1 (packed evidence q) ∙ omega arith)
    (quarter_2 (packed evidence q) ∙ omega arith)
    (quarter_3 (packed evidence q) ∙ omega arith)

-- The quarters of a record's last four words are the evidence.
packed_place : (row f rule r : ℕ) (evidence : List ℕ) (p : ℕ) → p < 4 → (k : ℕ) → k < 4
    → quarter (get_or (packed_record row f rule evidence r) (4 + p) 0) k ≡ get_or evidence (4 * p + k) 0 % 65536
packed_place row f rule r evidence = four
    (λ p. (k : ℕ) → k < 4 → quarter (get_or (packed_record row f rule evidence r) (4 + p) 0) k ≡ get_or evidence (4 * p + k) 0 % 65536)
    (quarter_packed evidence 0) (quarter_packed evidence 4) (quarter_packed evidence 8) (quarter_packed evidence 12)

module _ {words words' : List ℕ} (m row : ℕ) (f : State) (rule : ℕ) (evidence : List ℕ) (r : ℕ)
    (w : Written words (packed_width * m) (packed_record row f rule evidence r) words') where
  pub put_evidence : (q : ℕ) → q < 16 → (packed_answers words' (m + 1)).evidence m q ≡ get_or evidence q 0 % 65536
  put_evidence q l =
      let e : packed_width * m + 4 + q / 4 ≡ packed_width * m + (4 + q / 4) = omega arith in
      let z : 4 * (q / 4) + q % 4 ≡ q = omega arith in
      ap (λ (v : ℕ). quarter v (q % 4)) (ap (λ (i : ℕ). get_or words' i 0) e ∙ w.here (4 + q / 4) (omega arith))
      ∙ (packed_place row f rule r evidence (q / 4) (omega arith) (q % 4) (omega arith) ∙ ap (λ (i : ℕ). get_or evidence i 0 % 65536) z)

  pub put_added : ((q : ℕ) → q < 16 → get_or evidence q 0 < 65536) → AnswerAdded (packed_answers words m) row f rule evidence r (packed_answers words' (m + 1))
  put_added small = record {
    count = refl;
    call_kept = λ x l. w.other (packed_width * x) (inl (omega arith));
    final_kept = λ x l. w.other (packed_width * x + 1) (inl (omega arith));
    rule_kept = λ x l. w.other (packed_width * x + 2) (inl (omega arith));
    evidence_kept = λ x q l h. ap (λ (v : ℕ). quarter v (q % 4)) (w.other (packed_width * x + 4 + q / 4) (inl (omega arith)));
    round_kept = λ x l. w.other (packed_width * x + 3) (inl (omega arith));
    new = record { has_call = rw (add-zero (packed_width * m)) at (w.here 0 (omega arith)); has_final = w.here 1 (omega arith) };
    new_rule = w.here 2 (omega arith);
    new_evidence = λ q l. put_evidence q l ∙ omega (arith, small q l);
    new_round = w.here 3 (omega arith);
  }

-- ---- the answer records given

-- The evidence among the words of a record as it is given.
given_place : (words : List ℕ) (x p : ℕ) → p < 4 → (k : ℕ) → k < 4
    → get_or (given_record words x) (3 + (4 * p + k)) 0 ≡ quarter (get_or words (packed_width * x + (4 + p)) 0) k
given_place words x = four (λ p. (k : ℕ) → k < 4 → get_or (given_record words x) (3 + (4 * p + k)) 0 ≡ quarter (get_or words (packed_width * x + (4 + p)) 0) k)
    (four (λ k. get_or (given_record words x) (3 + (4 * 0 + k)) 0 ≡ quarter (get_or words (packed_width * x + 4) 0) k) refl refl refl refl)
    (four (λ k. get_or (given_record words x) (3 + (4 * 1 + k)) 0 ≡ quarter (get_or words (packed_width * x + 5) 0) k) refl refl refl refl)
    (four (λ k. get_or (given_record words x) (3 + (4 * 2 + k)) 0 ≡ quarter (get_or words (packed_width * x + 6) 0) k) refl refl refl refl)
    (four (λ k. get_or (given_record words x) (3 + (4 * 3 + k)) 0 ≡ quarter (get_or words (packed_width * x + 7) 0) k) refl refl refl refl)

-- One record written is given.
closed_one : {words words' : List ℕ} {x : ℕ} (m : ℕ) → Written words (answer_width * x) (given_record words x) words' → AnswerClosed words m words' x
closed_one {words} {words'} {x} m w = record {
  call = ap (λ (i : ℕ). get_or words' i 0) (sym (add-zero (answer_width * x))) ∙ w.here 0 (omega arith);
  final = w.here 1 (omega arith);
  rule = w.here 2 (omega arith);
  evidence = λ q l.
      let e : answer_width * x + 3 + q ≡ answer_width * x + (3 + q) = omega arith in
      let z : q ≡ 4 * (q / 4) + q % 4 = omega arith in
      let d : packed_width * x + (4 + q / 4) ≡ packed_width * x + 4 + q / 4 = omega arith in
      ap (λ (i : ℕ). get_or words' i 0) e ∙ (w.here (3 + q) (omega arith) ∙ (ap (λ (i : ℕ). get_or (given_record words x) (3 + i) 0) z
      ∙ (given_place words x (q / 4) (omega arith) (q % 4) (omega arith) ∙ ap (λ (i : ℕ). quarter (get_or words i 0) (q % 4)) d)));
  round = w.here 19 (omega arith);
}

-- A record whose words stay is given as it was.
closed_kept : {words words' words'' : List ℕ} {m y : ℕ} → AnswerClosed words m words' y
    → ((p : ℕ) → answer_width * y ≤ p → p < answer_width * y + 20 → get_or words'' p 0 ≡ get_or words' p 0) → AnswerClosed words m words'' y
closed_kept {words} {words'} {words''} {m} {y} c same = record {
  call = same (answer_width * y) (omega arith) (omega arith) ∙ c.call;
  final = same (answer_width * y + 1) (omega arith) (omega arith) ∙ c.final;
  rule = same (answer_width * y + 2) (omega arith) (omega arith) ∙ c.rule;
  evidence = λ q l. same (answer_width * y + 3 + q) (omega arith) (omega arith) ∙ c.evidence q l;
  round = same (answer_width * y + 19) (omega arith) (omega arith) ∙ c.round;
}

-- A record given from words that are as they were.
closed_same : {words words₀ words' : List ℕ} {m x : ℕ} → AnswerClosed words m words' x
    → ((p : ℕ) → packed_width * x ≤ p → p < packed_width * x + 8 → get_or words p 0 ≡ get_or words₀ p 0) → AnswerClosed words₀ m words' x
closed_same {words} {words₀} {words'} {m} {x} c same = record {
  call = c.call ∙ same (packed_width * x) (omega arith) (omega arith);
  final = c.final ∙ same (packed_width * x + 1) (omega arith) (omega arith);
  rule = c.rule ∙ same (packed_width * x + 2) (omega arith) (omega arith);
  evidence = λ q l. c.evidence q l ∙ ap (λ (v : ℕ). quarter v (q % 4)) (same (packed_width * x + 4 + q / 4) (omega arith) (omega arith));
  round = c.round ∙ same (packed_width * x + 3) (omega arith) (omega arith);
}

pub spread_more : {words words' words'' : List ℕ} {m x : ℕ} → AnswersSpread words m (x + 1) words'
    → Written words' (answer_width * x) (given_record words' x) words'' → AnswersSpread words m x words''
spread_more {words} {words'} {words''} {m} {x} s w = record {
  long = w.long ∙ s.long;
  closed = λ y a b. elim (ℕ_discrete y x) [
    | yes e ↦ rw e (closed_same (closed_one m w) (λ p c d. s.below p (omega arith)))
    | no ne ↦ closed_kept (s.closed y (omega arith) b) (λ p c d. w.other p (inr (omega arith)))
  ];
  below = λ p l. w.other p (inl l) ∙ s.below p (omega arith);
}

pub all_closed : {words words' words'' : List ℕ} {m : ℕ} → AnswersSpread words m 0 words' → ClearedFrom words' (answer_width * m) words''
    → answer_width * m ≤ length words → m ≤ 65536 → AnswersClosed words m words''
all_closed s c fits most = record {
  long = c.long ∙ s.long;
  closed = λ x l. closed_kept (s.closed x (omega arith) l) (λ p a b. c.below p (omega arith));
  stored = record { fits = omega (arith, c.long, s.long); most = most; past = c.cleared };
}
