-- The words of the rows: as tables they give the rows' fields. Assumes nothing.
use Prim.Native.Nat.{ℕ, zero, suc, ◌+◌, ◌-◌, ◌*◌, ◌<◌, ◌≤◌}
use native.Mathlib.Omega.{arith}
use mathlib.Core.Path.{◌≡◌, refl, sym, ap, ◌∙◌}
use mathlib.Core.List.{List, [], ◌∷◌, ◌++◌, append_assoc, Memᴰ}
use lib.ListN.{get_or, length, replicate, length-append, length-replicate, get_or-append}
use lib.Seq.{get_or-append-add, get_or-append_seam}
use Rattle.records.specs.Records.{call_table, answer_table, call_width, answer_width}
use Rattle.records.proofs.Growth.{tables, Grew}
use Rattle.canonical.specs.Rows.{CallRow, AnswerRow, Rows, call_at, call_words, answer_words, filled}
use Rattle.canonical.proofs.Onward.{answer_at}
use Rattle.canonical.proofs.Prefix.{view}

-- zeros behind a list are what is read past it
zeros : (n j : ℕ) → ◌≡◌ {A = ℕ} (get_or (replicate n 0) j 0) 0
zeros zero j = refl
zeros (suc n) zero = refl
zeros (suc n) (suc j) = zeros n j

pub getD_pad : (xs : List ℕ) (n j : ℕ) → get_or (xs ++ replicate n 0) j 0 ≡ get_or xs j 0
getD_pad [] n j = zeros n j
getD_pad (x ∷ xs) n zero = refl
getD_pad (x ∷ xs) n (suc j) = getD_pad xs n j

-- ---- calls

pub call_words_length : (cs : List CallRow) → length (call_words cs) ≡ call_width * length cs
unfolding call_words
call_words_length [] = refl
call_words_length (c ∷ cs) = omega (arith, call_words_length cs)

past_call : (c : CallRow) (cs : List CallRow) (i k j : ℕ) → j ≡ call_width * suc i + k → get_or (call_words (c ∷ cs)) j 0 ≡ get_or (call_words cs) (call_width * i + k) 0
unfolding call_words
past_call c cs i k j e = let z : j ≡ suc (suc (suc (call_width * i + k))) = omega arith in ap (λ (m : ℕ). get_or (call_words (c ∷ cs)) m 0) z

pub call_action : (cs : List CallRow) (i : ℕ) → i < length cs → get_or (call_words cs) (call_width * i) 0 ≡ (call_at cs i).action
unfolding call_words
call_action [] i l = absurd (omega arith)
call_action (c ∷ cs) zero l = refl
call_action (c ∷ cs) (suc i) l = past_call c cs i 0 (call_width * suc i) (omega arith) ∙ ap (λ (m : ℕ). get_or (call_words cs) m 0) (omega arith) ∙ call_action cs i (omega arith)

pub call_state : (cs : List CallRow) (i : ℕ) → i < length cs → get_or (call_words cs) (call_width * i + 1) 0 ≡ (call_at cs i).state
unfolding call_words
call_state [] i l = absurd (omega arith)
call_state (c ∷ cs) zero l = refl
call_state (c ∷ cs) (suc i) l = past_call c cs i 1 (call_width * suc i + 1) (omega arith) ∙ call_state cs i (omega arith)

pub call_round : (cs : List CallRow) (i : ℕ) → i < length cs → get_or (call_words cs) (call_width * i + 2) 0 ≡ (call_at cs i).round
unfolding call_words
call_round [] i l = absurd (omega arith)
call_round (c ∷ cs) zero l = refl
call_round (c ∷ cs) (suc i) l = past_call c cs i 2 (call_width * suc i + 2) (omega arith) ∙ call_round cs i (omega arith)

-- ---- answers

-- the 16 evidence words
abbrev pub padded : List ℕ → List ℕ
padded es = es ++ replicate (16 - length es) 0

padded_length : (es : List ℕ) → length es ≤ 16 → length (padded es) ≡ 16
padded_length es h = omega (arith, length-append es (replicate (16 - length es) 0), length-replicate {A = ℕ} (16 - length es) 0)

-- A row's evidence has at most 16 words.
abbrev pub Short : List AnswerRow → Type 0
Short rs = (r : AnswerRow) → Memᴰ r rs → length r.evidence ≤ 16

module _ (r : AnswerRow) (rs : List AnswerRow) (short : length r.evidence ≤ 16) where
  row_words : answer_words (r ∷ rs) ≡ r.call ∷ r.final ∷ r.rule ∷ (padded r.evidence ++ (r.round ∷ answer_words rs))
  unfolding answer_words
  row_words = ap (λ (l : List ℕ). r.call ∷ r.final ∷ r.rule ∷ l) (sym (append_assoc r.evidence (replicate (16 - length r.evidence) 0) (r.round ∷ answer_words rs)))

  at_row : (j : ℕ) → get_or (answer_words (r ∷ rs)) (suc (suc (suc j))) 0 ≡ get_or (padded r.evidence ++ (r.round ∷ answer_words rs)) j 0
  at_row j = ap (λ (l : List ℕ). get_or l (suc (suc (suc j))) 0) row_words

  past_answer : (x k j : ℕ) → j ≡ answer_width * suc x + k → get_or (answer_words (r ∷ rs)) j 0 ≡ get_or (answer_words rs) (answer_width * x + k) 0
  past_answer x k j e =
      let z : j ≡ suc (suc (suc (16 + suc (answer_width * x + k)))) = omega arith in
      let w : length (padded r.evidence) + suc (answer_width * x + k) ≡ 16 + suc (answer_width * x + k) = ap (λ (n : ℕ). n + suc (answer_width * x + k)) (padded_length r.evidence short) in
      ap (λ (m : ℕ). get_or (answer_words (r ∷ rs)) m 0) z ∙ at_row (16 + suc (answer_width * x + k))
      ∙ ap (λ (m : ℕ). get_or (padded r.evidence ++ (r.round ∷ answer_words rs)) m 0) (sym w)
      ∙ get_or-append-add (padded r.evidence) (r.round ∷ answer_words rs) (suc (answer_width * x + k)) 0

  row_evidence : (q : ℕ) → q < 16 → get_or (answer_words (r ∷ rs)) (answer_width * 0 + 3 + q) 0 ≡ get_or r.evidence q 0
  row_evidence q h =
      let z : answer_width * 0 + 3 + q ≡ suc (suc (suc q)) = omega arith in
      ap (λ (m : ℕ). get_or (answer_words (r ∷ rs)) m 0) z ∙ at_row q
      ∙ get_or-append (padded r.evidence) (r.round ∷ answer_words rs) 0 q (omega (arith, padded_length r.evidence short)) ∙ getD_pad r.evidence (16 - length r.evidence) q

  row_round : get_or (answer_words (r ∷ rs)) 19 0 ≡ r.round
  row_round =
      at_row 16
      ∙ ap (λ (m : ℕ). get_or (padded r.evidence ++ (r.round ∷ answer_words rs)) m 0) (sym (padded_length r.evidence short))
      ∙ get_or-append_seam (padded r.evidence) r.round (answer_words rs) 0

short_tail : {r : AnswerRow} {rs : List AnswerRow} → Short (r ∷ rs) → Short rs
short_tail s a m = s a (Memᴰ.tail m)

short_head : {r : AnswerRow} {rs : List AnswerRow} → Short (r ∷ rs) → length r.evidence ≤ 16
short_head {r} s = s r (Memᴰ.head refl)

pub answer_words_length : (rs : List AnswerRow) → Short rs → length (answer_words rs) ≡ answer_width * length rs
unfolding answer_words
answer_words_length [] s = refl
answer_words_length (r ∷ rs) s = omega (arith, answer_words_length rs (short_tail s), ap length (row_words r rs (short_head s)), length-append (padded r.evidence) (r.round ∷ answer_words rs), padded_length r.evidence (short_head s))

pub answer_call : (rs : List AnswerRow) → Short rs → (x : ℕ) → x < length rs → get_or (answer_words rs) (answer_width * x) 0 ≡ (answer_at rs x).call
unfolding answer_words
answer_call [] s x l = absurd (omega arith)
answer_call (r ∷ rs) s zero l = refl
answer_call (r ∷ rs) s (suc x) l = past_answer r rs (short_head s) x 0 (answer_width * suc x) (omega arith) ∙ ap (λ (m : ℕ). get_or (answer_words rs) m 0) (omega arith) ∙ answer_call rs (short_tail s) x (omega arith)

pub answer_final : (rs : List AnswerRow) → Short rs → (x : ℕ) → x < length rs → get_or (answer_words rs) (answer_width * x + 1) 0 ≡ (answer_at rs x).final
unfolding answer_words
answer_final [] s x l = absurd (omega arith)
answer_final (r ∷ rs) s zero l = refl
answer_final (r ∷ rs) s (suc x) l = past_answer r rs (short_head s) x 1 (answer_width * suc x + 1) (omega arith) ∙ answer_final rs (short_tail s) x (omega arith)

pub answer_rule : (rs : List AnswerRow) → Short rs → (x : ℕ) → x < length rs → get_or (answer_words rs) (answer_width * x + 2) 0 ≡ (answer_at rs x).rule
unfolding answer_words
answer_rule [] s x l = absurd (omega arith)
answer_rule (r ∷ rs) s zero l = refl
answer_rule (r ∷ rs) s (suc x) l = past_answer r rs (short_head s) x 2 (answer_width * suc x + 2) (omega arith) ∙ answer_rule rs (short_tail s) x (omega arith)

pub answer_evidence : (rs : List AnswerRow) → Short rs → (x q : ℕ) → x < length rs → q < 16 → get_or (answer_words rs) (answer_width * x + 3 + q) 0 ≡ get_or (answer_at rs x).evidence q 0
answer_evidence [] s x q l h = absurd (omega arith)
answer_evidence (r ∷ rs) s zero q l h = row_evidence r rs (short_head s) q h
answer_evidence (r ∷ rs) s (suc x) q l h =
    past_answer r rs (short_head s) x (3 + q) (answer_width * suc x + 3 + q) (omega arith) ∙ ap (λ (m : ℕ). get_or (answer_words rs) m 0) (omega arith) ∙ answer_evidence rs (short_tail s) x q (omega arith) h

pub answer_round : (rs : List AnswerRow) → Short rs → (x : ℕ) → x < length rs → get_or (answer_words rs) (answer_width * x + 19) 0 ≡ (answer_at rs x).round
answer_round [] s x l = absurd (omega arith)
answer_round (r ∷ rs) s zero l = row_round r rs (short_head s)
answer_round (r ∷ rs) s (suc x) l = past_answer r rs (short_head s) x 19 (answer_width * suc x + 19) (omega arith) ∙ answer_round rs (short_tail s) x (omega arith)

-- The tables of the words, 0 past them, are the rows.
pub words_view : (t : Rows) (clen alen : ℕ) → Short t.answers
    → Grew (view t) (tables (call_table (filled clen (call_words t.calls)) (length t.calls)) (answer_table (filled alen (answer_words t.answers)) (length t.answers)))
words_view t clen alen s = record {
  calls_more = omega arith;
  answers_more = omega arith;
  action_same = λ {i} l. getD_pad cs (clen - length cs) (call_width * i) ∙ call_action t.calls i l;
  state_same = λ {i} l. getD_pad cs (clen - length cs) (call_width * i + 1) ∙ call_state t.calls i l;
  call_round = λ {i} l. getD_pad cs (clen - length cs) (call_width * i + 2) ∙ call_round t.calls i l;
  call_same = λ {x} l. getD_pad rs (alen - length rs) (answer_width * x) ∙ answer_call t.answers s x l;
  final_same = λ {x} l. getD_pad rs (alen - length rs) (answer_width * x + 1) ∙ answer_final t.answers s x l;
  rule_same = λ {x} l. getD_pad rs (alen - length rs) (answer_width * x + 2) ∙ answer_rule t.answers s x l;
  evidence_same = λ {x} q l h. getD_pad rs (alen - length rs) (answer_width * x + 3 + q) ∙ answer_evidence t.answers s x q l h;
  answer_round = λ {x} l. getD_pad rs (alen - length rs) (answer_width * x + 19) ∙ answer_round t.answers s x l;
}
  where
    cs : List ℕ
    cs = call_words t.calls

    rs : List ℕ
    rs = answer_words t.answers
