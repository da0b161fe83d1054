-- The words of the two tables, 0 past their records, are the words of the rows read from them. Assumes nothing.
use Prim.Native.Nat.mul
use Prim.Native.Nat.{ℕ, zero, suc, ◌+◌, ◌-◌, ◌*◌, ◌<◌, ◌≤◌}
use native.Mathlib.Omega.{arith}
use native.Mathlib.Decide.{dec_lt}
use mathlib.Core.Path.{◌≡◌, sym, ap, subst, ◌∙◌}
use mathlib.Core.List.{List, map}
use lib.ListN.{get_or, length, replicate, length-append, length-replicate, get_or-eq_default}
use lib.Seq.{ext_get_or}
use Rattle.records.specs.Records.{Bodies, call_table, answer_table, call_width, answer_width}
use Rattle.records.specs.Storage.{Stored}
use Rattle.records.proofs.Growth.{Tables, tables}
use Rattle.canonical.specs.Rows.{CallRow, AnswerRow, Rows, call_words, answer_words, filled, numbers}
use Rattle.canonical.proofs.RowWords.{Short, getD_pad, call_words_length, call_action, call_state, call_round, answer_words_length, answer_call, answer_final, answer_rule, answer_evidence, answer_round}
use Rattle.canonical.proofs.TableRows.{call_row, answer_row, rows_of, rows_calls, rows_answers, rows_call, rows_answer, numbers_length, numbers_at, numbers_member}

-- The tables of the words.
abbrev pub in_rows : List ℕ → ℕ → List ℕ → ℕ → Tables
in_rows calls n answers m = tables (call_table calls n) (answer_table answers m)

filled_length : (words : List ℕ) (len : ℕ) → length words ≤ len → length (filled len words) ≡ len
filled_length words len h = omega (arith, length-append words (replicate (len - length words) 0), length-replicate {A = ℕ} (len - length words) 0)

-- a place as a record and a word of it
split : (w j : ℕ) → 0 < w → (i : ℕ) × (k : ℕ) × (j ≡ w * i + k) × (k < w)
split w zero h = (0, 0, omega arith, h)
split w (suc j) h = let (i, k, e, l) = split w j h in by i k e l (dec_lt (suc k) w)
  where
    by : (i k : ℕ) → j ≡ w * i + k → k < w → Dec (suc k < w) → (i : ℕ) × (k : ℕ) × (suc j ≡ w * i + k) × (k < w)
    by i k e l (yes m) = (i, suc k, omega arith, m)
    by i k e l (no m) = (suc i, 0, omega (arith, mul.suc w i), h)

module _ (bodies : Bodies) (calls : List ℕ) (n : ℕ) (answers : List ℕ) (m : ℕ) where
  abbrev t : Tables
  t = in_rows calls n answers m

  abbrev rows : Rows
  rows = rows_of bodies t

  pub calls_read : Stored call_width calls n → calls ≡ filled (length calls) (call_words rows.calls)
  unfolding call_row
  calls_read s =
      let long : length (call_words rows.calls) ≡ call_width * n = call_words_length rows.calls ∙ ap (λ (k : ℕ). call_width * k) (rows_calls bodies t) in
      ext_get_or 0 calls (filled (length calls) (call_words rows.calls)) (sym (filled_length (call_words rows.calls) (length calls) (omega (arith, s.fits))))
      (λ j l. (let (i, k, e, h) = split call_width j (omega arith) in by j i k e h (dec_lt i n)) ∙ sym (getD_pad (call_words rows.calls) (length calls - length (call_words rows.calls)) j))
    where
      word : (i k : ℕ) → i < n → k < 3 → get_or calls (call_width * i + k) 0 ≡ get_or (call_words rows.calls) (call_width * i + k) 0
      word i zero l h =
          let z : call_width * i + 0 ≡ call_width * i = omega arith in
          ap (λ (j : ℕ). get_or calls j 0) z ∙ sym (ap (λ (j : ℕ). get_or (call_words rows.calls) j 0) z ∙ call_action rows.calls i (omega (arith, rows_calls bodies t)) ∙ ap (λ (c : CallRow). c.action) (rows_call bodies t i l))
      word i (suc zero) l h = sym (call_state rows.calls i (omega (arith, rows_calls bodies t)) ∙ ap (λ (c : CallRow). c.state) (rows_call bodies t i l))
      word i (suc (suc zero)) l h = sym (call_round rows.calls i (omega (arith, rows_calls bodies t)) ∙ ap (λ (c : CallRow). c.round) (rows_call bodies t i l))
      word i (suc (suc (suc k))) l h = absurd (omega arith)

      by : (j i k : ℕ) → j ≡ call_width * i + k → k < 3 → Dec (i < n) → get_or calls j 0 ≡ get_or (call_words rows.calls) j 0
      by j i k e h (yes l) = ap (λ (j : ℕ). get_or calls j 0) e ∙ word i k l h ∙ ap (λ (j : ℕ). get_or (call_words rows.calls) j 0) (sym e)
      by j i k e h (no l) = s.past j (omega arith) ∙ sym (get_or-eq_default (call_words rows.calls) 0 (omega (arith, call_words_length rows.calls, rows_calls bodies t)))

  -- the step words of record x
  abbrev body_at : ℕ → List ℕ
  body_at x = bodies.words (t.answers.rule x) (t.calls.action (t.answers.call x))

  -- Evidence words past a body's steps are 0, and it has at most 16 steps.
  abbrev pub Unused : Type 0
  Unused = (x : ℕ) → x < m → (length (body_at x) ≤ 16) × ((q : ℕ) → length (body_at x) ≤ q → q < 16 → (answer_table answers m).evidence x q ≡ 0)

  pub rows_short : Unused → Short rows.answers
  unfolding rows_of answer_row
  rows_short unused a k =
      let (x, p, q, e) = numbers_member (answer_row bodies t) 0 m k in
      subst (λ (a : AnswerRow). length a.evidence ≤ 16) (sym e) (omega (arith, numbers_length ((answer_table answers m).evidence x) 0 (length (body_at x)), (unused x (omega arith)).0))

  pub answers_read : Stored answer_width answers m → Unused → answers ≡ filled (length answers) (answer_words rows.answers)
  unfolding answer_row
  answers_read s unused =
      let short = rows_short unused in
      let long : length (answer_words rows.answers) ≡ answer_width * m = answer_words_length rows.answers short ∙ ap (λ (k : ℕ). answer_width * k) (rows_answers bodies t) in
      ext_get_or 0 answers (filled (length answers) (answer_words rows.answers)) (sym (filled_length (answer_words rows.answers) (length answers) (omega (arith, s.fits))))
      (λ j l. (let (i, k, e, h) = split answer_width j (omega arith) in by j i k e h (dec_lt i m)) ∙ sym (getD_pad (answer_words rows.answers) (length answers - length (answer_words rows.answers)) j))
    where
      below : (x : ℕ) → x < m → x < length rows.answers
      below x l = omega (arith, rows_answers bodies t)

      evidence : (x q : ℕ) → x < m → q < 16 → get_or answers (answer_width * x + 3 + q) 0 ≡ get_or (answer_row bodies t x).evidence q 0
      evidence x q l h = cases (dec_lt q (length (body_at x)))
        where
          cases : Dec (q < length (body_at x)) → get_or answers (answer_width * x + 3 + q) 0 ≡ get_or (map ((answer_table answers m).evidence x) (numbers 0 (length (body_at x)))) q 0
          cases (yes k) = sym (numbers_at ((answer_table answers m).evidence x) 0 0 (length (body_at x)) q k ∙ ap ((answer_table answers m).evidence x) (omega arith))
          cases (no k) = (unused x l).1 q (omega arith) h ∙ sym (get_or-eq_default (map ((answer_table answers m).evidence x) (numbers 0 (length (body_at x)))) 0 (omega (arith, numbers_length ((answer_table answers m).evidence x) 0 (length (body_at x)))))

      word : (x k : ℕ) → x < m → k < 20 → get_or answers (answer_width * x + k) 0 ≡ get_or (answer_words rows.answers) (answer_width * x + k) 0
      word x zero l h =
          let z : answer_width * x + 0 ≡ answer_width * x = omega arith in
          ap (λ (j : ℕ). get_or answers j 0) z ∙ sym (ap (λ (j : ℕ). get_or (answer_words rows.answers) j 0) z ∙ answer_call rows.answers (rows_short unused) x (below x l) ∙ ap (λ (a : AnswerRow). a.call) (rows_answer bodies t x l))
      word x (suc zero) l h = sym (answer_final rows.answers (rows_short unused) x (below x l) ∙ ap (λ (a : AnswerRow). a.final) (rows_answer bodies t x l))
      word x (suc (suc zero)) l h = sym (answer_rule rows.answers (rows_short unused) x (below x l) ∙ ap (λ (a : AnswerRow). a.rule) (rows_answer bodies t x l))
      word x (suc (suc (suc q))) l h = last q (dec_lt q 16) h
        where
          last : (q : ℕ) → Dec (q < 16) → suc (suc (suc q)) < 20 → get_or answers (answer_width * x + suc (suc (suc q))) 0 ≡ get_or (answer_words rows.answers) (answer_width * x + suc (suc (suc q))) 0
          last q (yes g) h =
              let z : answer_width * x + suc (suc (suc q)) ≡ answer_width * x + 3 + q = omega arith in
              ap (λ (j : ℕ). get_or answers j 0) z ∙ evidence x q l g ∙ sym (ap (λ (j : ℕ). get_or (answer_words rows.answers) j 0) z ∙ answer_evidence rows.answers (rows_short unused) x q (below x l) g ∙ ap (λ (a : AnswerRow). get_or a.evidence q 0) (rows_answer bodies t x l))
          last q (no g) h =
              let z : answer_width * x + suc (suc (suc q)) ≡ answer_width * x + 19 = omega arith in
              ap (λ (j : ℕ). get_or answers j 0) z ∙ sym (ap (λ (j : ℕ). get_or (answer_words rows.answers) j 0) z ∙ answer_round rows.answers (rows_short unused) x (below x l) ∙ ap (λ (a : AnswerRow). a.round) (rows_answer bodies t x l))

      by : (j i k : ℕ) → j ≡ answer_width * i + k → k < 20 → Dec (i < m) → get_or answers j 0 ≡ get_or (answer_words rows.answers) j 0
      by j i k e h (yes l) = ap (λ (j : ℕ). get_or answers j 0) e ∙ word i k l h ∙ ap (λ (j : ℕ). get_or (answer_words rows.answers) j 0) (sym e)
      by j i k e h (no l) = s.past j (omega arith) ∙ sym (get_or-eq_default (answer_words rows.answers) 0 (omega (arith, answer_words_length rows.answers (rows_short unused), rows_answers bodies t)))
