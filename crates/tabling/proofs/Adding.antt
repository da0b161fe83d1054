-- Tables with one record more, and tables that have no room for one. Assumes nothing.
use Prim.Native.Nat.{ℕ, ◌+◌, ◌<◌, ◌-◌}
use native.Mathlib.Omega.{arith}
use native.Mathlib.Decide.{dec_lt}
use mathlib.Core.Path.{◌≡◌, refl, sym, ap, ◌∙◌}
use mathlib.Core.List.{List}
use mathlib.Core.Logic.{◌⊎◌, inl, inr, ⊎_elim, ◌≢◌}
use Rattle.steps.specs.State.{State}
use Rattle.steps.specs.Counting.{Outnumbers}
use Rattle.steps.proofs.Deductions.{Does}
use Rattle.steps.proofs.Execution.{Ends}
use Rattle.steps.proofs.Tables.{Reached}
use Rattle.steps.proofs.Rows.{table_full}
use Rattle.records.specs.Records.{Calls, Answers, Bodies}
use Rattle.records.specs.Storage.{CallAt, AnswerAt, NoCall, NoAnswer, CallAdded, AnswerAdded}
use Rattle.records.proofs.Growth.{Tables, tables, Grew, grew_call, grew_answer, held_call_up, call_down, answer_down, row_once}
use Rattle.records.proofs.Justification.{Has, Proper, Justified, justified_up, record_ends}
use Rattle.tabling.proofs.Evidence.{Valid, inside_of}

-- a number below n + 1 is below n or is n
pub last_one : {q n : ℕ} → q < n + 1 → (q < n) ⊎ (q ≡ n)
last_one {q} {n} h = elim (dec_lt q n) [ yes l ↦ inl l | no m ↦ inr (omega arith) ]

module _ {bodies : Bodies} {Root : ℕ → State → Type 0} {t : Tables} (v : Valid bodies Root t) where
  abbrev Calls_of : ℕ × State → Type 0
  Calls_of c = Reached Does (Has bodies) Root c.0 c.1

  abbrev Answers_of : ℕ × State × State → Type 0
  Answers_of c = Reached Does (Has bodies) Root c.0 c.1 × Ends Does (Has bodies) c.0 c.1 c.2

  -- ---- one more
  module _ (proper : Proper bodies) where
    pub valid_call : {a r : ℕ} {D : State} {calls' : Calls} → CallAdded t.calls a D r calls' → NoCall t.calls a D → Reached Does (Has bodies) Root a D → Valid bodies Root (tables calls' t.answers)
    valid_call {a} {D = D} {calls'} p none r =
        let g : Grew t (tables calls' t.answers) = grew_call t p in
        let new = p.new in
        record {
          roots = λ b E h. held_call_up g (b, E) (v.roots b E h);
          calls_once = λ i j b E l h x y. ⊎_elim
              (λ (k : j < t.calls.count). v.calls_once i j b E l k (call_down g (omega arith) x) (call_down g k y))
              (λ (z : j ≡ t.calls.count). let y' : CallAt calls' t.calls.count b E = rw z at y in
              none i (omega arith) (call_down g (omega arith) (record { has_action = x.has_action ∙ sym y'.has_action ∙ new.has_action; has_state = x.has_state ∙ sym y'.has_state ∙ new.has_state })))
              (last_one (rw p.count at h));
          answers_once = v.answers_once;
          reached = λ i h. ⊎_elim (λ (k : i < t.calls.count). rw (g.action_same k, g.state_same k) (v.reached i k)) (λ (z : i ≡ t.calls.count). rw (z, new.has_action, new.has_state) r) (last_one (rw p.count at h));
          justified = λ x h. justified_up g (inside_of v) h proper (v.justified x h);
        }

    pub valid_answer : {row rule r : ℕ} {f : State} {evidence : List ℕ} {answers' : Answers} → AnswerAdded t.answers row f rule evidence r answers' → NoAnswer t.answers row f
        → Justified bodies (tables t.calls answers') t.answers.count → Valid bodies Root (tables t.calls answers')
    valid_answer {answers' = answers'} p none j =
        let g : Grew t (tables t.calls answers') = grew_answer t p in
        let new = p.new in
        record {
          roots = v.roots;
          calls_once = v.calls_once;
          answers_once = λ x y row' f' l h c d. ⊎_elim
              (λ (k : y < t.answers.count). v.answers_once x y row' f' l k (answer_down g (omega arith) c) (answer_down g k d))
              (λ (z : y ≡ t.answers.count). let d' : AnswerAt answers' t.answers.count row' f' = rw z at d in
              none x (omega arith) (answer_down g (omega arith) (record { has_call = c.has_call ∙ sym d'.has_call ∙ new.has_call; has_final = c.has_final ∙ sym d'.has_final ∙ new.has_final })))
              (last_one (rw p.count at h));
          reached = v.reached;
          justified = λ x h. ⊎_elim (λ (k : x < t.answers.count). justified_up g (inside_of v) k proper (v.justified x k)) (λ (z : x ≡ t.answers.count). rw z j) (last_one (rw p.count at h));
        }

  -- ---- the records as rows
  abbrev pub call_row : ℕ → ℕ × State
  call_row i = (t.calls.action i, t.calls.state i)

  abbrev pub answer_row : ℕ → ℕ × State × State
  answer_row x = (t.calls.action (t.answers.call x), t.calls.state (t.answers.call x), t.answers.final x)

  call_here : {i : ℕ} {c : ℕ × State} → call_row i ≡ c → CallAt t.calls i c.0 c.1
  call_here e = record { has_action = ap (λ (c : ℕ × State). c.0) e; has_state = ap (λ (c : ℕ × State). c.1) e }

  pub calls_apart : (i j : ℕ) → i < j → j < t.calls.count → call_row i ≢ call_row j
  calls_apart i j l h e = v.calls_once i j _ _ l h (call_here e) (record { has_action = refl; has_state = refl })

  -- an answer's call record is where its call stands
  answer_here : {x row : ℕ} {f : State} → x < t.answers.count → row < t.calls.count → answer_row x ≡ (t.calls.action row, t.calls.state row, f) → AnswerAt t.answers x row f
  answer_here {x} {row} l h e = record {
    has_call = row_once t.calls v.calls_once _ row _ _ (inside_of v x l) h (record { has_action = ap (λ (c : ℕ × State × State). c.0) e; has_state = ap (λ (c : ℕ × State × State). c.1) e }) (record { has_action = refl; has_state = refl });
    has_final = ap (λ (c : ℕ × State × State). c.2) e;
  }

  pub answers_apart : (x y : ℕ) → x < y → y < t.answers.count → answer_row x ≢ answer_row y
  answers_apart x y l h e = v.answers_once x y _ _ l h (answer_here (omega arith) (inside_of v y h) e) (record { has_call = refl; has_final = refl })

  pub answer_true : (x : ℕ) → x < t.answers.count → Answers_of (answer_row x)
  answer_true x l = (v.reached _ (inside_of v x l), record_ends v.justified Root x l)

  -- ---- no room
  pub full_calls : {a : ℕ} {D : State} → NoCall t.calls a D → Reached Does (Has bodies) Root a D → Outnumbers Calls_of t.calls.count
  full_calls {a} {D} none c = table_full call_row Calls_of t.calls.count calls_apart v.reached (a, D) c (λ i l e. none i l (call_here e))

  pub full_answers : {row : ℕ} {f : State} → row < t.calls.count → NoAnswer t.answers row f → Ends Does (Has bodies) (t.calls.action row) (t.calls.state row) f → Outnumbers Answers_of t.answers.count
  full_answers {row} {f} h none c = table_full answer_row Answers_of t.answers.count answers_apart answer_true (t.calls.action row, t.calls.state row, f) (v.reached row h, c) (λ x l e. none x l (answer_here l h e))

-- More calls or answers than the tables have places.
abbrev pub Outgrown : Bodies → (ℕ → State → Type 0) → ℕ → ℕ → Type 0
Outgrown bodies Root call_places answer_places =
    Outnumbers (λ (c : ℕ × State). Reached Does (Has bodies) Root c.0 c.1) call_places
    ⊎ Outnumbers (λ (c : ℕ × State × State). Reached Does (Has bodies) Root c.0 c.1 × Ends Does (Has bodies) c.0 c.1 c.2) answer_places
