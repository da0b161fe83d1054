-- The two tables together, how they grow, and what holds of them throughout. Assumes nothing.
use Prim.Native.Nat.{ℕ, ◌<◌, ◌≤◌}
use native.Mathlib.Omega.{arith}
use native.Mathlib.Decide.{dec_lt}
use mathlib.Core.Path.{◌≡◌, refl, ◌∙◌}
use Rattle.steps.specs.State.{State}
use Rattle.records.specs.Records.{Calls, Answers}
use Rattle.records.specs.Storage.{CallAt, AnswerAt, CallAdded, AnswerAdded}

pub record Tables : Type 0 where
  pub calls : Calls
  pub answers : Answers

abbrev pub tables : Calls → Answers → Tables
tables calls answers = record { calls = calls; answers = answers }

-- The tables hold a call; they hold an answer of a call record.
abbrev pub HeldCall : Tables → ℕ × State → Type 0
HeldCall t c = (i : ℕ) × (i < t.calls.count) × CallAt t.calls i c.0 c.1

abbrev pub Held : Tables → ℕ → State → Type 0
Held t row f = (x : ℕ) × (x < t.answers.count) × AnswerAt t.answers x row f

-- Every record of t stands in u as it stood in t.
pub record Grew (t u : Tables) : Type 0 where
  pub calls_more : t.calls.count ≤ u.calls.count
  pub answers_more : t.answers.count ≤ u.answers.count
  pub action_same : {i : ℕ} → i < t.calls.count → u.calls.action i ≡ t.calls.action i
  pub state_same : {i : ℕ} → i < t.calls.count → u.calls.state i ≡ t.calls.state i
  pub call_round : {i : ℕ} → i < t.calls.count → u.calls.round i ≡ t.calls.round i
  pub call_same : {x : ℕ} → x < t.answers.count → u.answers.call x ≡ t.answers.call x
  pub final_same : {x : ℕ} → x < t.answers.count → u.answers.final x ≡ t.answers.final x
  pub rule_same : {x : ℕ} → x < t.answers.count → u.answers.rule x ≡ t.answers.rule x
  pub evidence_same : {x : ℕ} (q : ℕ) → x < t.answers.count → q < 16 → u.answers.evidence x q ≡ t.answers.evidence x q
  pub answer_round : {x : ℕ} → x < t.answers.count → u.answers.round x ≡ t.answers.round x

pub grew_refl : (t : Tables) → Grew t t
grew_refl t = record {
  calls_more = omega arith;
  answers_more = omega arith;
  action_same = λ l. refl;
  state_same = λ l. refl;
  call_round = λ l. refl;
  call_same = λ l. refl;
  final_same = λ l. refl;
  rule_same = λ l. refl;
  evidence_same = λ q l h. refl;
  answer_round = λ l. refl;
}

pub grew_trans : {t u v : Tables} → Grew t u → Grew u v → Grew t v
grew_trans g h = record {
  calls_more = omega (arith, g.calls_more, h.calls_more);
  answers_more = omega (arith, g.answers_more, h.answers_more);
  action_same = λ l. h.action_same (omega (arith, g.calls_more)) ∙ g.action_same l;
  state_same = λ l. h.state_same (omega (arith, g.calls_more)) ∙ g.state_same l;
  call_round = λ l. h.call_round (omega (arith, g.calls_more)) ∙ g.call_round l;
  call_same = λ l. h.call_same (omega (arith, g.answers_more)) ∙ g.call_same l;
  final_same = λ l. h.final_same (omega (arith, g.answers_more)) ∙ g.final_same l;
  rule_same = λ l. h.rule_same (omega (arith, g.answers_more)) ∙ g.rule_same l;
  evidence_same = λ q l k. h.evidence_same q (omega (arith, g.answers_more)) k ∙ g.evidence_same q l k;
  answer_round = λ l. h.answer_round (omega (arith, g.answers_more)) ∙ g.answer_round l;
}

pub grew_call : (t : Tables) {a : ℕ} {D : State} {r : ℕ} {calls' : Calls} → CallAdded t.calls a D r calls' → Grew t (tables calls' t.answers)
grew_call t p = record {
  calls_more = omega (arith, p.count);
  answers_more = omega arith;
  action_same = λ {i} l. p.action_kept i l;
  state_same = λ {i} l. p.state_kept i l;
  call_round = λ {i} l. p.round_kept i l;
  call_same = λ l. refl;
  final_same = λ l. refl;
  rule_same = λ l. refl;
  evidence_same = λ q l h. refl;
  answer_round = λ l. refl;
}

pub grew_answer : (t : Tables) {row f rule : ℕ} {evidence : _} {r : ℕ} {answers' : Answers} → AnswerAdded t.answers row f rule evidence r answers' → Grew t (tables t.calls answers')
grew_answer t p = record {
  calls_more = omega arith;
  answers_more = omega (arith, p.count);
  action_same = λ l. refl;
  state_same = λ l. refl;
  call_round = λ l. refl;
  call_same = λ {x} l. p.call_kept x l;
  final_same = λ {x} l. p.final_kept x l;
  rule_same = λ {x} l. p.rule_kept x l;
  evidence_same = λ {x} q l h. p.evidence_kept x q l h;
  answer_round = λ {x} l. p.round_kept x l;
}

module _ {t u : Tables} (g : Grew t u) where
  pub call_up : {i a : ℕ} {D : State} → i < t.calls.count → CallAt t.calls i a D → CallAt u.calls i a D
  call_up l c = record { has_action = g.action_same l ∙ c.has_action; has_state = g.state_same l ∙ c.has_state }

  pub call_down : {i a : ℕ} {D : State} → i < t.calls.count → CallAt u.calls i a D → CallAt t.calls i a D
  call_down {i} l c = record { has_action = rw (g.action_same l) at c.has_action; has_state = rw (g.state_same l) at c.has_state }

  pub answer_up : {x row f : ℕ} → x < t.answers.count → AnswerAt t.answers x row f → AnswerAt u.answers x row f
  answer_up l a = record { has_call = g.call_same l ∙ a.has_call; has_final = g.final_same l ∙ a.has_final }

  pub answer_down : {x row f : ℕ} → x < t.answers.count → AnswerAt u.answers x row f → AnswerAt t.answers x row f
  answer_down l a = record { has_call = rw (g.call_same l) at a.has_call; has_final = rw (g.final_same l) at a.has_final }

  pub held_call_up : (c : ℕ × State) → HeldCall t c → HeldCall u c
  held_call_up c (i, l, h) = (i, omega (arith, g.calls_more), call_up l h)

  pub held_up : (row f : ℕ) → Held t row f → Held u row f
  held_up row f (x, l, h) = (x, omega (arith, g.answers_more), answer_up l h)

-- The answers below `known` are of call records that stand.
abbrev pub Inside : Tables → ℕ → Type 0
Inside t known = (x : ℕ) → x < known → t.answers.call x < t.calls.count

-- No call stands in two records.
abbrev pub CallsOnce : Calls → Type 0
CallsOnce calls = (i j a D : ℕ) → i < j → j < calls.count → CallAt calls i a D → CallAt calls j a D → ⊥

-- No answer does.
abbrev pub AnswersOnce : Answers → Type 0
AnswersOnce answers = (x y row f : ℕ) → x < y → y < answers.count → AnswerAt answers x row f → AnswerAt answers y row f → ⊥

pub row_once : (calls : Calls) → CallsOnce calls → (i j a D : ℕ) → i < calls.count → j < calls.count → CallAt calls i a D → CallAt calls j a D → i ≡ j
row_once calls once i j a D k l c d = by (dec_lt i j) (dec_lt j i)
  where
    by : Dec (i < j) → Dec (j < i) → i ≡ j
    by (yes p) q = absurd (once i j a D p l c d)
    by (no p) (yes q) = absurd (once j i a D q k d c)
    by (no p) (no q) = omega arith
