-- The words that a settled run leaves: as words of the rows they give all that `Finished` says. Assumes nothing.
use Prim.Native.Nat.{ℕ, ◌-◌, ◌/◌, ◌<◌, ◌≤◌}
use native.Mathlib.Omega.{arith}
use mathlib.Core.Path.{◌≡◌, refl, sym, ap, subst, ◌∙◌}
use mathlib.Core.List.{List}
use lib.ListN.{length, length-map, get_or-eq_default}
use Rattle.steps.specs.State.{State}
use Rattle.steps.specs.Run.{Run, Call, Answer}
use Rattle.steps.specs.Words.{run_of, step_of}
use Rattle.steps.specs.Widths.{rule_width}
use Rattle.steps.proofs.Lists.{member_at}
use Rattle.steps.proofs.AcceptanceLaws.{AcceptedWords}
use Rattle.steps.proofs.Exactness.{Exact}
use Rattle.steps.proofs.Rows.{table_exactly}
use Rattle.records.specs.Records.{call_table, answer_table, bodies_of, goal_rule}
use Rattle.records.proofs.Growth.{Tables, tables, Grew, Inside, CallsOnce, AnswersOnce, call_up, call_down, answer_down, row_once}
use Rattle.records.proofs.Justification.{Proper, justified_up, justified_in}
use Rattle.tabling.proofs.Evidence.{inside_of}
use Rattle.tabling.proofs.Closed.{C, A}
use Rattle.records.proofs.Numbers.{proper_of}
use Rattle.canonical.specs.Rows.{AnswerRow, Rows, call_at, call_words, answer_words, filled}
use Rattle.canonical.specs.Rounds.{after_round, Settled}
use Rattle.records.specs.Finished.{Finished}
use Rattle.canonical.proofs.Onward.{answer_at, no_answer}
use Rattle.canonical.proofs.Ways.{along_long}
use Rattle.canonical.proofs.Prefix.{view}
use Rattle.canonical.proofs.AfterRounds.{answer_came}
use Rattle.canonical.proofs.Justifying.{after_valid, after_justified}
use Rattle.canonical.proofs.Settling.{settled_exact}
use Rattle.canonical.proofs.RowWords.{Short, getD_pad, call_words_length, answer_words_length, words_view}

-- The evidence of a row is as long as its rule's body.
pub after_short : (rules goal : List ℕ) (few : length rules / rule_width ≤ goal_rule) (start : State) → Proper (bodies_of rules goal) → (n : ℕ) → Short (after_round rules goal start n).answers
after_short rules goal few start proper n a m =
    let (x, l, e) = member_at no_answer m in
    let c = answer_came rules goal few start n x l in
    let r = answer_at (after_round rules goal start n).answers x in
    let k : length r.evidence ≤ 16 = omega (arith, along_long (after_round rules goal start c.k) c.found.along, length-map ((bodies_of rules goal).words r.rule (call_at (after_round rules goal start c.k).calls r.call).action) step_of, proper.short r.rule (call_at (after_round rules goal start c.k).calls r.call).action c.found.fits) in
    subst (λ (a : AnswerRow). length a.evidence ≤ 16) e k

module _ {fluents actions : ℕ} (rules goal : List ℕ) (start : State) (acc : AcceptedWords fluents actions rules goal) (n : ℕ) (settled : Settled rules goal start n) (clen alen : ℕ) where
  abbrev R : Rows
  R = after_round rules goal start n

  abbrev W : Tables
  W = tables (call_table (filled clen (call_words R.calls)) (length R.calls)) (answer_table (filled alen (answer_words R.answers)) (length R.answers))

  abbrev run : Run
  run = run_of rules goal start

  grew : Grew (view R) W
  grew = words_view R clen alen (after_short rules goal acc.few_rules start (proper_of rules goal acc) n)

  exact : Exact run (C (view R)) (A (view R))
  exact = settled_exact rules goal start acc n settled

  inside : Inside (view R) (length R.answers)
  inside = inside_of (after_valid rules goal acc.few_rules start n)

  -- of the call of an answer record
  action_is : (x : ℕ) → x < length R.answers → W.calls.action (W.answers.call x) ≡ (view R).calls.action ((view R).answers.call x)
  action_is x l = ap W.calls.action (grew.call_same l) ∙ grew.action_same (inside x l)

  state_is : (x : ℕ) → x < length R.answers → W.calls.state (W.answers.call x) ≡ (view R).calls.state ((view R).answers.call x)
  state_is x l = ap W.calls.state (grew.call_same l) ∙ grew.state_same (inside x l)

  W_calls_once : CallsOnce W.calls
  W_calls_once i j a D l h c d = (after_valid rules goal acc.few_rules start n).calls_once i j a D l h (call_down grew (omega arith) c) (call_down grew h d)

  W_answers_once : AnswersOnce W.answers
  W_answers_once x y row f l h c d = (after_valid rules goal acc.few_rules start n).answers_once x y row f l h (answer_down grew (omega arith) c) (answer_down grew h d)

  held_call : (a : ℕ) (D : State) (i : ℕ) → i < length R.calls → W.calls.action i ≡ a → W.calls.state i ≡ D → C (view R) a D
  held_call a D i l e f = (i, l, call_down grew l (record { has_action = e; has_state = f }))

  held_answer : (a : ℕ) (D D' : State) (x : ℕ) → x < length R.answers → W.calls.action (W.answers.call x) ≡ a → W.calls.state (W.answers.call x) ≡ D → W.answers.final x ≡ D' → A (view R) a D D'
  held_answer a D D' x l e f g = (x, record { below = l; action = sym (action_is x l) ∙ e; state = sym (state_is x l) ∙ f }, sym (grew.final_same l) ∙ g)

  call_held : (a : ℕ) (D : State) → C (view R) a D → (i : ℕ) × (i < length R.calls) × (W.calls.action i ≡ a) × (W.calls.state i ≡ D)
  call_held a D (i, l, c) = let d = call_up grew l c in (i, l, d.has_action, d.has_state)

  answer_held : (a : ℕ) (D D' : State) → A (view R) a D D' → (x : ℕ) × (x < length R.answers) × (W.calls.action (W.answers.call x) ≡ a) × (W.calls.state (W.answers.call x) ≡ D) × (W.answers.final x ≡ D')
  answer_held a D D' (x, o, f) = (x, o.below, action_is x o.below ∙ o.action, state_is x o.below ∙ o.state, grew.final_same o.below ∙ f)

  -- All that is said of a finished run follows from the words alone.
  pub settled_finished : Finished rules goal start (filled clen (call_words R.calls)) (filled alen (answer_words R.answers)) (length R.calls) (length R.answers)
  settled_finished = record {
    calls_held = table_exactly (λ i. (W.calls.action i, W.calls.state i)) (Call run) (length R.calls)
        (λ i j l h e. W_calls_once i j _ _ l h (record { has_action = ap (λ (c : ℕ × State). c.0) e; has_state = ap (λ (c : ℕ × State). c.1) e }) (record { has_action = refl; has_state = refl }))
        (λ i l. (exact.calls _ _).0 (held_call _ _ i l refl refl))
        (λ (a, D) c. let (i, l, e, f) = call_held a D ((exact.calls a D).1 c) in (i, l, λ k. (sym e k, sym f k)));
    answers_held = table_exactly (λ x. (W.calls.action (W.answers.call x), W.calls.state (W.answers.call x), W.answers.final x)) (Answer run) (length R.answers)
        answers_apart
        (λ x l. (exact.answers _ _ _).0 (held_answer _ _ _ x l refl refl refl))
        (λ (a, D, D') c. let (x, l, e, f, g) = answer_held a D D' ((exact.answers a D D').1 c) in (x, l, λ k. (sym e k, sym f k, sym g k)));
    justified = λ x l. justified_in {t = W} (proper_of rules goal acc) (justified_up grew inside l (proper_of rules goal acc) (after_justified rules goal acc.few_rules start n x l));
    calls_past = λ i h. getD_pad (call_words R.calls) (clen - length (call_words R.calls)) i ∙ get_or-eq_default (call_words R.calls) 0 (omega (arith, call_words_length R.calls));
    answers_past = λ i h. getD_pad (answer_words R.answers) (alen - length (answer_words R.answers)) i
        ∙ get_or-eq_default (answer_words R.answers) 0 (omega (arith, answer_words_length R.answers (after_short rules goal acc.few_rules start (proper_of rules goal acc) n)));
  }
    where
      answers_apart : (x y : ℕ) → x < y → y < length R.answers
          → ◌≡◌ {A = ℕ × State × State} (W.calls.action (W.answers.call x), W.calls.state (W.answers.call x), W.answers.final x) (W.calls.action (W.answers.call y), W.calls.state (W.answers.call y), W.answers.final y) → ⊥
      answers_apart x y l h e =
          let v = after_valid rules goal acc.few_rules start n in
          let lx : x < length R.answers = omega arith in
          let c : (view R).answers.call x ≡ (view R).answers.call y = row_once (view R).calls v.calls_once ((view R).answers.call x) ((view R).answers.call y) ((view R).calls.action ((view R).answers.call y)) ((view R).calls.state ((view R).answers.call y)) (inside x lx) (inside y h)
          (record { has_action = sym (action_is x lx) ∙ ap (λ (c : ℕ × State × State). c.0) e ∙ action_is y h; has_state = sym (state_is x lx) ∙ ap (λ (c : ℕ × State × State). c.1) e ∙ state_is y h })
          (record { has_action = refl; has_state = refl }) in
          v.answers_once x y _ _ l h (record { has_call = c; has_final = sym (grew.final_same lx) ∙ ap (λ (c : ℕ × State × State). c.2) e ∙ grew.final_same h }) (record { has_call = refl; has_final = refl })
