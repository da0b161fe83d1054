-- The tables of an evaluation of rule words and a goal from a start hold exactly the run's calls and answers. Assumes nothing.
use Prim.Native.Nat.{ℕ, ◌/◌, ◌<◌}
use native.Mathlib.Omega.{arith}
use mathlib.Core.Path.{◌≡◌, refl, sym, subst, ap, ◌∙◌}
use mathlib.Core.List.Memᴰ
use mathlib.Core.List.{List, [], ◌∷◌}
use mathlib.Core.Logic.{◌⊎◌, inl, ◌↔◌, ⊎_map}
use lib.ListN.{length}
use borrow.Author.Tests.{lt-ltb, eq-eqb, ne_eqb}
use Rattle.steps.specs.State.{State}
use Rattle.steps.specs.Step.{Body, Rule}
use Rattle.steps.specs.Run.{Run, Goal, Call, Answer}
use Rattle.steps.specs.Counting.{Outnumbers}
use Rattle.steps.specs.Words.{body_of, head_of, run_of}
use Rattle.steps.specs.Widths.{rule_width}
use Rattle.steps.specs.Inner.{rule_of}
use Rattle.steps.proofs.WordLaws.{book_member, rule_member}
use Rattle.steps.proofs.AcceptanceLaws.{AcceptedWords, separate}
use Rattle.steps.proofs.Counting.{outnumbers_map}
use Rattle.steps.proofs.Deductions.{Does}
use Rattle.steps.proofs.Execution.{Ends}
use Rattle.steps.proofs.Tables.{Reached, reached_map, ends_map}
use Rattle.steps.proofs.Tables as general
use Rattle.steps.proofs.Exactness.{BodyOf, of_goal, of_rule, Root, Exact, reached_call, call_reached, ends_final, final_ends}
use Rattle.records.specs.Records.{bodies_of, goal_rule}
use Rattle.records.proofs.Justification.{Has}
use Rattle.tabling.proofs.Evidence.{Among}
use Rattle.records.proofs.Numbers.{fits_cases, words_goal, words_rule}
use Rattle.tabling.proofs.Adding.{Outgrown}

module _ {fluents actions : ℕ} (rules goal : List ℕ) (start : State) (acc : AcceptedWords fluents actions rules goal) where
  abbrev run : Run
  run = run_of rules goal start

  -- the one root
  abbrev pub the_root : List (ℕ × State)
  the_root = (Goal, start) ∷ []

  root_in : (a : ℕ) (D : State) → Among the_root a D → Root run a D
  root_in a D m = let e = Memᴰ.eq_of_singleton m in (ap (λ (c : ℕ × State). c.0) e, ap (λ (c : ℕ × State). c.1) e)

  in_root : (a : ℕ) (D : State) → Root run a D → Among the_root a D
  in_root a D (e, f) = Memᴰ.head (λ i. (e i, f i))

  -- the bodies by their numbers are those of the goal and the rules
  has_body : (a : ℕ) (body : Body) → Has (bodies_of rules goal) a body → BodyOf run a body
  has_body a body (i, f, e) = fits_cases rules goal i a f (BodyOf run a body)
      (λ z g. subst (BodyOf run a) (sym (e ∙ ap body_of (words_goal rules goal i a z))) (of_goal g))
      (λ n l h. subst (BodyOf run a) (sym (e ∙ ap body_of (words_rule rules goal i a n))) (of_rule (rule_of rules i) (rule_member rules i l) h))

  body_has : (a : ℕ) (body : Body) → BodyOf run a body → Has (bodies_of rules goal) a body
  body_has a body (of_goal g) = (goal_rule, eq-eqb a Goal g, refl)
  body_has a body (of_rule r m h) =
      let (i, l, e) = book_member rules 0 (length rules / rule_width) r m in
      let k : i < length rules / rule_width = omega arith in
      let n : i ≡ goal_rule → ⊥ = λ z. omega (arith, acc.few_rules) in (
        i,
        rw (ne_eqb i goal_rule n, lt-ltb i (length rules / rule_width) k, eq-eqb (head_of rules i) a (sym (ap (λ (r : Rule). r.head) e) ∙ h)) refl,
        ap (λ (r : Rule). r.body) e ∙ ap body_of (sym (words_rule rules goal i a n)),
      )

  -- what is reached are the run's calls; final states of bodies are those of the calls
  call_of : {a : ℕ} {D : State} → Reached Does (Has (bodies_of rules goal)) (Among the_root) a D → Call run (a, D)
  call_of r = reached_call (separate acc start) (reached_map has_body root_in r)

  of_call : {a : ℕ} {D : State} → Call run (a, D) → Reached Does (Has (bodies_of rules goal)) (Among the_root) a D
  of_call c = reached_map body_has in_root (call_reached (separate acc start) c)

  answer_of : {a : ℕ} {D D' : State} → Reached Does (Has (bodies_of rules goal)) (Among the_root) a D × Ends Does (Has (bodies_of rules goal)) a D D' → Answer run (a, D, D')
  answer_of {a} (r, e) = (call_of r, ends_final (separate acc start) {a = a} (ends_map has_body {a = a} e))

  of_answer : {a : ℕ} {D D' : State} → Answer run (a, D, D') → Reached Does (Has (bodies_of rules goal)) (Among the_root) a D × Ends Does (Has (bodies_of rules goal)) a D D'
  of_answer {a} (c, d) = (of_call c, ends_map body_has {a = a} (final_ends (separate acc start) {a = a} d))

  pub exact_run : {C : ℕ → State → Type 0} {A : ℕ → State → State → Type 0} → general.Exact Does (Has (bodies_of rules goal)) (Among the_root) C A → Exact run C A
  exact_run {C} {A} x = record { calls = calls; answers = answers; ends = λ D'. (λ h. ((answers Goal start D').0 h).1, λ d. (answers Goal start D').1 (inl (refl, refl), d)) }
    where
      calls : (a : ℕ) (D : State) → C a D ↔ Call run (a, D)
      calls a D = (λ h. call_of ((x.calls a D).0 h), λ c. (x.calls a D).1 (of_call c))

      answers : (a : ℕ) (D D' : State) → A a D D' ↔ Answer run (a, D, D')
      answers a D D' = (λ h. answer_of ((x.answers a D D').0 h), λ c. (x.answers a D D').1 (of_answer c))

  -- more than there are places for
  pub outgrown_run : (n m : ℕ) → Outgrown (bodies_of rules goal) (Among the_root) n m
      → Outnumbers (Call run) n ⊎ Outnumbers (Answer run) m
  outgrown_run n m o = ⊎_map (outnumbers_map n (λ c r. call_of r)) (outnumbers_map m (λ c r. answer_of r)) o
