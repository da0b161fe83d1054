-- The tables of a run: closed and sound, they hold exactly the run's calls and answers, so the goal's answers are exactly the ends.
-- `Tables` says it of any roots; here the one root is the goal at the start. Assumes nothing.
use Prim.Native.Nat.{ℕ, ◌<◌}
use mathlib.Core.Path.{◌≡◌, refl, subst, ◌∙◌}
use mathlib.Core.Bool.{Bool, true, false, cond}
use mathlib.Core.List.{[], ◌∷◌, Memᴰ}
use mathlib.Core.Logic.{inl, inr, ◌↔◌, ◌≢◌}
use lib.Dec.{eqb}
use borrow.Author.Tests.{eqb-true, eqb-false}
use Rattle.steps.specs.State.{State}
use Rattle.steps.specs.Step.{Step, call, Body, Rule}
use Rattle.steps.specs.Deduction.{Final}
use Rattle.steps.specs.Run.{Run, Goal, Call, body_of_call, Answer, End}
use Rattle.steps.proofs.Execution.{Runs, ended, does, uses, Comes, here, past, inside, after, Ends, runs_map, comes_map}
use Rattle.steps.proofs.Deductions.{Does, RuleOf, rule, to_runs, of_runs, to_comes, of_comes}
use Rattle.steps.proofs.Tables as tables
use Rattle.steps.proofs.Tables.{Walk}

-- The bodies of a call's action: the goal for 64, else those of its rules.
pub data BodyOf (run : Run) (a : ℕ) : Body → Type 0 where
  of_goal : a ≡ Goal → BodyOf run a run.goal
  of_rule : (r : Rule) → Memᴰ r run.book → r.head ≡ a → BodyOf run a r.body

-- The one root: the goal at its start.
abbrev pub Root : Run → ℕ → State → Type 0
Root run a D = (a ≡ Goal) × (D ≡ run.start)

abbrev pub Reached : Run → ℕ → State → Type 0
Reached run = tables.Reached Does (BodyOf run) (Root run)

abbrev pub Closed : Run → (ℕ → State → Type 0) → (ℕ → State → State → Type 0) → Type 0
Closed run = tables.Closed Does (BodyOf run) (Root run)

abbrev pub Sound : Run → (ℕ → State → Type 0) → (ℕ → State → State → Type 0) → Type 0
Sound run = tables.Sound Does (BodyOf run) (Root run)

-- No step calls the goal.
abbrev pub Apart : Body → Type 0
Apart body = (b : ℕ) → Memᴰ (call b) body → b ≢ Goal

-- The goal's number is no action: no rule's head, and called nowhere.
pub record Separate (run : Run) : Type 0 where
  pub heads : (r : Rule) → Memᴰ r run.book → r.head ≢ Goal
  pub bodies : (r : Rule) → Memᴰ r run.book → Apart r.body
  pub goal : Apart run.goal

apart_tail : {s : Step} {rest : Body} → Apart (s ∷ rest) → Apart rest
apart_tail apart b m = apart b (Memᴰ.tail m)

apart_head : {b : ℕ} {rest : Body} → Apart (call b ∷ rest) → b ≢ Goal
apart_head {b} apart = apart b (Memᴰ.head refl)

rule_body : {run : Run} (a : ℕ) (body : Body) → RuleOf run.book a body → BodyOf run a body
rule_body a body (rule r m e) = of_rule r m e

module _ {run : Run} (separate : Separate run) where
  -- a body of an action is one of its rules', and calls no goal
  body_rule : {a : ℕ} {body : Body} → a ≢ Goal → BodyOf run a body → RuleOf run.book a body × Apart body
  body_rule n (of_goal e) = absurd (n e)
  body_rule n (of_rule r m e) = (rule r m e, separate.bodies r m)

  -- the goal's only body is the goal
  goal_body : {a : ℕ} {body : Body} (P : Body → Type 0) → a ≡ Goal → BodyOf run a body → P body → P run.goal
  goal_body P g (of_goal e) p = p
  goal_body P g (of_rule r m e) p = absurd (separate.heads r m (e ∙ g))

  -- executions without a call of the goal use rules alone
  rule_runs : {D D' : State} {body : Body} → Apart body → Runs Does (BodyOf run) D body D' → Runs Does (RuleOf run.book) D body D'
  rule_runs apart ended = ended
  rule_runs apart (does h p) = does h (rule_runs (apart_tail apart) p)
  rule_runs apart (uses h i p) = let (r, below) = body_rule (apart_head apart) h in uses r (rule_runs below i) (rule_runs (apart_tail apart) p)

  rule_comes : {b : ℕ} {E D : State} {body : Body} → Apart body → Comes Does (BodyOf run) b E D body → Comes Does (RuleOf run.book) b E D body
  rule_comes apart (here e f) = here e f
  rule_comes apart (past h p) = past h (rule_comes (apart_tail apart) p)
  rule_comes apart (inside h p) = let (r, below) = body_rule (apart_head apart) h in inside r (rule_comes below p)
  rule_comes apart (after h i p) = let (r, below) = body_rule (apart_head apart) h in after r (rule_runs below i) (rule_comes (apart_tail apart) p)

  -- what the root reaches are the run's calls
  pub reached_call : {a : ℕ} {D : State} → Reached run a D → Call run (a, D)
  reached_call (inl r) = inl r
  reached_call {a} {D} (inr (c, E, body, (g, s), h, p)) =
      inr (of_comes (rule_comes separate.goal (subst (λ (E : State). Comes Does (BodyOf run) a D E run.goal) s (goal_body (λ (body : Body). Comes Does (BodyOf run) a D E body) g h p))))

  pub call_reached : {a : ℕ} {D : State} → Call run (a, D) → Reached run a D
  call_reached (inl r) = inl r
  call_reached (inr (rest, d)) = inr (Goal, run.start, run.goal, (refl, refl), of_goal refl, comes_map rule_body (to_comes d))

  -- the final states of a call's bodies are the call's
  pub ends_final : {a : ℕ} {D D' : State} → Ends Does (BodyOf run) a D D' → Final run.book D (body_of_call run a) D'
  ends_final {a} {D} {D'} (body, h, p) = by (eqb a Goal) refl
    where
      by : (b : Bool) → eqb a Goal ≡ b → Final run.book D (cond b run.goal (call a ∷ [])) D'
      by true e = of_runs (rule_runs separate.goal (goal_body (λ (body : Body). Runs Does (BodyOf run) D body D') (eqb-true a Goal e) h p))
      by false e = let (r, apart) = body_rule (eqb-false a Goal e) h in of_runs (uses r (rule_runs apart p) ended)

  pub final_ends : {a : ℕ} {D D' : State} → Final run.book D (body_of_call run a) D' → Ends Does (BodyOf run) a D D'
  final_ends {a} {D} {D'} d = by (eqb a Goal) refl d
    where
      one : {E : State} → Runs Does (RuleOf run.book) D (call a ∷ []) E → Ends Does (BodyOf run) a D E
      one (does h p) = elim h [ ]
      one (uses {body = body} h i ended) = (body, rule_body a body h, runs_map rule_body i)

      by : (b : Bool) → eqb a Goal ≡ b → Final run.book D (cond b run.goal (call a ∷ [])) D' → Ends Does (BodyOf run) a D D'
      by true e f = (run.goal, of_goal (eqb-true a Goal e), runs_map rule_body (to_runs f))
      by false e f = one (to_runs f)

-- The tables hold exactly the run's calls and answers, and the goal's answers are exactly the ends.
pub record Exact (run : Run) (C : ℕ → State → Type 0) (A : ℕ → State → State → Type 0) : Type 0 where
  pub calls : (a : ℕ) (D : State) → C a D ↔ Call run (a, D)
  pub answers : (a : ℕ) (D D' : State) → A a D D' ↔ Answer run (a, D, D')
  pub ends : (D' : State) → A Goal run.start D' ↔ End run D'

pub exact : {run : Run} {C : ℕ → State → Type 0} {A : ℕ → State → State → Type 0} → Separate run → Closed run C A → Sound run C A → Exact run C A
exact {run} {C} {A} separate closed sound = record { calls = calls; answers = answers; ends = λ D'. (λ h. ((answers Goal run.start D').0 h).1, λ d. (answers Goal run.start D').1 (inl (refl, refl), d)) }
  where
    held : tables.Exact Does (BodyOf run) (Root run) C A
    held = tables.exact Does (BodyOf run) (Root run) closed sound

    calls : (a : ℕ) (D : State) → C a D ↔ Call run (a, D)
    calls a D = (λ h. reached_call separate ((held.calls a D).0 h), λ c. (held.calls a D).1 (call_reached separate c))

    answers : (a : ℕ) (D D' : State) → A a D D' ↔ Answer run (a, D, D')
    answers a D D' = (
      λ h. let (r, e) = (held.answers a D D').0 h in (reached_call separate r, ends_final separate e),
      λ (c, d). (held.answers a D D').1 (call_reached separate c, final_ends separate d),
    )

-- A record of a call that is justified by records of smaller number is an answer.
pub justified_answer : {run : Run} → Separate run → (R : ℕ → ℕ → State → State → Type 0)
    → ((n a : ℕ) (D D' : State) → R n a D D' → (body : Body) × BodyOf run a body × Walk Does (λ b E E'. (m : ℕ) × (m < n) × R m b E E') D body D' [])
    → (n a : ℕ) (D D' : State) → Call run (a, D) → R n a D D' → Answer run (a, D, D')
justified_answer {run} separate R justified n a D D' c h = (c, ends_final separate (tables.justified_ends Does (BodyOf run) (Root run) R justified n a D D' h))
