-- The rows after each round as tables: where the next round adds nothing they hold exactly the run's calls and answers. Assumes nothing.
use Prim.Native.Nat.{ℕ, suc, ◌/◌, ◌<◌, ◌≤◌}
use native.Mathlib.Omega.{arith}
use mathlib.Core.Path.{◌≡◌, refl, ap, subst, ◌∙◌}
use mathlib.Core.Bool.{true}
use mathlib.Core.List.{List, [], ◌∷◌}
use lib.ListN.{get_or, length}
use Rattle.steps.specs.State.{State}
use Rattle.steps.specs.Run.{Goal}
use Rattle.steps.specs.Words.{run_of}
use Rattle.steps.specs.Widths.{rule_width}
use Rattle.steps.proofs.Lists.{member_at}
use Rattle.steps.proofs.AcceptanceLaws.{AcceptedWords}
use Rattle.steps.proofs.Exactness.{Exact}
use Rattle.records.specs.Records.{Bodies, bodies_of, goal_rule}
use Rattle.records.proofs.Growth.{HeldCall, Held}
use Rattle.records.proofs.Numbers.{proper_of}
use Rattle.tabling.proofs.Sweep.{Reach}
use Rattle.tabling.proofs.Graph.{Front, calls, Known}
use Rattle.tabling.proofs.Graph as graph
use Rattle.tabling.proofs.Moves.{move, EdgeT}
use Rattle.tabling.proofs.Evidence.{Among}
use Rattle.tabling.proofs.Closed.{ClosedAt, Whole, C, A, exact_of}
use Rattle.tabling.proofs.Found.{reach_down}
use Rattle.tabling.proofs.RunTables.{exact_run}
use Rattle.canonical.specs.Order.{Key}
use Rattle.canonical.specs.Rows.{CallRow, AnswerRow, Rows, call_at, no_call}
use Rattle.canonical.specs.Rounds.{after_round, Settled}
use Rattle.canonical.proofs.Onward.{no_answer}
use Rattle.canonical.proofs.Routes.{reach_along, reach_comes}
use Rattle.canonical.proofs.Found.{CallFound, AnswerFound}
use Rattle.canonical.proofs.Prefix.{view, view_shows, prefix_grew, prefix_call}
use Rattle.canonical.proofs.AfterRounds.{grown_at, after_next}
use Rattle.canonical.proofs.Justifying.{after_inside, after_valid}

known_of : (P : ℕ × State → Type 0) (f : Front State (ℕ × State)) → ((c : ℕ × State) → f ≡ calls c → P c) → Known P f
known_of P graph.stuck k = tt
known_of P (graph.goes t) k = tt
known_of P (calls c) k = k c refl

module _ (rules goal : List ℕ) (few : length rules / rule_width ≤ goal_rule) (start : State) where
  abbrev R : ℕ → Rows
  R n = after_round rules goal start n

  abbrev bodies : Bodies
  bodies = bodies_of rules goal

  module _ (n : ℕ) where
    abbrev t : Rows
    t = R n

    abbrev u : Rows
    u = R (suc n)

    -- ---- what is found stands afterwards
    held_call : (d : ℕ × State) → CallFound rules goal t d → HeldCall (view u) d
    held_call d f =
        let (c, m, e) = (grown_at rules goal few start n).calls_all d f in
        let (i, l, q) = member_at no_call m in
        (i, l, record { has_action = ap (λ (c : CallRow). c.action) q ∙ ap (λ (k : Key). k.0) e; has_state = ap (λ (c : CallRow). c.state) q ∙ ap (λ (k : Key). k.1) e })

    held_answer : (a : AnswerRow) → AnswerFound rules goal t a → Held (view u) a.call a.final
    held_answer a f =
        let (b, m, e) = (grown_at rules goal few start n).answers_all a f in
        let (x, l, q) = member_at no_answer m in
        (x, l, record { has_call = ap (λ (c : AnswerRow). c.call) q ∙ ap (λ (k : Key). k.0) e; has_final = ap (λ (c : AnswerRow). c.final) q ∙ ap (λ (k : Key). k.1) e })

    next_closed : (row i : ℕ) → row < length t.calls → bodies.fits i (call_at t.calls row).action ≡ true → ClosedAt (bodies.words i (call_at t.calls row).action) (view u) (length t.answers) row
    next_closed row i l f p s k = record {
      ends = λ e. (let (es, w) = reach_along t (view_shows t) (bodies.words i (call_at t.calls row).action) down e in
          held_answer (record { call = row; final = s; rule = i; evidence = es; round = 0 }) (record { call_in = l; fits = f; along = w }));
      called = λ h. known_of (HeldCall (view u)) (move (get_or (bodies.words i (call_at t.calls row).action) p 0) s)
          (λ c e. held_call c (record { row = row; row_in = l; rule = i; fits = f; comes = reach_comes t (view_shows t) (bodies.words i (call_at t.calls row).action) down h e }));
    }
      where
        down : Reach (EdgeT (view t) (length t.answers) (bodies.words i (call_at t.calls row).action)) 0 (call_at t.calls row).state p s
        down = subst (λ (c : CallRow). Reach (EdgeT (view t) (length t.answers) (bodies.words i (call_at t.calls row).action)) 0 c.state p s) (prefix_call (after_next rules goal few start n) row l)
            (reach_down (prefix_grew (after_next rules goal few start n)) (length t.answers) (omega arith) (after_inside rules goal few start n) (bodies.words i (call_at t.calls row).action) k)

    -- One that adds nothing leaves closed tables.
    pub still_whole : u ≡ t → Whole bodies (Among ((Goal, start) ∷ [])) 0 (view t)
    still_whole still = record {
      valid = after_valid rules goal few start n;
      closed = λ row z l i f. subst (λ (v : Rows). ClosedAt (bodies.words i (call_at t.calls row).action) (view v) (length t.answers) row) still (next_closed row i l f);
    }

-- The rows of a settled run hold exactly the run's calls and answers; the goal's answers are its ends.
pub settled_exact : {fluents actions : ℕ} (rules goal : List ℕ) (start : State) → AcceptedWords fluents actions rules goal → (n : ℕ) → Settled rules goal start n
    → Exact (run_of rules goal start) (C (view (after_round rules goal start n))) (A (view (after_round rules goal start n)))
settled_exact rules goal start acc n s =
    exact_run rules goal start acc (exact_of (bodies_of rules goal) (Among ((Goal, start) ∷ [])) (proper_of rules goal acc) (view (after_round rules goal start n)) (still_whole rules goal acc.few_rules start n s.still))
