-- The paths of the starred drills are as their rows say, by computation, whatever finished tables they come from. Assumes nothing.
use Prim.Native.Nat.{ℕ}
use mathlib.Core.Path.{◌≡◌, refl, sym, ap₂, subst, ◌∙◌}
use mathlib.Core.Bool.{Bool, true, false, ◌&&◌}
use mathlib.Core.List.{List, [], ◌∷◌, ◌++◌, Memᴰ}
use lib.Dec.{T, eqb, eqb→eq}
use Rattle.steps.specs.State.{State}
use Rattle.steps.specs.Deduction.{Final}
use Rattle.steps.specs.Run.{Goal, body_of_call}
use Rattle.steps.specs.Words.{step_by, rules_from, run_of}
use Rattle.steps.specs.Acceptance.{each_below, good_step, good_word, good_rule, bad_counts, bad_length, bad_rules, bad_goal, bad_state, words_refusal}
use Rattle.steps.specs.Acceptance as accepting
use Rattle.steps.specs.Elementary.{elementary}
use Rattle.steps.specs.Counting.{rows}
use Rattle.records.specs.Records.{follow, follows, justified}
use Rattle.checks.specs.Checks.{over_room, good_call, good_calls, all_justified, bad_records}
use Rattle.checks.proofs.RecordLaws.{rounds_right}
use Rattle.unfolding.specs.Path.{shown, adds, walked, below, path_of}
use Rattle.unfolding.specs.States.{states}
use Rattle.path.specs.Answered.{Handed, fault, call_records, answer_records, bodies as bodies-handed, states_of, too_short, path_refusal, state_count, list_after}
use Rattle.path.proofs.OutcomeLaws.{sane, path_executed}
use Rattle.path.proofs.FinishedLaws.{finished_sound}
use Rattle.starred.specs.Drills.{DrillPath, Drill, run, handed_of, GoalAnswer, Shows, word, ◌⟵◌, drill, path, drills, denials}
use Rattle.starred.proofs.ListTests.{both, both_l, both_r, every, every_at}
use Rattle.starred.proofs.Certified.{CallRow, certified, separate, closed, justified as grounded, reached, owned, kept, apart, some_place, every_place, ends_at, comes_at, call_row, call_same, answer_row, places, bodies, next}
use Rattle.starred.proofs.RunTables.{of_run, finished}
use Rattle.starred.proofs.Unique.{behind, behind_is, only, only_states}

same : List ℕ → List ℕ → Bool
same [] [] = true
same [] (y ∷ ys) = false
same (x ∷ xs) [] = false
same (x ∷ xs) (y ∷ ys) = eqb x y && same xs ys

same_is : (xs ys : List ℕ) → T (same xs ys) → xs ≡ ys
unfolding same
same_is [] [] t = refl
same_is [] (y ∷ ys) t = absurd t
same_is (x ∷ xs) [] t = absurd t
same_is (x ∷ xs) (y ∷ ys) t = let (e, s) = both (eqb x y) (same xs ys) t in ap₂ (λ (z : ℕ) (zs : List ℕ). z ∷ zs) (eqb→eq x y e) (same_is xs ys s)

-- where there is no fault the states decide the result
module _ (l m : Handed) (x y : ℕ) (list : List ℕ) (e : fault l x ≡ 0) (f : fault m y ≡ 0) (s : states_of l x ≡ states_of m y) where
  same_refusal : path_refusal l x list ≡ path_refusal m y list
  unfolding path_refusal too_short
  same_refusal = rw (e, f, s) refl

  same_count : state_count l x list ≡ state_count m y list
  unfolding state_count
  same_count = rw (same_refusal, s) refl

  same_after : list_after l x list ≡ list_after m y list
  unfolding list_after
  same_after = rw (same_refusal, s) refl

module _ (d : Drill) (p : DrillPath) where
  -- what is lent with the tables of the row, and the call of the record asked for
  abbrev own : Handed
  own = handed_of d p.calls p.answers

  abbrev asked_call : CallRow
  asked_call = let i = (answer_records own).call p.asked in ((call_records own).action i, (call_records own).state i)

  -- every complete deduction of the goal has the states of this path
  only_path : Bool
  only_path = behind d.start (only (run d).book 32 d.start (run d).goal) (states_of own p.asked)

  -- the test of a path
  right : Bool
  right =
      of_run d p && call_row asked_call (Goal, d.start) && eqb (fault own p.asked) 0
      && eqb (path_refusal own p.asked p.list) p.refusal
      && eqb (state_count own p.asked p.list) p.count
      && same (list_after own p.asked p.list) p.after && only_path

  module _ (t : T right) where
    own_sound : fault own p.asked ≡ 0
    unfolding right
    own_sound = eqb→eq (fault own p.asked) 0 (search (both_l, both_r) depth 8)

    own_refusal : path_refusal own p.asked p.list ≡ p.refusal
    unfolding right
    own_refusal = eqb→eq (path_refusal own p.asked p.list) p.refusal (search (both_l, both_r) depth 8)

    own_count : state_count own p.asked p.list ≡ p.count
    unfolding right
    own_count = eqb→eq (state_count own p.asked p.list) p.count (search (both_l, both_r) depth 8)

    own_after : list_after own p.asked p.list ≡ p.after
    unfolding right
    own_after = same_is (list_after own p.asked p.list) p.after (search (both_l, both_r) depth 8)

    own_answer : GoalAnswer d p.calls p.answers p.asked
    unfolding right
    own_answer =
        let f : T (of_run d p) = search (both_l, both_r) depth 8 in
        let g : T (call_row asked_call (Goal, d.start)) = search (both_l, both_r) depth 8 in
        let e = call_same asked_call (Goal, d.start) g in
        let s = sane own p.asked own_sound in
        record {
          finished = finished d p f;
          fits = s.in_room;
          rounds = rounds_right d.fluents d.actions (bodies-handed own) (call_records own) (answer_records own) s.right;
          below = s.in_table;
          action = λ i. (e i).0;
          state = λ i. (e i).1;
        }

    -- any other tables of the run
    module _ (ok : accepting.refusal_of d.fluents d.actions d.rules d.goal d.start ≡ 0) {calls answers : List ℕ} {x : ℕ} (h : GoalAnswer d calls answers x) where
      abbrev other : Handed
      other = handed_of d calls answers

      sound : fault other x ≡ 0
      sound = finished_sound other d.start ok h.finished h.rounds h.fits x h.below

      -- its path is the states of a deduction of the goal from the start, and there are no others
      states_are : states_of other x ≡ states_of own p.asked
      unfolding right only_path
      states_are =
          let (xs, e, o) = behind_is d.start (only (run d).book 32 d.start (run d).goal) (states_of own p.asked) (search (both_l, both_r) depth 8) in
          let E = path_executed other x sound in
          E.listed ∙ ap₂ (λ (s : State) (ss : List State). s ∷ ss) h.state (of_goal xs o h.action h.state E.deduction) ∙ sym e
        where
          of_goal : (xs : List State) → T (only (run d).book 32 d.start (run d).goal xs) → {a : ℕ} {D D' : State} → a ≡ Goal → D ≡ d.start
              → (f : Final (run d).book D (body_of_call (run_of d.rules d.goal 0) a) D') → states f ≡ xs
          of_goal xs o {a} {D} {D'} g s =
              subst (λ (a : ℕ). (f : Final (run d).book D (body_of_call (run_of d.rules d.goal 0) a) D') → states f ≡ xs) (sym g)
              (subst (λ (D : State). (f : Final (run d).book D (run d).goal D') → states f ≡ xs) (sym s) (only_states (run d).book 32 (run d).goal xs o))

      shows : Shows d p calls answers x
      shows = record {
        sound = sound;
        refusal = same_refusal other own x p.asked p.list sound own_sound states_are ∙ own_refusal;
        count = same_count other own x p.asked p.list sound own_sound states_are ∙ own_count;
        after = same_after other own x p.asked p.list sound own_sound states_are ∙ own_after;
      }

all_right : Drill → Bool
all_right d = every (right d) d.paths

pass : T (every all_right (drills ++ denials))
unfolding all_right right only_path only behind of_run rows certified separate apart closed every_place kept grounded some_place ends_at reached comes_at owned call_row answer_row places bodies next rules_from same drills denials drill path ◌⟵◌ word path_refusal state_count list_after fault too_short words_refusal bad_counts bad_length bad_rules bad_goal good_rule good_word good_step each_below over_room bad_records good_calls good_call all_justified bad_state justified follows follow elementary step_by path_of below walked adds shown
pass = tt

module _ (d : Drill) (m : Memᴰ d (drills ++ denials)) (p : DrillPath) (k : Memᴰ p d.paths) where
  passed : T (right d p)
  unfolding all_right
  passed = every_at (right d) (every_at all_right pass m) k

  pub path_answer : GoalAnswer d p.calls p.answers p.asked
  path_answer = own_answer d p passed

  pub path_shows : accepting.refusal_of d.fluents d.actions d.rules d.goal d.start ≡ 0 → {calls answers : List ℕ} {x : ℕ} → GoalAnswer d calls answers x → Shows d p calls answers x
  path_shows ok h = shows d p passed ok h
