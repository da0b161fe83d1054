-- The starred drills hold: for each row, tables found by rounds pass the test that they prove it, and its paths are computed. Assumes nothing.
use Prim.Native.Nat.{ℕ, zero, suc}
use mathlib.Core.Path.{refl}
use mathlib.Core.Bool.{Bool, true, cond, not, ◌&&◌, ◌||◌}
use mathlib.Core.List.Memᴰ
use mathlib.Core.List.{List, [], ◌∷◌, ◌++◌, Memᴰ}
use mathlib.Core.Logic.{⊎_elim}
use lib.Dec.{T, eqb, ltb, eqb→eq, T_not}
use borrow.Author.Tests.{ltb-true}
use lib.ListN.{length}
use Rattle.steps.specs.State.{State}
use Rattle.steps.specs.Step.{query, insert, delete, call, deny, Body}
use Rattle.steps.specs.Run.{Run, Goal}
use Rattle.steps.specs.Counting.{Rising, rising_nil, rising_cons}
use Rattle.steps.proofs.Counting.{rising_distinct}
use Rattle.starred.specs.Drills.{Drill, run, Holds, AllHold, DenialsHold, word, drills, denials, drill, path, ◌⟵◌}
use Rattle.steps.specs.Words.{step_by, rules_from}
use Rattle.steps.specs.Acceptance.{each_below, good_step, good_word, good_rule, bad_counts, bad_length, bad_rules, bad_goal, bad_state, words_refusal, refusal_of}
use Rattle.starred.proofs.ListTests.{both, both_l, both_r, either, holds_true, every, any, every_at, any_at, distinct, distinct_of}
use Rattle.starred.proofs.Paths.{path_answer, path_shows}
use Rattle.starred.proofs.Certified.{CallRow, AnswerRow, Place, places, bodies, next, certified, certified_exact, separate, closed, justified, reached, owned, kept, apart, some_place, every_place, ends_at, comes_at, call_row, answer_row, call_row_refl, answer_row_refl, has_answer}

-- ---- tables by rounds, newest row first

abbrev Tables : Type 0
Tables = List CallRow × List AnswerRow

-- the call or the answer that a place of a walk shows, if it is new
note : CallRow → State → Body → Tables → Tables
note c E [] (C, A) = (C, cond (any (answer_row (c.0, c.1, E)) A) A ((c.0, c.1, E) ∷ A))
note c E (query p ∷ left) t = t
note c E (insert p ∷ left) t = t
note c E (delete p ∷ left) t = t
note c E (deny p ∷ left) t = t
note c E (call b ∷ left) (C, A) = (cond (any (call_row (b, E)) C) C ((b, E) ∷ C), A)

abbrev fold : {X Y : Type 0} → (X → Y → Y) → List X → Y → Y
fold f [] y = y
fold f (x ∷ xs) y = fold f xs (f x y)

round : Run → Tables → Tables
round run (C, A) =
    fold (λ (c : CallRow) (t : Tables).
    fold (λ (body : Body) (t : Tables).
    fold (λ (q : Place) (t : Tables). note c q.0 q.1 t) (places A c.1 body) t) (bodies run c.0) t) C (C, A)

rounds : ℕ → Run → Tables → Tables
rounds zero run t = t
rounds (suc n) run t = rounds n run (round run t)

-- eight rounds are enough for each row
tables : Run → Tables
unfolding rounds round note answer_row call_row places bodies next
tables run = rounds 8 run ((Goal, run.start) ∷ [], [])

-- ---- the test of a row

abbrev rising : List ℕ → Bool
rising [] = true
rising (x ∷ xs) = every (ltb x) xs && rising xs

rising_of : (xs : List ℕ) → T (rising xs) → Rising xs
rising_of [] t = rising_nil
rising_of (x ∷ xs) t =
    let (h, hs) = both (every (ltb x) xs) (rising xs) t in
    rising_cons (λ y m. ltb-true x y (holds_true (ltb x y) (every_at (ltb x) h m))) (rising_of xs hs)

-- the answer is not the goal's at the start, or its final state is listed
listed : Drill → AnswerRow → Bool
listed d t = not (call_row (t.0, t.1) (Goal, d.start)) || any (eqb t.2) d.ends

-- the state is an answer of the goal at the start
answered : Drill → List AnswerRow → State → Bool
answered d A D = any (answer_row (Goal, d.start, D)) A

-- the tables C and A prove the row
proves : Drill → List CallRow → List AnswerRow → Bool
proves d C A =
    eqb (refusal_of d.fluents d.actions d.rules d.goal d.start) 0 && certified (run d) C A && distinct call_row C && distinct answer_row A && eqb (length C) d.calls && eqb (length A) d.answers
    && rising d.ends && every (answered d A) d.ends && every (listed d) A

proved : (d : Drill) → Memᴰ d (drills ++ denials) → (C : List CallRow) (A : List AnswerRow) → T (proves d C A) → Holds d
unfolding proves answered listed
proved d row C A t =
    let ok = eqb→eq (refusal_of d.fluents d.actions d.rules d.goal d.start) 0 (search (both_l, both_r) depth 10) in
    let c : T (certified (run d) C A) = search (both_l, both_r) depth 10 in
    let dC : T (distinct call_row C) = search (both_l, both_r) depth 10 in
    let dA : T (distinct answer_row A) = search (both_l, both_r) depth 10 in
    let nC : T (eqb (length C) d.calls) = search (both_l, both_r) depth 10 in
    let nA : T (eqb (length A) d.answers) = search (both_l, both_r) depth 10 in
    let up : T (rising d.ends) = search (both_l, both_r) depth 10 in
    let all : T (every (answered d A) d.ends) = search (both_l, both_r) depth 10 in
    let only : T (every (listed d) A) = search (both_l, both_r) depth 10 in
    let x = certified_exact (run d) C A c in
    record {
      accepted = ok;
      rising = rising_of d.ends up;
      ends = record {
        once = rising_distinct (rising_of d.ends up);
        members = λ D. (λ m. (x.ends D).0 (from_list D (every_at (answered d A) all m)), λ f. in_list D ((x.ends D).1 f) only);
      };
      calls = (C, record { once = distinct_of call_row call_row_refl C dC; members = λ k. x.calls k.0 k.1 }, eqb→eq (length C) d.calls nC);
      answers = (A, record { once = distinct_of answer_row answer_row_refl A dA; members = λ k. x.answers k.0 k.1 k.2 }, eqb→eq (length A) d.answers nA);
      tables = path_answer d row;
      paths = λ p k. path_shows d row p k ok;
    }
  where
    from_list : (D : State) → T (answered d A D) → Memᴰ {A = AnswerRow} (Goal, d.start, D) A
    from_list D h = has_answer (Goal, d.start, D) A h

    in_list : (D : State) → Memᴰ {A = AnswerRow} (Goal, d.start, D) A → T (every (listed d) A) → Memᴰ D d.ends
    in_list D m only =
        ⊎_elim (λ n. absurd (T_not (call_row (Goal, d.start) (Goal, d.start)) n (call_row_refl (Goal, d.start))))
        (λ s. let (E, k, q) = any_at (eqb D) d.ends s in Memᴰ.cast (eqb→eq D E q) k)
        (either (not (call_row (Goal, d.start) (Goal, d.start))) (any (eqb D) d.ends) (every_at (listed d) only m))

passes : Drill → Bool
passes d = let t = tables (run d) in proves d t.0 t.1

pass : T (every passes (drills ++ denials))
unfolding passes proves listed answered tables certified drills denials drill path ◌⟵◌ separate apart closed every_place kept justified some_place ends_at reached comes_at owned call_row answer_row word step_by rules_from refusal_of words_refusal bad_counts bad_length bad_rules bad_goal bad_state each_below good_step good_word good_rule
pass = tt

row_holds : (d : Drill) → Memᴰ d (drills ++ denials) → Holds d
unfolding passes
row_holds d m = proved d m (tables (run d)).0 (tables (run d)).1 (every_at passes pass m)

-- Every row holds.
pub drills_hold : AllHold
unfolding drills
drills_hold = (refl, λ d m. row_holds d (Memᴰ.append_left denials m))

pub denials_hold : DenialsHold
unfolding denials
denials_hold = (refl, λ d m. row_holds d (Memᴰ.append_right drills m))
