-- A test that computes: finite tables that pass it are exactly a run's calls and answers. Assumes nothing.
use Prim.Native.Nat.{ℕ}
use mathlib.Core.Path.{◌≡◌, refl, sym, ap, subst}
use mathlib.Core.Bool.{Bool, true, false, cond, not, ◌&&◌, ◌||◌}
use mathlib.Core.List.Memᴰ
use mathlib.Core.List.{List, [], ◌∷◌, ◌++◌, Memᴰ}
use mathlib.Core.Logic.{inl, ⊎_elim}
use lib.Dec.{T, eqb, eqb→eq, eqb_refl, T_not}
use Rattle.steps.specs.State.{State, holds, added, removed}
use Rattle.steps.specs.Step.{Step, query, insert, delete, call, deny, Body, Rule}
use Rattle.steps.specs.Run.{Run, Goal}
use Rattle.starred.proofs.ListTests.{both, both_l, both_r, both_in, either, true_holds, every, any, every_at, any_at, select, select_in, select_out, flat, flat_in, flat_out}
use Rattle.steps.proofs.Execution.{Ends}
use Rattle.steps.proofs.Deductions.{Does, asks, adds, drops, lacks}
use Rattle.steps.proofs.Tables.{Walk, stands, walks, takes, walk_runs, walk_reached}
use Rattle.steps.proofs.Exactness.{BodyOf, of_goal, of_rule, Root, Reached, Closed, Exact, exact, Apart, Separate}

-- ---- the walks through a list of answers, enumerated

abbrev pub CallRow : Type 0
CallRow = ℕ × State

abbrev pub AnswerRow : Type 0
AnswerRow = ℕ × State × State

abbrev pub InCalls : List CallRow → ℕ → State → Type 0
InCalls C a D = Memᴰ {A = CallRow} (a, D) C

abbrev pub InAnswers : List AnswerRow → ℕ → State → State → Type 0
InAnswers A a D D' = Memᴰ {A = AnswerRow} (a, D, D') A

unfoldable pub next : List AnswerRow → Step → State → List State
next A (query p) D = cond (holds D p) (D ∷ []) []
next A (insert p) D = added D p ∷ []
next A (delete p) D = removed D p ∷ []
next A (deny p) D = cond (holds D p) [] (D ∷ [])
next A (call b) D = select (λ (t : AnswerRow). eqb t.0 b && eqb t.1 D) (λ t. t.2) A

abbrev pub Place : Type 0
Place = State × Body

unfoldable pub places : List AnswerRow → State → Body → List Place
places A D [] = (D, []) ∷ []
places A D (s ∷ rest) = (D, s ∷ rest) ∷ flat (λ (D₁ : State). places A D₁ rest) (next A s D)

module _ (A : List AnswerRow) where
  does_next : {s : Step} {D D₁ : State} → Does s D D₁ → Memᴰ D₁ (next A s D)
  unfolding next
  does_next (asks h) = rw h (Memᴰ.head refl)
  does_next adds = Memᴰ.head refl
  does_next drops = Memᴰ.head refl
  does_next (lacks h) = rw h (Memᴰ.head refl)

  takes_next : {b : ℕ} {D D₁ : State} → InAnswers A b D D₁ → Memᴰ D₁ (next A (call b) D)
  unfolding next
  takes_next {b} {D} {D₁} m = select_in (λ (t : AnswerRow). eqb t.0 b && eqb t.1 D) (λ t. t.2) (both_in (eqb b b) (eqb D D) (eqb_refl b) (eqb_refl D)) m

  walk_place : {D E : State} {xs left : Body} → Walk Does (InAnswers A) D xs E left → Memᴰ {A = Place} (E, left) (places A D xs)
  unfolding places
  walk_place {xs = []} stands = Memᴰ.head refl
  walk_place {xs = s ∷ rest} stands = Memᴰ.head refl
  walk_place {xs = s ∷ rest} (walks h w) = Memᴰ.tail (flat_in (λ (D₁ : State). places A D₁ rest) (does_next h) (walk_place w))
  walk_place {xs = s ∷ rest} (takes x w) = Memᴰ.tail (flat_in (λ (D₁ : State). places A D₁ rest) (takes_next x) (walk_place w))

  next_walk : (s : Step) {D D₁ E : State} {rest left : Body} → Memᴰ D₁ (next A s D) → Walk Does (InAnswers A) D₁ rest E left → Walk Does (InAnswers A) D (s ∷ rest) E left
  unfolding next
  next_walk (query p) {D} {D₁} {E} {rest} {left} m w = go (holds D p) refl m
    where
      go : (b : Bool) → holds D p ≡ b → Memᴰ D₁ (cond b (D ∷ []) []) → Walk Does (InAnswers A) D (query p ∷ rest) E left
      go true e k = walks (asks e) (rw (Memᴰ.eq_of_singleton k) at w)
      go false e k = absurd (Memᴰ.not-nil k)
  next_walk (insert p) m w = walks adds (rw (Memᴰ.eq_of_singleton m) at w)
  next_walk (delete p) m w = walks drops (rw (Memᴰ.eq_of_singleton m) at w)
  next_walk (deny p) {D} {D₁} {E} {rest} {left} m w = go (holds D p) refl m
    where
      go : (b : Bool) → holds D p ≡ b → Memᴰ D₁ (cond b [] (D ∷ [])) → Walk Does (InAnswers A) D (deny p ∷ rest) E left
      go true e k = absurd (Memᴰ.not-nil k)
      go false e k = walks (lacks e) (rw (Memᴰ.eq_of_singleton k) at w)
  next_walk (call b) {D} {D₁} m w = takes (go (select_out (λ (t : AnswerRow). eqb t.0 b && eqb t.1 D) (λ t. t.2) A m)) w
    where
      go : ((t : AnswerRow) × Memᴰ t A × T (eqb t.0 b && eqb t.1 D) × (D₁ ≡ t.2)) → InAnswers A b D D₁
      go (t, k, h, e) = let (f, g) = both (eqb t.0 b) (eqb t.1 D) h in Memᴰ.cast (λ i. (sym (eqb→eq t.0 b f) i, sym (eqb→eq t.1 D g) i, e i)) k

  place_walk : (xs : Body) {D : State} {q : Place} → Memᴰ q (places A D xs) → Walk Does (InAnswers A) D xs q.0 q.1
  unfolding places
  place_walk [] m = rw (Memᴰ.eq_of_singleton m) stands
  place_walk (s ∷ rest) {D} (Memᴰ.head e) = rw e stands
  place_walk (s ∷ rest) {D} (Memᴰ.tail m) =
      let (D₁, n, k) = flat_out (λ (D₁ : State). places A D₁ rest) (next A s D) m in
      next_walk s n (place_walk rest k)

-- ---- the bodies of an action

unfoldable pub bodies : Run → ℕ → List Body
bodies run a = cond (eqb a Goal) (run.goal ∷ []) [] ++ select (λ (r : Rule). eqb r.head a) (λ r. r.body) run.book

body_in : {run : Run} {a : ℕ} {body : Body} → BodyOf run a body → Memᴰ body (bodies run a)
unfolding bodies
body_in {run} {a} (of_goal e) = rw e (Memᴰ.head refl)
body_in {run} {a} (of_rule r m e) = Memᴰ.append_right (cond (eqb a Goal) (run.goal ∷ []) []) (select_in (λ (q : Rule). eqb q.head a) (λ q. q.body) (rw e (eqb_refl a)) m)

body_out : (run : Run) (a : ℕ) {body : Body} → Memᴰ body (bodies run a) → BodyOf run a body
unfolding bodies
body_out run a {body} m =
    ⊎_elim (λ k. goal (eqb a Goal) refl k) (λ k. rule (select_out (λ (q : Rule). eqb q.head a) (λ q. q.body) run.book k))
    (Memᴰ.append_cases (cond (eqb a Goal) (run.goal ∷ []) []) m)
  where
    goal : (b : Bool) → eqb a Goal ≡ b → Memᴰ body (cond b (run.goal ∷ []) []) → BodyOf run a body
    goal true e k = rw (Memᴰ.eq_of_singleton k) (of_goal (eqb→eq a Goal (true_holds (eqb a Goal) e)))
    goal false e k = absurd (Memᴰ.not-nil k)

    rule : ((r : Rule) × Memᴰ r run.book × T (eqb r.head a) × (body ≡ r.body)) → BodyOf run a body
    rule (r, k, t, e) = rw e (of_rule r k (eqb→eq r.head a t))

-- ---- the test

unfoldable pub call_row : CallRow → CallRow → Bool
call_row c k = eqb c.0 k.0 && eqb c.1 k.1

unfoldable pub answer_row : AnswerRow → AnswerRow → Bool
answer_row s t = eqb s.0 t.0 && (eqb s.1 t.1 && eqb s.2 t.2)

pub call_row_refl : (c : CallRow) → T (call_row c c)
unfolding call_row
call_row_refl c = both_in (eqb c.0 c.0) (eqb c.1 c.1) (eqb_refl c.0) (eqb_refl c.1)

pub answer_row_refl : (t : AnswerRow) → T (answer_row t t)
unfolding answer_row
answer_row_refl t = both_in (eqb t.0 t.0) (eqb t.1 t.1 && eqb t.2 t.2) (eqb_refl t.0) (both_in (eqb t.1 t.1) (eqb t.2 t.2) (eqb_refl t.1) (eqb_refl t.2))

-- every walk's end is an answer, and every call that it stands before a call
unfoldable pub kept : List CallRow → List AnswerRow → CallRow → State → Body → Bool
unfolding call_row answer_row
kept C A c E [] = any (answer_row (c.0, c.1, E)) A
kept C A c E (query p ∷ left) = true
kept C A c E (insert p ∷ left) = true
kept C A c E (delete p ∷ left) = true
kept C A c E (deny p ∷ left) = true
kept C A c E (call b ∷ left) = any (call_row (b, E)) C

unfoldable pub ends_at : State → State → Body → Bool
ends_at D' E [] = eqb E D'
ends_at D' E (s ∷ left) = false

unfoldable pub comes_at : CallRow → State → Body → Bool
comes_at c E [] = false
comes_at c E (query p ∷ left) = false
comes_at c E (insert p ∷ left) = false
comes_at c E (delete p ∷ left) = false
comes_at c E (deny p ∷ left) = false
comes_at c E (call b ∷ left) = eqb b c.0 && eqb E c.1

-- some, or every, place of a walk of a body of a call
unfoldable pub some_place : (State → Body → Bool) → Run → List AnswerRow → CallRow → Bool
some_place p run A c = any (λ (body : Body). any (λ (q : Place). p q.0 q.1) (places A c.1 body)) (bodies run c.0)

unfoldable pub every_place : (State → Body → Bool) → Run → List AnswerRow → CallRow → Bool
every_place p run A c = every (λ (body : Body). every (λ (q : Place). p q.0 q.1) (places A c.1 body)) (bodies run c.0)

some_walk : (p : State → Body → Bool) (run : Run) (A : List AnswerRow) (c : CallRow) → T (some_place p run A c)
    → (body : Body) × (E : State) × (left : Body) × BodyOf run c.0 body × Walk Does (InAnswers A) c.1 body E left × T (p E left)
unfolding some_place
some_walk p run A c t =
    let (body, m, h) = any_at (λ (body : Body). any (λ (q : Place). p q.0 q.1) (places A c.1 body)) (bodies run c.0) t in
    let (q, k, g) = any_at (λ (q : Place). p q.0 q.1) (places A c.1 body) h in
    (body, q.0, q.1, body_out run c.0 m, place_walk A body k, g)

every_walk : (p : State → Body → Bool) (run : Run) (A : List AnswerRow) (c : CallRow) {E : State} {body left : Body} → T (every_place p run A c)
    → BodyOf run c.0 body → Walk Does (InAnswers A) c.1 body E left → T (p E left)
unfolding every_place
every_walk p run A c {E} {body} {left} t o w =
    every_at (λ (q : Place). p q.0 q.1) {x = (E, left)}
    (every_at (λ (body : Body). every (λ (q : Place). p q.0 q.1) (places A c.1 body)) t (body_in o)) (walk_place A w)

-- the newest row stands first: each answer rests on those behind it, and so does each call
unfoldable pub justified : Run → List AnswerRow → Bool
justified run [] = true
justified run (t ∷ A) = some_place (ends_at t.2) run A (t.0, t.1) && justified run A

unfoldable pub reached : Run → List AnswerRow → List CallRow → Bool
reached run A [] = true
reached run A (c ∷ C) = (call_row c (Goal, run.start) || any (some_place (comes_at c) run A) C) && reached run A C

unfoldable pub closed : Run → List CallRow → List AnswerRow → Bool
closed run C A = any (call_row (Goal, run.start)) C && every (λ (c : CallRow). every_place (kept C A c) run A c) C

unfoldable pub apart : Step → Bool
apart (query p) = true
apart (insert p) = true
apart (delete p) = true
apart (deny p) = true
apart (call b) = not (eqb b Goal)

unfoldable pub separate : Run → Bool
separate run = every (λ (r : Rule). not (eqb r.head Goal) && every apart r.body) run.book && every apart run.goal

-- each answer's call is in the table
unfoldable pub owned : List CallRow → List AnswerRow → Bool
owned C A = every (λ (t : AnswerRow). any (call_row (t.0, t.1)) C) A

unfoldable pub certified : Run → List CallRow → List AnswerRow → Bool
certified run C A = separate run && closed run C A && justified run A && reached run A C && owned C A

-- ---- what it shows

apart_of : (body : Body) → T (every apart body) → Apart body
unfolding apart
apart_of body t b m = λ e. T_not (eqb b Goal) (every_at apart t m) (rw e tt)

separate_of : (run : Run) → T (separate run) → Separate run
unfolding separate
separate_of run t =
    let (hb, hg) = both (every (λ (r : Rule). not (eqb r.head Goal) && every apart r.body) run.book) (every apart run.goal) t in
    record {
      heads = λ r m e. T_not (eqb r.head Goal) (both (not (eqb r.head Goal)) (every apart r.body) (every_at (λ (r : Rule). not (eqb r.head Goal) && every apart r.body) hb m)).0 (rw e tt);
      bodies = λ r m. apart_of r.body (both (not (eqb r.head Goal)) (every apart r.body) (every_at (λ (r : Rule). not (eqb r.head Goal) && every apart r.body) hb m)).1;
      goal = apart_of run.goal hg;
    }

unfoldable pub call_same : (c k : CallRow) → T (call_row c k) → c ≡ k
unfolding call_row
call_same c k t = let (e, f) = both (eqb c.0 k.0) (eqb c.1 k.1) t in λ i. (eqb→eq c.0 k.0 e i, eqb→eq c.1 k.1 f i)

unfoldable pub answer_same : (s t : AnswerRow) → T (answer_row s t) → s ≡ t
unfolding answer_row
answer_same s t h =
    let (e, fg) = both (eqb s.0 t.0) (eqb s.1 t.1 && eqb s.2 t.2) h in
    let (f, g) = both (eqb s.1 t.1) (eqb s.2 t.2) fg in
    λ i. (eqb→eq s.0 t.0 e i, eqb→eq s.1 t.1 f i, eqb→eq s.2 t.2 g i)

some_end : (run : Run) (A : List AnswerRow) (c : CallRow) (D' : State) → T (some_place (ends_at D') run A c)
    → (body : Body) × BodyOf run c.0 body × Walk Does (InAnswers A) c.1 body D' []
unfolding ends_at
some_end run A c D' t = go (some_walk (ends_at D') run A c t)
  where
    go : ((body : Body) × (E : State) × (left : Body) × BodyOf run c.0 body × Walk Does (InAnswers A) c.1 body E left × T (ends_at D' E left))
        → (body : Body) × BodyOf run c.0 body × Walk Does (InAnswers A) c.1 body D' []
    go (body, E, [], o, w, h) = (body, o, rw (eqb→eq E D' h) at w)
    go (body, E, s ∷ left, o, w, h) = absurd h

some_come : (run : Run) (A : List AnswerRow) (c k : CallRow) → T (some_place (comes_at k) run A c)
    → (body : Body) × (rest : Body) × BodyOf run c.0 body × Walk Does (InAnswers A) c.1 body k.1 (call k.0 ∷ rest)
unfolding comes_at
some_come run A c k t = go (some_walk (comes_at k) run A c t)
  where
    go : ((body : Body) × (E : State) × (left : Body) × BodyOf run c.0 body × Walk Does (InAnswers A) c.1 body E left × T (comes_at k E left))
        → (body : Body) × (rest : Body) × BodyOf run c.0 body × Walk Does (InAnswers A) c.1 body k.1 (call k.0 ∷ rest)
    go (body, E, [], o, w, h) = absurd h
    go (body, E, query p ∷ left, o, w, h) = absurd h
    go (body, E, insert p ∷ left, o, w, h) = absurd h
    go (body, E, delete p ∷ left, o, w, h) = absurd h
    go (body, E, deny p ∷ left, o, w, h) = absurd h
    go (body, E, call b ∷ left, o, w, h) =
        let (e, f) = both (eqb b k.0) (eqb E k.1) h in
        (body, left, o, rw (eqb→eq b k.0 e, eqb→eq E k.1 f) at w)

-- an answer justified by those behind it is a final state of its action
ends_of : (run : Run) (A : List AnswerRow) → T (justified run A) → (a : ℕ) (D D' : State) → InAnswers A a D D' → Ends Does (BodyOf run) a D D'
unfolding justified
ends_of run [] j a D D' m = absurd (Memᴰ.not-nil m)
ends_of run (t ∷ A) j a D D' (Memᴰ.head e) =
    let (h, js) = both (some_place (ends_at t.2) run A (t.0, t.1)) (justified run A) j in
    let (body, o, w) = some_end run A (t.0, t.1) t.2 h in
    subst (λ (t : AnswerRow). Ends Does (BodyOf run) t.0 t.1 t.2) (sym e) (body, o, walk_runs Does (BodyOf run) (Root run) (ends_of run A js) w)
ends_of run (t ∷ A) j a D D' (Memᴰ.tail m) =
    ends_of run A (both (some_place (ends_at t.2) run A (t.0, t.1)) (justified run A) j).1 a D D' m

-- a call that a body of a call behind it comes to is reached
reached_of : (run : Run) (A : List AnswerRow) → ((b : ℕ) (E E' : State) → InAnswers A b E E' → Ends Does (BodyOf run) b E E')
    → (C : List CallRow) → T (reached run A C) → (a : ℕ) (D : State) → InCalls C a D → Reached run a D
unfolding reached
reached_of run A ends [] t a D m = absurd (Memᴰ.not-nil m)
reached_of run A ends (c ∷ C) t a D (Memᴰ.head e) =
    let (h, ts) = both (call_row c (Goal, run.start) || any (some_place (comes_at c) run A) C) (reached run A C) t in
    subst (λ (c : CallRow). Reached run c.0 c.1) (sym e)
    (⊎_elim (λ s. let p = call_same c (Goal, run.start) s in inl (ap (λ c. c.0) p, ap (λ c. c.1) p))
    (λ s. let (k, m, u) = any_at (some_place (comes_at c) run A) C s in
    let (body, rest, o, w) = some_come run A k c u in
    walk_reached Does (BodyOf run) (Root run) ends (reached_of run A ends C ts k.0 k.1 m) o w)
    (either (call_row c (Goal, run.start)) (any (some_place (comes_at c) run A) C) h))
reached_of run A ends (c ∷ C) t a D (Memᴰ.tail m) =
    reached_of run A ends C (both (call_row c (Goal, run.start) || any (some_place (comes_at c) run A) C) (reached run A C) t).1 a D m

unfoldable pub has_call : (c : CallRow) (C : List CallRow) → T (any (call_row c) C) → Memᴰ c C
has_call c C t = let (k, m, h) = any_at (call_row c) C t in Memᴰ.cast (call_same c k h) m

unfoldable pub has_answer : (s : AnswerRow) (A : List AnswerRow) → T (any (answer_row s) A) → Memᴰ s A
has_answer s A t = let (k, m, h) = any_at (answer_row s) A t in Memᴰ.cast (answer_same s k h) m

closed_of : (run : Run) (C : List CallRow) (A : List AnswerRow) → T (closed run C A) → Closed run (InCalls C) (InAnswers A)
unfolding closed kept
closed_of run C A t =
    let (r, h) = both (any (call_row (Goal, run.start)) C) (every (λ (c : CallRow). every_place (kept C A c) run A c) C) t in
    record {
      roots = λ a D (e, f). rw (e, f) (has_call (Goal, run.start) C r);
      reaches = λ a b D E body rest m o w. has_call (b, E) C (every_walk (kept C A (a, D)) run A (a, D) (every_at (λ (c : CallRow). every_place (kept C A c) run A c) h m) o w);
      ends = λ a D D' body m o w. has_answer (a, D, D') A (every_walk (kept C A (a, D)) run A (a, D) (every_at (λ (c : CallRow). every_place (kept C A c) run A c) h m) o w);
    }

owned_of : (C : List CallRow) (A : List AnswerRow) → T (owned C A) → (a : ℕ) (D D' : State) → InAnswers A a D D' → InCalls C a D
unfolding owned
owned_of C A t a D D' m = has_call (a, D) C (every_at (λ (t : AnswerRow). any (call_row (t.0, t.1)) C) t m)

pub certified_exact : (run : Run) (C : List CallRow) (A : List AnswerRow) → T (certified run C A) → Exact run (InCalls C) (InAnswers A)
unfolding certified
certified_exact run C A t =
    let s : T (separate run) = search (both_l, both_r) in
    let c : T (closed run C A) = search (both_l, both_r) in
    let j : T (justified run A) = search (both_l, both_r) in
    let r : T (reached run A C) = search (both_l, both_r) in
    let o : T (owned C A) = search (both_l, both_r) in
    let ends = ends_of run A j in
    let known = reached_of run A ends C r in
    exact (separate_of run s) (closed_of run C A c) (record { calls = known; answers = λ a D D' m. (known a D (owned_of C A o a D D' m), ends a D D' m) })
