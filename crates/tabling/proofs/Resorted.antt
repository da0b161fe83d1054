-- Tables whose new records stand in another order: what was found is found, what was closed is closed, and what holds throughout still does.
-- Assumes nothing.
use Prim.Native.Nat.{ℕ, suc, ◌+◌, ◌<◌, ◌≤◌}
use native.Mathlib.Omega.{arith}
use native.Mathlib.Decide.{dec_lt}
use mathlib.Core.Path.{◌≡◌, refl, sym, ap, subst, ◌∙◌}
use mathlib.Core.Bool.{true}
use mathlib.Core.List.{List}
use mathlib.Core.Logic.{◌⊎◌, inl, inr}
use lib.ListN.{get_or, length, length-map}
use Rattle.steps.specs.State.{State}
use Rattle.steps.specs.Step.{Step, call, Body}
use Rattle.steps.specs.Words.{step_of}
use Rattle.sorting.specs.Permuted.{Permuted}
use Rattle.records.specs.Records.{Bodies}
use Rattle.records.specs.Storage.{CallAt, AnswerAt}
use Rattle.records.proofs.Growth.{Tables, HeldCall, Held, Grew, Inside, CallsOnce, AnswersOnce, held_call_up}
use Rattle.records.proofs.Justification.{Proper, Justified, justified_up, Follow, names, steps, Follows, ends, goes}
use Rattle.tabling.proofs.Sweep.{swept_back}
use Rattle.tabling.proofs.Graph.{Front, calls, Leads, Known}
use Rattle.tabling.proofs.Graph as graph
use Rattle.tabling.proofs.Evidence.{Valid, inside_of}
use Rattle.tabling.proofs.Moves.{Of, final, move, EdgeT, GoodT}
use Rattle.tabling.proofs.Closed.{ClosedAt}
use Rattle.tabling.proofs.Found.{FoundBy, AsGood, found_same, good_same, Made, reach_down}

-- Record i of one table is record j of another.
pub record SameCall (u v : Tables) (i j : ℕ) : Type 0 where
  pub action : v.calls.action i ≡ u.calls.action j
  pub state : v.calls.state i ≡ u.calls.state j
  pub round : v.calls.round i ≡ u.calls.round j

pub record SameAnswer (u v : Tables) (x y : ℕ) : Type 0 where
  pub call : v.answers.call x ≡ u.answers.call y
  pub final : v.answers.final x ≡ u.answers.final y
  pub rule : v.answers.rule x ≡ u.answers.rule y
  pub evidence : (q : ℕ) → q < 16 → v.answers.evidence x q ≡ u.answers.evidence y q
  pub round : v.answers.round x ≡ u.answers.round y

-- What stood at i before, and what stands there in the other order: the places below lo keep what stood there.
module _ (Same : ℕ → ℕ → Type 0) {lo n : ℕ} (P : Permuted lo n) (more : lo ≤ n) (stays : (i : ℕ) → i < lo → Same i i)
    (moved : (i : ℕ) → lo ≤ i → i < n → Same i (P.from i)) where
  was : (i : ℕ) → i < n → (j : ℕ) × (j < n) × Same i j
  was i l = by (dec_lt i lo)
    where
      by : Dec (i < lo) → (j : ℕ) × (j < n) × Same i j
      by (yes h) = (i, l, stays i h)
      by (no h) = (P.from i, (P.from_in i (omega arith) l).1, moved i (omega arith) l)

  now_at : (j : ℕ) → j < n → (i : ℕ) × (i < n) × Same i j
  now_at j l = by (dec_lt j lo)
    where
      by : Dec (j < lo) → (i : ℕ) × (i < n) × Same i j
      by (yes h) = (j, l, stays j h)
      by (no h) = let (p, q) = P.back_in j (omega arith) l in (P.back j, q, subst (Same (P.back j)) (P.from_back j (omega arith) l) (moved (P.back j) p q))

  -- what stands at one place alone stood at one place alone
  module _ (At At' : ℕ → Type 0) (back : (i j : ℕ) → Same i j → At' i → At j) (once : (i j : ℕ) → i < j → j < n → At i → At j → ⊥) where
    alone : (i j : ℕ) → i < n → j < n → At i → At j → i ≡ j
    alone i j l h x y = by (dec_lt i j) (dec_lt j i)
      where
        by : Dec (i < j) → Dec (j < i) → i ≡ j
        by (yes k) w = absurd (once i j k h x y)
        by (no k) (yes w) = absurd (once j i w l y x)
        by (no k) (no w) = omega arith

    once_now : (i j : ℕ) → i < j → j < n → At' i → At' j → ⊥
    once_now i j l h x y = by (dec_lt i lo) (dec_lt j lo)
      where
        by : Dec (i < lo) → Dec (j < lo) → ⊥
        by (yes p) (yes q) = once i j l h (back i i (stays i p) x) (back j j (stays j q) y)
        by (no p) (yes q) = omega arith
        by (yes p) (no q) =
            let (c, d) = P.from_in j (omega arith) h in
            omega (arith, alone i (P.from j) (omega arith) d (back i i (stays i p) x) (back j (P.from j) (moved j (omega arith) h) y))
        by (no p) (no q) =
            let k : i < n = omega arith in
            let e = alone (P.from i) (P.from j) (P.from_in i (omega arith) k).1 (P.from_in j (omega arith) h).1
            (back i (P.from i) (moved i (omega arith) k) x) (back j (P.from j) (moved j (omega arith) h) y) in
            omega (arith, sym (P.back_from i (omega arith) k) ∙ ap P.back e ∙ P.back_from j (omega arith) h)

-- v has the records of u, those of b as they were, the others in another order.
pub record Resorted (b u v : Tables) : Type 0 where
  pub calls_count : v.calls.count ≡ u.calls.count
  pub answers_count : v.answers.count ≡ u.answers.count
  pub of_calls : Permuted b.calls.count u.calls.count
  pub of_answers : Permuted b.answers.count u.answers.count
  pub call_stays : (i : ℕ) → i < b.calls.count → SameCall u v i i
  pub answer_stays : (x : ℕ) → x < b.answers.count → SameAnswer u v x x
  pub call_moved : (i : ℕ) → b.calls.count ≤ i → i < u.calls.count → SameCall u v i (of_calls.from i)
  pub answer_moved : (x : ℕ) → b.answers.count ≤ x → x < u.answers.count → SameAnswer u v x (of_answers.from x)

module _ {b u v : Tables} (R : Resorted b u v) (more_calls : b.calls.count ≤ u.calls.count) (more_answers : b.answers.count ≤ u.answers.count) where
  -- where a record of v stood in u, and where one of u stands in v
  pub call_was : (i : ℕ) → i < v.calls.count → (j : ℕ) × (j < u.calls.count) × SameCall u v i j
  call_was i l = was (SameCall u v) R.of_calls more_calls R.call_stays R.call_moved i (omega (arith, R.calls_count))

  pub call_now : (j : ℕ) → j < u.calls.count → (i : ℕ) × (i < v.calls.count) × SameCall u v i j
  call_now j l = let (i, h, s) = now_at (SameCall u v) R.of_calls more_calls R.call_stays R.call_moved j l in (i, omega (arith, R.calls_count), s)

  pub answer_was : (x : ℕ) → x < v.answers.count → (y : ℕ) × (y < u.answers.count) × SameAnswer u v x y
  answer_was x l = was (SameAnswer u v) R.of_answers more_answers R.answer_stays R.answer_moved x (omega (arith, R.answers_count))

  pub answer_now : (y : ℕ) → y < u.answers.count → (x : ℕ) × (x < v.answers.count) × SameAnswer u v x y
  answer_now y l = let (x, h, s) = now_at (SameAnswer u v) R.of_answers more_answers R.answer_stays R.answer_moved y l in (x, omega (arith, R.answers_count), s)

  -- what they hold
  pub held_call_now : (c : ℕ × State) → HeldCall u c → HeldCall v c
  held_call_now c (j, l, k) = let (i, h, s) = call_now j l in (i, h, record { has_action = s.action ∙ k.has_action; has_state = s.state ∙ k.has_state })

  pub held_now : (row : ℕ) (f : State) → Held u row f → Held v row f
  held_now row f (y, l, k) = let (x, h, s) = answer_now y l in (x, h, record { has_call = s.call ∙ k.has_call; has_final = s.final ∙ k.has_final })

  -- each once
  pub calls_once_now : CallsOnce u.calls → CallsOnce v.calls
  calls_once_now once i j a D l h = once_now (SameCall u v) R.of_calls more_calls R.call_stays R.call_moved (λ i. CallAt u.calls i a D) (λ i. CallAt v.calls i a D)
      (λ i j s c. record { has_action = sym s.action ∙ c.has_action; has_state = sym s.state ∙ c.has_state }) (λ i j l h. once i j a D l h) i j l (omega (arith, R.calls_count))

  pub answers_once_now : AnswersOnce u.answers → AnswersOnce v.answers
  answers_once_now once x y row f l h = once_now (SameAnswer u v) R.of_answers more_answers R.answer_stays R.answer_moved (λ x. AnswerAt u.answers x row f) (λ x. AnswerAt v.answers x row f)
      (λ x y s c. record { has_call = sym s.call ∙ c.has_call; has_final = sym s.final ∙ c.has_final }) (λ x y l h. once x y row f l h) x y l (omega (arith, R.answers_count))

  -- the records of b stay
  pub grew_now : Grew b u → Grew b v
  grew_now g = record {
    calls_more = omega (arith, R.calls_count);
    answers_more = omega (arith, R.answers_count);
    action_same = λ {i} l. (R.call_stays i l).action ∙ g.action_same l;
    state_same = λ {i} l. (R.call_stays i l).state ∙ g.state_same l;
    call_round = λ {i} l. (R.call_stays i l).round ∙ g.call_round l;
    call_same = λ {x} l. (R.answer_stays x l).call ∙ g.call_same l;
    final_same = λ {x} l. (R.answer_stays x l).final ∙ g.final_same l;
    rule_same = λ {x} l. (R.answer_stays x l).rule ∙ g.rule_same l;
    evidence_same = λ {x} q l h. (R.answer_stays x l).evidence q h ∙ g.evidence_same q l h;
    answer_round = λ {x} l. (R.answer_stays x l).round ∙ g.answer_round l;
  }

  -- what was found is found
  pub made_now : {bodies : Bodies} {r : ℕ} → Proper bodies
      → ((x y : ℕ) → b.answers.count ≤ x → x < y → y < v.answers.count → v.answers.call x ≤ v.answers.call y) → Made bodies r b u → Made bodies r b v
  made_now {bodies} {r} proper rising M = record {
    grew = grew_now M.grew;
    call_found = λ i h l.
        (let k : i < u.calls.count = omega (arith, R.calls_count) in
        let (p, q) = R.of_calls.from_in i h k in
        let s = R.call_moved i h k in
        rw (s.action, s.state, s.round) (M.call_found (R.of_calls.from i) p q));
    answer_found = λ x h l.
        (let k : x < u.answers.count = omega (arith, R.answers_count) in
        let (p, q) = R.of_answers.from_in x h k in
        let s = R.answer_moved x h k in
        let (F, e) = M.answer_found (R.of_answers.from x) p q in
        rw (s.call, s.final, s.rule, s.round) (found_same (λ j i. sym (s.evidence j (omega (arith, proper.short _ _ (M.answer_found (R.of_answers.from x) p q).0.fits)))) F, e));
    best = λ x h l rule ev.
        (let k : x < u.answers.count = omega (arith, R.answers_count) in
        let (p, q) = R.of_answers.from_in x h k in
        let s = R.answer_moved x h k in
        rw (s.call, s.final, s.rule) (λ F. good_same (λ j i. sym (s.evidence j (omega (arith, proper.short _ _ (M.answer_found (R.of_answers.from x) p q).0.fits)))) (M.best (R.of_answers.from x) p q rule ev F)));
    by_row = rising;
  }

  -- what was closed is closed
  module _ (g : Grew b u) (inside : Inside b b.answers.count) where
    leads_was : (f : Front State (ℕ × State)) (x : ℕ) (t : State) → Leads (Of v b.answers.count) (final v) f x t → Leads (Of u b.answers.count) (final u) f x t
    leads_was graph.stuck x t e = e
    leads_was (graph.goes s) x t e = e
    leads_was (calls c) x t (o, e) =
        let s = R.answer_stays x o.below in
        let i : u.answers.call x < b.calls.count = rw (g.call_same o.below) (inside x o.below) in
        let k = R.call_stays (u.answers.call x) i in
        (record { below = o.below; action = sym (ap v.calls.action s.call ∙ k.action) ∙ o.action; state = sym (ap v.calls.state s.call ∙ k.state) ∙ o.state }, sym s.final ∙ e)

    known_now : (f : Front State (ℕ × State)) → Known (HeldCall u) f → Known (HeldCall v) f
    known_now graph.stuck k = k
    known_now (graph.goes s) k = k
    known_now (calls c) k = held_call_now c k

    pub closed_now : (body : List ℕ) (row : ℕ) → row < b.calls.count → ClosedAt body u b.answers.count row → ClosedAt body v b.answers.count row
    closed_now body row l k =
        rw (R.call_stays row l).state
        (swept_back (λ q s x t e. (e.0, leads_was (move (get_or body q 0) s) x t e.1))
        (λ q s w. record { ends = λ e. held_now row s (w.ends e); called = λ h. known_now (move (get_or body q 0) s) (w.called h) }) k)

-- ---- what holds throughout still holds
module _ {bodies : Bodies} {Root : ℕ → State → Type 0} {b u v : Tables} (R : Resorted b u v) (proper : Proper bodies) (valid : Valid bodies Root b) (U : Valid bodies Root u) {r : ℕ} (M : Made bodies r b u) where
  -- a record of the round names only answers of earlier ones, which stay where they are
  module _ {x y : ℕ} (new : b.answers.count ≤ x) (h : b.answers.count ≤ y) (l : y < u.answers.count) (same : SameAnswer u v x y) where
    old_named : {e : ℕ} → e < y → u.answers.round e < u.answers.round y → e < b.answers.count
    old_named {e} k s = by (dec_lt e b.answers.count)
      where
        by : Dec (e < b.answers.count) → e < b.answers.count
        by (yes d) = d
        by (no d) = absurd (omega (arith, (M.answer_found e (omega arith) (omega arith)).1, (M.answer_found y h l).1))

    follow_moved : {z : Step} {s : State} {e : ℕ} {s' : State} → Follow u y z s e s' → Follow v x z s e s'
    follow_moved (names {a} {e} {s} k t f g) =
        let d = old_named k t in
        let A = R.answer_stays e d in
        let i : u.answers.call e < b.calls.count = rw (M.grew.call_same d) (inside_of valid e d) in
        let C = R.call_stays (u.answers.call e) i in
        let t' : v.answers.round e < v.answers.round x = omega (arith, A.round, same.round) in
        subst (Follow v x (call a) s e) A.final (names (omega arith) t' (ap v.calls.action A.call ∙ C.action ∙ f) (ap v.calls.state A.call ∙ C.state ∙ g))
    follow_moved (steps d) = steps d

    follows_moved : {xs : Body} {q : ℕ} {s : State} → q + length xs ≤ 16 → Follows u y xs q s → Follows v x xs q s
    follows_moved k (ends e z) = ends (e ∙ sym same.final) (λ i a d. same.evidence i d ∙ z i a d)
    follows_moved k (goes {x = z} {rest} {q} {s} {s'} f w) =
        goes (subst (λ (e : ℕ). Follow v x z s e s') (sym (same.evidence q (omega arith))) (follow_moved f)) (follows_moved (omega arith) w)

    justified_moved : Justified bodies u y → Justified bodies v x
    justified_moved j =
        let c : v.answers.call x ≡ u.answers.call y = same.call in
        let C = R.call_stays (u.answers.call y) (M.answer_found y h l).0.row_in in
        let f : v.calls.action (v.answers.call x) ≡ u.calls.action (u.answers.call y) = ap v.calls.action c ∙ C.action in
        let s : v.calls.state (v.answers.call x) ≡ u.calls.state (u.answers.call y) = ap v.calls.state c ∙ C.state in
        record {
          exists = rw c (omega (arith, j.exists, R.calls_count));
          fits = rw (same.rule, f) j.fits;
          followed = rw (same.rule, f, s) (follows_moved (omega (arith, length-map (bodies.words (u.answers.rule y) (u.calls.action (u.answers.call y))) step_of, proper.short _ _ j.fits)) j.followed);
        }

  pub valid_now : Valid bodies Root v
  valid_now = record {
    roots = λ a D h. held_call_now R M.grew.calls_more M.grew.answers_more (a, D) (U.roots a D h);
    calls_once = calls_once_now R M.grew.calls_more M.grew.answers_more U.calls_once;
    answers_once = answers_once_now R M.grew.calls_more M.grew.answers_more U.answers_once;
    reached = λ i l. (let (j, h, s) = call_was R M.grew.calls_more M.grew.answers_more i l in rw (s.action, s.state) (U.reached j h));
    justified = λ x l. by x l (dec_lt x b.answers.count);
  }
    where
      by : (x : ℕ) → x < v.answers.count → Dec (x < b.answers.count) → Justified bodies v x
      by x l (yes h) = justified_up (grew_now R M.grew.calls_more M.grew.answers_more M.grew) (inside_of valid) h proper (valid.justified x h)
      by x l (no h) =
          let k : x < u.answers.count = omega (arith, R.answers_count) in
          let (p, q) = R.of_answers.from_in x (omega arith) k in
          justified_moved (omega arith) p q (R.answer_moved x (omega arith) k) (U.justified (R.of_answers.from x) q)
