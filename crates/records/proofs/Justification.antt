-- What the test `justified` says, as relations; justified records of grown tables; what justified records show of executions. Assumes nothing.
use Prim.Native.Nat.{ℕ, suc, ◌+◌, ◌-◌, ◌<◌, ◌≤◌}
use native.Mathlib.Omega.{arith}
use mathlib.Core.Path.{◌≡◌, refl, sym, ap, subst, ◌∙◌}
use mathlib.Core.Bool.{Bool, true, false, cond, ◌&&◌}
use mathlib.Core.List.{[], ◌∷◌, Memᴰ}
use lib.ListN.{length, length-map}
use lib.Dec.{eqb, ltb}
use borrow.Author.Tests.{ltb-true, lt-ltb, eqb-true, eq-eqb}
use Rattle.steps.specs.State.{State}
use Rattle.steps.specs.Step.{Step, query, insert, delete, call, deny, Body}
use Rattle.steps.specs.Words.{step_of, body_of}
use Rattle.steps.specs.Elementary.{Onward, on, stuck, elementary}
use Rattle.steps.proofs.EachBelow.{both, each_at, each_all, true_not_false}
use Rattle.steps.proofs.WordLaws.{Low, elementary_does, does_elementary, not_on, on_same}
use Rattle.steps.proofs.Deductions.{Does, asks, adds, drops, lacks}
use Rattle.steps.proofs.Execution.{Ends}
use Rattle.steps.proofs.Tables.{Walk, stands, walks, takes, justified_ends}
use Rattle.records.specs.Records.{Bodies, earlier, follow, follows, justified}
use Rattle.records.proofs.Growth.{Tables, Grew, Inside}

-- The bodies of an action: those of the rule numbers that go with it.
abbrev pub Has : Bodies → ℕ → Body → Type 0
Has bodies a body = (i : ℕ) × (bodies.fits i a ≡ true) × (body ≡ body_of (bodies.words i a))

-- Bodies that are accepted: at most 16 steps, each of a fluent that a state has.
pub record Proper (bodies : Bodies) : Type 0 where
  pub short : (i a : ℕ) → bodies.fits i a ≡ true → length (bodies.words i a) ≤ 16
  pub low : (i a : ℕ) → bodies.fits i a ≡ true → (x : Step) → Memᴰ x (body_of (bodies.words i a)) → Low x

module _ (t : Tables) (n : ℕ) where
  -- Step x of record n leads from s to s' with evidence e.
  pub data Follow : Step → State → ℕ → State → Type 0 where
    names : {a e : ℕ} {s : State} → e < n → t.answers.round e < t.answers.round n → t.calls.action (t.answers.call e) ≡ a → t.calls.state (t.answers.call e) ≡ s → Follow (call a) s e (t.answers.final e)
    steps : {x : Step} {s s' : State} → Does x s s' → Follow x s 0 s'

  -- Record n's evidence walks the steps from place q on, from s to its final state.
  pub data Follows : Body → ℕ → State → Type 0 where
    ends : {q : ℕ} {s : State} → s ≡ t.answers.final n → ((i : ℕ) → q ≤ i → i < 16 → t.answers.evidence n i ≡ 0) → Follows [] q s
    goes : {x : Step} {rest : Body} {q : ℕ} {s s' : State} → Follow x s (t.answers.evidence n q) s' → Follows rest (suc q) s' → Follows (x ∷ rest) q s

  elementary_follow : (x : Step) (s : State) (e : ℕ) (s' : State) (b : Bool) → eqb e 0 ≡ b → cond b (elementary x s) stuck ≡ on s' → Follow x s e s'
  elementary_follow x s e s' true z h = rw (eqb-true e 0 z) (steps (elementary_does x s s' h))
  elementary_follow x s e s' false z h = absurd (not_on h)

  follow_out : (x : Step) (s : State) (e : ℕ) (s' : State) → follow t.calls t.answers n x s e ≡ on s' → Follow x s e s'
  unfolding follow
  follow_out (query p) s e s' h = elementary_follow (query p) s e s' (eqb e 0) refl h
  follow_out (insert p) s e s' h = elementary_follow (insert p) s e s' (eqb e 0) refl h
  follow_out (delete p) s e s' h = elementary_follow (delete p) s e s' (eqb e 0) refl h
  follow_out (deny p) s e s' h = elementary_follow (deny p) s e s' (eqb e 0) refl h
  follow_out (call a) s e s' h = by (earlier t.calls t.answers n e && (eqb (t.calls.action (t.answers.call e)) a && eqb (t.calls.state (t.answers.call e)) s)) refl h
    where
      by : (b : Bool) → (earlier t.calls t.answers n e && (eqb (t.calls.action (t.answers.call e)) a && eqb (t.calls.state (t.answers.call e)) s)) ≡ b → cond b (on (t.answers.final e)) stuck ≡ on s' → Follow (call a) s e s'
      by true z k =
          let (l, r) = both (earlier t.calls t.answers n e) _ z in
          let (p, q) = both (ltb e n) _ l in
          let (f, g) = both (eqb (t.calls.action (t.answers.call e)) a) _ r in
          subst (Follow (call a) s e) (on_same k) (names (ltb-true e n p) (ltb-true _ _ q) (eqb-true _ a f) (eqb-true _ s g))
      by false z k = absurd (not_on k)

  follow_in : {x : Step} {s : State} {e : ℕ} {s' : State} → Low x → Follow x s e s' → follow t.calls t.answers n x s e ≡ on s'
  unfolding follow
  follow_in l (names {a} {e} {s} h k f g) = rw (lt-ltb e n h, lt-ltb _ _ k, eq-eqb _ a f, eq-eqb _ s g) refl
  follow_in l (steps {s = s} {s'} (asks {p} h)) = does_elementary (query p) s s' l (asks h)
  follow_in l (steps {s = s} {s'} (adds {p})) = does_elementary (insert p) s s' l adds
  follow_in l (steps {s = s} {s'} (drops {p})) = does_elementary (delete p) s s' l drops
  follow_in l (steps {s = s} {s'} (lacks {p} h)) = does_elementary (deny p) s s' l (lacks h)

  follows_out : (xs : Body) (q : ℕ) (s : State) → follows t.calls t.answers n xs q s ≡ true → Follows xs q s
  unfolding follows
  follows_out [] q s h =
      let (e, z) = both (eqb s (t.answers.final n)) _ h in
      let unused : (i : ℕ) → q ≤ i → i < 16 → t.answers.evidence n i ≡ 0 =
      λ i l k. (let at : q + (i - q) ≡ i = omega arith in
      subst (λ (j : ℕ). t.answers.evidence n j ≡ 0) at (eqb-true (t.answers.evidence n (q + (i - q))) 0 (each_at (λ i. eqb (t.answers.evidence n (q + i)) 0) (16 - q) z (i - q) (omega arith)))) in
      ends (eqb-true s _ e) unused
  follows_out (x ∷ rest) q s h = by (follow t.calls t.answers n x s (t.answers.evidence n q)) refl h (follows_out rest (suc q))
    where
      by : (o : Onward) → follow t.calls t.answers n x s (t.answers.evidence n q) ≡ o → elim o [ on s' ↦ follows t.calls t.answers n rest (suc q) s' | stuck ↦ false ] ≡ true
          → ((s' : State) → follows t.calls t.answers n rest (suc q) s' ≡ true → Follows rest (suc q) s') → Follows (x ∷ rest) q s
      by (on s') e k out = goes (follow_out x s (t.answers.evidence n q) s' e) (out s' k)
      by stuck e k out = absurd (true_not_false (sym k))

  follows_in : {xs : Body} {q : ℕ} {s : State} → ((x : Step) → Memᴰ x xs → Low x) → Follows xs q s → follows t.calls t.answers n xs q s ≡ true
  unfolding follows
  follows_in low (ends {q} {s} e z) = rw (eq-eqb s _ e, each_all (λ i. eqb (t.answers.evidence n (q + i)) 0) (16 - q) (λ i l. eq-eqb _ 0 (z (q + i) (omega arith) (omega arith)))) refl
  follows_in low (goes {x} {rest} {q} f w) =
      subst (λ (o : Onward). elim o [ on s' ↦ follows t.calls t.answers n rest (suc q) s' | stuck ↦ false ] ≡ true)
      (sym (follow_in (low x (Memᴰ.head refl)) f)) (follows_in (λ y m. low y (Memᴰ.tail m)) w)

-- What the test says of record n.
pub record Justified (bodies : Bodies) (t : Tables) (n : ℕ) : Type 0 where
  pub exists : t.answers.call n < t.calls.count
  pub fits : bodies.fits (t.answers.rule n) (t.calls.action (t.answers.call n)) ≡ true
  pub followed : Follows t n (body_of (bodies.words (t.answers.rule n) (t.calls.action (t.answers.call n)))) 0 (t.calls.state (t.answers.call n))

module _ {bodies : Bodies} {t : Tables} {n : ℕ} where
  pub justified_out : justified t.calls t.answers n bodies ≡ true → Justified bodies t n
  unfolding justified
  justified_out h =
      let (e, r) = both (ltb (t.answers.call n) t.calls.count) _ h in
      let (f, w) = both (bodies.fits (t.answers.rule n) (t.calls.action (t.answers.call n))) _ r in
      record { exists = ltb-true _ _ e; fits = f; followed = follows_out t n _ 0 _ w }

  pub justified_in : Proper bodies → Justified bodies t n → justified t.calls t.answers n bodies ≡ true
  unfolding justified
  justified_in proper j = rw (lt-ltb _ _ j.exists, j.fits) (follows_in t n (proper.low _ _ j.fits) j.followed)

-- ---- records of grown tables stay justified
module _ {t u : Tables} (g : Grew t u) (inside : Inside t t.answers.count) {n : ℕ} (l : n < t.answers.count) where
  follow_up : {x : Step} {e : ℕ} {s s' : State} → Follow t n x s e s' → Follow u n x s e s'
  follow_up {s' = s'} (names {a} {e} {s} h r f k) =
      let b : e < t.answers.count = omega arith in
      let r' : u.answers.round e < u.answers.round n = omega (arith, g.answer_round b, g.answer_round l) in
      let i : t.answers.call e < t.calls.count = inside e b in
      subst (Follow u n (call a) s e) (g.final_same b) (names h r' (ap u.calls.action (g.call_same b) ∙ g.action_same i ∙ f) (ap u.calls.state (g.call_same b) ∙ g.state_same i ∙ k))
  follow_up (steps d) = steps d

  follows_up : {xs : Body} {q : ℕ} {s : State} → q + length xs ≤ 16 → Follows t n xs q s → Follows u n xs q s
  follows_up h (ends e z) = ends (e ∙ sym (g.final_same l)) (λ i k m. g.evidence_same i l m ∙ z i k m)
  follows_up h (goes {x} {rest} {q} {s} {s'} f w) =
      goes (subst (λ (e : ℕ). Follow u n x s e s') (sym (g.evidence_same q l (omega arith))) (follow_up f)) (follows_up (omega arith) w)

  pub justified_up : {bodies : Bodies} → Proper bodies → Justified bodies t n → Justified bodies u n
  justified_up {bodies} proper j =
      let f : u.calls.action (u.answers.call n) ≡ t.calls.action (t.answers.call n) = ap u.calls.action (g.call_same l) ∙ g.action_same j.exists in
      let s : u.calls.state (u.answers.call n) ≡ t.calls.state (t.answers.call n) = ap u.calls.state (g.call_same l) ∙ g.state_same j.exists in
      record {
        exists = rw (g.call_same l) (omega (arith, j.exists, g.calls_more));
        fits = rw (g.rule_same l, f) j.fits;
        followed = rw (g.rule_same l, f, s) (follows_up (omega (arith, length-map (bodies.words (t.answers.rule n) (t.calls.action (t.answers.call n))) step_of, proper.short _ _ j.fits)) j.followed);
      }

-- ---- what justified records show
module _ {bodies : Bodies} {t : Tables} (all : (n : ℕ) → n < t.answers.count → Justified bodies t n) where
  -- record n as a call with a final state
  abbrev Row : ℕ → ℕ → State → State → Type 0
  Row n a D D' = (n < t.answers.count) × (t.calls.action (t.answers.call n) ≡ a) × (t.calls.state (t.answers.call n) ≡ D) × (t.answers.final n ≡ D')

  -- the records below n, as answers of a table
  abbrev Below : ℕ → ℕ → State → State → Type 0
  Below n b E E' = (m : ℕ) × (m < n) × Row m b E E'

  follow_walk : {n e : ℕ} {x : Step} {rest : Body} {s s' f : State} → n < t.answers.count → Follow t n x s e s' → Walk Does (Below n) s' rest f [] → Walk Does (Below n) s (x ∷ rest) f []
  follow_walk l (names {e = e} h r a k) w = takes (e, h, (omega arith, a, k, refl)) w
  follow_walk l (steps d) w = walks d w

  follows_walk : {n : ℕ} {xs : Body} {q : ℕ} {s : State} → n < t.answers.count → Follows t n xs q s → Walk Does (Below n) s xs (t.answers.final n) []
  follows_walk l (ends e z) = rw e stands
  follows_walk l (goes f w) = follow_walk l f (follows_walk l w)

  -- each holds a final state of its call's action
  pub record_ends : (Root : ℕ → State → Type 0) (n : ℕ) → n < t.answers.count → Ends Does (Has bodies) (t.calls.action (t.answers.call n)) (t.calls.state (t.answers.call n)) (t.answers.final n)
  record_ends Root n l = justified_ends Does (Has bodies) Root Row just n _ _ _ (l, refl, refl, refl)
    where
      just : (n a : ℕ) (D D' : State) → Row n a D D' → (body : Body) × Has bodies a body × Walk Does (Below n) D body D' []
      just n a D D' (l, p, q, r) =
          let j = all n l in
          (body_of (bodies.words (t.answers.rule n) a), (t.answers.rule n, rw p at j.fits, refl), rw (p, q, r) at (follows_walk l j.followed))
