-- What a way of the search shows: the calls that it comes to are reached, and its answers are evidence. Assumes nothing.
use Prim.Native.Nat.{ℕ, zero, suc, ◌+◌, ◌%◌, ◌<◌, ◌≤◌}
use native.Mathlib.Omega.{arith}
use mathlib.Core.Path.{◌≡◌, refl, subst, ap, ◌∙◌}
use mathlib.Core.Bool.{true}
use mathlib.Core.List.{List, [], ◌∷◌, Memᴰ}
use mathlib.Core.Logic.{◌⊎◌, inl, inr}
use lib.ListN.{length, get_or, drop, drop_of_length-le}
use lib.Seq.{drop-cons}
use Rattle.steps.specs.State.{State}
use Rattle.steps.specs.Step.{Step, query, insert, delete, call, deny, Body}
use Rattle.steps.specs.Words.{step_of, body_of}
use Rattle.steps.specs.Inner.{is_call}
use Rattle.steps.specs.Elementary.{Onward, on, stuck, elementary}
use Rattle.steps.proofs.WordLaws.{call_word, elementary_does}
use Rattle.steps.proofs.Deductions.{Does}
use Rattle.steps.proofs.Execution.{Ends}
use Rattle.steps.proofs.Tables.{Walk, stands, walks, takes, Reached, walk_reached, walk_runs}
use Rattle.records.specs.Records.{Bodies}
use Rattle.records.proofs.Growth.{Tables, HeldCall, Grew, Inside, CallsOnce, AnswersOnce}
use Rattle.records.proofs.Justification.{Has, Justified, Follow, names, steps, Follows, ends, goes, record_ends}
use Rattle.tabling.proofs.Sweep.{Way}
use Rattle.tabling.proofs.Graph.{Leads}
use Rattle.tabling.proofs.Moves.{front, move_step, Of, final, EdgeT}

-- Roots given as a list.
abbrev pub Among : List (ℕ × State) → ℕ → State → Type 0
Among roots a D = Memᴰ {A = ℕ × State} (a, D) roots

-- What holds of the tables throughout an evaluation: the roots stand, each record stands once, each call is reached, each answer justified.
pub record Valid (bodies : Bodies) (Root : ℕ → State → Type 0) (t : Tables) : Type 0 where
  pub roots : (a : ℕ) (D : State) → Root a D → HeldCall t (a, D)
  pub calls_once : CallsOnce t.calls
  pub answers_once : AnswersOnce t.answers
  pub reached : (i : ℕ) → i < t.calls.count → Reached Does (Has bodies) Root (t.calls.action i) (t.calls.state i)
  pub justified : (x : ℕ) → x < t.answers.count → Justified bodies t x

pub inside_of : {bodies : Bodies} {Root : ℕ → State → Type 0} {t : Tables} → Valid bodies Root t → Inside t t.answers.count
inside_of v x h = (v.justified x h).exists

-- ---- an edge is a step

module _ (b : Tables) (known : ℕ) where
  -- the step takes an answer of its call, or is done
  abbrev Took : Step → State → ℕ → State → Type 0
  Took x s e t = ((a : ℕ) × (x ≡ call a) × Of b known (a, s) e × (final b e ≡ t)) ⊎ ((e ≡ 0) × Does x s t)

  did : (x : Step) (s : State) (e : ℕ) (t : State) (o : Onward) → elementary x s ≡ o → Leads (Of b known) (final b) (front o) e t → Took x s e t
  did x s e t (on u) q (z, f) = inr (z, elementary_does x s t (q ∙ ap on f))
  did x s e t stuck q l = absurd l

  took : (x : Step) (s : State) (e : ℕ) (t : State) → Leads (Of b known) (final b) (move_step x s) e t → Took x s e t
  unfolding move_step
  took (call a) s e t (o, f) = inl (a, refl, o, f)
  took (query p) s e t l = did (query p) s e t (elementary (query p) s) refl l
  took (insert p) s e t l = did (insert p) s e t (elementary (insert p) s) refl l
  took (delete p) s e t l = did (delete p) s e t (elementary (delete p) s) refl l
  took (deny p) s e t l = did (deny p) s e t (elementary (deny p) s) refl l

  -- the answers that serve as evidence, as a relation
  abbrev pub Serves : ℕ → State → State → Type 0
  Serves a E F = (x : ℕ) × Of b known (a, E) x × (final b x ≡ F)

  took_walk : {x : Step} {s t f : State} {e : ℕ} {rest left : Body} → Took x s e t → Walk Does Serves t rest f left → Walk Does Serves s (x ∷ rest) f left
  took_walk {s = s} {f = f} {e = e} {rest = rest} {left = left} (inl (a, z, o, g)) w = let v : Walk Does Serves s (call a ∷ rest) f left = takes (e, o, g) w in rw z v
  took_walk (inr (z, d)) w = walks d w

  module _ (body : List ℕ) where
    -- a way to place n is a walk of the steps before it
    pub way_walk : {ev : ℕ → ℕ} {D s : State} {n : ℕ} → n ≤ length body → Way (EdgeT b known body) ev D n s → Walk Does Serves D (body_of body) s (body_of (drop n body))
    way_walk {ev} {D} {s} {n} h W = subst (λ (v : State). Walk Does Serves v (body_of body) s (body_of (drop n body))) W.from (go n 0 (omega arith))
      where
        go : (k q : ℕ) → q + k ≡ n → Walk Does Serves (W.st q) (body_of (drop q body)) s (body_of (drop n body))
        go zero q e = let z : q ≡ n = omega arith in rw (z, W.now) stands
        go (suc k) q e =
            let l : q < length body = omega arith in
            rw (drop-cons body q 0 l) (took_walk (took (step_of (get_or body q 0)) (W.st q) (ev q) (W.st (suc q)) (W.edges q (omega arith)).1) (go k (suc q) (omega arith)))

    module _ {bodies : Bodies} {Root : ℕ → State → Type 0} (v : Valid bodies Root b) (enough : known ≤ b.answers.count) where
      serves_ends : (a : ℕ) (E F : State) → Serves a E F → Ends Does (Has bodies) a E F
      serves_ends a E F (x, o, e) = rw (o.action, o.state, e) at (record_ends v.justified Root x (omega (arith, o.below)))

      -- the call that the search stands at is reached
      pub come_reached : {a : ℕ} {ev : ℕ → ℕ} {D s : State} {n : ℕ} → Reached Does (Has bodies) Root a D → Has bodies a (body_of body) → n < length body → is_call (get_or body n 0) ≡ true
          → Way (EdgeT b known body) ev D n s → Reached Does (Has bodies) Root (get_or body n 0 % 256) s
      come_reached {D = D} {s} {n} c o h e W =
          let w : Walk Does Serves D (body_of body) s (step_of (get_or body n 0) ∷ body_of (drop (suc n) body)) = rw (drop-cons body n 0 h) at (way_walk (omega arith) W) in
          let w' : Walk Does Serves D (body_of body) s (call (get_or body n 0 % 256) ∷ body_of (drop (suc n) body)) = rw (call_word (get_or body n 0) e) at w in
          walk_reached Does (Has bodies) Root serves_ends c o w'

      -- the state at the body's end is a final one
      pub way_ends : {a : ℕ} {ev : ℕ → ℕ} {D s : State} → Has bodies a (body_of body) → Way (EdgeT b known body) ev D (length body) s → Ends Does (Has bodies) a D s
      way_ends {D = D} {s} o W =
          let w : Walk Does Serves D (body_of body) s (body_of []) = rw (drop_of_length-le body {i = length body} (omega arith)) at (way_walk (omega arith) W) in
          (body_of body, o, walk_runs Does (Has bodies) Root serves_ends w)

  -- a way to the end is evidence, in any tables that have grown from b
  module _ {u : Tables} (g : Grew b u) (inside : Inside b b.answers.count) (enough : known ≤ b.answers.count) (n : ℕ) (after : known ≤ n)
      (sooner : (e : ℕ) → e < known → u.answers.round e < u.answers.round n) where
    took_follow : {x : Step} {s t : State} {e : ℕ} → Took x s e t → Follow u n x s e t
    took_follow {x} {s} {t} {e} (inl (a, z, o, f)) =
        let i : e < b.answers.count = omega (arith, o.below) in
        let j : b.answers.call e < b.calls.count = inside e i in
        let w : Follow u n (call a) s e t = subst (Follow u n (call a) s e) (g.final_same i ∙ f)
        (names (omega (arith, o.below)) (sooner e o.below) (ap u.calls.action (g.call_same i) ∙ g.action_same j ∙ o.action) (ap u.calls.state (g.call_same i) ∙ g.state_same j ∙ o.state)) in
        rw z w
    took_follow (inr (z, d)) = rw z (steps d)

    pub way_follows : {ev : ℕ → ℕ} {D s : State} (body : List ℕ) → length body ≤ 16 → ((q : ℕ) → q < 16 → u.answers.evidence n q ≡ ev q) → ((q : ℕ) → length body ≤ q → ev q ≡ 0) → s ≡ u.answers.final n
        → Way (EdgeT b known body) ev D (length body) s → Follows u n (body_of body) 0 D
    way_follows {ev} {D} {s} body short same unused f W = subst (λ (v : State). Follows u n (body_of body) 0 v) W.from (go (length body) 0 (omega arith))
      where
        go : (k q : ℕ) → q + k ≡ length body → Follows u n (body_of (drop q body)) q (W.st q)
        go zero q e =
            let z : q ≡ length body = omega arith in
            let v : Follows u n [] q (W.st q) = ends (ap W.st z ∙ W.now ∙ f) (λ i (l : q ≤ i) (h : i < 16). same i h ∙ unused i (omega arith)) in
            rw (drop_of_length-le body {i = q} (omega arith)) v
        go (suc k) q e =
            let l : q < length body = omega arith in
            let x : Follow u n (step_of (get_or body q 0)) (W.st q) (u.answers.evidence n q) (W.st (suc q)) =
            rw (same q (omega arith)) (took_follow (took (step_of (get_or body q 0)) (W.st q) (ev q) (W.st (suc q)) (W.edges q l).1)) in
            rw (drop-cons body q 0 l) (goes x (go k (suc q) (omega arith)))
