-- `ways` and `comes_to` as relations, and the order of the ways: the least evidence first. Assumes nothing.
use Prim.Native.Nat.{ℕ, suc, ◌<◌}
use native.Mathlib.Omega.{arith}
use mathlib.Core.Path.{◌≡◌, refl, sym, ap, subst}
use mathlib.Core.List.Memᴰ
use mathlib.Core.List.{List, [], ◌∷◌, map, flat_map, Memᴰ}
use mathlib.Core.Logic.{◌⊎◌, ⊎_elim, ◌↔◌}
use lib.ListN.{length}
use Rattle.steps.specs.State.{State}
use Rattle.steps.specs.Step.{Step, Body}
use Rattle.canonical.specs.Rows.{Rows}
use Rattle.canonical.specs.Rounds.{Route, called, leads_to, ways, comes_to}
use Rattle.canonical.proofs.Ordered.{Ordered, ordered_one, ordered_map, ordered_flat, flat_out, flat_in}
use Rattle.canonical.proofs.Keys.{First, first_member, first_least, least_first}
use Rattle.canonical.proofs.Onward.{onward_rise}

-- Less at the first place where they differ.
pub data Lex : List ℕ → List ℕ → Type 0 where
  less : {x y : ℕ} {xs ys : List ℕ} → x < y → Lex (x ∷ xs) (y ∷ ys)
  later : {x y : ℕ} {xs ys : List ℕ} → x ≡ y → Lex xs ys → Lex (x ∷ xs) (y ∷ ys)

pub lex_one : {xs ys : List ℕ} → Lex xs ys → Lex ys xs → ⊥
lex_one (less l) (less m) = omega arith
lex_one (less l) (later e m) = omega arith
lex_one (later e l) (less m) = omega arith
lex_one (later e l) (later f m) = lex_one l m

module _ (t : Rows) where
  -- The steps of a body lead from a state along this evidence to another.
  pub data Along : Body → State → List ℕ → State → Type 0 where
    ended : {s : State} → Along [] s [] s
    step : {x : Step} {rest : Body} {s u f : State} {e : ℕ} {es : List ℕ} → Memᴰ {A = ℕ × State} (e, u) (leads_to t x s) → Along rest u es f → Along (x ∷ rest) s (e ∷ es) f

  -- They come to a call.
  pub data Comes : Body → State → ℕ × State → Type 0 where
    now : {x : Step} {rest : Body} {s : State} {c : ℕ × State} → Memᴰ c (called x s) → Comes (x ∷ rest) s c
    past : {x : Step} {rest : Body} {s u : State} {e : ℕ} {c : ℕ × State} → Memᴰ {A = ℕ × State} (e, u) (leads_to t x s) → Comes rest u c → Comes (x ∷ rest) s c

  pub along_long : {body : Body} {s f : State} {es : List ℕ} → Along body s es f → length es ≡ length body
  along_long ended = refl
  along_long (step m w) = ap suc (along_long w)

  -- the ways of a body are just these
  pub ways_out : {w : Route} (body : Body) (s : State) → Memᴰ w (ways t body s) → Along body s w.0 w.1
  unfolding ways
  ways_out {w} [] s m = let e = Memᴰ.eq_of_singleton m in subst (λ (v : Route). Along [] s v.0 v.1) (sym e) ended
  ways_out {w} (x ∷ rest) s m =
      let (o, k, n) = flat_out (λ (o : ℕ × State). map (λ (w : Route). (o.0 ∷ w.0, w.1)) (ways t rest o.1)) (leads_to t x s) m in
      let (v, l, e) = Memᴰ.of_map (λ (w : Route). (o.0 ∷ w.0, w.1)) (ways t rest o.1) n in
      subst (λ (v : Route). Along (x ∷ rest) s v.0 v.1) e (step {u = o.1} k (ways_out {w = v} rest o.1 l))

  pub ways_in : {body : Body} {s f : State} {es : List ℕ} → Along body s es f → Memᴰ {A = Route} (es, f) (ways t body s)
  unfolding ways
  ways_in ended = Memᴰ.head refl
  ways_in (step {x} {rest} {s} {u} {f} {e} {es} m w) =
      flat_in (λ (o : ℕ × State). map (λ (w : Route). (o.0 ∷ w.0, w.1)) (ways t rest o.1)) m (Memᴰ.map (λ (w : Route). (e ∷ w.0, w.1)) (ways_in w))

  -- in the order of their evidence
  pub ways_ordered : (body : Body) (s : State) → Ordered (λ (v w : Route). Lex v.0 w.0) (ways t body s)
  unfolding ways
  ways_ordered [] s = ordered_one ([], s)
  ways_ordered (x ∷ rest) s = ordered_flat (λ (o : ℕ × State). map (λ (w : Route). (o.0 ∷ w.0, w.1)) (ways t rest o.1))
      (λ o p a b l m n.
      (let (v, j, e) = Memᴰ.of_map (λ (w : Route). (o.0 ∷ w.0, w.1)) (ways t rest o.1) m in
      let (w, k, f) = Memᴰ.of_map (λ (w : Route). (p.0 ∷ w.0, w.1)) (ways t rest p.1) n in
      let q : Lex (o.0 ∷ v.0) (p.0 ∷ w.0) = less l in
      subst (λ (z : Route). Lex a.0 z.0) f (subst (λ (z : Route). Lex z.0 (p.0 ∷ w.0)) e q)))
      (λ o m. ordered_map (λ (w : Route). (o.0 ∷ w.0, w.1)) (λ v w l. later refl l) (ways_ordered rest o.1))
      (onward_rise t x s)

  -- so the first way to a final state is the one with the least evidence
  pub ways_least : {w : Route} (body : Body) (s : State) → First (λ (v : Route). (v.1, 0)) w (ways t body s) ↔ (Memᴰ w (ways t body s) × ((v : Route) → Memᴰ v (ways t body s) → v.1 ≡ w.1 → (w ≡ v) ⊎ Lex w.0 v.0))
  ways_least {w} body s = (
    λ f. (first_member (λ (v : Route). (v.1, 0)) f, λ v m e. first_least (λ (v : Route). (v.1, 0)) (ways_ordered body s) f v m (ap (λ (n : ℕ). (n, 0)) e)),
    λ (m, least). least_first (λ (v : Route). (v.1, 0)) (λ x y. lex_one) (ways_ordered body s) m (λ v l e. least v l (ap (λ (k : ℕ × ℕ). k.0) e)),
  )

  pub comes_out : {c : ℕ × State} (body : Body) (s : State) → Memᴰ c (comes_to t body s) → Comes body s c
  unfolding comes_to
  comes_out [] s m = absurd (Memᴰ.not-nil m)
  comes_out {c} (x ∷ rest) s m = ⊎_elim now (λ k. (let (o, l, n) = flat_out (λ (o : ℕ × State). comes_to t rest o.1) (leads_to t x s) k in past {u = o.1} {e = o.0} l (comes_out rest o.1 n))) (Memᴰ.append_cases (called x s) m)

  pub comes_in : {c : ℕ × State} {body : Body} {s : State} → Comes body s c → Memᴰ c (comes_to t body s)
  unfolding comes_to
  comes_in (now {x} {rest} {s} m) = Memᴰ.append_left (flat_map (λ (o : ℕ × State). comes_to t rest o.1) (leads_to t x s)) m
  comes_in (past {x} {rest} {s} m w) = Memᴰ.append_right (called x s) (flat_in (λ (o : ℕ × State). comes_to t rest o.1) m (comes_in w))
