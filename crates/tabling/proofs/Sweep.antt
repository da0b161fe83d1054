-- Depth-first search with marks in a layered graph, and why it leaves nothing out. Assumes nothing.
--
-- A node is a place q and a state s. An edge to a node at the next place has a number, its label, and the label settles where it leads.
-- (In a body an elementary step is an edge with the label 0, and a call step has an edge for each usable answer, labelled by its number.)
-- A marked node is on the way that the search has come, or swept: all that can be met from it is good.
use Prim.Native.Nat.{ℕ, zero, suc, ◌+◌, ◌<◌, ◌≤◌}
use native.Mathlib.Omega.{arith}
use native.Mathlib.Decide.{dec_lt}
use mathlib.Core.Path.{◌≡◌, refl, sym, ap, subst, ◌∙◌}
use mathlib.Core.Logic.{◌⊎◌, inl, inr, ⊎_elim}

-- a number below suc n is below n or is n
pub last_or : {q n : ℕ} → q < suc n → (q < n) ⊎ (q ≡ n)
last_or {q} {n} h = elim (dec_lt q n) [ yes l ↦ inl l | no m ↦ inr (omega arith) ]

pub first_or : {q p : ℕ} → q ≤ p → (q < p) ⊎ (q ≡ p)
first_or {q} {p} h = elim (dec_lt q p) [ yes l ↦ inl l | no m ↦ inr (omega arith) ]

-- what holds past p and at p holds from p on
pub from_here : (P : ℕ → Type 0) {at p : ℕ} → ((q : ℕ) → p < q → q < at → P q) → P p → (q : ℕ) → p ≤ q → q < at → P q
from_here P k s q a b = ⊎_elim (λ l. k q l b) (λ z. subst P z s) (first_or a)

-- ev is less than ev' at the first of n places where they differ
abbrev pub Less : (ℕ → ℕ) → (ℕ → ℕ) → ℕ → Type 0
Less ev ev' n = (q : ℕ) × (q < n) × (ev q < ev' q) × ((p : ℕ) → p < q → ev p ≡ ev' p)

-- the states of f up to place k, and those of g after it
module _ {St : Type 0} (f g : ℕ → St) (k : ℕ) where
  choose : (q : ℕ) → Dec (k < q) → St
  choose q (yes l) = g q
  choose q (no m) = f q

  joined : ℕ → St
  joined q = choose q (dec_lt k q)

  before : (q : ℕ) → q ≤ k → joined q ≡ f q
  unfolding joined choose
  before q h = go (dec_lt k q)
    where
      go : (c : Dec (k < q)) → choose q c ≡ f q
      go (yes l) = absurd (omega arith)
      go (no m) = refl

  after : (q : ℕ) → k < q → joined q ≡ g q
  unfolding joined choose
  after q h = go (dec_lt k q)
    where
      go : (c : Dec (k < q)) → choose q c ≡ g q
      go (yes l) = refl
      go (no m) = absurd (omega arith)

-- a way of states with one more at its end
extend : {St : Type 0} (st : ℕ → St) (at : ℕ) (t : St) → (st' : ℕ → St) × ((q : ℕ) → q ≤ at → st' q ≡ st q) × (st' (suc at) ≡ t)
extend st at t = (joined st (λ _. t) at, before st (λ _. t) at, after st (λ _. t) at (suc at) (omega arith))

module _ {St : Type 0} (Edge : ℕ → St → ℕ → St → Type 0) where
  -- the second node is met on the way from the first
  pub data Reach : ℕ → St → ℕ → St → Type 0 where
    here : {q : ℕ} {s : St} → Reach q s q s
    more : {q p x : ℕ} {s u t : St} → Edge q s x u → Reach (suc q) u p t → Reach q s p t

  module _ (Good : ℕ → St → Type 0) where
    -- every node from here on is good
    abbrev pub Swept : ℕ → St → Type 0
    Swept q s = (p : ℕ) (t : St) → Reach q s p t → Good p t

    -- every node from an edge with a label below i on is good
    abbrev pub Upto : ℕ → St → ℕ → Type 0
    Upto q s i = (x : ℕ) (t : St) → x < i → Edge q s x t → Swept (suc q) t

    -- The edge with the label x is the first that may lead to a node that is not good.
    pub record Link (q : ℕ) (s : St) (x : ℕ) (t : St) : Type 0 where
      pub edge : Edge q s x t
      pub good : Good q s
      pub upto : Upto q s x

    -- A search that has come from D to state s at place `at`, along the edges with the labels ev. A marked node that is not swept lies on
    -- the way at a place below `top`: this is `at` where the search comes to a node, and one more where it comes back to one.
    pub record Search (D : St) (mark : ℕ → St → Type 0) (ev : ℕ → ℕ) (top at : ℕ) (s : St) : Type 0 where
      pub st : ℕ → St
      pub from : st zero ≡ D
      pub now : st at ≡ s
      pub links : (q : ℕ) → q < at → Link q (st q) (ev q) (st (suc q))
      pub marks : (q : ℕ) (u : St) → mark q u → ((q < top) × (st q ≡ u)) ⊎ Swept q u

    pub upto_suc : {q : ℕ} {s : St} {i : ℕ} → Upto q s i → ((t : St) → Edge q s i t → Swept (suc q) t) → Upto q s (suc i)
    upto_suc {q} {s} {i} u k x t h e = ⊎_elim (λ l. u x t l e) (λ z. k t (subst (λ (y : ℕ). Edge q s y t) z e)) (last_or h)

    -- a node none of whose edges is left out is swept
    pub finish : {q : ℕ} {s : St} {i : ℕ} → Good q s → Upto q s i → ((x : ℕ) (t : St) → Edge q s x t → x < i) → Swept q s
    finish g u all p t here = g
    finish g u all p t (more {x = x} {u = v} e r) = u x v (all x v e) e p t r

    module _ {D : St} where
      pub start : {mark : ℕ → St → Type 0} {ev : ℕ → ℕ} → ((q : ℕ) (u : St) → ¬ mark q u) → Search D mark ev zero zero D
      start none = record { st = λ q. D; from = refl; now = refl; links = λ q h. absurd (omega arith); marks = λ q u m. absurd (none q u m) }

      -- forward along an edge; the node that is left may be marked
      pub push : {mark mark' : ℕ → St → Type 0} {ev ev' : ℕ → ℕ} {top at : ℕ} {s t : St} → top ≤ suc at
          → Search D mark ev top at s → Link at s (ev' at) t
          → ((q : ℕ) → q < at → ev' q ≡ ev q)
          → ((q : ℕ) (u : St) → mark' q u → mark q u ⊎ ((q ≡ at) × (u ≡ s)))
          → Search D mark' ev' (suc at) (suc at) t
      push {mark} {mark'} {ev} {ev'} {top} {at} {s} {t} up S l same new =
          let (st', old, end) = extend S.st at t in
          let last : Link at (st' at) (ev' at) (st' (suc at)) = rw (old at (omega arith), S.now, end) l in
          record {
            st = st';
            from = old zero (omega arith) ∙ S.from;
            now = end;
            links = λ q h. ⊎_elim (λ (k : q < at). rw (old q (omega arith), same q k, old (suc q) k) (S.links q k)) (λ z. rw z last) (last_or h);
            marks = λ q u m. ⊎_elim
                (λ m. ⊎_elim (λ (k, e). inl (omega arith, old q (omega arith) ∙ e)) inr (S.marks q u m))
                (λ (z, e). inl (omega arith, ap st' z ∙ old at (omega arith) ∙ S.now ∙ sym e))
                (new q u m);
          }

      -- a marked node that the search comes to is swept
      pub marked : {mark : ℕ → St → Type 0} {ev : ℕ → ℕ} {at : ℕ} {s : St} → Search D mark ev at at s → mark at s → Swept at s
      marked {at = at} {s} S m = ⊎_elim (λ (k, e). absurd (omega arith)) (λ k. k) (S.marks at s m)

      -- a swept node that the search comes to may be marked
      pub swept_marked : {mark mark' : ℕ → St → Type 0} {ev : ℕ → ℕ} {top at : ℕ} {s : St} → Search D mark ev top at s → Swept at s
          → ((q : ℕ) (u : St) → mark' q u → mark q u ⊎ ((q ≡ at) × (u ≡ s))) → Search D mark' ev top at s
      swept_marked {top = top} {at} {s} S k new = record {
        st = S.st;
        from = S.from;
        now = S.now;
        links = S.links;
        marks = λ q u m. ⊎_elim (S.marks q u) (λ (z, e). inr (rw (z, e) k)) (new q u m);
      }

      -- back from a node that is swept
      pub pop : {mark : ℕ → St → Type 0} {ev : ℕ → ℕ} {at : ℕ} {t : St} → Search D mark ev (suc at) (suc at) t
          → (s : St) × Search D mark ev (suc at) at s × Link at s (ev at) t
      pop {at = at} {t} S =
          (S.st at, record { st = S.st; from = S.from; now = refl; links = λ q h. S.links q (omega arith); marks = S.marks }, rw S.now at (S.links at (omega arith)))

      -- the node that the search came back to is swept too
      pub close : {mark : ℕ → St → Type 0} {ev : ℕ → ℕ} {at : ℕ} {s : St} → Search D mark ev (suc at) at s → Swept at s → Search D mark ev at at s
      close {at = at} {s} S k = record {
        st = S.st;
        from = S.from;
        now = S.now;
        links = S.links;
        marks = λ q u m. ⊎_elim (λ (h, e). ⊎_elim (λ l. inl (l, e)) (λ (z : q ≡ at). inr (rw z (subst (Swept at) (sym S.now ∙ ap S.st (sym z) ∙ e) k))) (last_or h)) inr (S.marks q u m);
      }

      -- back to place `stop`, where each place on the way is swept once the next one is
      pub unwind : {mark : ℕ → St → Type 0} {ev : ℕ → ℕ} {s : St} (stop at : ℕ) → stop ≤ at → Search D mark ev at at s → Swept at s
          → ((q : ℕ) (s t : St) → stop ≤ q → q < at → Search D mark ev (suc q) q s → Link q s (ev q) t → Swept (suc q) t → Swept q s)
          → (s' : St) × Search D mark ev stop stop s' × Swept stop s'
      unwind {mark} {ev} {s} stop zero h S k back = let z : zero ≡ stop = omega arith in (s, subst (λ (n : ℕ). Search D mark ev n n s) z S, subst (λ (n : ℕ). Swept n s) z k)
      unwind {mark} {ev} {s} stop (suc at) h S k back =
          let (s', S', l) = pop S in
          ⊎_elim
          (λ (i : stop < suc at).
          (let k' : Swept at s' = back at s' s (omega arith) (omega arith) S' l k in
          unwind {s = s'} stop at (omega arith) (close S' k') k' (λ q u t a b. back q u t a (omega arith))))
          (λ z. (s, subst (λ (n : ℕ). Search D mark ev n n s) (sym z) S, subst (λ (n : ℕ). Swept n s) (sym z) k))
          (first_or h)

      pub over : {mark : ℕ → St → Type 0} {ev : ℕ → ℕ} {top : ℕ} {s : St} → Search D mark ev top zero s → Swept zero s → Swept zero D
      over S k = rw (← S.from, S.now) k

  -- ---- what grows
  module _ {Good Good' : ℕ → St → Type 0} (up : (q : ℕ) (s : St) → Good q s → Good' q s) where
    pub swept_up : {q : ℕ} {s : St} → Swept Good q s → Swept Good' q s
    swept_up k p t r = up p t (k p t r)

    pub upto_up : {q : ℕ} {s : St} {i : ℕ} → Upto Good q s i → Upto Good' q s i
    upto_up u x t h e = swept_up (u x t h e)

    pub link_up : {q x : ℕ} {s t : St} → Link Good q s x t → Link Good' q s x t
    link_up {q} {x} {s} l = record { edge = l.edge; good = up q s l.good; upto = upto_up l.upto }

    pub search_up : {D s : St} {mark : ℕ → St → Type 0} {ev : ℕ → ℕ} {top at : ℕ} → Search Good D mark ev top at s → Search Good' D mark ev top at s
    search_up S = record { st = S.st; from = S.from; now = S.now; links = λ q h. link_up (S.links q h); marks = λ q u m. ⊎_elim inl (λ k. inr (swept_up k)) (S.marks q u m) }

  -- a way from D to state s at place n along the edges with the labels ev
  pub record Way (ev : ℕ → ℕ) (D : St) (n : ℕ) (s : St) : Type 0 where
    pub st : ℕ → St
    pub from : st zero ≡ D
    pub now : st n ≡ s
    pub edges : (q : ℕ) → q < n → Edge q (st q) (ev q) (st (suc q))

  pub way_of : {Good : ℕ → St → Type 0} {D s : St} {mark : ℕ → St → Type 0} {ev : ℕ → ℕ} {top at : ℕ} → Search Good D mark ev top at s → Way ev D at s
  way_of S = record { st = S.st; from = S.from; now = S.now; edges = λ q h. (S.links q h).edge }

  -- the label settles where an edge leads
  module _ (leads : (q : ℕ) (s : St) (x : ℕ) (t t' : St) → Edge q s x t → Edge q s x t' → t ≡ t') where
    -- after the node that a link leads to is swept, its label is passed
    pub passed : {Good : ℕ → St → Type 0} {q x : ℕ} {s t : St} → Link Good q s x t → Swept Good (suc q) t → Upto Good q s (suc x)
    passed {Good} {q} {x} {s} {t} l k = upto_suc Good l.upto (λ t' e. subst (Swept Good (suc q)) (leads q s x t t' l.edge e) k)

    -- ---- the labels in order: no way to a node that is not good yet is less than the one along which the search comes
    module _ {Good : ℕ → St → Type 0} {D s s' : St} {mark : ℕ → St → Type 0} {ev ev' : ℕ → ℕ} {top n : ℕ}
        (S : Search Good D mark ev top n s) (W : Way ev' D n s') where
      abbrev Same : ℕ → Type 0
      Same k = ((q : ℕ) → q < k → ev q ≡ ev' q) × (S.st k ≡ W.st k)

      abbrev Order : ℕ → Type 0
      Order k = (Same k ⊎ Less ev ev' k) ⊎ Swept Good k (W.st k)

      order_same : (k : ℕ) → k < n → Same k → Dec (ev' k < ev k) → Dec (ev k < ev' k) → Order (suc k)
      order_same k h (same, e) (yes l) d = inr ((S.links k h).upto (ev' k) (W.st (suc k)) l (rw e (W.edges k h)))
      order_same k h (same, e) (no m) (yes l) = inl (inr (k, omega arith, l, same))
      order_same k h (same, e) (no m) (no m') =
          let f : ev k ≡ ev' k = omega arith in
          inl (inl (λ q l. ⊎_elim (same q) (λ z. rw z f) (last_or l), leads k (S.st k) (ev k) _ _ (S.links k h).edge (rw (e, f) (W.edges k h))))

      order : (k : ℕ) → k ≤ n → Order k
      order zero h = inl (inl (λ q l. absurd (omega arith), S.from ∙ sym W.from))
      order (suc k) h =
          ⊎_elim (⊎_elim (λ same. order_same k h same (dec_lt (ev' k) (ev k)) (dec_lt (ev k) (ev' k))) (λ (q, l, a, b). inl (inr (q, omega arith, a, b))))
          (λ w. inr (λ p t r. w p t (more (W.edges k h) r))) (order k (omega arith))

      pub least : ¬ Good n s' → ((q : ℕ) → q < n → ev q ≡ ev' q) ⊎ Less ev ev' n
      least new = ⊎_elim (⊎_elim (λ same. inl same.0) inr) (λ w. absurd (new (rw (← W.now) (w n (W.st n) here)))) (order n (omega arith))

-- another graph with no more edges
module _ {St : Type 0} {Edge Edge' : ℕ → St → ℕ → St → Type 0} (back : (q : ℕ) (s : St) (x : ℕ) (t : St) → Edge' q s x t → Edge q s x t) where
  pub reach_back : {q p : ℕ} {s t : St} → Reach Edge' q s p t → Reach Edge q s p t
  reach_back here = here
  reach_back (more {q = q} {x = x} {s = s} {u = u} e r) = more (back q s x u e) (reach_back r)

  pub swept_back : {Good Good' : ℕ → St → Type 0} → ((q : ℕ) (s : St) → Good q s → Good' q s) → {q : ℕ} {s : St} → Swept Edge Good q s → Swept Edge' Good' q s
  swept_back up k p t r = up p t (k p t (reach_back r))

-- the nodes of a way, in a graph that has its edges
pub way_reach : {St : Type 0} {Edge Edge' : ℕ → St → ℕ → St → Type 0} {ev : ℕ → ℕ} {D s : St} {n : ℕ} (W : Way Edge ev D n s) → ((q : ℕ) → q < n → Edge' q (W.st q) (ev q) (W.st (suc q))) → Reach Edge' zero D n s
way_reach {Edge' = Edge'} {ev} {D} {s} {n} W edges = rw (← W.from) (go n zero (omega arith))
  where
    go : (k q : ℕ) → q + k ≡ n → Reach Edge' q (W.st q) n s
    go zero q e = let z : q ≡ n = omega arith in rw (z, W.now) here
    go (suc k) q e = more (edges q (omega arith)) (go k (suc q) (omega arith))

-- one after another
pub reach_append : {St : Type 0} {Edge : ℕ → St → ℕ → St → Type 0} {q p n : ℕ} {s t u : St} → Reach Edge q s p t → Reach Edge p t n u → Reach Edge q s n u
reach_append here r = r
reach_append (more e k) r = more e (reach_append k r)
