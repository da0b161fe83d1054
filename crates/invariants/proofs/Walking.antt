-- What a walk has marked: with the marks of `marks`, each move of the code is one of the search (`tabling`'s Moves). Assumes nothing.
use Prim.Native.Nat.{ℕ, zero, suc, ◌+◌, ◌%◌, ◌<◌, ◌≤◌}
use native.Mathlib.Omega.{arith}
use native.Mathlib.Decide.{dec_lt, ℕ_discrete}
use native.Mathlib.Numerals.{add-one}
use mathlib.Core.Path.{◌≡◌, refl, sym, subst, ap, ◌∙◌}
use mathlib.Core.Bool.{Bool, true, false}
use mathlib.Core.List.{List}
use mathlib.Core.Logic.{◌⊎◌, inl, inr, ⊎_elim}
use lib.ListN.{length, get_or, set}
use lib.Seq.{get_or-set_same, get_or-set_other}
use Rattle.steps.specs.State.{State}
use Rattle.steps.specs.Words.{step_of}
use Rattle.steps.specs.Inner.{is_call}
use Rattle.steps.specs.Elementary.{Onward, on, stuck, elementary}
use Rattle.records.specs.Storage.{CallAt}
use Rattle.records.proofs.Growth.{Tables}
use Rattle.tabling.proofs.Sweep.{Swept, Upto, Link, Search, start, push, pop, more, over, unwind, passed, way_of, search_up, swept_marked, Way}
use Rattle.tabling.proofs.Graph.{Front, goes, calls, numbered, Leads, Known, leads, forward, stops, ended, none_left, take, backward}
use Rattle.tabling.proofs.Graph as graph
use Rattle.marks.specs.Marks.{Mark, with_mark}
use Rattle.marks.proofs.MarksLaws.{mark_new}
use Rattle.tabling.proofs.Moves.{move, Of, call_of, NoneIn, Spent, Retreat, Chosen, EdgeT, Node, step_at, of_at, final_at, at_call, at_on, at_stuck, EdgeN, GoodN, edge_plain}

-- The walk has marked the place and state: the call record of the step's call at this state.
abbrev pub Seen : Tables → List ℕ → (ℕ → ℕ) → ℕ → ℕ → State → Type 0
Seen b body marks walk q u = (r : ℕ) × (r < b.calls.count) × CallAt b.calls r (get_or body q 0 % 256) u × Mark marks walk q r

-- with the number by which it came there first
abbrev SeenBy : Tables → List ℕ → (ℕ → ℕ) → ℕ → (ℕ → State → ℕ) → ℕ → Node → Type 0
SeenBy b body marks walk by q s = Seen b body marks walk q s.0 × (by q s.0 ≡ s.1)

-- one more
module _ (by : ℕ → State → ℕ) (at : ℕ) (s : Node) where
  choose : (q : ℕ) (u : State) → Dec (q ≡ at) → Dec (u ≡ s.0) → ℕ
  choose q u (yes e) (yes f) = s.1
  choose q u (yes e) (no n) = by q u
  choose q u (no n) d = by q u

  by_more : ℕ → State → ℕ
  by_more q u = choose q u (ℕ_discrete q at) (ℕ_discrete u s.0)

  by_new : by_more at s.0 ≡ s.1
  unfolding by_more choose
  by_new = go (ℕ_discrete at at) (ℕ_discrete s.0 s.0)
    where
      go : (d : Dec (at ≡ at)) (f : Dec (s.0 ≡ s.0)) → choose at s.0 d f ≡ s.1
      go (yes e) (yes f) = refl
      go (yes e) (no n) = absurd (n refl)
      go (no n) f = absurd (n refl)

  by_old : (q : ℕ) (u : State) (l : ℕ) → by_more q u ≡ l → (by q u ≡ l) ⊎ ((q ≡ at) × (◌≡◌ {A = Node} (u, l) s))
  unfolding by_more choose
  by_old q u l = go (ℕ_discrete q at) (ℕ_discrete u s.0)
    where
      go : (d : Dec (q ≡ at)) (f : Dec (u ≡ s.0)) → choose q u d f ≡ l → (by q u ≡ l) ⊎ ((q ≡ at) × (◌≡◌ {A = Node} (u, l) s))
      go (yes e) (yes f) z = inr (e, λ i. (f i, sym z i))
      go (yes e) (no n) z = inl z
      go (no n) f z = inl z

module _ (body : List ℕ) (b : Tables) (known walk : ℕ) (C : (ℕ × State) × ℕ → Type 0) (A : State → Type 0) (D : Node) where
  abbrev E : ℕ → Node → ℕ → Node → Type 0
  E = EdgeN b known body

  abbrev G : ℕ → Node → Type 0
  G = GoodN b known body C A

  -- The search at place `at` in state s, as the loop has it.
  pub record Walking (marks : ℕ → ℕ) (chosen : List ℕ) (top at : ℕ) (s : Node) : Type 0 where
    pub inside : at ≤ length body
    pub by : ℕ → State → ℕ
    pub search : Search E G D (SeenBy b body marks walk by) (λ q. get_or chosen q 0) top at s

  pub walk_start : {marks : ℕ → ℕ} {chosen : List ℕ} → ((q r : ℕ) → ¬ Mark marks walk q r) → Walking marks chosen 0 0 D
  walk_start none = record { inside = omega arith; by = λ q u. 0; search = start E G (λ q u ((r, l, c, m), z). none q r m) }

  -- marks that are those before, and the one of a node
  more_seen : {marks marks' : ℕ → ℕ} {at : ℕ} {s : Node} (by : ℕ → State → ℕ) → ((q : ℕ) (u : State) → Seen b body marks' walk q u → Seen b body marks walk q u ⊎ ((q ≡ at) × (u ≡ s.0)))
      → (q : ℕ) (u : Node) → SeenBy b body marks' walk (by_more by at s) q u → SeenBy b body marks walk by q u ⊎ ((q ≡ at) × (u ≡ s))
  more_seen {marks} {marks'} {at} {s} by new q u (m, z) = ⊎_elim
      (λ m'. ⊎_elim (λ w. inl (m', w)) (λ (e, f). inr (e, f)) (by_old by at s q u.0 u.1 z))
      (λ (e, f). inr (e, λ i. (f i, (sym z ∙ ap (λ (k : ℕ). by_more by at s k u.0) e ∙ ap (by_more by at s at) f ∙ by_new by at s) i)))
      (new q u.0 m)

  -- Nothing is left from here on.
  abbrev pub Done : ℕ → Node → Type 0
  Done at s = Swept E G at s

  module _ {marks : ℕ → ℕ} {chosen : List ℕ} {at : ℕ} {s : Node} (W : Walking marks chosen at at s) where
    pub walk_forward : {t : State} → at < length body → at < length chosen → elementary (step_of (get_or body at 0)) s.0 ≡ on t → Walking marks (set chosen at 0) (at + 1) (at + 1) (t, s.1)
    walk_forward {t} h l e = record {
      inside = omega arith;
      by = W.by;
      search = rw (add-one at) (push E G (omega arith) W.search
          (subst (λ (x : ℕ). Link E G at s x (t, s.1)) (sym (get_or-set_same chosen at 0 0 l)) (forward step_at (of_at b known) (final_at b) 0 body h (at_on (get_or body at 0) s t e)))
          (λ q i. get_or-set_other chosen at q 0 0 (omega arith)) (λ q u m. inl m));
    }

    pub done_end : length body ≤ at → A s.0 → Done at s
    done_end h n = ended step_at (of_at b known) (final_at b) 0 body (omega (arith, W.inside)) n

    pub done_stuck : at < length body → is_call (get_or body at 0) ≡ false → elementary (step_of (get_or body at 0)) s.0 ≡ stuck → Done at s
    done_stuck h l e = stops step_at (of_at b known) (final_at b) 0 body h (at_stuck (get_or body at 0) s l e)

    -- the place and state have been searched before, it may be after another answer
    pub done_seen : at < length body → is_call (get_or body at 0) ≡ true → C ((get_or body at 0 % 256, s.0), s.1) → Seen b body marks walk at s.0 → Done at s
    done_seen h e k m = none_left step_at (of_at b known) (final_at b) 0 body h (at_call (get_or body at 0) s e) k
        (λ x t l (i, d).
        (let n : Leads (of_at b known) (final_at b) (calls ((get_or body at 0 % 256, s.0), s.1)) x t = rw (at_call (get_or body at 0) s e) at d in
        λ p u r. before p u (more {x = x} {u = t} (h, rw (at_call (get_or body at 0) (s.0, W.by at s.0) e) n) r)))
        (λ x o. o.below)
      where
        before : Swept E G at (s.0, W.by at s.0)
        before = ⊎_elim (λ (k, z). absurd (omega arith)) (λ z. z) (W.search.marks at (s.0, W.by at s.0) (m, refl))

    -- a node from which nothing is left may be marked
    pub mark_done : {marks' : ℕ → ℕ} → Done at s → ((q : ℕ) (u : State) → Seen b body marks' walk q u → Seen b body marks walk q u ⊎ ((q ≡ at) × (u ≡ s.0))) → Walking marks' chosen at at s
    mark_done k new = record { inside = W.inside; by = by_more W.by at s; search = swept_marked E G W.search k (more_seen W.by new) }

  module _ {marks : ℕ → ℕ} {chosen : List ℕ} {top at : ℕ} {s : Node} (W : Walking marks chosen top at s) where
    -- the answers of the call up to j are passed
    walk_upto : {i j : ℕ} → is_call (get_or body at 0) ≡ true → Upto E G at s i → NoneIn b known (get_or body at 0 % 256, s.0) i j → Upto E G at s j
    walk_upto {i} {j} e u k x t l d =
        let m : Leads (of_at b known) (final_at b) (calls ((get_or body at 0 % 256, s.0), s.1)) x t = rw (at_call (get_or body at 0) s e) at d.1 in
        elim (dec_lt x i) [ yes a ↦ u x t a d | no a ↦ absurd (k x (omega arith) l m.0) ]

    pub walk_way : Way E (λ q. get_or chosen q 0) D at s
    walk_way = way_of E W.search

    pub plain_way : Way (EdgeT b known body) (λ q. get_or chosen q 0) D.0 at s.0
    plain_way =
        let w = walk_way in
        record {
          st = λ q. (w.st q).0;
          from = ap (λ (u : Node). u.0) w.from;
          now = ap (λ (u : Node). u.0) w.now;
          edges = λ q l. edge_plain b known body q (w.st q) (get_or chosen q 0) (w.st (suc q)) (w.edges q l);
        }

    pub chosen_of : Chosen body known chosen at
    chosen_of q l e =
        let m : Leads (of_at b known) (final_at b) (calls ((get_or body q 0 % 256, (W.search.st q).0), (W.search.st q).1)) (get_or chosen q 0) (W.search.st (suc q)) = rw (at_call (get_or body q 0) (W.search.st q) e) at (W.search.links q l).edge.1 in
        m.0.below

    -- the answer taken last is known
    pub last_known : D.1 ≤ known → s.1 ≤ known
    last_known d = rw (← W.search.now) (go at (omega arith))
      where
        next : (f : Front State (ℕ × State)) (l x : ℕ) (u : Node) → l ≤ known → Leads (of_at b known) (final_at b) (numbered f l) x u → u.1 ≤ known
        next graph.stuck l x u h e = absurd e
        next (goes v) l x u h (z, e) = let z : l ≡ u.1 = ap (λ (n : Node). n.1) e in omega arith
        next (calls c) l x u h (o, e) = let z : x + 1 ≡ u.1 = ap (λ (n : Node). n.1) e in omega (arith, o.below)

        go : (q : ℕ) → q ≤ at → (W.search.st q).1 ≤ known
        go zero h = rw W.search.from d
        go (suc q) h = next (move (get_or body q 0) (W.search.st q).0) (W.search.st q).1 (get_or chosen q 0) (W.search.st (suc q)) (go q (omega arith)) (W.search.links q (omega arith)).edge.1

    -- an answer j of the call in front is taken, and the node is marked or stays as it is
    walk_take : {marks' : ℕ → ℕ} {j : ℕ} (by : ℕ → State → ℕ) → top ≤ suc at → at < length body → at < length chosen → is_call (get_or body at 0) ≡ true → C ((get_or body at 0 % 256, s.0), s.1) → Upto E G at s j → Of b known (get_or body at 0 % 256, s.0) j
        → ((q : ℕ) (u : Node) → SeenBy b body marks' walk by q u → SeenBy b body marks walk W.by q u ⊎ ((q ≡ at) × (u ≡ s)))
        → Walking marks' (set chosen at j) (at + 1) (at + 1) (final_at b j)
    walk_take {marks'} {j} by up h l e k u o new = record {
      inside = omega arith;
      by = by;
      search = rw (add-one at) (push E G up W.search
          (subst (λ (x : ℕ). Link E G at s x (final_at b j)) (sym (get_or-set_same chosen at j 0 l)) (take step_at (of_at b known) (final_at b) 0 body h (at_call (get_or body at 0) s e) k o u))
          (λ q i. get_or-set_other chosen at q j 0 (omega arith)) new);
    }

    none_from : {i : ℕ} → at < length body → is_call (get_or body at 0) ≡ true → C ((get_or body at 0 % 256, s.0), s.1) → Upto E G at s i → NoneIn b known (get_or body at 0 % 256, s.0) i known → Done at s
    none_from h e k u n = none_left step_at (of_at b known) (final_at b) 0 body h (at_call (get_or body at 0) s e) k (walk_upto e u n) (λ x o. o.below)

  module _ {marks : ℕ → ℕ} {chosen : List ℕ} {at : ℕ} {s : Node} (W : Walking marks chosen at at s) (h : at < length body) (e : is_call (get_or body at 0) ≡ true) (k : C ((get_or body at 0 % 256, s.0), s.1)) where
    -- the call has no answer left from i on, where all before is done
    pub done_call : {i : ℕ} → Upto E G at s i → NoneIn b known (get_or body at 0 % 256, s.0) i known → Done at s
    done_call u n = none_from W h e k u n

    -- its first answer from there on is taken
    pub take_first : {i r j : ℕ} → at < 16 → at < length chosen → r < b.calls.count → CallAt b.calls r (get_or body at 0 % 256) s.0 → ¬ Mark marks walk at r
        → Of b known (get_or body at 0 % 256, s.0) j → Upto E G at s i → NoneIn b known (get_or body at 0 % 256, s.0) i j → Walking (with_mark marks walk at r) (set chosen at j) (at + 1) (at + 1) (final_at b j)
    take_first {i} {r} {j} small l i-r c free o u n = walk_take W (by_more W.by at s) (omega arith) h l e k (walk_upto W e u n) o
        (more_seen W.by (λ q u (y, a, d, x). ⊎_elim (λ x'. inl (y, a, d, x')) (λ (z, w). inr (z, sym d.has_state ∙ ap b.calls.state w ∙ c.has_state)) (mark_new marks walk at r small free q y x)))

  -- ---- back
  module _ {marks : ℕ → ℕ} {chosen : List ℕ} {at : ℕ} {s t : Node} (W : Walking marks chosen (suc at) at s) (l : Link E G at s (get_or chosen at 0) t) (k : Swept E G (suc at) t) where
    module _ (e : is_call (get_or body at 0) ≡ true) where
      -- the call of the answer that was chosen here
      chosen_here : Of b known (get_or body at 0 % 256, s.0) (get_or chosen at 0)
      chosen_here = let m : Leads (of_at b known) (final_at b) (calls ((get_or body at 0 % 256, s.0), s.1)) (get_or chosen at 0) t = rw (at_call (get_or body at 0) s e) at l.edge.1 in m.0

      known_here : C ((get_or body at 0 % 256, s.0), s.1)
      known_here = let m : Known {St = Node} C (calls ((get_or body at 0 % 256, s.0), s.1)) = rw (at_call (get_or body at 0) s e) at (l.good.called l.edge.0) in m

      same_call : call_of b (get_or chosen at 0) ≡ (get_or body at 0 % 256, s.0)
      same_call = λ i. (chosen_here.action i, chosen_here.state i)

      passed_here : Upto E G at s (suc (get_or chosen at 0))
      passed_here = passed E (leads step_at (of_at b known) (final_at b) 0 body) l k

      -- a later answer is taken
      take_later : {j : ℕ} → at < length chosen → NoneIn b known (call_of b (get_or chosen at 0)) (get_or chosen at 0 + 1) j → Of b known (call_of b (get_or chosen at 0)) j
          → Walking marks (set chosen at j) (at + 1) (at + 1) (final_at b j)
      take_later {j} len n o = walk_take W W.by (omega arith) l.edge.0 len e known_here (walk_upto W e passed_here (rw (same_call, add-one) at n)) (rw same_call at o) (λ q u m. inl m)

    -- a place is swept once it has no answer left
    spent_back : Spent body b known chosen at → Done at s
    spent_back sp = by (is_call (get_or body at 0)) refl (elementary (step_of (get_or body at 0)) s.0) refl
      where
        by : (c : Bool) → is_call (get_or body at 0) ≡ c → (o : Onward) → elementary (step_of (get_or body at 0)) s.0 ≡ o → Done at s
        by true e o f = none_from W l.edge.0 e (known_here e) (passed_here e) (rw (same_call e, add-one) at (sp e))
        by false n (on u) f = backward step_at (of_at b known) (final_at b) 0 body l (at_on (get_or body at 0) s u f) k
        by false n stuck f = absurd (rw (at_stuck (get_or body at 0) s n f) at l.edge.1)

  module _ {marks : ℕ → ℕ} {chosen : List ℕ} {at j : ℕ} {s : Node} (W : Walking marks chosen at at s) (k : Done at s) where
    back_to : (r : ℕ) → Retreat body b known chosen at r j → (s' : Node) × Walking marks chosen r r s' × Swept E G r s'
    back_to r R =
        let (s', S, k') = unwind E G r at R.low W.search k (λ q u t x y S l i. spent_back {marks = marks} {chosen = chosen} (record { inside = omega (arith, W.inside); by = W.by; search = S }) l i (R.spent q x y)) in
        (s', record { inside = omega (arith, W.inside, R.low); by = W.by; search = S }, k')

    pub back_over : Retreat body b known chosen at 0 j → Swept E G 0 D
    back_over R = let (s', W', k') = back_to 0 R in over E G W'.search k'

    pub back_take : (p : ℕ) → at ≤ length chosen → Retreat body b known chosen at (p + 1) j → Walking marks (set chosen p j) (p + 1) (p + 1) (final_at b j)
    back_take p len R =
        let (s', W', k') = back_to (p + 1) R in
        let S' : Search E G D (SeenBy b body marks walk W'.by) (λ q. get_or chosen q 0) (suc p) (suc p) s' = subst (λ (n : ℕ). Search E G D (SeenBy b body marks walk W'.by) (λ q. get_or chosen q 0) n n s') (add-one p) W'.search in
        let k'' : Swept E G (suc p) s' = subst (λ (n : ℕ). Swept E G n s') (add-one p) k' in
        let (u, S'', l) = pop E G S' in
        let W'' : Walking marks chosen (suc p) p u = record { inside = omega (arith, W'.inside); by = W'.by; search = S'' } in
        let (e, later, n, o) = R.found p refl in
        take_later W'' l k'' e (omega (arith, R.low)) n o

-- ---- what grows
module _ (body : List ℕ) (b : Tables) (known walk : ℕ) {C C' : (ℕ × State) × ℕ → Type 0} {A A' : State → Type 0} (D : Node) (up_c : (c : (ℕ × State) × ℕ) → C c → C' c) (upA : (s : State) → A s → A' s) where
  known_up : (f : Front Node ((ℕ × State) × ℕ)) → Known C f → Known C' f
  known_up graph.stuck k = k
  known_up (goes t) k = k
  known_up (calls c) k = up_c c k

  pub good_up : (q : ℕ) (s : Node) → GoodN b known body C A q s → GoodN b known body C' A' q s
  good_up q s g = record { ends = λ e. upA s.0 (g.ends e); called = λ h. known_up (step_at (get_or body q 0) s) (g.called h) }

  pub walking_up : {marks : ℕ → ℕ} {chosen : List ℕ} {top at : ℕ} {s : Node} → Walking body b known walk C A D marks chosen top at s → Walking body b known walk C' A' D marks chosen top at s
  walking_up W = record { inside = W.inside; by = W.by; search = search_up (EdgeN b known body) good_up W.search }
