-- The ways over the rows are those of the graph of the search: with the same labels, to the end and to a call. Assumes nothing.
use Prim.Native.Nat.{ℕ, zero, suc, ◌+◌, ◌<◌, ◌≤◌}
use native.Mathlib.Omega.{arith}
use mathlib.Core.Path.{◌≡◌, refl, sym, ap, subst, ◌∙◌}
use mathlib.Core.List.Memᴰ
use mathlib.Core.List.{List, [], ◌∷◌, Memᴰ}
use mathlib.Core.Logic.{◌↔◌}
use lib.ListN.{get_or, length, drop, length-drop, drop_of_length-le, length-map}
use lib.Seq.{drop-cons}
use Rattle.steps.specs.State.{State}
use Rattle.steps.specs.Step.{Step, query, insert, delete, call, deny, Body}
use Rattle.steps.specs.Words.{step_of, body_of}
use Rattle.steps.specs.Elementary.{Onward, on, stuck, elementary}
use Rattle.records.proofs.Growth.{Tables}
use Rattle.tabling.proofs.Sweep.{Reach, here, more, Way, Less}
use Rattle.tabling.proofs.Graph.{calls, Leads}
use Rattle.tabling.proofs.Graph as graph
use Rattle.tabling.proofs.Moves.{Of, final, front, move_step, move, EdgeT}
use Rattle.canonical.specs.Rows.{Rows}
use Rattle.canonical.specs.Rounds.{Route, called, ways, comes_to}
use Rattle.canonical.proofs.Onward.{Shows, onward_leads, leads_onward}
use Rattle.canonical.proofs.Ways.{Lex, less, later, Along, ended, step, Comes, now, past, along_long, ways_out, ways_in, comes_out, comes_in}

-- ---- the call in front
front_no_call : {c : ℕ × State} (o : Onward) → front o ≡ calls c → ⊥
front_no_call (on t) e = let z : ◌≡◌ {A = ℕ} 0 1 = cc in omega arith
front_no_call stuck e = let z : ◌≡◌ {A = ℕ} 0 1 = cc in omega arith

pub called_move : {c : ℕ × State} (x : Step) (s : State) → Memᴰ c (called x s) → move_step x s ≡ calls c
unfolding called move_step
called_move (call a) s m = ap calls (sym (Memᴰ.eq_of_singleton m))
called_move (query p) s m = absurd (Memᴰ.not-nil m)
called_move (insert p) s m = absurd (Memᴰ.not-nil m)
called_move (delete p) s m = absurd (Memᴰ.not-nil m)
called_move (deny p) s m = absurd (Memᴰ.not-nil m)

pub move_called : {c : ℕ × State} (x : Step) (s : State) → move_step x s ≡ calls c → Memᴰ c (called x s)
unfolding called move_step
move_called {c} (call a) s e = let f : c ≡ (a, s) = cc in Memᴰ.head f
move_called (query p) s e = absurd (front_no_call (elementary (query p) s) e)
move_called (insert p) s e = absurd (front_no_call (elementary (insert p) s) e)
move_called (delete p) s e = absurd (front_no_call (elementary (delete p) s) e)
move_called (deny p) s e = absurd (front_no_call (elementary (deny p) s) e)

-- ---- evidence as a list and by places
pub less_lex : (es fs : List ℕ) → length es ≡ length fs → Less (λ q. get_or es q 0) (λ q. get_or fs q 0) (length es) → Lex es fs
less_lex [] fs h (q, l, a, b) = absurd (omega arith)
less_lex (e ∷ es) [] h w = absurd (omega arith)
less_lex (e ∷ es) (f ∷ fs) h (zero, l, a, b) = less a
less_lex (e ∷ es) (f ∷ fs) h (suc q, l, a, b) = later (b 0 (omega arith)) (less_lex es fs (omega arith) (q, omega arith, a, λ p k. b (suc p) (omega arith)))

-- ---- the states on a way
module _ (t : Rows) where
  states : {body : Body} {s f : State} {es : List ℕ} → Along t body s es f → ℕ → State
  states (ended {s}) q = s
  states (step {s = s} m w) zero = s
  states (step m w) (suc q) = states w q

  states_from : {body : Body} {s f : State} {es : List ℕ} (w : Along t body s es f) → states w 0 ≡ s
  unfolding states
  states_from ended = refl
  states_from (step m w) = refl

  states_end : {body : Body} {s f : State} {es : List ℕ} (w : Along t body s es f) → states w (length body) ≡ f
  unfolding states
  states_end ended = refl
  states_end (step m w) = states_end w

peel : (ws : List ℕ) {a : ℕ} {xs : List ℕ} (q : ℕ) → a ∷ xs ≡ drop q ws → (q < length ws) × (get_or ws q 0 ≡ a) × (xs ≡ drop (suc q) ws)
peel ws {a} {xs} q e =
    let h : q < length ws = omega (arith, ap length e, length-drop q ws) in
    let f : a ∷ xs ≡ get_or ws q 0 ∷ drop (suc q) ws = e ∙ drop-cons ws q 0 h in
    (h, cc, cc)

module _ (t : Rows) {b : Tables} {known : ℕ} (shows : Shows t b known) where
  states_edges : {s f : State} {es : List ℕ} (ws : List ℕ) (w : Along t (body_of ws) s es f) (q : ℕ) → q < length ws → Leads (Of b known) (final b) (move (get_or ws q 0) (states t w q)) (get_or es q 0) (states t w (suc q))
  unfolding states
  states_edges [] w q l = absurd (omega arith)
  states_edges (c ∷ ws) (step {s = s} m w) zero l = rw (states_from t w) (onward_leads t shows (step_of c) s m)
  states_edges (c ∷ ws) (step m w) (suc q) l = states_edges ws w q (omega arith)

  module _ (ws : List ℕ) where
    -- A way over the rows is a way of the graph with the same labels,
    pub along_way : {s f : State} {es : List ℕ} → Along t (body_of ws) s es f → Way (EdgeT b known ws) (λ q. get_or es q 0) s (length ws) f
    along_way w = record { st = states t w; from = states_from t w; now = rw length-map at (states_end t w); edges = λ q h. (h, states_edges ws w q h) }

    -- and the other way round.
    pub way_along : {s f : State} {ev : ℕ → ℕ} (es : List ℕ) → length es ≡ length ws → ((q : ℕ) → q < length ws → get_or es q 0 ≡ ev q) → Way (EdgeT b known ws) ev s (length ws) f → Along t (body_of ws) s es f
    way_along {s} {f} {ev} es long same W = subst (λ (v : State). Along t (body_of ws) v es f) W.from (go (length ws) 0 (omega arith))
      where
        go : (k q : ℕ) → q + k ≡ length ws → Along t (body_of (drop q ws)) (W.st q) (drop q es) f
        go zero q e = let z : q ≡ length ws = omega arith in rw (drop_of_length-le ws {i = q} (omega arith), drop_of_length-le es {i = q} (omega arith), z, W.now) ended
        go (suc k) q e =
            let l : q < length ws = omega arith in
            let l' : q < length es = omega arith in
            let m : Leads (Of b known) (final b) (move (get_or ws q 0) (W.st q)) (get_or es q 0) (W.st (suc q)) = rw (same q l) (W.edges q l).1 in
            rw (drop-cons ws q 0 l, drop-cons es q 0 l') (step (leads_onward t shows (get_or es q 0) (W.st (suc q)) (step_of (get_or ws q 0)) (W.st q) m) (go k (suc q) (omega arith)))

    -- nodes that are met: the end, and a call
    pub comes_reach : {s : State} {c : ℕ × State} (q : ℕ) (xs : List ℕ) → xs ≡ drop q ws → Comes t (body_of xs) s c → (p : ℕ) × (u : State) × Reach (EdgeT b known ws) q s p u × (p < length ws) × (move (get_or ws p 0) u ≡ calls c)
    comes_reach {s} q (w ∷ xs) e (now m) = let (l, g, r) = peel ws q e in (q, s, here, l, rw g (called_move (step_of w) s m))
    comes_reach {s} {c} q (w ∷ xs) e (past {u = v} {e = x} m k) =
        let (l, g, r) = peel ws q e in
        let (p, u, z, h, f) = comes_reach (suc q) xs r k in
        let one : EdgeT b known ws q s x v = (l, rw g (onward_leads t shows (step_of w) s m)) in
        (p, u, more one z, h, f)
    comes_reach {s = s} {c = c} q [] e x'' = elim x'' [ ]

    pub along_reach : {s f : State} {es : List ℕ} (q : ℕ) (xs : List ℕ) → q ≤ length ws → xs ≡ drop q ws → Along t (body_of xs) s es f → Reach (EdgeT b known ws) q s (length ws) f
    along_reach {s} q [] h e ended = let z : q ≡ length ws = omega (arith, ap length e, length-drop q ws) in subst (λ (p : ℕ). Reach (EdgeT b known ws) q s p s) z here
    along_reach {s} q (w ∷ xs) h e (step {u = v} {e = x} m k) =
        let (l, g, r) = peel ws q e in
        let one : EdgeT b known ws q s x v = (l, rw g (onward_leads t shows (step_of w) s m)) in
        more one (along_reach (suc q) xs (omega arith) r k)

    pub reach_comes : {s u : State} {c : ℕ × State} {q p : ℕ} → Reach (EdgeT b known ws) q s p u → p < length ws → move (get_or ws p 0) u ≡ calls c → Comes t (body_of (drop q ws)) s c
    reach_comes {u = u} {p = p} here h f = rw (drop-cons ws p 0 h) (now (move_called (step_of (get_or ws p 0)) u f))
    reach_comes (more {q} {x = x} {s = s} {u = v} e r) h f = rw (drop-cons ws q 0 e.0) (past (leads_onward t shows x v (step_of (get_or ws q 0)) s e.1) (reach_comes r h f))

    pub reach_along : {s u : State} {q p : ℕ} → Reach (EdgeT b known ws) q s p u → p ≡ length ws → (es : List ℕ) × Along t (body_of (drop q ws)) s es u
    reach_along {p = p} here h = ([], rw (drop_of_length-le ws {i = p} (omega arith)) ended)
    reach_along (more {q} {x = x} {s = s} {u = v} e r) h =
        let (es, w) = reach_along r h in
        (x ∷ es, rw (drop-cons ws q 0 e.0) (step (leads_onward t shows x v (step_of (get_or ws q 0)) s e.1) w))

    -- ---- the two notions, side by side

    -- The ways through a body over the rows are the ways of the graph to its end.
    pub ways_way : (s f : State) (es : List ℕ) → Memᴰ {A = Route} (es, f) (ways t (body_of ws) s) ↔ ((length es ≡ length ws) × Way (EdgeT b known ws) (λ q. get_or es q 0) s (length ws) f)
    ways_way s f es = (
      λ m. let w = ways_out t {w = (es, f)} (body_of ws) s m in (rw length-map at (along_long t w), along_way w),
      λ (long, W). ways_in t (way_along es long (λ q l. refl) W),
    )

    -- The calls that the walk of a body comes to are those in front at the nodes that are met.
    pub comes_node : (s : State) (c : ℕ × State) → Memᴰ c (comes_to t (body_of ws) s) ↔ ((p : ℕ) × (u : State) × Reach (EdgeT b known ws) 0 s p u × (p < length ws) × (move (get_or ws p 0) u ≡ calls c))
    comes_node s c = (λ m. comes_reach 0 ws refl (comes_out t (body_of ws) s m), λ (p, u, r, h, e). comes_in t (reach_comes r h e))
