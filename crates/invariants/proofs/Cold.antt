-- Which answers a walk may leave out that was done before with fewer answers: those after which it took, and takes now, only answers that stood
-- then, so that all that follows them is as it was. Such are the answers after which it came to no call with an answer that is looked at in
-- this round (`Warm`), and, at the last call of a body, all that are not new. Assumes nothing.
use Prim.Native.Nat.{ℕ, suc, ◌+◌, ◌%◌, ◌<◌, ◌≤◌}
use native.Mathlib.Omega.{arith}
use native.Mathlib.Decide.{dec_lt}
use mathlib.Core.Path.{◌≡◌, refl, sym, ap, ◌∙◌}
use mathlib.Core.Bool.{Bool, true, false}
use mathlib.Core.List.{List}
use lib.ListN.{length, get_or}
use Rattle.steps.specs.State.{State}
use Rattle.steps.specs.Words.{step_of}
use Rattle.steps.specs.Inner.{is_call}
use Rattle.steps.specs.Elementary.{Onward, on, stuck, elementary}
use Rattle.records.specs.Records.{Bodies}
use Rattle.records.proofs.Growth.{Tables, Held, row_once}
use Rattle.uses.specs.Uses.{Uses, HeldUsed, Hot, Warm, Lit}
use Rattle.uses.proofs.UsesLaws.{cold}
use Rattle.tabling.proofs.Evidence.{Valid, inside_of}
use Rattle.tabling.proofs.Sweep.{Swept, Upto, Reach, here, more}
use Rattle.tabling.proofs.Graph.{Front, goes, calls, numbered, Leads, Known}
use Rattle.tabling.proofs.Graph as graph
use Rattle.tabling.proofs.Moves.{Of, Node, move, step_at, of_at, final_at, at_call, at_on, at_stuck, EdgeN, GoodN}

-- What an earlier walk of a body from a record leaves: with the answers below `seen` all is swept, and the calls that it came to are noted.
pub record Past (t : Tables) (notes : Uses) (seen known : ℕ) (warm : Bool) (row : ℕ) (body : List ℕ) : Type 0 where
  pub swept : Swept (EdgeN t seen body) (GoodN t seen body (HeldUsed t notes row) (Held t row)) 0 (t.calls.state row, 0)
  pub lit : Lit t.answers notes seen known warm

-- No call comes after this place.
abbrev pub Last : List ℕ → ℕ → Type 0
Last body at = (p : ℕ) → at < p → p < length body → is_call (get_or body p 0) ≡ false

module _ (t : Tables) (notes : Uses) (seen known row : ℕ) (body : List ℕ) where
  -- Nodes from which on only answers below `seen` are taken.
  module _ (Still : ℕ → Node → Type 0)
      (next : (q : ℕ) (s : Node) (x : ℕ) (u : Node) → Still q s → Known (HeldUsed t notes row) (step_at (get_or body q 0) s) → EdgeN t known body q s x u → EdgeN t seen body q s x u × Still (suc q) u) where
    reach_still : {q p : ℕ} {s u : Node} → Swept (EdgeN t seen body) (GoodN t seen body (HeldUsed t notes row) (Held t row)) q s → Still q s → Reach (EdgeN t known body) q s p u → Reach (EdgeN t seen body) q s p u
    reach_still k c here = here
    reach_still {q = q} {s = s} k c (more {x = x} {u = u} e r) =
        let (e', c') = next q s x u c ((k q s here).called e.0) e in
        more e' (reach_still (λ p w r. k p w (more e' r)) c' r)

    good_later : (q : ℕ) (s : Node) → GoodN t seen body (HeldUsed t notes row) (Held t row) q s → GoodN t known body (HeldUsed t notes row) (Held t row) q s
    good_later q s g = record { ends = g.ends; called = g.called }

    -- At a node of the earlier walk the answers of the call may be left out that lead to such nodes.
    upto_still : {q i : ℕ} {s : Node} → Swept (EdgeN t seen body) (GoodN t seen body (HeldUsed t notes row) (Held t row)) q s → is_call (get_or body q 0) ≡ true
        → ((y : ℕ) → y < i → Of t known (get_or body q 0 % 256, s.0) y → (y < seen) × Still (suc q) (final_at t y)) → Upto (EdgeN t known body) (GoodN t known body (HeldUsed t notes row) (Held t row)) q s i
    upto_still {q = q} {s = s} k e n x u l (h, d) p w r =
        let (o, f) : Leads (of_at t known) (final_at t) (calls ((get_or body q 0 % 256, s.0), s.1)) x u = rw (at_call (get_or body q 0) s e) at d in
        let (b, c) = n x l o in
        let o' : Of t seen (get_or body q 0 % 256, s.0) x = record { below = b; action = o.action; state = o.state } in
        let e' : EdgeN t seen body q s x u = (h, rw (at_call (get_or body q 0) s e) (o', f)) in
        let c' : Still (suc q) u = rw f at c in
        good_later p w (k p w (more e' (reach_still (λ p w r. k p w (more e' r)) c' r)))

  -- ---- the last call of a body
  leads_last : (w : ℕ) (s : Node) (x : ℕ) (u : Node) → is_call w ≡ false → Leads (of_at t known) (final_at t) (step_at w s) x u → Leads (of_at t seen) (final_at t) (step_at w s) x u
  leads_last w s x u n e = by (elementary (step_of w) s.0) refl
    where
      by : (o : Onward) → elementary (step_of w) s.0 ≡ o → Leads (of_at t seen) (final_at t) (step_at w s) x u
      by (on v) f = let g : Leads (of_at t known) (final_at t) (goes (v, s.1)) x u = rw (at_on w s v f) at e in rw (at_on w s v f) g
      by stuck f = absurd (rw (at_stuck w s n f) at e)

  -- all answers below i that are not new may be left out
  pub upto_last : {q i : ℕ} {s : Node} → Swept (EdgeN t seen body) (GoodN t seen body (HeldUsed t notes row) (Held t row)) q s → is_call (get_or body q 0) ≡ true → Last body q
      → ((y : ℕ) → y < i → Of t known (get_or body q 0 % 256, s.0) y → y < seen) → Upto (EdgeN t known body) (GoodN t known body (HeldUsed t notes row) (Held t row)) q s i
  upto_last {q} k e n below = upto_still (λ p u. Last body q × (q < p)) (λ p u x w (l, h) g (i, d). ((i, leads_last (get_or body p 0) u x w (l p h i) d), (l, omega arith))) k e (λ y l o. (below y l o, (n, omega arith)))

  -- ---- answers that are not looked at
  module _ {bodies : Bodies} {Root : ℕ → State → Type 0} (v : Valid bodies Root t) (enough : known ≤ t.answers.count) (W : Warm t.answers notes seen known) where
    -- the answer taken last is not looked at
    abbrev Cold : ℕ → Type 0
    Cold l = (y : ℕ) × (l ≡ y + 1) × (Hot t.answers notes seen y → ⊥)

    -- an answer that is not looked at is an old one
    old_cold : (x : ℕ) → x < known → (Hot t.answers notes seen x → ⊥) → x < seen
    old_cold x l n = by (dec_lt x seen)
      where
        by : Dec (x < seen) → x < seen
        by (yes h) = h
        by (no m) = absurd (n (W.new x (omega arith) l))

    next_cold : (c : (ℕ × State) × ℕ) (x : ℕ) → Cold c.1 → HeldUsed t notes row c → Of t known c.0 x → Hot t.answers notes seen x → ⊥
    next_cold c x (y, e, n) (i, l, k, used, came) o (j, s, h) =
        let z : i ≡ t.answers.call x = row_once t.calls v.calls_once i (t.answers.call x) c.0.0 c.0.1 l (inside_of v x (omega (arith, o.below))) k (record { has_action = o.action; has_state = o.state }) in
        cold t.answers notes seen known y i W used.0 (rw e at came) n (rw z s)

    leads_cold : (f : Front State (ℕ × State)) (l x : ℕ) (u : Node) → Cold l → Known (HeldUsed t notes row) (numbered f l) → Leads (of_at t known) (final_at t) (numbered f l) x u
        → Leads (of_at t seen) (final_at t) (numbered f l) x u × Cold u.1
    leads_cold graph.stuck l x u c k e = absurd e
    leads_cold (goes w) l x u (y, e, n) k (z, f) = ((z, f), (y, sym (ap (λ (v : Node). v.1) f) ∙ e, n))
    leads_cold (calls c) l x u d k (o, f) =
        let n : Hot t.answers notes seen x → ⊥ = next_cold (c, l) x d k o in
        ((record { below = old_cold x o.below n; action = o.action; state = o.state }, f), (x, sym (ap (λ (v : Node). v.1) f), n))

    -- all answers below i that are not looked at may be left out
    pub upto_cold : {q i : ℕ} {s : Node} → Swept (EdgeN t seen body) (GoodN t seen body (HeldUsed t notes row) (Held t row)) q s → is_call (get_or body q 0) ≡ true
        → ((y : ℕ) → y < i → Of t known (get_or body q 0 % 256, s.0) y → Hot t.answers notes seen y → ⊥) → Upto (EdgeN t known body) (GoodN t known body (HeldUsed t notes row) (Held t row)) q s i
    upto_cold k e n =
        upto_still (λ p u. Cold u.1) (λ p u x w c g (i, d). (let (d', c') = leads_cold (move (get_or body p 0) u.0) u.1 x w c g d in ((i, d'), c'))) k e (λ y l o. (let m = n y l o in (old_cold y o.below m, (y, refl, m))))
