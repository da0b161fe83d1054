-- Rounds, rows and rules: what is closed so far, and what a round that added nothing leaves. Assumes nothing.
use Prim.Native.Nat.{ℕ, ◌+◌, ◌<◌, ◌≤◌}
use native.Mathlib.Omega.{arith}
use native.Mathlib.Decide.{dec_lt}
use mathlib.Core.Path.{◌≡◌, refl, sym, ap, ◌∙◌}
use mathlib.Core.Bool.{Bool, true, false}
use mathlib.Core.List.{List}
use mathlib.Core.Logic.{◌⊎◌, inl, inr, ⊎_elim}
use lib.ListN.{get_or, length}
use Rattle.steps.specs.State.{State}
use Rattle.steps.specs.Inner.{is_call}
use Rattle.steps.specs.Elementary.{stuck, elementary}
use Rattle.steps.specs.Words.{step_of}
use Rattle.records.specs.Records.{Bodies}
use Rattle.records.proofs.Growth.{Tables, HeldCall, Held, Grew, grew_refl, Inside, held_up, row_once}
use Rattle.uses.specs.Uses.{Uses, Used, UsesGrew, UsesKept, HeldUsed, Passed, Spans, Lit}
use Rattle.uses.proofs.UsesLaws.{kept_of, uses_refl, uses_trans, held_used, held_used_up, lit_up}
use Rattle.tabling.proofs.Evidence.{Valid, inside_of}
use Rattle.tabling.proofs.Adding.{last_one}
use Rattle.tabling.proofs.Sweep.{Swept, Reach, here, more, swept_back}
use Rattle.tabling.proofs.Graph.{Front, goes, calls, numbered, Leads, leads_numbered, Known, known_plain}
use Rattle.tabling.proofs.Graph as graph
use Rattle.tabling.proofs.Moves.{Of, final, move, EdgeT, Node, step_at, of_at, final_at, at_stuck, EdgeN, GoodN}
use Rattle.invariants.proofs.Cold.{Past}
use Rattle.tabling.proofs.Closed.{Whole, ClosedAt, C, A}
use Rattle.tabling.proofs.Found.{Made, made_start, Gathered}
use Rattle.invariants.proofs.Turn.{Begin, begin, Before, Since, Over}

-- and the calls that they come to are noted
abbrev pub NotedAt : List ℕ → Tables → Uses → ℕ → ℕ → Type 0
NotedAt body t uses known row = Swept (EdgeN t known body) (GoodN t known body (HeldUsed t uses row) (Held t row)) 0 (t.calls.state row, 0)

-- The first step of the body is elementary and does not go on from the state.
pub record Stopped (body : List ℕ) (D : State) : Type 0 where
  pub some : 0 < length body
  pub plain : is_call (get_or body 0 0) ≡ false
  pub ends : elementary (step_of (get_or body 0 0)) D ≡ stuck

noted_stopped : (body : List ℕ) (t : Tables) (uses : Uses) (known row : ℕ) → Stopped body (t.calls.state row) → NotedAt body t uses known row
noted_stopped body t uses known row s =
    graph.stops step_at (of_at t known) (final_at t) 0 body s.some (at_stuck (get_or body 0 0) (t.calls.state row, 0) s.plain s.ends)

module _ (body : List ℕ) (t : Tables) (uses : Uses) (known row : ℕ) where
  numbered_reach : {q p : ℕ} {s u : State} (l : ℕ) → Reach (EdgeT t known body) q s p u → (k : ℕ) × Reach (EdgeN t known body) q (s, l) p (u, k)
  numbered_reach l here = (l, here)
  numbered_reach {q} {p} {s} {u} l (more {x = x} {u = v} e r) =
      let (k, d) = leads_numbered (Of t known) (final t) (move (get_or body q 0) s) l x v e.1 in
      let (m, r') = numbered_reach k r in
      let e' : EdgeN t known body q (s, l) x (v, k) = (e.0, d) in
      (m, more e' r')

  noted_closed : NotedAt body t uses known row → ClosedAt body t known row
  noted_closed n p s r =
      let (k, r') = numbered_reach 0 r in
      let g = n p (s, k) r' in
      record { ends = g.ends; called = λ h. known_plain (HeldCall t) (HeldUsed t uses row) (held_used t uses row) (move (get_or body p 0) s) k (g.called h) }

module _ (body : List ℕ) {C C' : (ℕ × State) × ℕ → Type 0} (up_c : (c : (ℕ × State) × ℕ) → C c → C' c) where
  known_up : (f : Front Node ((ℕ × State) × ℕ)) → Known C f → Known C' f
  known_up graph.stuck k = k
  known_up (goes t) k = k
  known_up (calls c) k = up_c c k

  good_at : (t u : Tables) (known known' : ℕ) (A A' : State → Type 0) → ((s : State) → A s → A' s) → (q : ℕ) (s : Node) → GoodN t known body C A q s → GoodN u known' body C' A' q s
  good_at t u known known' A A' upA q s w = record { ends = λ e. upA s.0 (w.ends e); called = λ h. known_up (step_at (get_or body q 0) s) (w.called h) }

-- and they stay so in grown tables
module _ {b u : Tables} (g : Grew b u) (known : ℕ) (enough : known ≤ b.answers.count) (inside : Inside b b.answers.count) (body : List ℕ) where
  leads_old : (f : Front State (ℕ × State)) (l x : ℕ) (t : Node) → Leads (of_at u known) (final_at u) (numbered f l) x t → Leads (of_at b known) (final_at b) (numbered f l) x t
  leads_old graph.stuck l x t e = e
  leads_old (goes v) l x t e = e
  leads_old (calls c) l x t (o, e) =
      let h : x < b.answers.count = omega (arith, o.below) in
      let i : b.answers.call x < b.calls.count = inside x h in
      let z : u.answers.call x ≡ b.answers.call x = g.call_same h in
      let f : final_at b x ≡ final_at u x = ap (λ (s : State). (s, x + 1)) (sym (g.final_same h)) in
      (record { below = o.below; action = sym (g.action_same i) ∙ ap u.calls.action (sym z) ∙ o.action; state = sym (g.state_same i) ∙ ap u.calls.state (sym z) ∙ o.state }, f ∙ e)

  sweep_up : {C C' : (ℕ × State) × ℕ → Type 0} (A A' : State → Type 0) (D : Node) → ((c : (ℕ × State) × ℕ) → C c → C' c) → ((s : State) → A s → A' s)
      → Swept (EdgeN b known body) (GoodN b known body C A) 0 D → Swept (EdgeN u known body) (GoodN u known body C' A') 0 D
  sweep_up A A' D up_c upA k = swept_back (λ q s x t e. (e.0, leads_old (move (get_or body q 0) s.0) s.1 x t e.1)) (good_at body up_c b u known known A A' upA) k

  noted_up : {uses uses' : Uses} → UsesKept uses uses' → (row : ℕ) → row < b.calls.count → NotedAt body b uses known row → NotedAt body u uses' known row
  noted_up w row l k = rw (g.state_same l) (sweep_up (Held b row) (Held u row) (b.calls.state row, 0) (held_used_up g w row) (held_up g row) k)

  noted_over : {bodies : Bodies} {Root : ℕ → State → Type 0} {rule row walk : ℕ} {P : Before} {marks : ℕ → ℕ} {uses : Uses} → row < b.calls.count → Over bodies Root b known rule row walk P body u marks uses → NotedAt body u uses known row
  noted_over {row = row} l o = rw (g.state_same l) (sweep_up (Held u row) (Held u row) (b.calls.state row, 0) (λ c h. h) (λ s h. h) o.swept)

-- and under answers of calls that they have not come to
module _ {bodies : Bodies} {Root : ℕ → State → Type 0} {t : Tables} (v : Valid bodies Root t) (uses : Uses) (seen known row : ℕ) (enough : known ≤ t.answers.count)
    (none : (x : ℕ) → seen ≤ x → x < known → Used uses row (t.answers.call x) → ⊥) (body : List ℕ) where
  of_seen : (c : (ℕ × State) × ℕ) (x : ℕ) → HeldUsed t uses row c → Of t known c.0 x → Of t seen c.0 x
  of_seen c x (i, l, k, used, after) o = record { below = by (dec_lt x seen); action = o.action; state = o.state }
    where
      by : Dec (x < seen) → x < seen
      by (yes h) = h
      by (no n) =
          let h : x < t.answers.count = omega (arith, o.below) in
          let z : i ≡ t.answers.call x = row_once t.calls v.calls_once i (t.answers.call x) c.0.0 c.0.1 l (inside_of v x h) k (record { has_action = o.action; has_state = o.state }) in
          absurd (none x (omega arith) o.below (rw z at used))

  leads_seen : (f : Front State (ℕ × State)) (l x : ℕ) (s : Node) → Known (HeldUsed t uses row) (numbered f l) → Leads (of_at t known) (final_at t) (numbered f l) x s → Leads (of_at t seen) (final_at t) (numbered f l) x s
  leads_seen graph.stuck l x s k e = e
  leads_seen (goes u) l x s k e = e
  leads_seen (calls c) l x s k (o, e) = (of_seen (c, l) x k o, e)

  reach_seen : {q p : ℕ} {s u : Node} → Swept (EdgeN t seen body) (GoodN t seen body (HeldUsed t uses row) (Held t row)) q s → Reach (EdgeN t known body) q s p u → Reach (EdgeN t seen body) q s p u
  reach_seen k here = here
  reach_seen {q = q} {s = s} k (more {x = x} {u = u} e r) =
      let e' : EdgeN t seen body q s x u = (e.0, leads_seen (move (get_or body q 0) s.0) s.1 x u ((k q s here).called e.0) e.1) in
      more e' (reach_seen (λ p w r. k p w (more e' r)) r)

  noted_later : NotedAt body t uses seen row → NotedAt body t uses known row
  noted_later k p s r = good_at body (λ c h. h) t t seen known (Held t row) (Held t row) (λ s h. h) p s (k p s (reach_seen k r))

-- once the loop has come to `top`, every record is walked or passed
done_or : {low high top walked row : ℕ} → top ≤ row → (r : ℕ) → (r < row) ⊎ Passed low high top walked r
done_or {row = row} h r = elim (dec_lt r row) [ yes l ↦ inl l | no n ↦ inr (inr (inr (omega arith))) ]

-- ---- the loops' invariants; the rules have the numbers `number 0`, `number 1`, .. below `total`
module _ (bodies : Bodies) (Root : ℕ → State → Type 0) where
  abbrev pub Closing : Tables → Uses → ℕ → ℕ → ℕ → Type 0
  Closing t uses known row i = bodies.fits i (t.calls.action row) ≡ true → NotedAt (bodies.words i (t.calls.action row)) t uses known row

  -- At a round's start: the records from `first` up to `walked` were walked before, with the answers below `seen`.
  pub record Round (first walked seen : ℕ) (t : Tables) (uses : Uses) : Type 0 where
    pub valid : Valid bodies Root t
    pub walked_in : walked ≤ t.calls.count
    pub seen_in : seen ≤ t.answers.count
    pub earlier : (r : ℕ) → first ≤ r → r < walked → (i : ℕ) → Closing t uses seen r i

  -- In it: the records from `first` up to `row`, and those that are passed, are closed under every rule, with the answers below `known`.
  pub record Rows (first walked seen low high top old : ℕ) (warm : Bool) (round rows known row : ℕ) (begun : Begin) (t : Tables) (uses : Uses) : Type 0 where
    pub before : Round first walked seen t begun.notes
    pub lit : (r : ℕ) → r < old → (r < walked) × Lit t.answers begun.notes seen known warm
    pub noted : UsesGrew begun.notes uses
    pub base_rows : rows ≡ begun.tables.calls.count
    pub since : Since bodies Root round begun.tables known t
    pub latest : (x : ℕ) → known ≤ x → x < t.answers.count → t.answers.call x ≤ row
    pub rows_in : rows ≤ t.calls.count
    pub known_in : known ≤ t.answers.count
    pub closed : (r : ℕ) → first ≤ r → r < rows → (r < row) ⊎ Passed low high top walked r → (i : ℕ) → Closing t uses known r i

  since_up : {round known : ℕ} {base b u : Tables} → Since bodies Root round base known b → Made bodies round base u → Since bodies Root round base known u
  since_up S m = record { base_valid = S.base_valid; all_known = S.all_known; sooner = S.sooner; made = m }

  closing_up : {b u : Tables} {uses uses' : Uses} {known : ℕ} → Grew b u → UsesKept uses uses' → known ≤ b.answers.count → Inside b b.answers.count → (row i : ℕ) → row < b.calls.count
      → Closing b uses known row i → Closing u uses' known row i
  closing_up {b} {known = known} g w enough inside row i l c e =
      rw (g.action_same l) (noted_up g known enough inside (bodies.words i (b.calls.action row)) w row l (c (rw (g.action_same l) at e)))

  rows_up : {first walked seen low high top old round rows known row : ℕ} {warm : Bool} {begun : Begin} {b u : Tables} {uses uses' : Uses} → Grew b u → UsesGrew uses uses' → Valid bodies Root u → Made bodies round begun.tables u → row ≤ rows → ((x : ℕ) → known ≤ x → x < u.answers.count → u.answers.call x ≤ row)
      → Rows first walked seen low high top old warm round rows known row begun b uses → Rows first walked seen low high top old warm round rows known row begun u uses'
  rows_up {begun = begun} g w v m l k R =
      let S = R.before in
      let inside = inside_of S.valid in
      record {
        before = record {
          valid = v;
          walked_in = omega (arith, S.walked_in, g.calls_more);
          seen_in = omega (arith, S.seen_in, g.answers_more);
          earlier = λ r f h i. closing_up g (kept_of (uses_refl begun.notes)) S.seen_in inside r i (omega (arith, S.walked_in)) (S.earlier r f h i);
        };
        lit = λ r h. (let (l, k) = R.lit r h in (l, lit_up g R.known_in k));
        noted = uses_trans R.noted w;
        base_rows = R.base_rows;
        since = since_up R.since m;
        latest = k;
        rows_in = omega (arith, R.rows_in, g.calls_more);
        known_in = omega (arith, R.known_in, g.answers_more);
        closed = λ r f h p i. closing_up g (kept_of w) R.known_in inside r i (omega (arith, R.rows_in)) (R.closed r f h p i);
      }

  -- before the first round
  pub round_start : (first : ℕ) {t : Tables} (uses : Uses) → Valid bodies Root t → first ≤ t.calls.count → Round first first 0 t uses
  round_start first uses v l = record { valid = v; walked_in = l; seen_in = omega arith; earlier = λ r f h. absurd (omega arith) }

  -- with other words for what a round looks at
  pub round_kept : {first walked seen : ℕ} {t : Tables} {uses uses' : Uses} → UsesKept uses uses' → Round first walked seen t uses → Round first walked seen t uses'
  round_kept {t = t} w S = record {
    valid = S.valid;
    walked_in = S.walked_in;
    seen_in = S.seen_in;
    earlier = λ r f h i. closing_up (grew_refl t) w S.seen_in (inside_of S.valid) r i (omega (arith, S.walked_in)) (S.earlier r f h i);
  }

  pub rows_start : {first walked seen low high top old : ℕ} {warm : Bool} (round : ℕ) {t : Tables} {uses : Uses} → Round first walked seen t uses → ((x : ℕ) → x < t.answers.count → t.answers.round x < round) → Spans t.answers uses walked seen t.answers.count t.calls.count low high top
      → ((r : ℕ) → r < old → (r < walked) × Lit t.answers uses seen t.answers.count warm)
      → Rows first walked seen low high top old warm round t.calls.count t.answers.count low (begin t uses) t uses
  rows_start {first} {walked} {seen} {low} {high} {top} round {t} {uses} S sooner P W = record {
    before = S;
    lit = W;
    noted = uses_refl uses;
    base_rows = refl;
    since = record { base_valid = S.valid; all_known = refl; sooner = sooner; made = made_start t };
    latest = λ x h l. absurd (omega arith);
    rows_in = omega arith;
    known_in = omega arith;
    closed = λ r f h p i e. (let q = P.quiet r h (⊎_elim inl (λ z. z) p) in noted_later S.valid uses seen t.answers.count r (omega arith) q.none (bodies.words i (t.calls.action r)) (S.earlier r f q.old i e));
  }

  -- after a round
  pub rows_round : {first walked seen low high top old round rows known row : ℕ} {warm : Bool} {begun : Begin} {t : Tables} {uses : Uses} → Rows first walked seen low high top old warm round rows known row begun t uses → top ≤ row → Round first rows known t uses
  rows_round {row = row} R h = record { valid = R.before.valid; walked_in = R.rows_in; seen_in = R.known_in; earlier = λ r f l i. R.closed r f l (done_or h r) i }

  -- a record that is passed
  pub rows_passed : {first walked seen low high top old round rows known row : ℕ} {warm : Bool} {begun : Begin} {t : Tables} {uses : Uses} → Rows first walked seen low high top old warm round rows known row begun t uses → high ≤ row → row < walked → Rows first walked seen low high top old warm round rows known (row + 1) begun t uses
  rows_passed {row = row} R h l = record {
    before = R.before;
    lit = R.lit;
    noted = R.noted;
    base_rows = R.base_rows;
    since = R.since;
    latest = λ x h l. omega (arith, R.latest x h l);
    rows_in = R.rows_in;
    known_in = R.known_in;
    closed = λ r f g p i. R.closed r f g (⊎_elim (λ k. ⊎_elim inl (λ (z : r ≡ row). inr (inr (inl (omega arith, omega arith)))) (last_one k)) inr p) i;
  }

  module _ (number : ℕ → ℕ) where
    -- And record `row` is under the rules below `rule`.
    pub record Rules (first walked seen low high top old : ℕ) (warm : Bool) (round rows known row rule : ℕ) (begun : Begin) (t : Tables) (uses : Uses) : Type 0 where
      pub rows_closed : Rows first walked seen low high top old warm round rows known row begun t uses
      pub rules_closed : (k : ℕ) → k < rule → Closing t uses known row (number k)

    pub rules_start : {first walked seen low high top old round rows known row : ℕ} {warm : Bool} {begun : Begin} {t : Tables} {uses : Uses} → Rows first walked seen low high top old warm round rows known row begun t uses → Rules first walked seen low high top old warm round rows known row 0 begun t uses
    rules_start R = record { rows_closed = R; rules_closed = λ k h. absurd (omega arith) }

    -- a rule whose body, if it is one of the action, stops at its first step
    pub rules_stopped : {first walked seen low high top old round rows known row rule : ℕ} {warm : Bool} {begun : Begin} {t : Tables} {uses : Uses} → Rules first walked seen low high top old warm round rows known row rule begun t uses
        → (bodies.fits (number rule) (t.calls.action row) ≡ true → Stopped (bodies.words (number rule) (t.calls.action row)) (t.calls.state row))
        → Rules first walked seen low high top old warm round rows known row (rule + 1) begun t uses
    rules_stopped {known = known} {row} {rule} {t = t} {uses} R n = record { rows_closed = R.rows_closed; rules_closed = λ k h. ⊎_elim (λ l. R.rules_closed k l) (λ (z : k ≡ rule). λ e. rw z (noted_stopped _ t uses known row (n (rw z at e)))) (last_one h) }

    -- a rule of another action
    pub rules_skip : {first walked seen low high top old round rows known row rule : ℕ} {warm : Bool} {begun : Begin} {t : Tables} {uses : Uses} → Rules first walked seen low high top old warm round rows known row rule begun t uses → (bodies.fits (number rule) (t.calls.action row) ≡ true → ⊥)
        → Rules first walked seen low high top old warm round rows known row (rule + 1) begun t uses
    rules_skip R n = rules_stopped R (λ e. absurd (n e))

    -- a walk that is over
    pub rules_next : {first walked seen low high top old round rows known row rule walk i : ℕ} {warm : Bool} {begun : Begin} {b u : Tables} {P : Before} {body : List ℕ} {marks : ℕ → ℕ} {uses uses' : Uses} → Rules first walked seen low high top old warm round rows known row rule begun b uses → row < rows → i ≡ number rule → body ≡ bodies.words i (b.calls.action row)
        → UsesGrew uses uses' → Made bodies round begun.tables u → ((x : ℕ) → known ≤ x → x < u.answers.count → u.answers.call x ≤ row) → Over bodies Root b known i row walk P body u marks uses' → Rules first walked seen low high top old warm round rows known row (rule + 1) begun u uses'
    rules_next {known = known} {row} {rule} {b = b} {u} {body} R l e w g m late o =
        let S = R.rows_closed in
        let i = inside_of S.before.valid in
        let h : row < b.calls.count = omega (arith, S.rows_in) in
        record {
          rows_closed = rows_up o.grew g o.valid m (omega arith) late S;
          rules_closed = λ k j. ⊎_elim (λ m. closing_up o.grew (kept_of g) S.known_in i row (number k) h (R.rules_closed k m))
              (λ (z : k ≡ rule). λ f. rw (z, ← e, o.grew.action_same h, ← w) (noted_over o.grew known S.known_in i body h o)) (last_one j);
        }

    -- all rules have been walked
    pub rows_next : {first walked seen low high top old round rows known row rule : ℕ} {warm : Bool} {begun : Begin} {t : Tables} {uses : Uses} → ((i a : ℕ) → bodies.fits i a ≡ true → (k : ℕ) × (k < rule) × (number k ≡ i)) → Rules first walked seen low high top old warm round rows known row rule begun t uses
        → Rows first walked seen low high top old warm round rows known (row + 1) begun t uses
    rows_next {known = known} {row} {rule} {t} {uses} all R = record {
      before = R.rows_closed.before;
      lit = R.rows_closed.lit;
      noted = R.rows_closed.noted;
      base_rows = R.rows_closed.base_rows;
      since = R.rows_closed.since;
      latest = λ x h l. omega (arith, R.rows_closed.latest x h l);
      rows_in = R.rows_closed.rows_in;
      known_in = R.rows_closed.known_in;
      closed = λ r f l p i. ⊎_elim (λ k. ⊎_elim (λ m. R.rows_closed.closed r f l (inl m) i) (λ (z : r ≡ row). rw z (last i)) (last_one k)) (λ q. R.rows_closed.closed r f l (inr q) i) p;
    }
      where
        last : (i : ℕ) → Closing t uses known row i
        last i e = let (k, l, z) = all i (t.calls.action row) e in rw z at (R.rules_closed k l (rw z e))

  -- what an earlier walk of the record left
  pub rows_past : {first walked seen low high top old round rows known row : ℕ} {warm : Bool} {begun : Begin} {t : Tables} {uses : Uses} → Rows first walked seen low high top old warm round rows known row begun t uses → (i : ℕ) → bodies.fits i (t.calls.action row) ≡ true
      → first ≤ row → row < old → Past t begun.notes seen known warm row (bodies.words i (t.calls.action row))
  rows_past {row = row} R i e f h = let (l, k) = R.lit row h in record { swept = R.before.earlier row f l i e; lit = k }

  -- a round that added nothing
  pub rows_finished : {first walked seen low high top old round rows known row : ℕ} {warm : Bool} {begun : Begin} {t : Tables} {uses : Uses} → Rows first walked seen low high top old warm round rows known row begun t uses → top ≤ row → t.calls.count + t.answers.count ≡ rows + known → Whole bodies Root first t
  rows_finished {first} {rows = rows} {known} {row} {t} {uses} R h e =
      let b : known ≡ t.answers.count = omega (arith, R.rows_in, R.known_in) in
      record { valid = R.before.valid; closed = λ r f l i z. noted_closed (bodies.words i (t.calls.action r)) t uses t.answers.count r (rw b at (R.closed r f (omega (arith, R.rows_in, R.known_in)) (done_or h r) i z)) }

  -- A round that walked all records has gathered all, and leaves only answers of rounds up to its own.
  pub rows_gathered : {walked seen low high top old round rows known row : ℕ} {warm : Bool} {begun : Begin} {t : Tables} {uses : Uses} → Rows 0 walked seen low high top old warm round rows known row begun t uses → top ≤ row → Gathered bodies round begun.tables t
  rows_gathered {known = known} {row} {begun = begun} {t} {uses} R h =
      let S = R.since in
      record {
        made = S.made;
        closed = λ r i l e.
            (let f : bodies.fits i (t.calls.action r) ≡ true = rw (S.made.grew.action_same l) e in
            rw (S.all_known, S.made.grew.action_same l) at (noted_closed (bodies.words i (t.calls.action r)) t uses known r (R.closed r (omega arith) (omega (arith, R.base_rows)) (done_or h r) i f)));
      }

  pub rows_sooner : {first walked seen low high top old round rows known row : ℕ} {warm : Bool} {begun : Begin} {t : Tables} {uses : Uses} → Rows first walked seen low high top old warm round rows known row begun t uses
      → (x : ℕ) → x < t.answers.count → t.answers.round x < round + 1
  rows_sooner {begun = begun} {t} R x l =
      let S = R.since in
      elim (dec_lt x begun.tables.answers.count) [
        | yes h ↦ omega (arith, S.sooner x (omega (arith, S.all_known)), S.made.grew.answer_round h)
        | no n ↦ omega (arith, (S.made.answer_found x (omega arith) l).1)
      ]

  -- the rules of lower numbers give no more from the record, where they are walked in the order of their numbers
  pub rules_lower : (number : ℕ → ℕ) {first walked seen low high top old round rows known row rule : ℕ} {warm : Bool} {begun : Begin} {t : Tables} {uses : Uses} → Rules number first walked seen low high top old warm round rows known row rule begun t uses
      → (i : ℕ) → (k : ℕ) × (k < rule) × (number k ≡ i) → bodies.fits i (t.calls.action row) ≡ true → (f : State)
      → Reach (EdgeT t known (bodies.words i (t.calls.action row))) 0 (t.calls.state row) (length (bodies.words i (t.calls.action row))) f → Held t row f
  rules_lower number {known = known} {row} {t = t} {uses} R i (k, l, z) e f r =
      let c : NotedAt (bodies.words i (t.calls.action row)) t uses known row = rw z at (R.rules_closed k l (rw z e)) in
      (noted_closed (bodies.words i (t.calls.action row)) t uses known row c (length (bodies.words i (t.calls.action row))) f r).ends refl
