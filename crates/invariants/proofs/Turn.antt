-- One turn of the walk: each way that the code may go keeps the search's invariant or sweeps the node. Assumes nothing.
use Prim.Native.Nat.{ℕ, suc, ◌+◌, ◌-◌, ◌%◌, ◌<◌, ◌≤◌}
use native.Mathlib.Omega.{arith}
use native.Mathlib.Decide.{dec_lt}
use mathlib.Core.Path.{◌≡◌, refl, sym, subst, ap, ◌∙◌}
use mathlib.Core.Bool.{Bool, true, false}
use mathlib.Core.List.{List}
use mathlib.Core.Logic.{inl, inr, ⊎_elim}
use lib.ListN.{length, get_or, set, length-set}
use lib.Seq.{get_or-set_other}
use Rattle.steps.specs.State.{State}
use Rattle.steps.specs.Words.{step_of, body_of}
use Rattle.steps.specs.Inner.{is_call}
use Rattle.steps.specs.Elementary.{on, stuck, elementary}
use Rattle.steps.proofs.EachBelow.{true_not_false}
use Rattle.steps.proofs.Deductions.{Does}
use Rattle.steps.proofs.Execution.{Ends}
use Rattle.steps.proofs.Tables.{Reached}
use Rattle.records.specs.Records.{Calls, Answers, Bodies}
use Rattle.records.specs.Storage.{CallAt, NextAnswer, NoAnswer, CallPut, call_stood, call_added, call_no_room, AnswerPut, answer_stood, answer_added, answer_no_room, AnswerAdded}
use Rattle.records.proofs.Growth.{Tables, tables, Held, Grew, Inside, grew_refl, grew_trans, grew_call, grew_answer, call_up, held_up, row_once}
use Rattle.uses.specs.Uses.{Uses, Used, Came, Noted, UsesGrew, HeldUsed, heat, Newest, FirstHot, FirstNew}
use Rattle.uses.proofs.UsesLaws.{kept_of, uses_refl, uses_trans, held_used_up}
use Rattle.records.proofs.Justification.{Has, Proper, Justified}
use Rattle.tabling.proofs.Evidence.{Valid, inside_of, come_reached, way_ends, way_follows}
use Rattle.tabling.proofs.Adding.{valid_call, valid_answer, full_calls, full_answers, Outgrown}
use Rattle.tabling.proofs.Found.{FoundCall, FoundBy, AsGood, Made, made_call, made_answer, reach_down, way_up, way_down, way_numbered}
use Rattle.invariants.proofs.Cold.{Past, Last, upto_cold, upto_last}
use Rattle.tabling.proofs.Sweep.{Swept, Upto, upto_up, Reach, reach_append, Way, way_reach, least}
use Rattle.tabling.proofs.Graph.{Front, goes, calls, numbered, Leads, leads}
use Rattle.tabling.proofs.Graph as graph
use Rattle.tabling.proofs.Moves.{Of, call_of, NoneIn, Retreat, Chosen, EdgeT, Node, of_at, final_at, at_call, move, move_call, step_at, EdgeN, GoodN}
use Rattle.invariants.proofs.Walking.{Walking, walk_start, walk_forward, walk_way, plain_way, last_known, good_up, chosen_of, Done, done_end, done_stuck, done_seen, done_call, mark_done, take_first, back_over, back_take, walking_up}
use Rattle.marks.specs.Marks.{Mark, Stamped, with_mark}
use Rattle.marks.proofs.MarksLaws.{mark_new, mark_stamped}

-- ---- from record numbers in the present tables to contents in the tables at the walk's start
-- at place q no answer after the chosen one is left
abbrev pub SpentRow : List ℕ → Answers → ℕ → List ℕ → ℕ → Type 0
SpentRow body answers known chosen q = is_call (get_or body q 0) ≡ true → (y : ℕ) → get_or chosen q 0 + 1 ≤ y → y < known → answers.call y ≡ answers.call (get_or chosen q 0) → ⊥

-- The search goes back to the place before r and takes answer j there; where r is 0 it is over: by record numbers.
pub record RetreatRow (body : List ℕ) (answers : Answers) (known : ℕ) (chosen : List ℕ) (at r j : ℕ) : Type 0 where
  pub low : r ≤ at
  pub spent : (q : ℕ) → r ≤ q → q < at → SpentRow body answers known chosen q
  pub found : (p : ℕ) → r ≡ p + 1 → (is_call (get_or body p 0) ≡ true) × (j < known) × NextAnswer answers known (answers.call (get_or chosen p 0)) (get_or chosen p 0 + 1) j

module _ {bodies : Bodies} {Root : ℕ → State → Type 0} {b t : Tables} {known : ℕ} (v : Valid bodies Root t) (g : Grew b t) (enough : known ≤ b.answers.count) (inside : Inside b b.answers.count) where
  row_of : {row y : ℕ} (c : ℕ × State) → row < t.calls.count → CallAt t.calls row c.0 c.1 → Of b known c y → t.answers.call y ≡ row
  row_of {row} {y} c l k o =
      let h : y < b.answers.count = omega (arith, o.below) in
      let i : b.answers.call y < b.calls.count = inside y h in
      g.call_same h ∙ row_once t.calls v.calls_once (b.answers.call y) row c.0 c.1 (omega (arith, g.calls_more)) l (call_up g i (record { has_action = o.action; has_state = o.state })) k

  of_row : {row y : ℕ} (c : ℕ × State) → y < known → CallAt t.calls row c.0 c.1 → t.answers.call y ≡ row → Of b known c y
  of_row {row} {y} c l k e =
      let h : y < b.answers.count = omega arith in
      let i : b.answers.call y < b.calls.count = inside y h in
      let z : b.answers.call y ≡ row = sym (g.call_same h) ∙ e in
      record { below = l; action = sym (g.action_same i) ∙ ap t.calls.action z ∙ k.has_action; state = sym (g.state_same i) ∙ ap t.calls.state z ∙ k.has_state }

  -- the call record of an answer
  call_there : {x : ℕ} → x < known → (t.answers.call x < t.calls.count) × CallAt t.calls (t.answers.call x) (call_of b x).0 (call_of b x).1
  call_there {x} l =
      let h : x < b.answers.count = omega arith in
      let i : b.answers.call x < b.calls.count = inside x h in
      let e : t.answers.call x ≡ b.answers.call x = g.call_same h in
      (omega (arith, g.calls_more), record { has_action = ap t.calls.action e ∙ g.action_same i; has_state = ap t.calls.state e ∙ g.state_same i })

  none_old : {row from j : ℕ} (c : ℕ × State) → row < t.calls.count → CallAt t.calls row c.0 c.1 → NextAnswer t.answers known row from j → NoneIn b known c from j
  none_old c l k n y x z o = n.skipped y x z (row_of c l k o)

  retreat_old : {body chosen : List ℕ} {at r j : ℕ} → Chosen body known chosen at → RetreatRow body t.answers known chosen at r j → Retreat body b known chosen at r j
  retreat_old {body} {chosen} {at} {r} {j} k R = record {
    low = R.low;
    spent = λ q x y e z a d o. (let (l, w) = call_there (k q y e) in R.spent q x y e z a d (row_of (call_of b (get_or chosen q 0)) l w o));
    found = λ p e.
        (let (f, i, n) = R.found p e in
        let (l, w) = call_there (k p (omega (arith, R.low)) f) in
        (f, omega (arith, n.low), none_old (call_of b (get_or chosen p 0)) l w n, of_row (call_of b (get_or chosen p 0)) i w (n.found i)));
  }

-- ---- the invariant
-- What a round began with: the tables, and what was noted then.
pub record Begin : Type 0 where
  pub tables : Tables
  pub notes : Uses

abbrev pub begin : Tables → Uses → Begin
begin tables notes = record { tables = tables; notes = notes }

-- What was before a round: the records from `first` up to `old` were walked with the answers below `seen`, and what their walks came to is
-- noted; whether all that the round has to look at again is; the round's number and the tables that it began with.
pub record Before : Type 0 where
  pub first : ℕ
  pub old : ℕ
  pub seen : ℕ
  pub warm : Bool
  pub round : ℕ
  pub base : Tables
  pub notes : Uses

abbrev pub before : ℕ → ℕ → ℕ → Bool → ℕ → Begin → Before
before first old seen warm round begun =
    record { first = first; old = old; seen = seen; warm = warm; round = round; base = begun.tables; notes = begun.notes }

-- In round r, which began with `base`: its answers, those below `known`, are of earlier rounds, and all that b has more was found in this one.
pub record Since (bodies : Bodies) (Root : ℕ → State → Type 0) (r : ℕ) (base : Tables) (known : ℕ) (b : Tables) : Type 0 where
  pub base_valid : Valid bodies Root base
  pub all_known : known ≡ base.answers.count
  pub sooner : (x : ℕ) → x < known → base.answers.round x < r
  pub made : Made bodies r base b

abbrev pub Old : Before → ℕ → Type 0
Old P row = (P.first ≤ row) × (row < P.old)

-- All answers found in the round so far are of call records up to this one.
abbrev pub Latest : Before → ℕ → Tables → Type 0
Latest P row b = (x : ℕ) → P.base.answers.count ≤ x → x < b.answers.count → b.answers.call x ≤ row

-- What does not change while a body is walked from a call record: among other things, that the rules of lower numbers give no more from it.
pub record Given (bodies : Bodies) (Root : ℕ → State → Type 0) (b : Tables) (known rule row : ℕ) (P : Before) (body : List ℕ) : Type 0 where
  pub proper : Proper bodies
  pub valid : Valid bodies Root b
  pub enough : known ≤ b.answers.count
  pub row_in : row < b.calls.count
  pub fits : bodies.fits rule (b.calls.action row) ≡ true
  pub words : body ≡ bodies.words rule (b.calls.action row)
  pub past : Old P row → Past b P.notes P.seen known P.warm row body
  pub lower : (i : ℕ) → i < rule → bodies.fits i (b.calls.action row) ≡ true → (f : State)
      → Reach (EdgeT b known (bodies.words i (b.calls.action row))) 0 (b.calls.state row) (length (bodies.words i (b.calls.action row))) f → Held b row f
  pub row_old : row < P.base.calls.count
  pub row_last : Latest P row b
  pub since : Since bodies Root P.round P.base known b

-- The answer that a walk takes first: the first of all; or, where a record walked before is walked again by old answers, the first that is
-- looked at, or at the last call of a body the first that is new.
pub data Picked (answers : Answers) (uses : Uses) (known row : ℕ) (P : Before) (body chosen : List ℕ) (at r j : ℕ) : Type 0 where
  of_all : NextAnswer answers known r 0 j → Picked answers uses known row P body chosen at r j
  of_looked : Old P row → ((q : ℕ) → q < at → get_or chosen q 0 < P.seen) → P.warm ≡ true → FirstHot answers uses P.seen known r j → Picked answers uses known row P body chosen at r j
  of_new : Old P row → ((q : ℕ) → q < at → get_or chosen q 0 < P.seen) → Last body at → FirstNew answers uses P.seen known r j → Picked answers uses known row P body chosen at r j

picked_found : {answers : Answers} {uses : Uses} {known row : ℕ} {P : Before} {body chosen : List ℕ} {at r j : ℕ} → Picked answers uses known row P body chosen at r j → j < known → answers.call j ≡ r
picked_found (of_all n) l = n.found l
picked_found (of_looked o w e f) l = f.found l
picked_found (of_new o w k f) l = f.found l

module _ (bodies : Bodies) (Root : ℕ → State → Type 0) (b : Tables) (known rule row walk : ℕ) (P : Before) (body : List ℕ) where
  -- the state that the walk begins in
  abbrev from : Node
  from = (b.calls.state row, 0)

  -- The search in tables t that have grown from b.
  pub record Turning (t : Tables) (marks : ℕ → ℕ) (uses : Uses) (chosen : List ℕ) (at : ℕ) (s : Node) : Type 0 where
    pub given : Given bodies Root b known rule row P body
    pub valid : Valid bodies Root t
    pub grew : Grew b t
    pub made : Made bodies P.round P.base t
    pub latest : Latest P row t
    pub noted : UsesGrew P.notes uses
    pub stamped : Stamped marks walk
    pub chosen_long : length chosen ≡ 16
    pub unused : (q : ℕ) → length body ≤ q → get_or chosen q 0 ≡ 0
    pub walking : Walking body b known walk (HeldUsed t uses row) (Held t row) from marks chosen at at s

  -- Where the walk has to go back: nothing is left from the present place on.
  pub record Turned (t : Tables) (marks : ℕ → ℕ) (uses : Uses) (chosen : List ℕ) (at : ℕ) (s : Node) : Type 0 where
    pub turning : Turning t marks uses chosen at s
    pub done : Done body b known walk (HeldUsed t uses row) (Held t row) from at s

  -- The walk is over.
  pub record Over (t : Tables) (marks : ℕ → ℕ) (uses : Uses) : Type 0 where
    pub valid : Valid bodies Root t
    pub grew : Grew b t
    pub made : Made bodies P.round P.base t
    pub latest : Latest P row t
    pub stamped : Stamped marks walk
    pub swept : Swept (EdgeN b known body) (GoodN b known body (HeldUsed t uses row) (Held t row)) 0 from

  has_body : Given bodies Root b known rule row P body → Has bodies (b.calls.action row) (body_of body)
  has_body G = (rule, G.fits, ap body_of G.words)

  pub body_short : Given bodies Root b known rule row P body → length body ≤ 16
  body_short G = rw G.words (G.proper.short rule _ G.fits)

  turning_up : {t u : Tables} {marks : ℕ → ℕ} {uses uses' : Uses} {chosen : List ℕ} {at : ℕ} {s : Node} → Turning t marks uses chosen at s → Grew t u → UsesGrew uses uses' → Valid bodies Root u → Made bodies P.round P.base u → Latest P row u → Turning u marks uses' chosen at s
  turning_up T g w v m k = record {
    given = T.given;
    valid = v;
    grew = grew_trans T.grew g;
    made = m;
    latest = k;
    noted = uses_trans T.noted w;
    stamped = T.stamped;
    chosen_long = T.chosen_long;
    unused = T.unused;
    walking = walking_up body b known walk from (held_used_up g (kept_of w) row) (held_up g row) T.walking;
  }

  -- the first turn
  pub turn_start : {marks : ℕ → ℕ} {chosen : List ℕ} (uses : Uses) → Given bodies Root b known rule row P body → UsesGrew P.notes uses → Stamped marks walk → ((q r : ℕ) → ¬ Mark marks walk q r) → length chosen ≡ 16 → ((q : ℕ) → length body ≤ q → get_or chosen q 0 ≡ 0)
      → Turning b marks uses chosen 0 from
  turn_start uses G w s none long unused = record {
    given = G;
    valid = G.valid;
    grew = grew_refl b;
    made = G.since.made;
    latest = G.row_last;
    noted = w;
    stamped = s;
    chosen_long = long;
    unused = unused;
    walking = walk_start body b known walk (HeldUsed b uses row) (Held b row) from none;
  }

  module _ {t : Tables} {marks : ℕ → ℕ} {uses : Uses} {chosen : List ℕ} {at : ℕ} {s : Node} (T : Turning t marks uses chosen at s) where
    chosen_far : (p j : ℕ) → p < length body → (q : ℕ) → length body ≤ q → get_or (set chosen p j) q 0 ≡ 0
    chosen_far p j h q l = get_or-set_other chosen p q j 0 (omega arith) ∙ T.unused q l

    pub turn_last : s.1 ≤ known
    turn_last = last_known body b known walk (HeldUsed t uses row) (Held t row) from T.walking (omega arith)

    place_low : at < length body → at < 16
    place_low h = omega (arith, body_short T.given)

    -- ---- an elementary step
    pub turn_forward : {u : State} → at < length body → elementary (step_of (get_or body at 0)) s.0 ≡ on u → Turning t marks uses (set chosen at 0) (at + 1) (u, s.1)
    turn_forward h e = record {
      given = T.given;
      valid = T.valid;
      grew = T.grew;
      made = T.made;
      latest = T.latest;
      noted = T.noted;
      stamped = T.stamped;
      chosen_long = simp length-set T.chosen_long;
      unused = chosen_far at 0 h;
      walking = walk_forward body b known walk (HeldUsed t uses row) (Held t row) from T.walking h (omega (arith, T.chosen_long, place_low h)) e;
    }

    pub turn_stuck : at < length body → is_call (get_or body at 0) ≡ false → elementary (step_of (get_or body at 0)) s.0 ≡ stuck → Turned t marks uses chosen at s
    turn_stuck h l e = record { turning = T; done = done_stuck body b known walk (HeldUsed t uses row) (Held t row) from T.walking h l e }

    -- the body as that of the record in the tables that the round began with
    base_words : body ≡ bodies.words rule (P.base.calls.action row)
    base_words = T.given.words ∙ ap (bodies.words rule) (T.given.since.made.grew.action_same T.given.row_old)

    -- a way of the walk is one in the tables that the round began with
    base_reach : (p : ℕ) (u : State) → Reach (EdgeT b known body) 0 from.0 p u → Reach (EdgeT P.base P.base.answers.count (bodies.words rule (P.base.calls.action row))) 0 (P.base.calls.state row) p u
    base_reach p u r =
        let G = T.given in
        let S = G.since in
        let e : known ≤ P.base.answers.count = omega (arith, S.all_known) in
        let r' = reach_down S.made.grew known e (λ x l. inside_of S.base_valid x (omega arith)) body r in
        rw (S.all_known, S.made.grew.state_same G.row_old, base_words) at r'

    -- ---- a call
    module _ (h : at < length body) (e : is_call (get_or body at 0) ≡ true) where
      -- it is reached
      came : Reached Does (Has bodies) Root (get_or body at 0 % 256) s.0
      came =
          let G = T.given in
          come_reached b known body G.valid G.enough (G.valid.reached row G.row_in) (has_body G) h e (plain_way body b known walk (HeldUsed t uses row) (Held t row) from T.walking)

      -- the round finds it
      found : FoundCall bodies P.base P.base.answers.count (get_or body at 0 % 256, s.0)
      found =
          let G = T.given in
          let S = G.since in
          let W = plain_way body b known walk (HeldUsed t uses row) (Held t row) from T.walking in
          let r = base_reach at s.0 (way_reach {Edge' = EdgeT b known body} W (λ q l. W.edges q l)) in
          record {
            row = row;
            row_in = G.row_old;
            rule = rule;
            fits = rw (S.made.grew.action_same G.row_old) at G.fits;
            place = at;
            state = s.0;
            way = r;
            inside = rw base_words at h;
            comes = subst (λ (ws : List ℕ). move (get_or ws at 0) s.0 ≡ calls (get_or body at 0 % 256, s.0)) base_words (move_call (get_or body at 0) s.0 e);
          }

      -- it stands in the table
      pub turn_called : {calls' : Calls} {r places : ℕ} {full : Bool} → CallPut places t.calls (get_or body at 0 % 256) s.0 P.round calls' r full → full ≡ false
          → Turning (tables calls' t.answers) marks uses chosen at s × (r < calls'.count) × CallAt calls' r (get_or body at 0 % 256) s.0
      turn_called (call_stood f l k z) n = rw z (T, l, k)
      turn_called (call_added f i l none p) n = (turning_up T (grew_call t p) (uses_refl uses) (valid_call T.valid T.given.proper p none came) (made_call T.made p found) T.latest, omega (arith, p.count), rw i p.new)
      turn_called (call_no_room f i none z) n = absurd (true_not_false (sym f ∙ n))

      -- or there is no room for it
      pub turn_calls_full : {calls' : Calls} {r places : ℕ} {full : Bool} (answer_places : ℕ) → CallPut places t.calls (get_or body at 0 % 256) s.0 P.round calls' r full → full ≡ true → Outgrown bodies Root places answer_places
      turn_calls_full m (call_stood f l k z) n = absurd (true_not_false (sym n ∙ f))
      turn_calls_full m (call_added f i l none p) n = absurd (true_not_false (sym n ∙ f))
      turn_calls_full m (call_no_room f i none z) n = inl (rw i at (full_calls T.valid none came))

      -- and is noted
      pub turn_noted : {uses' : Uses} {r : ℕ} → Noted uses uses' row s.1 r → Turning t marks uses' chosen at s
      turn_noted w = turning_up T (grew_refl t) w.grew T.valid T.made T.latest

      -- a way by old answers is one of the earlier walk
      old_way : ((q : ℕ) → q < at → get_or chosen q 0 < P.seen) → Reach (EdgeN b P.seen body) 0 from at s
      old_way below =
          let W = walk_way body b known walk (HeldUsed t uses row) (Held t row) from T.walking in
          way_reach W (λ q i. ((W.edges q i).0, leads_old (W.st q) (W.st (suc q)) (get_or chosen q 0) (get_or body q 0) (below q i) (W.edges q i).1))
        where
          by : (f : Front State (ℕ × State)) (n x : ℕ) (u : Node) → x < P.seen → Leads (of_at b known) (final_at b) (numbered f n) x u → Leads (of_at b P.seen) (final_at b) (numbered f n) x u
          by graph.stuck n x u l e = e
          by (goes v) n x u l e = e
          by (calls c) n x u l (o, e) = (record { below = l; action = o.action; state = o.state }, e)

          leads_old : (v u : Node) (x w : ℕ) → x < P.seen → Leads (of_at b known) (final_at b) (step_at w v) x u → Leads (of_at b P.seen) (final_at b) (step_at w v) x u
          leads_old v u x w l e = by (move w v.0) v.1 x u l e

      module _ {r : ℕ} (l : r < t.calls.count) (k : CallAt t.calls r (get_or body at 0 % 256) s.0) (used : Used uses row r) (after : Came uses s.1 r) where
        -- the first of the new answers is noted still
        newest_now : (y : ℕ) → y < known → Newest b.answers P.notes P.seen y → Newest t.answers uses P.seen y
        newest_now y h (i, a, c, d) =
            let G = T.given in
            let z : t.answers.call y ≡ b.answers.call y = T.grew.call_same {x = y} (omega (arith, G.enough)) in
            let g = T.noted.heats (b.answers.call y) in
            let x : t.answers.call (heat P.notes (b.answers.call y)) ≡ b.answers.call (heat P.notes (b.answers.call y)) = T.grew.call_same (omega (arith, G.enough)) in
            rw (z, g, x) (i, a, c, d)

        -- all answers before the one that is taken are done
        upto_picked : (j : ℕ) → Picked t.answers uses known row P body chosen at r j → Upto (EdgeN b known body) (GoodN b known body (HeldUsed t uses row) (Held t row)) at s j
        upto_picked j (of_all n) = λ x u i d.
            (let (o, f) : Leads (of_at b known) (final_at b) (calls ((get_or body at 0 % 256, s.0), s.1)) x u = rw (at_call (get_or body at 0) s e) at d.1 in
            absurd (n.skipped x (omega arith) i (row_of T.valid T.grew T.given.enough (inside_of T.given.valid) (get_or body at 0 % 256, s.0) l k o)))
        upto_picked j (of_looked o w warm f) =
            let G = T.given in
            let p = G.past o in
            upto_up (EdgeN b known body) (good_up body b known walk from (held_used_up T.grew (kept_of T.noted) row) (held_up T.grew row))
            (upto_cold b P.notes P.seen known row body G.valid G.enough (p.lit.looked warm) (λ q u i. p.swept q u (reach_append (old_way w) i)) e
            (λ y i a. λ (j, m, c). f.skipped y i (row_of T.valid T.grew G.enough (inside_of G.valid) (get_or body at 0 % 256, s.0) l k a)
            (let z : t.answers.call y ≡ b.answers.call y = T.grew.call_same {x = y} (omega (arith, a.below, G.enough)) in
            rw (z, T.noted.starts (b.answers.call y), T.noted.heats (b.answers.call y)) (j, m, c))))
        upto_picked j (of_new o w last f) =
            let G = T.given in
            let p = G.past o in
            upto_up (EdgeN b known body) (good_up body b known walk from (held_used_up T.grew (kept_of T.noted) row) (held_up T.grew row))
            (upto_last b P.notes P.seen known row body (λ q u i. p.swept q u (reach_append (old_way w) i)) e last
            (λ y i a. elim (dec_lt y P.seen) [
              | yes h ↦ h
              | no n ↦ absurd (f.skipped y i (row_of T.valid T.grew G.enough (inside_of G.valid) (get_or body at 0 % 256, s.0) l k a)
                  (omega arith, newest_now y a.below (p.lit.newest y (omega arith) a.below)))
            ]))

        -- nothing is left from here on where the call has no answer yet
        none_done : Picked t.answers uses known row P body chosen at r known → Done body b known walk (HeldUsed t uses row) (Held t row) from at s
        none_done n = done_call body b known walk (HeldUsed t uses row) (Held t row) from T.walking h e (r, l, k, used, after) (upto_picked known n) (λ y i o z. omega (arith, i, o))

        -- a call recorded since the round began has no answer that may be used
        none_new : b.calls.count ≤ r → NextAnswer t.answers known r 0 known
        none_new new = record { low = omega arith; high = omega arith; skipped = skip; found = λ i. absurd (omega arith) }
          where
            skip : (y : ℕ) → 0 ≤ y → y < known → t.answers.call y ≡ r → ⊥
            skip y o i z =
                let x : y < b.answers.count = omega (arith, T.given.enough) in
                let same = T.grew.call_same x in
                let old = inside_of T.given.valid y x in
                omega arith

        -- the call's contents at the round's start
        at_start : r < b.calls.count → CallAt b.calls r (get_or body at 0 % 256) s.0
        at_start i = record { has_action = sym (T.grew.action_same i) ∙ k.has_action; has_state = sym (T.grew.state_same i) ∙ k.has_state }

        -- the node has been searched before
        pub turn_seen : Mark marks walk at r → Turned t marks uses chosen at s
        turn_seen m = record { turning = T; done = by (dec_lt r b.calls.count) }
          where
            by : Dec (r < b.calls.count) → Done body b known walk (HeldUsed t uses row) (Held t row) from at s
            by (yes i) = done_seen body b known walk (HeldUsed t uses row) (Held t row) from T.walking h e (r, l, k, used, after) (r, i, at_start i, m)
            by (no n) = none_done (of_all (none_new (omega arith)))

        -- the call has no answer yet: its node is marked
        pub turn_none : r < 65536 → ¬ Mark marks walk at r → Picked t.answers uses known row P body chosen at r known → Turned t (with_mark marks walk at r) uses chosen at s
        turn_none room free n =
            let done = none_done n in
            record {
              turning = record {
                given = T.given;
                valid = T.valid;
                grew = T.grew;
                made = T.made;
                latest = T.latest;
                noted = T.noted;
                stamped = mark_stamped marks walk at r (place_low h) free T.stamped;
                chosen_long = T.chosen_long;
                unused = T.unused;
                walking = mark_done body b known walk (HeldUsed t uses row) (Held t row) from T.walking done
                    (λ q u (y, a, d, x). ⊎_elim (λ x'. inl (y, a, d, x')) (λ (z, w). inr (z, sym d.has_state ∙ ap b.calls.state w ∙ (at_start (omega arith)).has_state)) (mark_new marks walk at r (place_low h) free q y x));
              };
              done = done;
            }

        -- its first answer is taken
        pub turn_take : {j : ℕ} → r < 65536 → ¬ Mark marks walk at r → j < known → Picked t.answers uses known row P body chosen at r j → Turning t (with_mark marks walk at r) uses (set chosen at j) (at + 1) (t.answers.final j, j + 1)
        turn_take {j} room free i n =
            let G = T.given in
            let c : ℕ × State = (get_or body at 0 % 256, s.0) in
            let n_found : t.answers.call j ≡ r = picked_found n i in
            let inside = inside_of G.valid in
            let x : j < b.answers.count = omega (arith, G.enough) in
            let o : Of b known c j = of_row T.valid T.grew G.enough inside c i k n_found in
            let z : b.answers.call j ≡ r = sym (T.grew.call_same x) ∙ n_found in
            let old : r < b.calls.count = rw z at (inside j x) in
            let at_b : CallAt b.calls r c.0 c.1 = record { has_action = ap b.calls.action (sym z) ∙ o.action; has_state = ap b.calls.state (sym z) ∙ o.state } in
            record {
              given = G;
              valid = T.valid;
              grew = T.grew;
              made = T.made;
              latest = T.latest;
              noted = T.noted;
              stamped = mark_stamped marks walk at r (place_low h) free T.stamped;
              chosen_long = simp length-set T.chosen_long;
              unused = chosen_far at j h;
              walking = rw (T.grew.final_same x) (take_first body b known walk (HeldUsed t uses row) (Held t row) from T.walking h e (r, l, k, used, after) (place_low h) (omega (arith, T.chosen_long, place_low h)) old at_b free o
                  (upto_picked j n) (λ y i o z. omega (arith, i, o)));
            }

    -- ---- the body's end
    module _ (h : length body ≤ at) where
      end_way : Way (EdgeT b known body) (λ q. get_or chosen q 0) from.0 (length body) s.0
      end_way =
          let z : at ≡ length body = omega (arith, T.walking.inside) in
          subst (λ (n : ℕ). Way (EdgeT b known body) (λ q. get_or chosen q 0) from.0 n s.0) z (plain_way body b known walk (HeldUsed t uses row) (Held t row) from T.walking)

      end_final : Ends Does (Has bodies) (t.calls.action row) (t.calls.state row) s.0
      end_final =
          let G = T.given in
          rw (T.grew.action_same G.row_in, T.grew.state_same G.row_in) (way_ends b known body G.valid G.enough (has_body G) end_way)

      -- it is found over the tables that the round began with
      end_found : FoundBy bodies P.base P.base.answers.count row rule (λ q. get_or chosen q 0) s.0
      end_found =
          let G = T.given in
          let S = G.since in
          let e : known ≤ P.base.answers.count = omega (arith, S.all_known) in
          let w = way_down S.made.grew known e (λ x l. inside_of S.base_valid x (omega arith)) body end_way in
          record {
            row_in = G.row_old;
            fits = rw (S.made.grew.action_same G.row_old) at G.fits;
            way = rw (S.all_known, S.made.grew.state_same G.row_old, base_words) at w;
          }

      -- and as well as any, where it is new: lower rules give nothing new, and the search comes along the least way
      end_best : NoAnswer t.answers row s.0 → (rule' : ℕ) (ev' : ℕ → ℕ) → FoundBy bodies P.base P.base.answers.count row rule' ev' s.0
          → AsGood (length (bodies.words rule (P.base.calls.action row))) rule (λ q. get_or chosen q 0) rule' ev'
      end_best none rule' ev' F = by (dec_lt rule' rule) (dec_lt rule rule')
        where
          fits' : bodies.fits rule' (b.calls.action row) ≡ true
          fits' = rw (T.given.since.made.grew.action_same T.given.row_old) F.fits

          base_way : Way (EdgeT P.base known (bodies.words rule' (b.calls.action row))) ev' (b.calls.state row) (length (bodies.words rule' (b.calls.action row))) s.0
          base_way = rw (T.given.since.all_known, T.given.since.made.grew.state_same T.given.row_old, T.given.since.made.grew.action_same T.given.row_old) F.way

          way' : Way (EdgeT b known (bodies.words rule' (b.calls.action row))) ev' (b.calls.state row) (length (bodies.words rule' (b.calls.action row))) s.0
          way' = way_up T.given.since.made.grew known (omega (arith, T.given.since.all_known))
              (λ x l. inside_of T.given.since.base_valid x (omega (arith, T.given.since.all_known))) (bodies.words rule' (b.calls.action row)) base_way

          same_rule : rule ≡ rule' → Way (EdgeT b known body) ev' from.0 at s.0
          same_rule e =
              let z : at ≡ length body = omega (arith, T.walking.inside) in
              let w : Way (EdgeT b known (bodies.words rule (b.calls.action row))) ev' from.0 (length (bodies.words rule (b.calls.action row))) s.0 = rw e way' in
              rw (z, T.given.words) w

          not_good : {l : ℕ} → GoodN b known body (HeldUsed t uses row) (Held t row) at (s.0, l) → ⊥
          not_good g = let (x, i, a) = g.ends (omega (arith, T.walking.inside)) in none x i a

          by : Dec (rule' < rule) → Dec (rule < rule') → AsGood (length (bodies.words rule (P.base.calls.action row))) rule (λ q. get_or chosen q 0) rule' ev'
          by (yes l) d =
              let (x, i, a) = held_up T.grew row s.0 (T.given.lower rule' l fits' s.0 (way_reach {Edge' = EdgeT b known (bodies.words rule' (b.calls.action row))} way' (λ q k. way'.edges q k))) in
              absurd (none x i a)
          by (no n) (yes l) = inl l
          by (no n) (no m) =
              let e : rule ≡ rule' = omega arith in
              let z : at ≡ length (bodies.words rule (P.base.calls.action row)) = omega (arith, T.walking.inside, ap length base_words) in
              inr (e, rw z at (least (EdgeN b known body) (leads step_at (of_at b known) (final_at b) 0 body) T.walking.search (way_numbered b known body (same_rule e)) not_good))

      -- the answers chosen are of earlier rounds
      end_sooner : {answers' : Answers} → AnswerAdded t.answers row s.0 rule chosen P.round answers' → (x : ℕ) → x < known → answers'.round x < answers'.round t.answers.count
      end_sooner p x l =
          let S = T.given.since in
          let i : x < P.base.answers.count = omega (arith, S.all_known) in
          let k : x < t.answers.count = omega (arith, T.made.grew.answers_more) in
          omega (arith, S.sooner x l, T.made.grew.answer_round i, p.round_kept x k, p.new_round)

      end_justified : {answers' : Answers} → AnswerAdded t.answers row s.0 rule chosen P.round answers' → Justified bodies (tables t.calls answers') t.answers.count
      end_justified {answers'} p =
          let G = T.given in
          let u : Tables = tables t.calls answers' in
          let up : Grew b u = grew_trans T.grew (grew_answer t p) in
          let w = way_follows b known up (inside_of G.valid) G.enough t.answers.count (omega (arith, G.enough, T.grew.answers_more)) (end_sooner p) body (body_short G)
          p.new_evidence T.unused (sym p.new.has_final) end_way in
          record {
            exists = rw p.new.has_call (omega (arith, G.row_in, T.grew.calls_more));
            fits = rw (p.new_rule, p.new.has_call, T.grew.action_same G.row_in) G.fits;
            followed = rw (p.new_rule, p.new.has_call, T.grew.state_same G.row_in, T.grew.action_same G.row_in, ← G.words) w;
          }

      latest_more : {answers' : Answers} → AnswerAdded t.answers row s.0 rule chosen P.round answers' → Latest P row (tables t.calls answers')
      latest_more {answers'} p x h l = by (dec_lt x t.answers.count)
        where
          by : Dec (x < t.answers.count) → answers'.call x ≤ row
          by (yes k) = omega (arith, p.call_kept x k, T.latest x h k)
          by (no k) = let z : x ≡ t.answers.count = omega (arith, p.count) in rw (z, p.new.has_call) (omega arith)

      pub turn_ended : {answers' : Answers} {places : ℕ} {full : Bool} → AnswerPut places t.answers row s.0 rule chosen P.round answers' full → full ≡ false → Turned (tables t.calls answers') marks uses chosen at s
      turn_ended (answer_stood f k z) n = rw z (record { turning = T; done = done_end body b known walk (HeldUsed t uses row) (Held t row) from T.walking h k })
      turn_ended {answers'} (answer_added f l none p) n =
          let u : Tables = tables t.calls answers' in
          let w : Turning u marks uses chosen at s = turning_up T (grew_answer t p) (uses_refl uses) (valid_answer T.valid T.given.proper p none (end_justified p)) (made_answer T.made p T.given.proper end_found (end_best none) T.latest) (latest_more p) in
          record { turning = w; done = done_end body b known walk (HeldUsed u uses row) (Held u row) from w.walking h (t.answers.count, omega (arith, p.count), p.new) }
      turn_ended (answer_no_room f i none z) n = absurd (true_not_false (sym f ∙ n))

      pub turn_answers_full : {answers' : Answers} {places : ℕ} {full : Bool} (call_places : ℕ) → AnswerPut places t.answers row s.0 rule chosen P.round answers' full → full ≡ true → Outgrown bodies Root call_places places
      turn_answers_full c (answer_stood f k z) n = absurd (true_not_false (sym n ∙ f))
      turn_answers_full c (answer_added f l none p) n = absurd (true_not_false (sym n ∙ f))
      turn_answers_full c (answer_no_room f i none z) n = inr (rw i at (full_answers T.valid (omega (arith, T.given.row_in, T.grew.calls_more)) none end_final))

  -- ---- back
  module _ {t : Tables} {marks : ℕ → ℕ} {uses : Uses} {chosen : List ℕ} {at : ℕ} {s : Node} (T : Turned t marks uses chosen at s) where
    old : {r j : ℕ} → RetreatRow body t.answers known chosen at r j → Retreat body b known chosen at r j
    old R =
        let U = T.turning in
        retreat_old U.valid U.grew U.given.enough (inside_of U.given.valid) (chosen_of body b known walk (HeldUsed t uses row) (Held t row) from U.walking) R

    pub turned_over : {j : ℕ} → RetreatRow body t.answers known chosen at 0 j → Over t marks uses
    turned_over R =
        let U = T.turning in
        record { valid = U.valid; grew = U.grew; made = U.made; latest = U.latest; stamped = U.stamped; swept = back_over body b known walk (HeldUsed t uses row) (Held t row) from U.walking T.done (old R) }

    pub turned_take : {j : ℕ} (p : ℕ) → RetreatRow body t.answers known chosen at (p + 1) j → Turning t marks uses (set chosen p j) (p + 1) (t.answers.final j, j + 1)
    turned_take {j} p R =
        let U = T.turning in
        let G = U.given in
        let i : j < known = (R.found p refl).1 in
        let inside : at ≤ length body = U.walking.inside in
        let low : p + 1 ≤ at = R.low in
        record {
          given = G;
          valid = U.valid;
          grew = U.grew;
          made = U.made;
          latest = U.latest;
          noted = U.noted;
          stamped = U.stamped;
          chosen_long = simp length-set U.chosen_long;
          unused = chosen_far U p j (omega arith);
          walking = rw (U.grew.final_same {x = j} (omega (arith, G.enough)))
              (back_take body b known walk (HeldUsed t uses row) (Held t row) from U.walking T.done p (omega (arith, U.chosen_long, body_short G)) (old R));
        }
