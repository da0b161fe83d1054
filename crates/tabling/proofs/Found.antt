-- What a round finds: the calls that its walks come to and the states that they end in, with the answers that stood when it began; and what a
-- round leaves, where the records that it adds have its number. Assumes nothing.
use Prim.Native.Nat.{ℕ, zero, suc, ◌+◌, ◌<◌, ◌≤◌}
use native.Mathlib.Omega.{arith}
use native.Mathlib.Decide.{dec_lt}
use mathlib.Core.Path.{◌≡◌, refl, sym, ap, subst, ◌∙◌}
use mathlib.Core.Bool.{true}
use mathlib.Core.List.{List}
use mathlib.Core.Logic.{◌⊎◌, inl, inr}
use lib.ListN.{get_or, length}
use Rattle.steps.specs.State.{State}
use Rattle.records.specs.Records.{Calls, Answers, Bodies}
use Rattle.records.specs.Storage.{CallAdded, AnswerAdded}
use Rattle.records.proofs.Justification.{Proper}
use Rattle.records.proofs.Growth.{Tables, tables, Grew, grew_refl, grew_trans, grew_call, grew_answer, Inside, CallsOnce, AnswersOnce}
use Rattle.sorting.specs.Shuffled.{Before}
use Rattle.tabling.proofs.Sweep.{Reach, reach_back, Way, Less}
use Rattle.tabling.proofs.Graph.{Front, goes, calls, Leads, numbered}
use Rattle.tabling.proofs.Graph as graph
use Rattle.tabling.proofs.Moves.{Of, final, move, EdgeT, of_at, final_at, EdgeN}
use Rattle.tabling.proofs.Closed.{ClosedAt}

-- A walk of some body of a call record of b, by the answers below `known`, comes to the call c.
pub record FoundCall (bodies : Bodies) (b : Tables) (known : ℕ) (c : ℕ × State) : Type 0 where
  pub row : ℕ
  pub row_in : row < b.calls.count
  pub rule : ℕ
  pub fits : bodies.fits rule (b.calls.action row) ≡ true
  pub place : ℕ
  pub state : State
  pub way : Reach (EdgeT b known (bodies.words rule (b.calls.action row))) 0 (b.calls.state row) place state
  pub inside : place < length (bodies.words rule (b.calls.action row))
  pub comes : move (get_or (bodies.words rule (b.calls.action row)) place 0) state ≡ calls c

-- A walk of the body of this rule from the call record `row` of b, by the answers below `known` in `ev`, ends in f.
pub record FoundBy (bodies : Bodies) (b : Tables) (known row rule : ℕ) (ev : ℕ → ℕ) (f : State) : Type 0 where
  pub row_in : row < b.calls.count
  pub fits : bodies.fits rule (b.calls.action row) ≡ true
  pub way : Way (EdgeT b known (bodies.words rule (b.calls.action row))) ev (b.calls.state row) (length (bodies.words rule (b.calls.action row))) f

-- A justification of n steps is no worse than another: by a lower rule, or by the same with the same or lesser evidence from the first place on.
abbrev pub AsGood : ℕ → ℕ → (ℕ → ℕ) → ℕ → (ℕ → ℕ) → Type 0
AsGood n rule ev rule' ev' = (rule < rule') ⊎ ((rule ≡ rule') × (((q : ℕ) → q < n → ev q ≡ ev' q) ⊎ Less ev ev' n))

-- Of round r, which began with b, this much is made: all that u has more than b was found over b, the answers with a justification as good as
-- any, and has the round's number; the new answers' call records do not fall.
pub record Made (bodies : Bodies) (r : ℕ) (b u : Tables) : Type 0 where
  pub grew : Grew b u
  pub call_found : (i : ℕ) → b.calls.count ≤ i → i < u.calls.count
      → FoundCall bodies b b.answers.count (u.calls.action i, u.calls.state i) × (u.calls.round i ≡ r)
  pub answer_found : (x : ℕ) → b.answers.count ≤ x → x < u.answers.count
      → FoundBy bodies b b.answers.count (u.answers.call x) (u.answers.rule x) (u.answers.evidence x) (u.answers.final x) × (u.answers.round x ≡ r)
  pub best : (x : ℕ) → b.answers.count ≤ x → x < u.answers.count → (rule : ℕ) (ev : ℕ → ℕ)
      → FoundBy bodies b b.answers.count (u.answers.call x) rule ev (u.answers.final x)
      → AsGood (length (bodies.words (u.answers.rule x) (b.calls.action (u.answers.call x)))) (u.answers.rule x) (u.answers.evidence x) rule ev
  pub by_row : (x y : ℕ) → b.answers.count ≤ x → x < y → y < u.answers.count → u.answers.call x ≤ u.answers.call y

-- What round r gathers: all that is made, and every call record of b is closed under every rule, with the answers of b.
pub record Gathered (bodies : Bodies) (r : ℕ) (b u : Tables) : Type 0 where
  pub made : Made bodies r b u
  pub closed : (row i : ℕ) → row < b.calls.count → bodies.fits i (b.calls.action row) ≡ true → ClosedAt (bodies.words i (b.calls.action row)) u b.answers.count row

-- What it leaves: that in order, the calls by action and state, the answers by call record and final state, each once.
pub record Rounded (bodies : Bodies) (r : ℕ) (b u : Tables) : Type 0 where
  pub inside : Inside b b.answers.count
  pub short : (x : ℕ) → x < b.answers.count → length (bodies.words (b.answers.rule x) (b.calls.action (b.answers.call x))) ≤ 16
  pub calls_once : CallsOnce u.calls
  pub answers_once : AnswersOnce u.answers
  pub gathered : Gathered bodies r b u
  pub calls_rise : (i j : ℕ) → b.calls.count ≤ i → i < j → j < u.calls.count
      → Before (u.calls.action i, u.calls.state i) (u.calls.action j, u.calls.state j)
  pub answers_rise : (x y : ℕ) → b.answers.count ≤ x → x < y → y < u.answers.count
      → Before (u.answers.call x, u.answers.final x) (u.answers.call y, u.answers.final y)

abbrev pub size : Tables → ℕ
size t = t.calls.count + t.answers.count

-- r rounds from b₀ to u, each of which added something.
pub data Rounds (bodies : Bodies) (b₀ : Tables) : ℕ → Tables → Type 0 where
  begun : Rounds bodies b₀ 0 b₀
  went : {r : ℕ} {b u : Tables} → Rounds bodies b₀ r b → Rounded bodies (suc r) b u → size b < size u → Rounds bodies b₀ (suc r) u

-- The rounds are over: r of them added something, and the next, which left u, added nothing.
pub record RoundsOver (bodies : Bodies) (b₀ : Tables) (r : ℕ) (u : Tables) : Type 0 where
  pub last : Tables
  pub rounds : Rounds bodies b₀ r last
  pub still : Rounded bodies (suc r) last u
  pub same : size last ≡ size u

-- ---- evidence that is the same at all places of the body
pub found_same : {bodies : Bodies} {b : Tables} {known row rule : ℕ} {ev ev' : ℕ → ℕ} {f : State} → ((q : ℕ) → q < length (bodies.words rule (b.calls.action row)) → ev q ≡ ev' q)
    → FoundBy bodies b known row rule ev f → FoundBy bodies b known row rule ev' f
found_same {bodies} {b} {known} {row} {rule} same F =
    let W = F.way in
    record {
      row_in = F.row_in;
      fits = F.fits;
      way = record {
        st = W.st;
        from = W.from;
        now = W.now;
        edges = λ q l. subst (λ (x : ℕ). EdgeT b known (bodies.words rule (b.calls.action row)) q (W.st q) x (W.st (suc q))) (same q l) (W.edges q l);
      };
    }

pub good_same : {n rule rule' : ℕ} {ev ev₁ ev' : ℕ → ℕ} → ((q : ℕ) → q < n → ev q ≡ ev₁ q) → AsGood n rule ev rule' ev' → AsGood n rule ev₁ rule' ev'
good_same same (inl l) = inl l
good_same same (inr (e, inl z)) = inr (e, inl (λ q l. sym (same q l) ∙ z q l))
good_same same (inr (e, inr (q, l, less, before))) = inr (e, inr (q, l, omega (arith, same q l), λ p h. sym (same p (omega arith)) ∙ before p h))

-- ---- a round in the making
module _ {bodies : Bodies} {r : ℕ} where
  pub made_start : (b : Tables) → Made bodies r b b
  made_start b = record {
    grew = grew_refl b;
    call_found = λ i h l. absurd (omega arith);
    answer_found = λ x h l. absurd (omega arith);
    best = λ x h l. absurd (omega arith);
    by_row = λ x y h k l. absurd (omega arith);
  }

  module _ {b u : Tables} (M : Made bodies r b u) where
    -- one call more
    pub made_call : {a : ℕ} {D : State} {calls' : Calls} → CallAdded u.calls a D r calls' → FoundCall bodies b b.answers.count (a, D) → Made bodies r b (tables calls' u.answers)
    made_call {a} {D} {calls'} p f = record {
      grew = grew_trans M.grew (grew_call u p);
      call_found = λ i h l. by i h l (dec_lt i u.calls.count);
      answer_found = M.answer_found;
      best = M.best;
      by_row = M.by_row;
    }
      where
        by : (i : ℕ) → b.calls.count ≤ i → i < calls'.count → Dec (i < u.calls.count)
            → FoundCall bodies b b.answers.count (calls'.action i, calls'.state i) × (calls'.round i ≡ r)
        by i h l (yes k) = rw (p.action_kept i k, p.state_kept i k, p.round_kept i k) (M.call_found i h k)
        by i h l (no k) =
            let z : i ≡ u.calls.count = omega (arith, p.count) in
            rw (z, p.new.has_action, p.new.has_state, p.new_round) (f, refl)

    -- one answer more
    module _ {row rule : ℕ} {f : State} {evidence : List ℕ} {answers' : Answers} (p : AnswerAdded u.answers row f rule evidence r answers')
        (proper : Proper bodies) where
      abbrev v : Tables
      v = tables u.calls answers'

      -- evidence of old records and of the new one
      kept : (x q : ℕ) → b.answers.count ≤ x → x < u.answers.count → q < length (bodies.words (u.answers.rule x) (b.calls.action (u.answers.call x)))
          → answers'.evidence x q ≡ u.answers.evidence x q
      kept x q h l k = p.evidence_kept x q l (omega (arith, proper.short _ _ (M.answer_found x h l).0.fits))

      new : bodies.fits rule (b.calls.action row) ≡ true → (q : ℕ) → q < length (bodies.words rule (b.calls.action row)) → answers'.evidence u.answers.count q ≡ get_or evidence q 0
      new g q h = p.new_evidence q (omega (arith, proper.short _ _ g))

      abbrev FoundAt : Tables → ℕ → Type 0
      FoundAt t x = FoundBy bodies b b.answers.count (t.answers.call x) (t.answers.rule x) (t.answers.evidence x) (t.answers.final x) × (t.answers.round x ≡ r)

      abbrev BestAt : Tables → ℕ → Type 0
      BestAt t x = (rule' : ℕ) (ev' : ℕ → ℕ) → FoundBy bodies b b.answers.count (t.answers.call x) rule' ev' (t.answers.final x)
          → AsGood (length (bodies.words (t.answers.rule x) (b.calls.action (t.answers.call x)))) (t.answers.rule x) (t.answers.evidence x) rule' ev'

      abbrev Found_new : Type 0
      Found_new = FoundBy bodies b b.answers.count row rule (λ q. get_or evidence q 0) f

      abbrev Best_new : Type 0
      Best_new = (rule' : ℕ) (ev' : ℕ → ℕ) → FoundBy bodies b b.answers.count row rule' ev' f → AsGood (length (bodies.words rule (b.calls.action row))) rule (λ q. get_or evidence q 0) rule' ev'

      pub made_answer : Found_new → Best_new → ((x : ℕ) → b.answers.count ≤ x → x < u.answers.count → u.answers.call x ≤ row) → Made bodies r b (tables u.calls answers')
      made_answer g least latest = record {
        grew = grew_trans M.grew (grew_answer u p);
        call_found = M.call_found;
        answer_found = λ x h l. found_at x h l (dec_lt x u.answers.count);
        best = λ x h l. best_at x h l (dec_lt x u.answers.count);
        by_row = λ x y h k l. rows_at x y h k l (dec_lt y u.answers.count);
      }
        where
          found_at : (x : ℕ) → b.answers.count ≤ x → x < answers'.count → Dec (x < u.answers.count) → FoundAt v x
          found_at x h l (yes k) =
              let (F, e) = M.answer_found x h k in
              rw (p.call_kept x k, p.final_kept x k, p.rule_kept x k, p.round_kept x k) (found_same (λ q i. sym (kept x q h k i)) F, e)
          found_at x h l (no k) =
              let z : x ≡ u.answers.count = omega (arith, p.count) in
              rw (z, p.new.has_call, p.new.has_final, p.new_rule, p.new_round) (found_same (λ q i. sym (new g.fits q i)) g, refl)

          best_at : (x : ℕ) → b.answers.count ≤ x → x < answers'.count → Dec (x < u.answers.count) → BestAt v x
          best_at x h l (yes k) =
              let B : BestAt u x = M.best x h k in
              rw (p.call_kept x k, p.final_kept x k, p.rule_kept x k) (λ rule' ev' F. good_same (λ q i. sym (kept x q h k i)) (B rule' ev' F))
          best_at x h l (no k) =
              let z : x ≡ u.answers.count = omega (arith, p.count) in
              rw (z, p.new.has_call, p.new.has_final, p.new_rule) (λ rule' ev' F. good_same (λ q i. sym (new g.fits q i)) (least rule' ev' F))

          rows_at : (x y : ℕ) → b.answers.count ≤ x → x < y → y < answers'.count → Dec (y < u.answers.count) → answers'.call x ≤ answers'.call y
          rows_at x y h k l (yes i) = omega (arith, p.call_kept x (omega arith), p.call_kept y i, M.by_row x y h k i)
          rows_at x y h k l (no i) =
              let z : y ≡ u.answers.count = omega (arith, p.count) in
              let j : x < u.answers.count = omega arith in
              rw z (omega (arith, p.call_kept x j, p.new.has_call, latest x h j))

-- ---- ways in grown tables, by the answers of the tables that they grew from
module _ {b u : Tables} (g : Grew b u) (known : ℕ) (enough : known ≤ b.answers.count) (inside : Inside b known) where
  of_down : {c : ℕ × State} {x : ℕ} → Of u known c x → Of b known c x
  of_down {x = x} o =
      let l : x < b.answers.count = omega (arith, o.below) in
      let i = inside x o.below in
      record { below = o.below; action = sym (ap u.calls.action (g.call_same l) ∙ g.action_same i) ∙ o.action; state = sym (ap u.calls.state (g.call_same l) ∙ g.state_same i) ∙ o.state }

  leads_down : (f : Front State (ℕ × State)) (x : ℕ) (t : State) → Leads (Of u known) (final u) f x t → Leads (Of b known) (final b) f x t
  leads_down graph.stuck x t e = e
  leads_down (goes s) x t e = e
  leads_down (calls c) x t (o, e) = (of_down o, sym (g.final_same (omega (arith, o.below))) ∙ e)

  pub reach_down : (body : List ℕ) {q p : ℕ} {s t : State} → Reach (EdgeT u known body) q s p t → Reach (EdgeT b known body) q s p t
  reach_down body = reach_back (λ q s x v (l, e). (l, leads_down (move (get_or body q 0) s) x v e))

  of_up : {c : ℕ × State} {x : ℕ} → Of b known c x → Of u known c x
  of_up {x = x} o =
      let l : x < b.answers.count = omega (arith, o.below) in
      let i = inside x o.below in
      record { below = o.below; action = ap u.calls.action (g.call_same l) ∙ g.action_same i ∙ o.action; state = ap u.calls.state (g.call_same l) ∙ g.state_same i ∙ o.state }

  leads_up : (f : Front State (ℕ × State)) (x : ℕ) (t : State) → Leads (Of b known) (final b) f x t → Leads (Of u known) (final u) f x t
  leads_up graph.stuck x t e = e
  leads_up (goes s) x t e = e
  leads_up (calls c) x t (o, e) = (of_up o, g.final_same (omega (arith, o.below)) ∙ e)

  pub way_up : (body : List ℕ) {ev : ℕ → ℕ} {D s : State} {n : ℕ} → Way (EdgeT b known body) ev D n s → Way (EdgeT u known body) ev D n s
  way_up body {ev} W =
      record { st = W.st; from = W.from; now = W.now; edges = λ q l. ((W.edges q l).0, leads_up (move (get_or body q 0) (W.st q)) (ev q) (W.st (suc q)) (W.edges q l).1) }

  pub way_down : (body : List ℕ) {ev : ℕ → ℕ} {D s : State} {n : ℕ} → Way (EdgeT u known body) ev D n s → Way (EdgeT b known body) ev D n s
  way_down body {ev} W =
      record { st = W.st; from = W.from; now = W.now; edges = λ q l. ((W.edges q l).0, leads_down (move (get_or body q 0) (W.st q)) (ev q) (W.st (suc q)) (W.edges q l).1) }

-- ---- a way as one of the search's nodes, which have the number of the answer taken last
number_after : Front State (ℕ × State) → ℕ → ℕ → ℕ
number_after graph.stuck x l = l
number_after (goes s) x l = l
number_after (calls c) x l = x + 1

module _ (b : Tables) (known : ℕ) where
  leads_number : (f : Front State (ℕ × State)) (x l : ℕ) (t : State) → Leads (Of b known) (final b) f x t → Leads (of_at b known) (final_at b) (numbered f l) x (t, number_after f x l)
  unfolding number_after
  leads_number graph.stuck x l t e = e
  leads_number (goes u) x l t (z, e) = (z, λ i. (e i, l))
  leads_number (calls c) x l t (o, e) = (o, λ i. (e i, x + 1))

  module _ (body : List ℕ) {ev : ℕ → ℕ} {D s : State} {n : ℕ} (W : Way (EdgeT b known body) ev D n s) where
    pub last_taken : ℕ → ℕ
    last_taken zero = 0
    last_taken (suc q) = number_after (move (get_or body q 0) (W.st q)) (ev q) (last_taken q)

    pub way_numbered : Way (EdgeN b known body) ev (D, 0) n (s, last_taken n)
    unfolding last_taken
    way_numbered = record {
      st = λ q. (W.st q, last_taken q);
      from = λ i. (W.from i, 0);
      now = λ i. (W.now i, last_taken n);
      edges = λ q l. ((W.edges q l).0, leads_number (move (get_or body q 0) (W.st q)) (ev q) (last_taken q) (W.st (suc q)) (W.edges q l).1);
    }
