-- The records of a round put in order, and the notes with them: what holds at a round's start holds again. Assumes nothing.
use Prim.Native.Nat.{ℕ, ◌+◌, ◌*◌, ◌/◌, ◌%◌, ◌<◌, ◌≤◌}
use native.Mathlib.Omega.{arith}
use native.Mathlib.Decide.{dec_lt}
use mathlib.Core.Path.{◌≡◌, refl, sym, ap, subst, ◌∙◌}
use mathlib.Core.Bool.{true}
use mathlib.Core.List.{List}
use mathlib.Core.Logic.{◌⊎◌, inl, inr}
use lib.ListN.{get_or, length}
use Rattle.steps.specs.State.{State}
use Rattle.sorting.specs.Shuffled.{Before}
use Rattle.sorting.proofs.Orders.{no_later_apart}
use Rattle.quarters.specs.Quarters.{quarter}
use Rattle.records.specs.Records.{Bodies, call_width}
use Rattle.desk.specs.Desk.{packed_width, mark_words}
use Rattle.marks.specs.Marks.{Stamped}
use Rattle.index.specs.Index.{AnswerIndex, firsts_in}
use Rattle.records.specs.Storage.{CallAt}
use Rattle.records.proofs.Growth.{Tables, Grew, Inside, CallsOnce, AnswersOnce}
use Rattle.records.proofs.Justification.{Proper}
use Rattle.uses.specs.Uses.{Uses, uses_in, Used, Came, HeldUsed}
use Rattle.arranging.specs.Order.{CallsOrdered, AnswersOrdered}
use Rattle.tabling.proofs.Sweep.{swept_back}
use Rattle.tabling.proofs.Graph.{Front, numbered, Leads, Known}
use Rattle.tabling.proofs.Graph as graph
use Rattle.tabling.proofs.Evidence.{Valid, inside_of}
use Rattle.tabling.proofs.Moves.{Node, move, step_at, of_at, final_at, EdgeN, GoodN}
use Rattle.tabling.proofs.Found.{Made, Gathered, Rounded, size}
use Rattle.tabling.proofs.Resorted.{SameCall, SameAnswer, Resorted, answer_was, held_now, made_now, closed_now, valid_now, calls_once_now, answers_once_now}
use Rattle.invariants.proofs.Going.{in_words}
use Rattle.invariants.proofs.Rounds.{NotedAt, Closing, Round}

module _ {n₀ n : ℕ} {calls list calls' list' : List ℕ} (cs : CallsOrdered n₀ n calls list calls' list') where
  -- the answers of records that stay are noted as before
  pub index_ordered : {answers : List ℕ} {most m : ℕ} → ((x : ℕ) → x < m → get_or answers (packed_width * x) 0 < n₀) → AnswerIndex most calls answers m → AnswerIndex most calls' answers m
  index_ordered {answers} {m} inside x = record {
    covers = x.covers;
    queued = record {
      first = λ row y l h e. let z = first_stays row (omega (arith, inside y h)) in rw z (x.queued.first row y l h e);
      last = λ row y l h e. let z = first_stays row (omega (arith, inside y h)) in rw z (x.queued.last row y l h e);
      next = x.queued.next;
    };
  }
    where
      first_stays : (row : ℕ) → row < n₀ → firsts_in calls' row ≡ firsts_in calls row
      first_stays row l = ap (λ (w : ℕ). quarter w 3) (cs.stays _ (omega arith))

  -- no mark comes to be
  pub stamped_ordered : {walk : ℕ} → Stamped (mark_words calls) walk → Stamped (mark_words calls') walk
  stamped_ordered {walk} s = record { early = λ r. by r (dec_lt r n₀) (dec_lt r n); few = s.few }
    where
      by : (r : ℕ) → Dec (r < n₀) → Dec (r < n) → mark_words calls' r / 65536 ≤ walk
      by r (yes l) k = rw (cs.stays (call_width * r) (omega arith)) (s.early r)
      by r (no l) (yes k) = rw (cs.unmarked r (omega arith) k) (omega arith)
      by r (no l) (no k) = rw (cs.kept.stored.past (call_width * r) (omega arith)) (omega arith)

module _ {room : ℕ} (calls₀ : List ℕ) (n₀ : ℕ) (answers₀ : List ℕ) (m₀ : ℕ) (calls list answers calls' list' answers' : List ℕ) (n m : ℕ)
    (cs : CallsOrdered n₀ n calls list calls' list') (ns : AnswersOrdered room m₀ m calls' answers answers') where
  abbrev b : Tables
  b = in_words calls₀ n₀ answers₀ m₀

  abbrev u : Tables
  u = in_words calls n answers m

  abbrev v : Tables
  v = in_words calls' n answers' m

  abbrev uses : Uses
  uses = uses_in calls list

  abbrev uses' : Uses
  uses' = uses_in calls' list'

  -- a record of the call table that stays, or that has moved, word by word
  same_call : (i j : ℕ) → get_or calls' (3 * i) 0 / 4294967296 ≡ get_or calls (3 * j) 0 / 4294967296 → get_or calls' (3 * i + 1) 0 ≡ get_or calls (3 * j + 1) 0 → SameCall u v i j
  same_call i j e f = record { action = omega arith; state = f; round = ap (λ (w : ℕ). w % 16777216) e }

  call_stays : (i : ℕ) → i < n₀ → SameCall u v i i
  call_stays i l = same_call i i (ap (λ (w : ℕ). w / 4294967296) (cs.stays _ (omega arith))) (cs.stays _ (omega arith))

  answer_stays : (x : ℕ) → x < m₀ → SameAnswer u v x x
  answer_stays x l = record {
    call = ns.stays _ (omega arith);
    final = ns.stays _ (omega arith);
    rule = ns.stays _ (omega arith);
    evidence = λ q h. ap (λ (w : ℕ). quarter w (q % 4)) (ns.stays _ (omega arith));
    round = ns.stays _ (omega arith);
  }

  -- word k of an answer has moved with it
  word_moved : (x k p q : ℕ) → m₀ ≤ x → x < m → k < 8 → p ≡ 8 * x + k → q ≡ 8 * ns.order.from x + k → get_or answers' p 0 ≡ get_or answers q 0
  word_moved x k p q h l w e f = ap (λ (j : ℕ). get_or answers' j 0) e ∙ ns.moved x k h l w ∙ ap (λ (j : ℕ). get_or answers j 0) (sym f)

  pub resorted : Resorted b u v
  resorted = record {
    calls_count = refl;
    answers_count = refl;
    of_calls = cs.order;
    of_answers = ns.order;
    call_stays = call_stays;
    answer_stays = answer_stays;
    call_moved = λ i h l. same_call i (cs.order.from i) (cs.first_moved i h l) (cs.state_moved i h l);
    answer_moved = λ x h l. record {
      call = word_moved x 0 _ _ h l (omega arith) (omega arith) (omega arith);
      final = word_moved x 1 _ _ h l (omega arith) refl refl;
      rule = word_moved x 2 _ _ h l (omega arith) refl refl;
      evidence = λ q k. ap (λ (w : ℕ). quarter w (q % 4)) (word_moved x (4 + q / 4) _ _ h l (omega arith) (omega arith) (omega arith));
      round = word_moved x 3 _ _ h l (omega arith) refl refl;
    };
  }

  module _ (more_calls : n₀ ≤ n) (more_answers : m₀ ≤ m) (most : n ≤ 65536) where
    -- what is noted of a record's callers stands in one word
    used_as : (row last i j : ℕ) → j < 65536 → get_or calls' (3 * j + 2) 0 ≡ get_or calls (3 * i + 2) 0 → Used uses row i → Came uses last i → Used uses' row j × Came uses' last j
    used_as row last i j l e used came = ((l, rw e used.1, rw e used.2), rw e came)

    -- a call that walks have come to
    used_moved : (row last i : ℕ) → i < n → Used uses row i → Came uses last i → (j : ℕ) × (j < n) × SameCall u v j i × Used uses' row j × Came uses' last j
    unfolding resorted
    used_moved row last i l used came = by (dec_lt i n₀)
      where
        by : Dec (i < n₀) → (j : ℕ) × (j < n) × SameCall u v j i × Used uses' row j × Came uses' last j
        by (yes h) = let (p, q) = used_as row last i i (omega arith) (cs.stays _ (omega arith)) used came in (i, l, call_stays i h, p, q)
        by (no h) =
            let s = cs.order in
            let j = s.back i in
            let (p, q) = s.back_in i (omega arith) l in
            let z : s.from j ≡ i = s.from_back i (omega arith) l in
            let (x, y) = used_as row last i j (omega arith) (cs.notes_moved j p q ∙ ap (λ (k : ℕ). get_or calls (3 * k + 2) 0) z) used came in
            (j, q, subst (SameCall u v j) z (resorted.call_moved j p q), x, y)

    held_used_now : (row : ℕ) (c : (ℕ × State) × ℕ) → HeldUsed u uses row c → HeldUsed v uses' row c
    held_used_now row c (i, l, k, used, came) =
        let (j, h, s, used', came') = used_moved row c.1 i l used came in
        (j, h, record { has_action = s.action ∙ k.has_action; has_state = s.state ∙ k.has_state }, used', came')

    -- walks by the answers that the round began with
    module _ (g : Grew b u) (inside : Inside b m₀) where
      leads_was : (f : Front State (ℕ × State)) (l x : ℕ) (t : Node) → Leads (of_at v m₀) (final_at v) (numbered f l) x t → Leads (of_at u m₀) (final_at u) (numbered f l) x t
      leads_was graph.stuck l x t e = e
      leads_was (graph.goes s) l x t e = e
      leads_was (graph.calls c) l x t (o, e) =
          let A = answer_stays x o.below in
          let i : u.answers.call x < n₀ = rw (g.call_same o.below) (inside x o.below) in
          let C = call_stays (u.answers.call x) i in
          let f : final_at u x ≡ final_at v x = ap (λ (s : State). (s, x + 1)) (sym A.final) in
          (record { below = o.below; action = sym (ap v.calls.action A.call ∙ C.action) ∙ o.action; state = sym (ap v.calls.state A.call ∙ C.state) ∙ o.state }, f ∙ e)

      known_now : (row : ℕ) (f : Front State (ℕ × State)) (l : ℕ) → Known (HeldUsed u uses row) (numbered f l) → Known (HeldUsed v uses' row) (numbered f l)
      known_now row graph.stuck l k = k
      known_now row (graph.goes s) l k = k
      known_now row (graph.calls c) l k = held_used_now row (c, l) k

      noted_now : (body : List ℕ) (row : ℕ) → row < n₀ → NotedAt body u uses m₀ row → NotedAt body v uses' m₀ row
      noted_now body row l k =
          rw (call_stays row l).state
          (swept_back (λ q s x t e. (e.0, leads_was (move (get_or body q 0) s.0) s.1 x t e.1))
          (λ q s w. record { ends = λ e. held_now resorted more_calls more_answers row s.0 (w.ends e); called = λ h. known_now row (move (get_or body q 0) s.0) s.1 (w.called h) }) k)

    -- what holds at the next round's start
    pub round_ordered : {bodies : Bodies} {Root : ℕ → State → Type 0} {first r : ℕ} → Proper bodies → Valid bodies Root b → Made bodies r b u → Round bodies Root first n₀ m₀ u uses → Round bodies Root first n₀ m₀ v uses'
    round_ordered {bodies} proper valid M S = record {
      valid = valid_now resorted proper valid S.valid M;
      walked_in = S.walked_in;
      seen_in = S.seen_in;
      earlier = λ r f h i e. rw (call_stays r h).action (noted_now M.grew (inside_of valid) (bodies.words i (u.calls.action r)) r h (S.earlier r f h i (rw (call_stays r h).action at e)));
    }

    pub sooner_ordered : (k : ℕ) → ((x : ℕ) → x < m → u.answers.round x < k) → (x : ℕ) → x < m → v.answers.round x < k
    sooner_ordered k old x l = let (y, h, s) = answer_was resorted more_calls more_answers x l in omega (arith, old y h, s.round)

    -- and what the round leaves
    pub gathered_rounded : {bodies : Bodies} {Root : ℕ → State → Type 0} {r : ℕ} → Proper bodies → Valid bodies Root b → Valid bodies Root u → Gathered bodies r b u → Rounded bodies r b v
    gathered_rounded {bodies} {Root} {r} proper valid valid-u G = record {
      inside = inside_of valid;
      short = λ x l. proper.short _ _ (valid.justified x l).fits;
      calls_once = once;
      answers_once = answers_once;
      gathered = record {
        made = made_now resorted more_calls more_answers proper rows_rise G.made;
        closed = λ row i l e. closed_now resorted more_calls more_answers G.made.grew (inside_of valid) (bodies.words i (b.calls.action row)) row l (G.closed row i l e);
      };
      calls_rise = λ i j h l k. by_calls i j l k (cs.rising i j h l k);
      answers_rise = λ x y h l k. by_answers x y l k (ns.rising x y h l k);
    }
      where
        once : CallsOnce v.calls
        once = calls_once_now resorted more_calls more_answers valid-u.calls_once

        answers_once : AnswersOnce v.answers
        answers_once = answers_once_now resorted more_calls more_answers valid-u.answers_once

        strictly : {x y : ℕ × ℕ} → (Before y x → ⊥) → (x.0 ≡ y.0 → x.1 ≡ y.1 → ⊥) → Before x y
        strictly no_more apart = no_later_apart (record { never = no_more }) (λ e. apart (ap (λ (k : ℕ × ℕ). k.0) e) (ap (λ (k : ℕ × ℕ). k.1) e))

        by_calls : (i j : ℕ) → i < j → j < n → (Before (v.calls.action j, v.calls.state j) (v.calls.action i, v.calls.state i) → ⊥) → Before (v.calls.action i, v.calls.state i) (v.calls.action j, v.calls.state j)
        by_calls i j l k no_more = strictly no_more (λ e f. once i j _ _ l k (record { has_action = e; has_state = f }) (record { has_action = refl; has_state = refl }))

        by_answers : (x y : ℕ) → x < y → y < m → (Before (v.answers.call y, v.answers.final y) (v.answers.call x, v.answers.final x) → ⊥) → Before (v.answers.call x, v.answers.final x) (v.answers.call y, v.answers.final y)
        by_answers x y l k no_more = strictly no_more (λ e f. answers_once x y _ _ l k (record { has_call = e; has_final = f }) (record { has_call = refl; has_final = refl }))

        rows_rise : (x y : ℕ) → m₀ ≤ x → x < y → y < m → v.answers.call x ≤ v.answers.call y
        rows_rise x y h l k = omega (arith, ns.calls_kept x (omega arith), ns.calls_kept y k, G.made.by_row x y h l k)

-- a round that added nothing leaves all in order
pub gathered_still : {bodies : Bodies} {Root : ℕ → State → Type 0} {r : ℕ} {b u : Tables} → Proper bodies → Valid bodies Root b → Valid bodies Root u → Gathered bodies r b u → size b ≡ size u → Rounded bodies r b u
gathered_still proper valid valid-u G e = record {
  inside = inside_of valid;
  short = λ x l. proper.short _ _ (valid.justified x l).fits;
  calls_once = valid-u.calls_once;
  answers_once = valid-u.answers_once;
  gathered = G;
  calls_rise = λ i j h l k. absurd (omega (arith, G.made.grew.calls_more, G.made.grew.answers_more));
  answers_rise = λ x y h l k. absurd (omega (arith, G.made.grew.calls_more, G.made.grew.answers_more));
}
