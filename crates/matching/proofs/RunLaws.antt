-- Laws of a run's tables and those put aside: what flags leave of them, and what is found by the indexes. Assumes nothing.
use Prim.Native.Nat.{ℕ, ◌+◌, ◌*◌, ◌<◌, ◌≤◌}
use native.Mathlib.Omega.{arith}
use native.Mathlib.Decide.{dec_lt}
use mathlib.Core.Path.{◌≡◌, refl, sym, ap, ap₂, ◌∙◌}
use mathlib.Core.Bool.{Bool, true, false}
use mathlib.Core.List.{List}
use lib.ListN.{get_or}
use Rattle.steps.specs.State.{State}
use Rattle.quarters.specs.Quarters.{quarter}
use Rattle.records.specs.Records.{Calls, Answers, call_width}
use Rattle.records.specs.Storage.{CallAt, AnswerAt, FindCall}
use Rattle.records.proofs.Growth.{Tables, CallsOnce, row_once}
use Rattle.desk.specs.Desk.{open_calls, packed_answers, packed_width}
use Rattle.index.specs.Index.{answer_notes}
use Rattle.index.proofs.Chains.{covers_same}
use Rattle.index.proofs.IndexLaws.{call_index_same}
use Rattle.stowing.specs.Stowing.{freed_words, stowed_words}
use Rattle.matching.specs.Flags.{Whether, Kept, Flagged, RowFound, RowForRow}
use Rattle.matching.specs.Matching.{call_row, answer_row, stowed_row, run_row, CallsReady, AnswersReady, SameRows}
use Rattle.matching.proofs.Pairs.{rows_same}

pub row_of_parts : {a b : ℕ} {D F : State} → a ≡ b → D ≡ F → ◌≡◌ {A = ℕ × State} (a, D) (b, F)
row_of_parts e d = ap₂ (λ (x y : ℕ). (x, y)) e d

pub row_parts : {a b : ℕ} {D F : State} → ◌≡◌ {A = ℕ × State} (a, D) (b, F) → (a ≡ b) × (D ≡ F)
row_parts e = (ap (λ (p : ℕ × State). p.0) e, ap (λ (p : ℕ × State). p.1) e)

answer_parts : {a b : ℕ} {D F f g : State} → ◌≡◌ {A = ℕ × State × State} (a, D, f) (b, F, g) → (a ≡ b) × (D ≡ F) × (f ≡ g)
answer_parts e = (ap (λ (p : ℕ × State × State). p.0) e, ap (λ (p : ℕ × State × State). p.1) e, ap (λ (p : ℕ × State × State). p.2) e)

-- ---- calls
pub calls_apart : (calls : Calls) → CallsOnce calls → (i j : ℕ) → i < calls.count → j < calls.count → call_row calls i ≡ call_row calls j
    → i ≡ j
calls_apart calls once i j k l e =
    let (a, s) = row_parts e in
    row_once calls once i j (calls.action j) (calls.state j) k l (record { has_action = a; has_state = s }) (record { has_action = refl; has_state = refl })

pub row_found : (calls : Calls) (a : ℕ) (D : State) (r : ℕ) → FindCall calls a D r → RowFound (a, D) (call_row calls) calls.count r
row_found calls a D r f = record {
  found = λ l. let c = f.found l in rw (c.has_action, c.has_state) refl;
  absent = λ l j h e. let (x, s) = row_parts e in f.absent l j h (record { has_action = sym x; has_state = sym s });
}

module _ {rows rows' : List ℕ} {n : ℕ} (k : Kept call_width 2 n rows rows') where
  pub call_row_kept : (j : ℕ) → call_row (open_calls rows n) j ≡ call_row (open_calls rows' n) j
  call_row_kept j = rw (k.other (call_width * j) (λ i l. omega arith), k.other (call_width * j + 1) (λ i l. omega arith)) refl

  pub calls_ready_kept : {calls actions : List ℕ} {room stowed : ℕ} → CallsReady rows n calls actions room stowed
      → CallsReady rows' n calls actions room stowed
  calls_ready_kept c = record {
    stand = record {
      stored = record {
        fits = omega (arith, k.long, c.stand.stored.fits);
        most = c.stand.stored.most;
        past = λ i l. k.other i (λ j h. omega arith) ∙ c.stand.stored.past i l;
      };
      listed = rw k.long c.stand.listed;
    };
    index = call_index_same c.index k.long (λ i l. row_parts (sym (call_row_kept i))) (λ p j l h. refl);
    once = λ i j a D l h u v. c.once i j a D l h (back u) (back v);
    states = c.states;
    bytes = c.bytes;
  }
    where
      back : {i a : ℕ} {D : State} → CallAt (open_calls rows' n) i a D → CallAt (open_calls rows n) i a D
      back {i} u = let (x, s) = row_parts (call_row_kept i) in record { has_action = x ∙ u.has_action; has_state = s ∙ u.has_state }

  -- They hold the same rows as they did.
  pub calls_same_kept : {row : ℕ → ℕ × State} {t : ℕ} → RowForRow row t (call_row (open_calls rows n)) n
      → RowForRow row t (call_row (open_calls rows' n)) n
  calls_same_kept p = rows_same (λ i l. refl) (λ j l. call_row_kept j) p

pub calls_flagged : {rows calls actions : List ℕ} {n room stowed : ℕ} → CallsReady rows n calls actions room stowed → Flagged call_width 2 n rows
calls_flagged c = record { inside = omega arith; fits = c.stand.stored.fits }

-- ---- answers
module _ {n stowed m most kept : ℕ} {answers : List ℕ} (c : AnswersReady n stowed answers m most kept) where
  pub answers_flagged : Flagged packed_width 3 m answers
  answers_flagged = record { inside = omega arith; fits = omega (arith, c.stand.fits, c.stand.long) }

  module _ {answers' : List ℕ} (k : Kept packed_width 3 m answers answers') where
    call_kept : (y : ℕ) → get_or answers' (packed_width * y) 0 ≡ get_or answers (packed_width * y) 0
    call_kept y = k.other (packed_width * y) (λ i l. omega arith)

    final_kept : (y : ℕ) → get_or answers' (packed_width * y + 1) 0 ≡ get_or answers (packed_width * y + 1) 0
    final_kept y = k.other (packed_width * y + 1) (λ i l. omega arith)

    -- The words past the records stay, those put aside among them.
    pub past_kept : (p : ℕ) → packed_width * most ≤ p → get_or answers' p 0 ≡ get_or answers p 0
    past_kept p l = k.other p (λ i h. omega (arith, c.stand.fits))

    pub stowed_row_kept : (room : ℕ) (calls actions : List ℕ) (x : ℕ)
        → stowed_row room calls actions most answers x ≡ stowed_row room calls actions most answers' x
    stowed_row_kept room calls actions x =
        rw (past_kept (freed_words * most + stowed_words * x) (omega arith), past_kept (freed_words * most + stowed_words * x + 1) (omega arith)) refl

    pub run_row_kept : (rows : List ℕ) (y : ℕ) → run_row rows answers y ≡ run_row rows answers' y
    run_row_kept rows y = rw (call_kept y, final_kept y) refl

    pub answers_ready_kept : AnswersReady n stowed answers' m most kept
    answers_ready_kept = record {
      stand = record { fits = c.stand.fits; small = c.stand.small; long = rw k.long c.stand.long };
      index = covers_same c.index (λ i l. rw (call_kept i, final_kept i) refl)
          (λ b. ap (λ (w : ℕ). quarter w 3) (past_kept (answer_notes most + b) (omega arith)))
          (λ i. ap (λ (w : ℕ). quarter w 2) (past_kept (answer_notes most + i) (omega arith)));
      once = λ x y row f l h u v. c.once x y row f l h (back u) (back v);
      of_calls = λ y l. rw (call_kept y) (c.of_calls y l);
      fits = rw k.long c.fits;
      few = c.few;
      of_stowed = λ x l. rw (past_kept (freed_words * most + stowed_words * x) (omega arith)) (c.of_stowed x l);
    }
      where
        back : {x row f : ℕ} → AnswerAt (packed_answers answers' m) x row f → AnswerAt (packed_answers answers m) x row f
        back {x} u = record { has_call = sym (call_kept x) ∙ u.has_call; has_final = sym (final_kept x) ∙ u.has_final }

    pub answers_same_kept : (room : ℕ) (rows calls actions : List ℕ)
        → RowForRow (stowed_row room calls actions most answers) kept (run_row rows answers) m
        → RowForRow (stowed_row room calls actions most answers') kept (run_row rows answers') m
    answers_same_kept room rows calls actions p = rows_same (λ i l. stowed_row_kept room calls actions i) (λ j l. run_row_kept rows j) p

  -- Fewer of the records put aside.
  pub fewer_kept : (x : ℕ) → x < kept → AnswersReady n stowed answers m most (x + 1)
  fewer_kept x l = record {
    stand = c.stand;
    index = c.index;
    once = c.once;
    of_calls = c.of_calls;
    fits = c.fits;
    few = omega (arith, c.few);
    of_stowed = λ y h. c.of_stowed y (omega arith);
  }

  module _ {rows calls actions : List ℕ} {room : ℕ} (g : CallsReady rows n calls actions room stowed) where
    abbrev held : Calls
    held = open_calls rows n

    abbrev given : Answers
    given = packed_answers answers m

    -- Where the answer's call record is one of the run's with this action and state, it is the one that was found.
    row_is : (a : ℕ) (D : State) (r y : ℕ) → FindCall held a D r → y < m → CallAt held (given.call y) a D → given.call y ≡ r
    row_is a D r y f l h = by (dec_lt r n)
      where
        by : Dec (r < n) → given.call y ≡ r
        by (yes b) = row_once held g.once (given.call y) r a D (c.of_calls y l) b h (f.found b)
        by (no b) = absurd (f.absent (omega arith) (given.call y) (c.of_calls y l) h)

    pub answers_apart : (x y : ℕ) → x < m → y < m → answer_row held given x ≡ answer_row held given y → x ≡ y
    answers_apart x y k l e = by (dec_lt x y) (dec_lt y x)
      where
        call_same : given.call x ≡ given.call y
        call_same =
            let (a, d, z) = answer_parts e in
            row_once held g.once (given.call x) (given.call y) (held.action (given.call y)) (held.state (given.call y)) (c.of_calls x k) (c.of_calls y l)
            (record { has_action = a; has_state = d }) (record { has_action = refl; has_state = refl })

        at_x : AnswerAt given x (given.call y) (given.final y)
        at_x = let (a, d, z) = answer_parts e in record { has_call = call_same; has_final = z }

        at_y : AnswerAt given y (given.call y) (given.final y)
        at_y = record { has_call = refl; has_final = refl }

        by : Dec (x < y) → Dec (y < x) → x ≡ y
        by (yes p) q = absurd (c.once x y (given.call y) (given.final y) p l at_x at_y)
        by (no p) (yes q) = absurd (c.once y x (given.call y) (given.final y) q k at_y at_x)
        by (no p) (no q) = omega arith

-- ---- both tables
module _ (t e : Tables) (p : RowForRow (answer_row t.calls t.answers) t.answers.count (answer_row e.calls e.answers) e.answers.count) where
  -- Where the answers are the same, the calls tell.
  pub calls_tell : (b : Bool) → Whether (RowForRow (call_row t.calls) t.calls.count (call_row e.calls) e.calls.count) b
      → Whether (SameRows t e) b
  calls_tell true h = record { calls = h; answers = p }
  calls_tell false h = λ s. h s.calls
