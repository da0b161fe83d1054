-- What stays where some of the lent words are written: the other views of the same words, and with them the walk and the indexes. Assumes nothing.
use Prim.Native.Nat.{ℕ, suc, ◌+◌, ◌-◌, ◌*◌, ◌/◌, ◌%◌, ◌<◌, ◌≤◌}
use native.Mathlib.Omega.{arith}
use native.Mathlib.Decide.{ℕ_discrete, dec_lt}
use mathlib.Core.Path.{◌≡◌, refl, sym, ap, ◌∙◌}
use mathlib.Core.Bool.{Bool, true, false}
use mathlib.Core.List.{List}
use lib.ListN.{length, get_or, set}
use Rattle.steps.specs.State.{State}
use Rattle.steps.specs.Inner.{is_call}
use Rattle.steps.proofs.EachBelow.{true_not_false}
use Rattle.quarters.specs.Quarters.{quarter}
use Rattle.records.specs.Records.{Calls, Bodies, call_width}
use Rattle.records.specs.Storage.{CallAt, CallPut, call_stood, call_added, call_no_room, AnswerPut}
use Rattle.records.proofs.Growth.{Tables, tables}
use Rattle.desk.specs.Desk.{action_unit, round_unit, round_top, open_calls, packed_answers, mark_words, CallsOpen}
use Rattle.marks.specs.Marks.{Mark, Stamped, with_mark, MarksAlone}
use Rattle.marks.proofs.MarksLaws as marks
use Rattle.uses.specs.Uses.{Uses, Used, Came, Noted, UsesGrew, uses_in, UsesAlone, LooksAlone}
use Rattle.uses.proofs.UsesLaws.{uses_refl}
use Rattle.uses.proofs.NoteLaws.{uses_calls, uses_list}
use Rattle.uses.proofs.NoteLaws as uses
use Rattle.index.specs.Index.{CallIndex, AnswerIndex, CallsKept, AnswersKept}
use Rattle.index.proofs.IndexLaws.{call_index_same, answer_index_calls}
use Rattle.tabling.proofs.Graph.{Front, goes, numbered, Leads}
use Rattle.tabling.proofs.Graph as graph
use Rattle.tabling.proofs.Moves.{Node, move, of_at, final_at}
use Rattle.invariants.proofs.Turn.{Before, Picked, Turning, Turned, turn_called, turn_noted, turn_seen, turn_none, turn_take, turn_ended}
use Rattle.invariants.proofs.Going.{Kept, Indexed, in_words, picked_among}

-- ---- views that are the same
pub uses_same : {uses uses' : Uses} → uses' ≡ uses → UsesGrew uses uses'
uses_same {uses} e = rw e (uses_refl uses)

pub stamped_in : {marks marks' : ℕ → ℕ} {walk : ℕ} → marks' ≡ marks → Stamped marks walk → Stamped marks' walk
stamped_in e s = rw e s

-- ---- a call is added
-- where it stands
pub put_inside : {places a r row : ℕ} {D : State} {calls calls' : Calls} {full : Bool} → CallPut places calls a D r calls' row full → full ≡ false → row < calls'.count
put_inside (call_stood g l k z) f = omega (arith, ap (λ (c : Calls). c.count) z)
put_inside (call_added g i l none p) f = omega (arith, p.count)
put_inside (call_no_room g i none z) f = absurd (true_not_false (sym g ∙ f))

module _ {calls list calls' list' : List ℕ} (k : CallsKept calls list calls' list') where
  pub called_marks : mark_words calls' ≡ mark_words calls
  called_marks = λ d i. k.marks i d

  pub called_uses : uses_in calls' list' ≡ uses_in calls list
  called_uses = uses_calls calls calls' list' k.uses ∙ uses_list calls list list' (λ i. k.notes i 0 (omega arith)) (λ i. k.notes i 1 (omega arith))

  pub called_index : {answers : List ℕ} {most m : ℕ} → AnswerIndex most calls answers m → AnswerIndex most calls' answers m
  called_index c = answer_index_calls c (λ r. ap (λ (w : ℕ). quarter w 3) (k.uses r))

-- ---- callers are noted
module _ {n : ℕ} {calls calls' : List ℕ} (a : UsesAlone n calls calls') where
  pub noted_kept : {list answers : List ℕ} {most c m : ℕ} → n ≤ c → Kept most calls list c answers m → Kept most calls' list c answers m
  noted_kept {list} l k = record {
    calls_open = record { stored = uses.alone_stored (uses.alone_up l a) k.calls_open.stored; listed = rw a.long k.calls_open.listed };
    answers_open = k.answers_open;
  }

  pub noted_indexed : {list answers : List ℕ} {most c m : ℕ} → Indexed most calls list c answers m → Indexed most calls' list c answers m
  noted_indexed x = record {
    of_calls = call_index_same x.of_calls a.long (λ i l. (ap (λ (w : ℕ). w / action_unit) (a.heads i), a.states i)) (λ p j l h. refl);
    of_answers = answer_index_calls x.of_answers a.firsts;
  }

-- ---- a place is marked
module _ {n : ℕ} {calls calls' : List ℕ} (a : MarksAlone n calls calls') where
  pub marked_uses : (list : List ℕ) → uses_in calls' list ≡ uses_in calls list
  marked_uses list = uses_calls calls calls' list a.thirds

  pub marked_kept : {list answers : List ℕ} {most c m : ℕ} → n ≤ c → Kept most calls list c answers m → Kept most calls' list c answers m
  marked_kept {list} l k = record {
    calls_open = record { stored = marks.alone_stored (marks.alone_up l a) k.calls_open.stored; listed = rw a.long k.calls_open.listed };
    answers_open = k.answers_open;
  }

  pub marked_indexed : {list answers : List ℕ} {most c m : ℕ} → Indexed most calls list c answers m → Indexed most calls' list c answers m
  marked_indexed x = record {
    of_calls = call_index_same x.of_calls a.long (λ i l. (omega (arith, a.above i), a.states i)) (λ p j l h. refl);
    of_answers = answer_index_calls x.of_answers (λ r. ap (λ (w : ℕ). quarter w 3) (a.thirds r));
  }

-- ---- what a round looks at is noted
module _ {list list' : List ℕ} (a : LooksAlone list list') where
  pub looked_kept : {calls answers : List ℕ} {most n m : ℕ} → Kept most calls list n answers m → Kept most calls list' n answers m
  looked_kept k = record { calls_open = record { stored = k.calls_open.stored; listed = rw a.long k.calls_open.listed }; answers_open = k.answers_open }

  index_notes : (p j : ℕ) → Dec (j ≡ 2) → j < 4 → 2 ≤ j → quarter (get_or list' p 0) j ≡ quarter (get_or list p 0) j
  index_notes p j (yes e) l h = rw e (a.links p)
  index_notes p j (no n) l h = let z : j ≡ 3 = omega arith in rw z (a.heads p)

  pub looked_indexed : {calls answers : List ℕ} {most n m : ℕ} → Indexed most calls list n answers m → Indexed most calls list' n answers m
  looked_indexed x = record {
    of_calls = call_index_same x.of_calls refl (λ i l. (refl, refl)) (λ p j l h. index_notes p j (ℕ_discrete j 2) l h);
    of_answers = x.of_answers;
  }

-- ---- an answer is added: of the call table only the first answer of its record is other
module _ {calls answers calls' answers' : List ℕ} {row : ℕ} (k : AnswersKept calls answers calls' answers' row) where
  thirds : (r j : ℕ) → j < 3 → quarter (get_or calls' (call_width * r + 2) 0) j ≡ quarter (get_or calls (call_width * r + 2) 0) j
  thirds r j l = by (ℕ_discrete r row)
    where
      by : Dec (r ≡ row) → quarter (get_or calls' (call_width * r + 2) 0) j ≡ quarter (get_or calls (call_width * r + 2) 0) j
      by (yes e) = rw e (k.beside j l)
      by (no n) = ap (λ (w : ℕ). quarter w j) (k.others (call_width * r + 2) (omega arith))

  heads : (i : ℕ) → get_or calls' (call_width * i) 0 ≡ get_or calls (call_width * i) 0
  heads i = k.others (call_width * i) (omega arith)

  states : (i : ℕ) → get_or calls' (call_width * i + 1) 0 ≡ get_or calls (call_width * i + 1) 0
  states i = k.others (call_width * i + 1) (omega arith)

  pub answered_uses : (list : List ℕ) → uses_in calls' list ≡ uses_in calls list
  answered_uses list = λ d. record {
    least = λ r. 65535 - thirds r 0 (omega arith) d;
    greatest = λ r. thirds r 1 (omega arith) d;
    via = λ r. thirds r 2 (omega arith) d;
    start = λ r. quarter (get_or list r 0) 0;
    heat = λ r. quarter (get_or list r 0) 1;
  }

  pub answered_marks : mark_words calls' ≡ mark_words calls
  answered_marks = λ d i. heads i d % round_unit

  pub answered_calls : (n : ℕ) → open_calls calls' n ≡ open_calls calls n
  answered_calls n = λ d. record { count = n; action = λ i. heads i d / action_unit; state = λ i. states i d; round = λ i. heads i d / round_unit % round_top }

  pub answered_open : {list : List ℕ} {n : ℕ} → row < n → CallsOpen calls list n → CallsOpen calls' list n
  answered_open {list} l o = record {
    stored = record {
      fits = omega (arith, k.long, o.stored.fits);
      most = o.stored.most;
      past = λ i h. k.others i (omega arith) ∙ o.stored.past i h;
    };
    listed = rw k.long o.listed;
  }

  pub answered_index : {list : List ℕ} {n : ℕ} → CallIndex calls list n → CallIndex calls' list n
  answered_index c = call_index_same c k.long (λ i l. (ap (λ (w : ℕ). w / action_unit) (heads i), states i)) (λ p j l h. refl)

-- ---- the walk
module _ (bodies : Bodies) (Root : ℕ → State → Type 0) (b : Tables) (known rule row walk : ℕ) (P : Before) (body : List ℕ) where
  -- in other words that say the same
  turning_in : {t t' : Tables} {marks marks' : ℕ → ℕ} {uses uses' : Uses} {chosen : List ℕ} {at : ℕ} {s : Node} → t' ≡ t → marks' ≡ marks → uses' ≡ uses
      → Turning bodies Root b known rule row walk P body t marks uses chosen at s → Turning bodies Root b known rule row walk P body t' marks' uses' chosen at s
  turning_in p q r T = rw (p, q, r) T

  turned_in : {t t' : Tables} {marks marks' : ℕ → ℕ} {uses uses' : Uses} {chosen : List ℕ} {at : ℕ} {s : Node} → t' ≡ t → marks' ≡ marks → uses' ≡ uses
      → Turned bodies Root b known rule row walk P body t marks uses chosen at s → Turned bodies Root b known rule row walk P body t' marks' uses' chosen at s
  turned_in p q r T = rw (p, q, r) T

  -- The walk stands before call record r, to which it is noted to have come.
  pub record Facing (calls list : List ℕ) (n : ℕ) (answers : List ℕ) (m : ℕ) (chosen : List ℕ) (at : ℕ) (s : Node) (r : ℕ) : Type 0 where
    pub turning : Turning bodies Root b known rule row walk P body (in_words calls n answers m) (mark_words calls) (uses_in calls list) chosen at s
    pub inside : at < length body
    pub call : is_call (get_or body at 0) ≡ true
    pub row_in : r < n
    pub has_call : CallAt (open_calls calls n) r (get_or body at 0 % 256) s.0
    pub used : Used (uses_in calls list) row r
    pub after : Came (uses_in calls list) s.1 r

  module _ {calls calls₁ calls₂ list list₁ answers chosen : List ℕ} {n n' m at r places k : ℕ} {s : Node} {full : Bool} where
    pub faced : Turning bodies Root b known rule row walk P body (in_words calls n answers m) (mark_words calls) (uses_in calls list) chosen at s
        → at < length body → is_call (get_or body at 0) ≡ true
        → CallPut places (open_calls calls n) (get_or body at 0 % 256) s.0 P.round (open_calls calls₁ n') r full → full ≡ false → CallsKept calls list calls₁ list₁
        → UsesAlone k calls₁ calls₂ → Noted (uses_in calls₁ list₁) (uses_in calls₂ list₁) row s.1 r → Facing calls₂ list₁ n' answers m chosen at s r
    faced T h e put f K a w =
        let (U, l, c) = turn_called bodies Root b known rule row walk P body T h e put f in
        let Y : Turning bodies Root b known rule row walk P body (in_words calls₁ n' answers m) (mark_words calls₁) (uses_in calls₁ list₁) chosen at s = turning_in refl (called_marks K) (called_uses K) U in
        let z : open_calls calls₂ n' ≡ open_calls calls₁ n' = uses.alone_calls a n' in
        record {
          turning = turning_in (ap (λ (c : Calls). tables c (packed_answers answers m)) z) (uses.alone_marks a) refl (turn_noted bodies Root b known rule row walk P body Y h e w);
          inside = h;
          call = e;
          row_in = l;
          has_call = at_call z c;
          used = w.used;
          after = w.after;
        }
      where
        at_call : {c d : Calls} {a : ℕ} {D : State} → d ≡ c → CallAt c r a D → CallAt d r a D
        at_call p x = rw p x

  module _ {calls list answers chosen : List ℕ} {n m at r : ℕ} {s : Node} (F : Facing calls list n answers m chosen at s r) where
    pub faced_seen : Mark (mark_words calls) walk at r → Turned bodies Root b known rule row walk P body (in_words calls n answers m) (mark_words calls) (uses_in calls list) chosen at s
    faced_seen x = turn_seen bodies Root b known rule row walk P body F.turning F.inside F.call F.row_in F.has_call F.used F.after x

    module _ {calls' : List ℕ} {k : ℕ} (a : MarksAlone k calls calls') (e : mark_words calls' ≡ with_mark (mark_words calls) walk at r) (small : r < 65536) (free : ¬ Mark (mark_words calls) walk at r) where
      picked : {j : ℕ} → Picked (packed_answers answers known) (uses_in calls' list) known row P body chosen at r j → Picked (packed_answers answers m) (uses_in calls list) known row P body chosen at r j
      picked {j} x = picked_among answers m (by (sym (marked_uses a list)) x)
        where
          by : {u v : Uses} → u ≡ v → Picked (packed_answers answers known) v known row P body chosen at r j → Picked (packed_answers answers known) u known row P body chosen at r j
          by p y = rw p y

      same : in_words calls' n answers m ≡ in_words calls n answers m
      same = ap (λ (c : Calls). tables c (packed_answers answers m)) (marks.alone_calls a n)

      pub faced_none : Picked (packed_answers answers known) (uses_in calls' list) known row P body chosen at r known
          → Turned bodies Root b known rule row walk P body (in_words calls' n answers m) (mark_words calls') (uses_in calls' list) chosen at s
      faced_none x = turned_in same e (marked_uses a list)
          (turn_none bodies Root b known rule row walk P body F.turning F.inside F.call F.row_in F.has_call F.used F.after small free (picked x))

      pub faced_take : {j : ℕ} → j < known → Picked (packed_answers answers known) (uses_in calls' list) known row P body chosen at r j
          → Turning bodies Root b known rule row walk P body (in_words calls' n answers m) (mark_words calls') (uses_in calls' list) (set chosen at j) (at + 1) ((packed_answers answers m).final j, j + 1)
      faced_take l x = turning_in same e (marked_uses a list)
          (turn_take bodies Root b known rule row walk P body F.turning F.inside F.call F.row_in F.has_call F.used F.after small free l (picked x))

  module _ (calls list : List ℕ) (n : ℕ) (answers : List ℕ) (m : ℕ) {chosen : List ℕ} {at : ℕ} {s : Node} (T : Turning bodies Root b known rule row walk P body (in_words calls n answers m) (mark_words calls) (uses_in calls list) chosen at s) (h : length body ≤ at) where
    -- the state at the body's end is an answer
    pub ended : {calls' answers' : List ℕ} {m' places : ℕ} {full : Bool} → AnswersKept calls answers calls' answers' row
        → AnswerPut places (packed_answers answers m) row s.0 rule chosen P.round (packed_answers answers' m') full → full ≡ false
        → Turned bodies Root b known rule row walk P body (in_words calls' n answers' m') (mark_words calls') (uses_in calls' list) chosen at s
    ended {answers' = answers'} {m'} k put f = turned_in (ap (λ (c : Calls). tables c (packed_answers answers' m')) (answered_calls k n)) (answered_marks k) (answered_uses k list)
        (turn_ended bodies Root b known rule row walk P body T h put f)

    -- what is chosen then fits a quarter of a word
    pub chosen_small : known ≤ 65536 → (q : ℕ) → get_or chosen q 0 < 65536
    chosen_small few q = by (dec_lt q at)
      where
        lead : (f : Front State (ℕ × State)) (l x : ℕ) (u : Node) → Leads (of_at b known) (final_at b) (numbered f l) x u → x < 65536
        lead graph.stuck l x u e = absurd e
        lead (goes v) l x u (z, e) = omega arith
        lead (graph.calls c) l x u (o, e) = omega (arith, o.below)

        by : Dec (q < at) → get_or chosen q 0 < 65536
        by (yes l) = let w = T.walking.search in lead (move (get_or body q 0) (w.st q).0) (w.st q).1 (get_or chosen q 0) (w.st (suc q)) (w.links q l).edge.1
        by (no l) = omega (arith, T.unused q (omega arith))
