-- Tables put aside hold the rows of the tables, stay so while goals are evaluated in the free words, and come back word for word. Assumes nothing.
use Prim.Native.Nat.{ℕ, ◌+◌, ◌*◌, ◌<◌, ◌≤◌}
use native.Mathlib.Omega.{arith}
use mathlib.Core.Path.{◌≡◌, refl, sym, ap, subst, ◌∙◌}
use mathlib.Core.Bool.{Bool, false}
use mathlib.Core.List.{List}
use lib.ListN.{length, get_or}
use Rattle.steps.specs.State.{State}
use Rattle.steps.proofs.EachBelow.{true_not_false}
use Rattle.records.specs.Records.{Bodies, call_width}
use Rattle.desk.specs.Desk.{packed_width}
use Rattle.stowing.specs.Stowing.{freed_words, stowed_words, plain_answers, stowed_answers, CallsStowed, Stowed, CallsUnstowed, Unstowed}
use Rattle.stowing.proofs.AnswerStows.{stowed_kept, unstowed_same}
use Rattle.stowing.proofs.CallStows.{calls_unstowed_same}
use Rattle.matching.specs.Flags.{Whether}
use Rattle.matching.specs.Flags as flags
use Rattle.matching.specs.Matching.{SameRows, CallsReady, AnswersReady, stowed_tables, run_tables}
use Rattle.matching.proofs.RunLaws.{row_of_parts}
use Rattle.balancing.specs.Balancing.{call_room, answer_room, plain_tables, Handed, Lent, Aside, Spared, FilledAside, Compared}
use Rattle.balancing.proofs.Alike.{Alike, tells_alike, row_of_three}

-- ---- words that came back

pub handed_again : {calls answers calls' answers' : List ℕ} {n m : ℕ} → calls' ≡ calls → answers' ≡ answers → Handed calls n answers m → Handed calls' n answers' m
handed_again e f h = rw (e, f) h

pub lent_again : {rows bytes calls rows' bytes' calls' : List ℕ} → length rows' ≡ length rows → length bytes' ≡ length bytes → calls' ≡ calls → Lent rows bytes calls
    → Lent rows' bytes' calls'
lent_again x y e h = rw e (record { rows_long = x ∙ h.rows_long; bytes_long = omega (arith, y, h.bytes_long) })

-- What holds of their rooms holds again.
pub rooms_again : (Q : ℕ → ℕ → Type 0) {calls answers calls' answers' : List ℕ} → calls' ≡ calls → answers' ≡ answers → Q (call_room calls') (answer_room answers')
    → Q (call_room calls) (answer_room answers)
rooms_again Q {calls} {answers} {calls'} {answers'} e f q =
    subst (λ (c : List ℕ). Q (call_room c) (answer_room answers)) e (subst (λ (a : List ℕ). Q (call_room calls') (answer_room a)) f q)

-- ---- tables put aside

module _ {calls bytes calls₁ answers answers₁ : List ℕ} {n m : ℕ} where
  -- They hold the rows of the tables.
  pub stowed_rows : (room most : ℕ) → CallsStowed room n calls calls₁ bytes → Stowed most m answers answers₁
      → ((x : ℕ) → x < m → (plain_answers answers m).call x < n)
      → Alike (stowed_tables room calls₁ bytes n most answers₁ m) (plain_tables calls n answers m)
  stowed_rows room most c a of = record {
    calls_many = refl;
    answers_many = refl;
    calls = λ i l. row_of_parts (c.actions_kept i l) (c.states_kept i l);
    answers = λ x l. let z = a.alike x l in row_of_three
        (ap (λ (i : ℕ). get_or bytes i 0) z.call ∙ c.actions_kept _ (of x l))
        (ap (λ (i : ℕ). get_or calls₁ (room + i) 0) z.call ∙ c.states_kept _ (of x l)) z.final;
  }

-- They stay while their words do.
module _ {rows calls answers rows' calls' answers' : List ℕ} (s : Spared rows calls answers rows' calls' answers') where
  abbrev places : ℕ
  places = call_room calls

  abbrev most : ℕ
  most = answer_room answers

  pub state_kept : (i : ℕ) → get_or calls' (places + i) 0 ≡ get_or calls (places + i) 0
  state_kept i = s.calls_kept (places + i) (omega arith)

  call_kept : (x : ℕ) → get_or answers' (freed_words * most + stowed_words * x) 0 ≡ get_or answers (freed_words * most + stowed_words * x) 0
  call_kept x = s.answers_kept (freed_words * most + stowed_words * x) (omega arith)

  pub stowed_stays : (bytes : List ℕ) (n m : ℕ) → Alike (stowed_tables places calls' bytes n most answers' m) (stowed_tables places calls bytes n most answers m)
  stowed_stays bytes n m = record {
    calls_many = refl;
    answers_many = refl;
    calls = λ i l. row_of_parts refl (state_kept i);
    answers = λ x l. row_of_three
        (ap (λ (i : ℕ). get_or bytes i 0) (call_kept x))
        (ap (λ (i : ℕ). get_or calls' (places + i) 0) (call_kept x) ∙ state_kept _)
        (s.answers_kept (freed_words * most + stowed_words * x + 1) (omega arith));
  }

  pub of_stowed_stays : (n m : ℕ) → ((x : ℕ) → x < m → (stowed_answers most answers m).call x < n) → (x : ℕ) → x < m → (stowed_answers most answers' m).call x < n
  of_stowed_stays n m of x l = omega (arith, call_kept x, of x l)

-- ---- the run compared

module _ {bodies : Bodies} {roots : List (ℕ × State)} {rows calls answers rows' calls' answers' : List ℕ} {full : Bool} {n m : ℕ}
    (F : FilledAside bodies roots rows calls answers rows' calls' answers' full n m) (done : full ≡ false) {bytes : List ℕ} {stowed kept : ℕ}
    (a : Aside bytes calls stowed answers kept) where
  ready : CallsReady rows' n calls' bytes (call_room calls) stowed × AnswersReady n stowed answers' m (answer_room answers) kept
  ready = (
    record {
      stand = (F.kept done).calls_open;
      index = F.calls_index done;
      once = (F.whole done).valid.calls_once;
      states = omega (arith, a.calls_few, F.spared.calls_long);
      bytes = a.bytes_long;
    },
    record {
      stand = (F.kept done).answers_open;
      index = F.answers_index done;
      once = (F.whole done).valid.answers_once;
      of_calls = λ y l. ((F.whole done).valid.justified y l).exists;
      fits = omega (arith, F.spared.answers_long);
      few = a.answers_few;
      of_stowed = of_stowed_stays F.spared stowed kept a.of_calls;
    },
  )

  -- What a comparison asks,
  pub ready_at : (places most : ℕ) → places ≡ call_room calls → most ≡ answer_room answers
      → CallsReady rows' n calls' bytes places stowed × AnswersReady n stowed answers' m most kept
  ready_at places most e f = rw (e, f) ready

  -- and what it gives.
  pub compared_at : (places most : ℕ) (same : Bool) → places ≡ call_room calls → most ≡ answer_room answers
      → Whether (SameRows (stowed_tables places calls' bytes stowed most answers' kept) (run_tables rows' n answers' m)) same
      → Compared bodies roots (call_room calls) (answer_room answers) (stowed_tables (call_room calls) calls bytes stowed (answer_room answers) answers kept) false n m same
  compared_at places most same e f = rw (e, f) (λ w. record {
    outgrown = λ z. absurd (true_not_false (sym z));
    found = λ z. (run_tables rows' n answers' m, F.whole done, refl, refl, tells_alike (run_tables rows' n answers' m) same (stowed_stays F.spared bytes stowed kept) w);
  })

  pub compared_spared : {rows'' answers'' : List ℕ} → flags.Kept call_width 2 n rows' rows'' → flags.Kept packed_width 3 m answers' answers''
      → Spared rows calls answers rows'' calls' answers''
  compared_spared r k = record {
    rows_long = r.long ∙ F.spared.rows_long;
    calls_long = F.spared.calls_long;
    answers_long = k.long ∙ F.spared.answers_long;
    calls_kept = F.spared.calls_kept;
    answers_kept = λ p l. k.other p (λ j h. omega (arith, (F.kept done).answers_open.fits)) ∙ F.spared.answers_kept p l;
  }

-- ---- put aside and given back

module _ {calls answers bytes calls₁ answers₁ : List ℕ} {n m : ℕ} (h : Handed calls n answers m) (places most : ℕ)
    (rooms : places ≡ call_room calls) (mosts : most ≡ answer_room answers) (c : CallsStowed places n calls calls₁ bytes) (a : Stowed most m answers answers₁) where
  call_rooms : call_room calls₁ ≡ places
  call_rooms = omega (arith, rooms, c.long)

  answer_rooms : answer_room answers₁ ≡ most
  answer_rooms = omega (arith, mosts, a.long)

  pub put_aside : n ≤ length bytes → Aside bytes calls₁ n answers₁ m
  put_aside b = record {
    calls_few = omega (arith, h.calls_few, rooms, call_rooms);
    bytes_long = b;
    answers_few = omega (arith, h.answers_few, mosts, answer_rooms);
    of_calls = λ x l. subst (λ (k : ℕ). (stowed_answers k answers₁ m).call x < n) (sym answer_rooms) (omega (arith, (a.alike x l).call, h.of_calls x l));
  }

  module _ {rows rows₂ calls₂ answers₂ : List ℕ} (s : Spared rows calls₁ answers₁ rows₂ calls₂ answers₂) where
    pub answers_back : {answers₃ : List ℕ} → Unstowed most m answers₂ answers₃ → answers₃ ≡ answers
    answers_back u = unstowed_same (stowed_kept a s.answers_long (λ p l. s.answers_kept p (omega (arith, answer_rooms)))) u h.answers_past

    pub calls_back : {calls₃ : List ℕ} → CallsUnstowed places n calls₂ bytes calls₃ → calls₃ ≡ calls
    calls_back u = calls_unstowed_same c s.calls_long (λ i l. s.calls_kept (places + i) (omega (arith, call_rooms))) u h.calls_past

  -- What is found of the tables put aside is found of the tables.
  pub compared_plain : {bodies : Bodies} {roots : List (ℕ × State)} {full same : Bool} {k j : ℕ}
      → Compared bodies roots (call_room calls₁) (answer_room answers₁) (stowed_tables (call_room calls₁) calls₁ bytes n (answer_room answers₁) answers₁ m) full k j same
      → Compared bodies roots (call_room calls) (answer_room answers) (plain_tables calls n answers m) full k j same
  compared_plain {same = same} = rw (call_rooms, answer_rooms, ← rooms, ← mosts) (λ C. record {
    outgrown = C.outgrown;
    found = λ z. (let (e, W, x, y, w) = C.found z in (e, W, x, y, tells_alike e same (stowed_rows places most c a h.of_calls) w));
  })
