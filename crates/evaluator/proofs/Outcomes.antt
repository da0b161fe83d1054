-- How an evaluation comes out, from what filling the tables leaves. Assumes nothing.
use Prim.Native.Nat.{ℕ, ◌+◌, ◌<◌, ◌≤◌}
use native.Mathlib.Omega.{arith}
use mathlib.Core.Path.{◌≡◌, refl, sym, ap, ◌∙◌}
use mathlib.Core.Bool.{Bool, true, false}
use mathlib.Core.List.{List, [], ◌∷◌}
use lib.ListN.{length}
use Rattle.refusals.specs.Run.{run_refusals}
use Rattle.steps.specs.Run.{Goal, End}
use Rattle.steps.specs.Counting.{Exactly}
use Rattle.steps.proofs.AcceptanceLaws.{AcceptedWords, start_accepted}
use Rattle.steps.specs.State.{State}
use Rattle.steps.proofs.EachBelow.{true_not_false}
use Rattle.records.specs.Records.{Calls, Answers, bodies_of, room, call_table, answer_table, call_width, answer_width}
use Rattle.records.specs.Full.{Full}
use Rattle.records.specs.Storage.{Stored, CallAt, CallPut, call_stood, call_added, call_no_room}
use Rattle.records.proofs.Growth.{Tables, tables}
use Rattle.tabling.proofs.Evidence.{Among}
use Rattle.tabling.proofs.Closed.{Whole}
use Rattle.tabling.proofs.RunTables.{outgrown_run}
use Rattle.invariants.proofs.Tabulated.{Tabulated, in_tables}
use Rattle.canonical.specs.Rows.{call_words, answer_words, filled}
use Rattle.canonical.proofs.Beginning.{Begins}
use Rattle.canonical.proofs.Words.{Worded, over_words}
use Rattle.canonical.proofs.AfterRounds.{calls_once}
use Rattle.canonical.proofs.CodeRounds.{over_rows}
use Rattle.canonical.specs.CallList.{call_list}
use Rattle.records.proofs.Numbers.{proper_of}
use Rattle.finals.specs.Finals.{CallFinals}
use Rattle.listing.specs.Listing.{CallsListed}
use Rattle.evaluator.specs.Evaluated.{Asked, Lent, lent, told, refused_with, run_asked, CallListShort, rows_asked, buffers_after, Tabled, Evaluated, short_list, ends_listed}
use Rattle.evaluator.proofs.CallNumbers.{listed_is}
use Rattle.evaluator.proofs.Finishing.{finished, not_full, found_ends, listed_ends, listed_many, listed_words}

-- the goal's call, put into empty tables, stands alone
pub first_begins : {start : State} (places : ℕ) (calls calls' : Calls) (answers : Answers) (row : ℕ) (full : Bool) → CallPut places calls Goal start 0 calls' row full → full ≡ false
    → calls.count ≡ 0 → answers.count ≡ 0 → Begins start (tables calls' answers)
first_begins places calls calls' answers row full (call_stood f l k z) e n m = absurd (omega arith)
first_begins places calls calls' answers row full (call_no_room f i none z) e n m = absurd (true_not_false (sym f ∙ e))
first_begins {start} places calls calls' answers row full (call_added f i l none p) e n m =
    let at : CallAt calls' 0 Goal start = rw n at p.new in
    record { one = p.count ∙ ap (λ (k : ℕ). k + 1) n; none = m; action_is = at.has_action; state_is = at.has_state; round_is = rw n at p.new_round }

-- the records of a table fit a list of its room
pub listed_fits : {calls : List ℕ} {n len : ℕ} → Stored call_width calls n → ¬ (len < room call_width (length calls)) → n ≤ len
listed_fits s k = omega (arith, s.fits, s.most)

module _ (q : Asked) (before : Lent) (ok : refused_with q ≡ 0) (long : ¬ CallListShort before) {calls₀ answers₀ : List ℕ} (cl : length calls₀ ≡ length before.calls) (al : length answers₀ ≡ length before.answers)
    {calls answers list : List ℕ} {full : Bool} {n m rounds : ℕ} {b₀ : Tables} (B : full ≡ false → Begins q.start b₀)
    (F : Tabulated q.rules q.goal ((Goal, q.start) ∷ []) 0 b₀ calls₀ answers₀ calls answers full n m rounds)
    (N : full ≡ false → CallsListed (call_table calls n) (length before.list) list) where
  acc : AcceptedWords q.fluents q.actions q.rules q.goal
  acc = (start_accepted q.fluents q.actions q.rules q.goal q.start ok).0

  -- 30
  pub is_full : full ≡ true → Full (run_asked q) (length before.calls) (length before.answers)
  is_full e = rw (cl, al) at (outgrown_run q.rules q.goal q.start acc (room call_width (length calls₀)) (room answer_width (length answers₀)) (F.outgrown e))

  module _ (e : full ≡ false) where
    pub whole : Whole (bodies_of q.rules q.goal) (Among ((Goal, q.start) ∷ [])) 0 (in_tables calls n answers m)
    whole = F.closed e

    fits : ¬ Full (run_asked q) (length before.calls) (length before.answers)
    fits f = not_full q.rules q.goal q.start acc calls n answers m (F.kept e) whole (rw (← cl, ← al, ← F.calls_long, ← F.answers_long) at f)

    -- the words of the tables
    worded : Worded q.rules q.goal q.start calls answers n m rounds
    worded = over_words q.rules q.goal calls n answers m (proper_of q.rules q.goal acc) whole.valid q.start acc.few_rules (F.kept e).calls_stored (F.kept e).answers_stored (B e) (F.rounded e refl)

    -- the list of calls
    listed : list ≡ filled (length before.list) (call_list (rows_asked q rounds).calls)
    listed = listed_is (bodies_of q.rules q.goal) (in_tables calls n answers m)
        (listed_fits (F.kept e).calls_stored (λ h. long (rw (F.calls_long, cl) at h)))
        (N e) (over_rows q.rules q.goal acc.few_rules q.start (B e) (F.rounded e refl)).1 (calls_once q.rules q.goal acc.few_rules q.start rounds)

    pub words_are : (ends : List ℕ) → lent calls answers ends list ≡ buffers_after q rounds before ends
    words_are ends k = lent
        ((worded.calls_are ∙ ap (λ (l : ℕ). filled l (call_words (rows_asked q rounds).calls)) (F.calls_long ∙ cl)) k)
        ((worded.answers_are ∙ ap (λ (l : ℕ). filled l (answer_words (rows_asked q rounds).answers)) (F.answers_long ∙ al)) k)
        ends
        (listed k)

    -- the finished tables, whatever the refusal and the list of ends
    ran : (given ends : List ℕ) (refusal k : ℕ) → Exactly (End (run_asked q)) ends → length ends ≡ k → Tabled q before (lent calls answers given list) (told refusal k n m rounds)
    ran given ends refusal k x z = record {
      accepted = ok;
      listed = long;
      fits = fits;
      calls_long = F.calls_long ∙ cl;
      answers_long = F.answers_long ∙ al;
      list_long = (N e).long;
      settled = worded.settled;
      calls_many = worded.calls_many;
      answers_many = worded.answers_many;
      few = worded.few;
      finished = finished q.rules q.goal q.start acc calls n answers m (F.kept e) whole;
      ends = ends;
      exactly = x;
      counted = z;
    }

    module _ {k : ℕ} {ends : List ℕ} (found : CallFinals (call_table calls n) (answer_table answers m) Goal q.start k before.ends ends) where
      abbrev t : Tables
      t = in_tables calls n answers m

      -- 31
      pub is_short : length before.ends < k → Evaluated q before (lent calls answers ends list) (told run_refusals.list_short k n m rounds)
      is_short l = short_list refl (ran ends _ run_refusals.list_short k (found_ends q.rules q.goal q.start acc t whole found) (sym found.counted)) l
          (words_are ends ∙ ap (buffers_after q rounds before) (found.short l))

      -- no refusal
      pub is_listed : k ≤ length before.ends → Evaluated q before (lent calls answers ends list) (told 0 k n m rounds)
      unfolding ran
      is_listed l =
          let L = found.listed l in
          let x = listed_ends q.rules q.goal q.start acc t whole found L in
          let c = listed_many q.rules q.goal q.start acc t whole found L in
          ends_listed refl (ran ends L.finals 0 k x c) l L.rising
          (words_are ends ∙ ap (buffers_after q rounds before) (listed_words q.rules q.goal q.start acc t whole found L))
