-- Closed tables of a goal, and what was found of its call, say how its run comes out. Assumes nothing.
use Prim.Native.Nat.{ℕ, ◌≤◌}
use native.Mathlib.Omega.{arith}
use native.Mathlib.Decide.{dec_lt}
use mathlib.Core.Path.{◌≡◌, refl, sym}
use mathlib.Core.Bool.{false}
use mathlib.Core.List.{List}
use mathlib.Core.Logic.{⊎_map, ⊎_elim}
use lib.ListN.{length}
use Rattle.steps.specs.State.{State}
use Rattle.steps.specs.Run.{Run, Goal, End}
use Rattle.steps.specs.Words.{run_of}
use Rattle.steps.specs.Counting.{Exactly}
use Rattle.steps.proofs.AcceptanceLaws.{AcceptedWords}
use Rattle.steps.proofs.Rows.{rows_length, rows_outnumber}
use Rattle.records.specs.Records.{bodies_of, call_table}
use Rattle.records.proofs.Growth.{Tables, tables}
use Rattle.records.proofs.Numbers.{proper_of}
use Rattle.desk.specs.Desk.{open_calls, packed_answers, CallsClosed}
use Rattle.tabling.proofs.Evidence.{Among}
use Rattle.tabling.proofs.Adding.{Outgrown}
use Rattle.tabling.proofs.Closed.{Whole}
use Rattle.tabling.proofs.Rewritten.{Rewritten, whole_same}
use Rattle.tabling.proofs.RunTables.{the_root, outgrown_run}
use Rattle.finals.specs.Finals.{CallFinals}
use Rattle.evaluator.proofs.Finishing.{calls_exactly, answers_exactly, found_ends, listed_ends, listed_many, listed_words}
use Rattle.sharing.specs.Parties.{Account}
use Rattle.sharing.specs.Charged.{Exceeds}
use Rattle.sharing.proofs.Union.{outnumbers_less}
use Rattle.alone.specs.Alone.{Within, RanAlone, short, listed}

-- The call records are given, the answers still packed: the same records.
given : (rows answers : List ℕ) {rows' : List ℕ} (n m : ℕ) → CallsClosed rows n rows'
    → Rewritten (tables (open_calls rows n) (packed_answers answers m)) (tables (call_table rows' n) (packed_answers answers m))
given rows answers n m c = record {
  calls_count = refl;
  answers_count = refl;
  calls = λ i l. record { action = c.actions i l; state = c.states i l; round = c.rounds i l };
  answers = λ x l. record { call = refl; final = refl; rule = refl; evidence = λ q h. refl; round = refl };
}

module _ {fluents actions : ℕ} (rules goal : List ℕ) (start : State) (acc : AcceptedWords fluents actions rules goal) (limits : Account) where
  abbrev run : Run
  run = run_of rules goal start

  abbrev Full : Tables → Type 0
  Full t = Whole (bodies_of rules goal) (Among (the_root rules goal start acc)) 0 t

  -- More than there are places for exceeds limits that are not over the places.
  pub outgrown_exceeds : {n m : ℕ} → limits.call_limit ≤ n → limits.answer_limit ≤ m → Outgrown (bodies_of rules goal) (Among (the_root rules goal start acc)) n m → Exceeds run limits
  outgrown_exceeds {n} {m} l k o = ⊎_map (outnumbers_less l) (outnumbers_less k) (outgrown_run rules goal start acc n m o)

  module _ (t : Tables) (W : Full t) where
    -- Both counts are within their limits.
    module _ (few : t.calls.count ≤ limits.call_limit) (few' : t.answers.count ≤ limits.answer_limit) where
      fits : ¬ Exceeds run limits
      fits x = ⊎_elim
          (λ o. omega (arith, (rows_outnumber _ t.calls.count (calls_exactly rules goal start acc t W) limits.call_limit).0 o))
          (λ o. omega (arith, (rows_outnumber _ t.answers.count (answers_exactly rules goal start acc t W) limits.answer_limit).0 o))
          x

      within : {e : ℕ} (ends : List State) → Exactly (End run) ends → e ≡ length ends → Within run limits e t.calls.count t.answers.count
      within ends x z = record {
        fits = fits;
        calls = _;
        calls_all = calls_exactly rules goal start acc t W;
        calls_many = sym (rows_length _ t.calls.count);
        answers = _;
        answers_all = answers_exactly rules goal start acc t W;
        answers_many = sym (rows_length _ t.answers.count);
        ends = ends;
        ends_all = x;
        ends_many = z;
      }

      -- What is found of the goal's call are its ends.
      pub ends_told : {e : ℕ} {list list' : List ℕ} → CallFinals t.calls t.answers Goal start e list list'
          → RanAlone run limits false e t.calls.count t.answers.count list list'
      unfolding within
      ends_told {e} {list} found = elim (dec_lt (length list) e) [
        | yes h ↦ short refl (within _ (found_ends rules goal start acc t W found) found.counted) h (found.short h)
        | no h ↦
            let L = found.listed (omega arith) in
            listed refl (within L.finals (listed_ends rules goal start acc t W found L) (sym (listed_many rules goal start acc t W found L))) (omega arith) L.rising
            (listed_words rules goal start acc t W found L)
      ]

  -- The same where the tables are a run's, with the call records given.
  pub given_full : (rows answers : List ℕ) {rows' : List ℕ} (n m : ℕ) → CallsClosed rows n rows' → Full (tables (open_calls rows n) (packed_answers answers m))
      → Full (tables (call_table rows' n) (packed_answers answers m))
  given_full rows answers n m c W = whole_same (given rows answers n m c) (proper_of rules goal acc) W
