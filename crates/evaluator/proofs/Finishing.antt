-- Closed tables of a goal hold exactly its run's calls and answers, and the answers of the goal's call are the run's ends; as they are given they are a
-- finished run's. Assumes nothing.
use Prim.Native.Nat.{ℕ, ◌<◌}
use native.Mathlib.Omega.{arith}
use native.Mathlib.Decide.{dec_lt}
use mathlib.Core.Path.{◌≡◌, refl, sym, ap, ◌∙◌}
use mathlib.Core.List.Memᴰ
use mathlib.Core.List.{List, ◌++◌}
use mathlib.Core.Logic.{◌↔◌, ⊎_elim}
use lib.ListN.{length, drop}
use Rattle.steps.specs.State.{State}
use Rattle.steps.specs.Run.{Run, Goal, Call, Answer, End}
use Rattle.steps.specs.Words.{run_of}
use Rattle.steps.specs.Counting.{Exactly}
use Rattle.steps.proofs.AcceptanceLaws.{AcceptedWords}
use Rattle.steps.proofs.Counting.{exactly_map, exactly_long, rising_distinct}
use Rattle.steps.proofs.Rows.{table_exactly, rows_outnumber}
use Rattle.steps.proofs.Exactness.{Exact}
use Rattle.records.specs.Records.{bodies_of, room, call_width, answer_width}
use Rattle.records.specs.Full.{Full}
use Rattle.records.specs.Finished.{Finished, call_rows, answer_rows}
use Rattle.records.specs.Storage.{CallAt, HeldAnswer}
use Rattle.records.proofs.Growth.{Tables, row_once}
use Rattle.records.proofs.Justification.{justified_in}
use Rattle.tabling.proofs.Evidence.{Among, inside_of}
use Rattle.tabling.proofs.Adding.{calls_apart, answers_apart}
use Rattle.records.proofs.Numbers.{proper_of}
use Rattle.tabling.proofs.Closed.{Whole}
use Rattle.tabling.proofs.Closed.{C, A, exact_of}
use Rattle.invariants.proofs.Tabulated.{KeptTables, in_tables}
use Rattle.tabling.proofs.RunTables.{the_root, exact_run}
use Rattle.finals.specs.Finals.{finals_below, FinalsListed, CallFinals}
use Rattle.finals.proofs.FinalsLaws.{finals_exactly}

module _ {fluents actions : ℕ} (rules goal : List ℕ) (start : State) (acc : AcceptedWords fluents actions rules goal) where
  abbrev run : Run
  run = run_of rules goal start

  -- ---- any tables, in whatever words
  module _ (t : Tables) (R : Whole (bodies_of rules goal) (Among (the_root rules goal start acc)) 0 t) where
    exact : Exact run (C t) (A t)
    exact = exact_run rules goal start acc (exact_of (bodies_of rules goal) (Among (the_root rules goal start acc)) (proper_of rules goal acc) t R)

    -- answer record x of call record i, which holds (a, D)
    held_answer : {a : ℕ} {D D' : State} (x : ℕ) → x < t.answers.count → t.calls.action (t.answers.call x) ≡ a → t.calls.state (t.answers.call x) ≡ D → t.answers.final x ≡ D' → A t a D D'
    held_answer x l e f g = (x, record { below = l; action = e; state = f }, g)

    pub calls_exactly : Exactly (Call run) (call_rows t.calls)
    calls_exactly = table_exactly _ (Call run) t.calls.count (calls_apart R.valid) (λ i l. (exact.calls _ _).0 (i, l, record { has_action = refl; has_state = refl }))
        (λ (a, D) c. let (i, l, h) = (exact.calls a D).1 c in (i, l, λ k. (sym h.has_action k, sym h.has_state k)))

    pub answers_exactly : Exactly (Answer run) (answer_rows t.calls t.answers)
    answers_exactly = table_exactly _ (Answer run) t.answers.count (answers_apart R.valid) (λ x l. (exact.answers _ _ _).0 (held_answer x l refl refl refl))
        (λ (a, D, D') c. let (x, o, f) = (exact.answers a D D').1 c in (x, o.below, λ k. (sym o.action k, sym o.state k, sym f k)))

    -- the answers of the goal's call record are the ends
    goal_ends : (row : ℕ) → row < t.calls.count → CallAt t.calls row Goal start → (D : State) → HeldAnswer t.answers row D ↔ End run D
    goal_ends row l k D = (
      λ (x, h, a). (exact.ends D).0 (held_answer x h (ap t.calls.action a.has_call ∙ k.has_action) (ap t.calls.state a.has_call ∙ k.has_state) a.has_final),
      λ d. let (x, o, f) = (exact.ends D).1 d in
          (x, o.below, record { has_call = row_once t.calls R.valid.calls_once _ row Goal start (inside_of R.valid x o.below) l (record { has_action = o.action; has_state = o.state }) k; has_final = f }),
    )

    -- ---- what is found of the goal's call
    module _ {k : ℕ} {list list' : List ℕ} (found : CallFinals t.calls t.answers Goal start k list list') where
      -- the record found is the goal's
      goal_row : (found.row < t.calls.count) × CallAt t.calls found.row Goal start
      goal_row =
          let (i, l, c) = R.valid.roots Goal start (Memᴰ.head refl) in
          elim (dec_lt found.row t.calls.count) [ yes h ↦ (h, found.sought.found h) | no j ↦ absurd (found.sought.absent (omega arith) i l c) ]

      held_ends : (D : State) → HeldAnswer t.answers found.row D ↔ End run D
      held_ends = goal_ends found.row goal_row.0 goal_row.1

      -- Those that are counted are the ends,
      pub found_ends : Exactly (End run) (finals_below t.answers found.row t.answers.count)
      found_ends = exactly_map held_ends (finals_exactly t.answers found.row R.valid.answers_once)

      -- and so are those that are listed.
      module _ (L : FinalsListed t.answers found.row list list') where
        pub listed_ends : Exactly (End run) L.finals
        listed_ends = exactly_map held_ends (record { once = rising_distinct L.rising; members = L.members })

        pub listed_many : length L.finals ≡ k
        listed_many = exactly_long listed_ends found_ends ∙ sym found.counted

        pub listed_words : list' ≡ L.finals ++ drop k list
        listed_words = L.is ∙ ap (λ (j : ℕ). L.finals ++ drop j list) listed_many

  -- ---- the tables as they are given
  module _ (calls : List ℕ) (n : ℕ) (answers : List ℕ) (m : ℕ) (kept : KeptTables calls n answers m)
      (R : Whole (bodies_of rules goal) (Among (the_root rules goal start acc)) 0 (in_tables calls n answers m)) where
    pub finished : Finished rules goal start calls answers n m
    finished = record {
      calls_held = calls_exactly (in_tables calls n answers m) R;
      answers_held = answers_exactly (in_tables calls n answers m) R;
      justified = λ x l. justified_in (proper_of rules goal acc) (R.valid.justified x l);
      calls_past = kept.calls_stored.past;
      answers_past = kept.answers_stored.past;
    }

    -- they fit
    pub not_full : ¬ Full run (length calls) (length answers)
    not_full f = ⊎_elim
        (λ o. omega (arith, (rows_outnumber _ n finished.calls_held (room call_width (length calls))).0 o, kept.calls_stored.fits, kept.calls_stored.most))
        (λ o. omega (arith, (rows_outnumber _ m finished.answers_held (room answer_width (length answers))).0 o, kept.answers_stored.fits, kept.answers_stored.most))
        f
