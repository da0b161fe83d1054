-- What an evaluation leaves in the tables meets no fault of the path, and is never refused with 42. Assumes nothing.
use Prim.Native.Nat.{ℕ, ◌+◌, ◌-◌, ◌*◌, ◌<◌, ◌≤◌}
use native.Mathlib.Omega.{arith}
use mathlib.Core.Path.{◌≡◌, refl, sym, ap, subst, ◌∙◌}
use mathlib.Core.Bool.{false}
use mathlib.Core.List.{List}
use lib.ListN.{get_or, length}
use mathlib.Core.Logic.{◌≢◌}
use borrow.Author.Tests.{le-ltb}
use Rattle.refusals.specs.Run.{run_refusals}
use Rattle.refusals.specs.Path.{path_refusals}
use Rattle.steps.proofs.AcceptanceLaws.{start_accepted}
use Rattle.steps.proofs.Lists.{at_member}
use Rattle.records.specs.Records.{call_table, call_width}
use Rattle.canonical.specs.Rows.{call_at, no_call, call_words}
use Rattle.canonical.proofs.RowWords.{getD_pad, call_round}
use Rattle.canonical.proofs.AfterRounds.{call_rounds}
use Rattle.checks.specs.Checks.{last_round, over_room}
use Rattle.path.specs.Answered as path
use Rattle.path.proofs.OutcomeLaws.{never_42}
use Rattle.path.proofs.FinishedLaws.{finished_sound, finished_never_42}
use Rattle.evaluator.specs.Evaluated.{Evaluated, Asked, Lent, Told, told, refused_with, rows_asked, buffers_after, Tabled, not_accepted, list_of_calls_short, outgrown, short_list, ends_listed}
use Rattle.evaluator.proofs.Determined.{tabled_rooms}

-- What the path is lent after an evaluation: what was asked of it, the tables, and the counts given.
abbrev pub left_by : Asked → Lent → Told → path.Handed
left_by q after r = record { fluents = q.fluents; actions = q.actions; rules = q.rules; goal = q.goal; calls = after.calls; call_count = r.calls; answers = after.answers; answer_count = r.answers }

-- finished tables
within : {q : Asked} {before after : Lent} {r : Told} → Tabled q before after r → over_room after.calls r.calls after.answers r.answers ≡ false
unfolding over_room
within {q} t = let w = tabled_rooms q t in rw (t.calls_long, t.answers_long, le-ltb _ _ w.calls, le-ltb _ _ w.answers) refl

-- a call's round is at most the number of rounds, which is below that of the records
rounds_low : {q : Asked} {before after : Lent} {r : Told} (list : List ℕ) → Tabled q before after r → after ≡ buffers_after q r.rounds before list
    → (i : ℕ) → i < r.calls → (call_table after.calls r.calls).round i ≤ last_round
rounds_low {q} {before} {r = r} list t s i h =
    let few = (start_accepted q.fluents q.actions q.rules q.goal q.start t.accepted).0.few_rules in
    let T = rows_asked q r.rounds in
    let l : i < length T.calls = omega (arith, t.calls_many) in
    let e = ap (λ (k : Lent). get_or k.calls (call_width * i + 2) 0) s ∙ getD_pad (call_words T.calls) (length before.calls - length (call_words T.calls)) (call_width * i + 2) ∙ call_round T.calls i l in
    let w = tabled_rooms q t in
    omega (arith, call_rounds q.rules q.goal few q.start r.rounds (call_at T.calls i) (at_member T.calls i no_call l), e, t.few, w.calls, w.answers)

sound : {q : Asked} {before after : Lent} {r : Told} (list : List ℕ) → Tabled q before after r → after ≡ buffers_after q r.rounds before list → (x : ℕ) → x < r.answers → path.fault (left_by q after r) x ≡ 0
sound {q} {after = after} {r = r} list t s = finished_sound (left_by q after r) q.start t.accepted t.finished (rounds_low list t s) (within t)

-- After whatever evaluation no record number below the count of answers (which is 0 but after 0 or 31) meets a fault of the path, 20 to 42.
pub evaluated_sound : {q : Asked} {before after : Lent} {r : Told} → Evaluated q before after r → (x : ℕ) → x < r.answers → path.fault (left_by q after r) x ≡ 0
evaluated_sound (not_accepted n z u) x h = absurd (omega (arith, ap (λ (r : Told). r.answers) z))
evaluated_sound (list_of_calls_short e h z u) x l = absurd (omega (arith, ap (λ (r : Told). r.answers) z))
evaluated_sound (outgrown e k f z u) x h = absurd (omega (arith, ap (λ (r : Told). r.answers) z))
evaluated_sound (short_list z t l u) x h = sound _ t u x h
evaluated_sound (ends_listed z t l up u) x h = sound _ t u x h

module _ (q : Asked) (after : Lent) (x : ℕ) (list : List ℕ) where
  abbrev Never : Told → Type 0
  Never r = path.path_refusal (left_by q after r) x list ≢ path_refusals.bad_record

  -- no record is counted
  empty : (refusal : ℕ) → Never (told refusal 0 0 0 0)
  empty refusal = never_42 (left_by q after (told refusal 0 0 0 0)) x list (λ i h. absurd (omega arith)) (λ i h. absurd (omega arith))

-- Whatever record is asked for, after whatever evaluation: not 42.
pub evaluated_never_42 : {q : Asked} {before after : Lent} {r : Told} → Evaluated q before after r → (x : ℕ) (list : List ℕ) → path.path_refusal (left_by q after r) x list ≢ path_refusals.bad_record
evaluated_never_42 {q} {after = after} (not_accepted n z u) x list = subst (Never q after x list) (sym z) (empty q after x list (refused_with q))
evaluated_never_42 {q} {after = after} (list_of_calls_short e h z u) x list = subst (Never q after x list) (sym z) (empty q after x list run_refusals.call_list_short)
evaluated_never_42 {q} {after = after} (outgrown e h f z u) x list = subst (Never q after x list) (sym z) (empty q after x list run_refusals.tables_full)
evaluated_never_42 {q} {after = after} {r = r} (short_list z t l u) x list = finished_never_42 (left_by q after r) q.start t.accepted t.finished (rounds_low _ t u) x list
evaluated_never_42 {q} {after = after} {r = r} (ends_listed z t l up u) x list = finished_never_42 (left_by q after r) q.start t.accepted t.finished (rounds_low _ t u) x list
