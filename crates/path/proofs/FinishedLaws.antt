-- Tables of a finished run of accepted words, their calls' rounds not over the last that there can be, meet no fault of the path. Assumes nothing.
use Prim.Native.Nat.{ℕ, ◌<◌, ◌≤◌}
use mathlib.Core.Path.{◌≡◌, sym}
use mathlib.Core.Bool.{false}
use mathlib.Core.List.{List}
use mathlib.Core.Logic.{◌≢◌, inl, inr}
use Rattle.refusals.specs.Path.{path_refusals}
use Rattle.steps.specs.State.{State}
use Rattle.steps.specs.Run.{Call}
use Rattle.steps.specs.Words.{run_of}
use Rattle.steps.specs.Acceptance as accepting
use Rattle.steps.proofs.AcceptanceLaws.{start_accepted, accepted_calls, words_accepted}
use Rattle.steps.proofs.Rows.{row_is}
use Rattle.records.specs.Finished.{Finished}
use Rattle.checks.specs.Checks.{last_round, over_room}
use Rattle.checks.proofs.RecordLaws.{Proper, never_bad}
use Rattle.path.specs.Answered.{Handed, call_records, answer_records, bodies, fault, path_refusal}
use Rattle.path.proofs.OutcomeLaws.{not_right, never_42}

module _ (l : Handed) (start : State) (ok : accepting.refusal_of l.fluents l.actions l.rules l.goal start ≡ 0)
    (F : Finished l.rules l.goal start l.calls l.answers l.call_count l.answer_count)
    (rounds : (i : ℕ) → i < l.call_count → (call_records l).round i ≤ last_round) where
  of_call : (i : ℕ) → i < l.call_count → Call (run_of l.rules l.goal start) ((call_records l).action i, (call_records l).state i) → Proper l.fluents l.actions (call_records l) i
  of_call i h (inl (a, s)) = record { action = inl a; state = rw s (start_accepted l.fluents l.actions l.rules l.goal start ok).1; round = rounds i h }
  of_call i h (inr c) =
      let (a, s) = accepted_calls l.fluents l.actions l.rules l.goal start ok ((call_records l).action i) ((call_records l).state i) c in
      record { action = inr a; state = s; round = rounds i h }

  proper : (i : ℕ) → i < l.call_count → Proper l.fluents l.actions (call_records l) i
  proper i h = of_call i h (row_is _ _ F.calls_held i h)

  pub finished_never_42 : (x : ℕ) (list : List ℕ) → path_refusal l x list ≢ path_refusals.bad_record
  finished_never_42 x list = never_42 l x list proper F.justified

  pub finished_sound : over_room l.calls l.call_count l.answers l.answer_count ≡ false → (x : ℕ) → x < l.answer_count → fault l x ≡ 0
  finished_sound fits x h =
      sym (not_right l x (words_accepted l.fluents l.actions l.rules l.goal start ok) fits false h
      (never_bad l.fluents l.actions (bodies l) (call_records l) (answer_records l) proper F.justified))
