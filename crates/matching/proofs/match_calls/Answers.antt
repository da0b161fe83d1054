use mathlib.Core.Path.{refl, sym}
use Rattle.records.specs.Records.{call_width}
use Rattle.desk.specs.Desk.{open_calls}
use Rattle.matching.specs.Flags.{Kept, RowFound}
use Rattle.matching.specs.Matching.{call_row, stowed_calls, CallsReady}
use Rattle.matching.proofs.Pairs.{found_same}
use Rattle.matching.proofs.FlagLaws.{marked_kept, marked_on, marked_refused}
use Rattle.matching.proofs.RunLaws.{calls_ready_kept, calls_flagged, call_row_kept, row_found}
use Rattle.matching.proofs.match_calls.Goals as goal

pub returns-then-not-mark : goal.returns-then-not-mark
returns-then-not-mark c =
    let l = c.loop-i in
    let e = c.if-not-mark.ensures in (
      (let kept : let a = c.args in
          Kept call_width 2 a.n a.rows.now c.mark.new.words = marked_kept _ _ c.mark.result c.loop-i.invariant.0 c.mark.ensures in kept),
      marked_refused l.i _ (calls_flagged ((let ready : let a = c.args in
          CallsReady c.loop-i.rows a.n a.calls.now a.actions.now a.call_room a.stowed = calls_ready_kept c.loop-i.invariant.0 c.requires.0 in ready))) l.invariant.1 ((let found : let a = c.args in
          RowFound (call_row (stowed_calls a.call_room a.calls.now a.actions.now a.stowed) c.loop-i.i)
          (call_row (open_calls a.rows.now a.n)) a.n c.row_of-row.result = found_same refl (λ j l. sym (call_row_kept c.loop-i.invariant.0 j)) (row_found _ _ _ _ c.row_of-row.ensures.1) in found)) c.loop-i-test.true e,
    )

pub loop-i-preserved : goal.loop-i-preserved
loop-i-preserved c =
    let l = c.loop-i in
    let e = c.if-not-mark.ensures in (
      (let kept : let a = c.args in
          Kept call_width 2 a.n a.rows.now c.mark.new.words = marked_kept _ _ c.mark.result c.loop-i.invariant.0 c.mark.ensures in kept),
      marked_on l.i _ (calls_flagged ((let ready : let a = c.args in
          CallsReady c.loop-i.rows a.n a.calls.now a.actions.now a.call_room a.stowed = calls_ready_kept c.loop-i.invariant.0 c.requires.0 in ready))) l.invariant.1 ((let found : let a = c.args in
          RowFound (call_row (stowed_calls a.call_room a.calls.now a.actions.now a.stowed) c.loop-i.i)
          (call_row (open_calls a.rows.now a.n)) a.n c.row_of-row.result = found_same refl (λ j l. sym (call_row_kept c.loop-i.invariant.0 j)) (row_found _ _ _ _ c.row_of-row.ensures.1) in found)) e,
    )
