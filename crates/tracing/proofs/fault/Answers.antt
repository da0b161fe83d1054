-- `fault` meets its contract: the tests in the table's order. Assumes nothing.
use native.Mathlib.Omega.{arith}
use mathlib.Core.Path.{refl, sym, ◌∙◌}
use Rattle.accounts.proofs.KeptWords.{calls_placed, answers_placed}
use Rattle.tracing.proofs.TracedLaws.{too_many, not_below, not_right, within, none_refused, short_goals, rows_checked}
use Rattle.tracing.proofs.fault.Goals as goal

pub returns-then-over_rooms : goal.returns-then-over_rooms
returns-then-over_rooms c =
    let a = c.args in
    too_many a.fluents a.actions a.rules.now a.kept.now a.calls.now a.answers.now a.«record» (none_refused a.fluents a.actions a.rules.now a.kept.now a.calls.now a.answers.now c.requires) (sym c.over_rooms.ensures ∙ c.if-over_rooms.true)

pub returns-then-among-record : goal.returns-then-among-record
returns-then-among-record c =
    let a = c.args in
    not_below a.fluents a.actions a.rules.now a.kept.now a.calls.now a.answers.now a.«record» (none_refused a.fluents a.actions a.rules.now a.kept.now a.calls.now a.answers.now c.requires) (sym c.over_rooms.ensures ∙ c.if-over_rooms.false) (omega (arith, answers_placed a.kept.now c.requires.long, c.if-among-record.true))

pub bad_rows-requires : goal.bad_rows-requires
bad_rows-requires c =
    let a = c.args in
    let s = short_goals a.fluents a.actions a.rules.now a.kept.now a.calls.now a.answers.now c.requires in
    let w = within a.fluents a.actions a.rules.now a.kept.now a.calls.now a.answers.now (sym c.over_rooms.ensures ∙ c.if-over_rooms.false) in
    let n = calls_placed a.kept.now c.requires.long in
    let m = answers_placed a.kept.now c.requires.long in
    (s.0, s.1, omega (arith, w.calls_fit, n), omega (arith, w.answers_most, m), omega (arith, w.answers_fit, m))

pub returns-then-bad_rows : goal.returns-then-bad_rows
returns-then-bad_rows c =
    let a = c.args in
    let bad = rows_checked a.fluents a.actions a.rules.now a.kept.now a.calls.now a.answers.now c.requires c.holds.ensures c.holds-2.ensures refl refl c.bad_rows.ensures in
    not_right a.fluents a.actions a.rules.now a.kept.now a.calls.now a.answers.now a.«record» (none_refused a.fluents a.actions a.rules.now a.kept.now a.calls.now a.answers.now c.requires) (sym c.over_rooms.ensures ∙ c.if-over_rooms.false) _ (omega (arith, answers_placed a.kept.now c.requires.long, c.if-among-record.false)) (sym bad ∙ c.if-bad_rows.true)

pub returns : goal.returns
returns c =
    let a = c.args in
    let bad = rows_checked a.fluents a.actions a.rules.now a.kept.now a.calls.now a.answers.now c.requires c.holds.ensures c.holds-2.ensures refl refl c.bad_rows.ensures in
    not_right a.fluents a.actions a.rules.now a.kept.now a.calls.now a.answers.now a.«record» (none_refused a.fluents a.actions a.rules.now a.kept.now a.calls.now a.answers.now c.requires) (sym c.over_rooms.ensures ∙ c.if-over_rooms.false) _ (omega (arith, answers_placed a.kept.now c.requires.long, c.if-among-record.false)) (sym bad ∙ c.if-bad_rows.false)
