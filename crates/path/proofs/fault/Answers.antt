-- `fault` meets its contract: the tests in the table's order. Assumes nothing.
use mathlib.Core.Path.{sym, ◌∙◌}
use Rattle.std.proofs.lemmas.Result.{err_from_is_err_and}
use Rattle.refusals.proofs.Numbers.{number-not_zero}
use Rattle.path.specs.Answered.{handed}
use Rattle.path.proofs.OutcomeLaws.{bad_words, over_rooms, not_below, not_right}
use Rattle.path.proofs.fault.Goals as goal

pub returns-in_err-words_refusal : goal.returns-in_err-words_refusal
returns-in_err-words_refusal c =
    let a = c.args in
    let l = handed a.fluents a.actions a.rules.now a.goal.now a.calls.now a.call_count a.answers.now a.answer_count in
    let p = err_from_is_err_and c.from_residual.result c.from_residual.ensures.1 in
    rw (p.1, p.2) (c.in_err-words_refusal.ensures ∙ bad_words l a.asked (λ z. number-not_zero _ (c.in_err-words_refusal.ensures ∙ z)))

pub returns-then-over_room : goal.returns-then-over_room
returns-then-over_room c =
    let a = c.args in
    let l = handed a.fluents a.actions a.rules.now a.goal.now a.calls.now a.call_count a.answers.now a.answer_count in
    over_rooms l a.asked (sym c.in_ok-words_refusal.ensures) (sym c.over_room.ensures ∙ c.if-over_room.true)

pub returns-then-answer_count-asked : goal.returns-then-answer_count-asked
returns-then-answer_count-asked c =
    let a = c.args in
    let l = handed a.fluents a.actions a.rules.now a.goal.now a.calls.now a.call_count a.answers.now a.answer_count in
    not_below l a.asked (sym c.in_ok-words_refusal.ensures) (sym c.over_room.ensures ∙ c.if-over_room.false) c.if-answer_count-asked.true

pub bad_records-requires : goal.bad_records-requires
bad_records-requires c = (sym c.in_ok-words_refusal.ensures, sym c.over_room.ensures ∙ c.if-over_room.false)

pub returns-then-bad_records : goal.returns-then-bad_records
returns-then-bad_records c =
    let a = c.args in
    let l = handed a.fluents a.actions a.rules.now a.goal.now a.calls.now a.call_count a.answers.now a.answer_count in
    not_right l a.asked (sym c.in_ok-words_refusal.ensures) (sym c.over_room.ensures ∙ c.if-over_room.false) _ c.if-answer_count-asked.false (sym c.bad_records.ensures ∙ c.if-bad_records.true)

pub returns : goal.returns
returns c =
    let a = c.args in
    let l = handed a.fluents a.actions a.rules.now a.goal.now a.calls.now a.call_count a.answers.now a.answer_count in
    not_right l a.asked (sym c.in_ok-words_refusal.ensures) (sym c.over_room.ensures ∙ c.if-over_room.false) _ c.if-answer_count-asked.false (sym c.bad_records.ensures ∙ c.if-bad_records.false)
