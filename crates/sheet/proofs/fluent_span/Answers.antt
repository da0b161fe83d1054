-- `fluent_span` meets its contract, by the outcome of the scan and the count of fluents. Assumes nothing.
use Rattle.std.proofs.Common.{sym, ◌∙◌, ap, arith}
use Rattle.fields.proofs.NamePlaces.{row_length}
use Rattle.lines.specs.Kept.{book_in}
use Rattle.sheet.specs.Inner.{outcome_of}
use Rattle.sheet.proofs.Spans.{span_refused, span_high, span_fluent}
use Rattle.sheet.proofs.fluent_span.Goals as goal

pub returns-then-number-said : goal.returns-then-number-said
returns-then-number-said c =
    let b = c.in-Ok.said in
    let l = row_length b.names.fluents in
    c.name_in.ensures ∙ sym (span_fluent c.args.sheet.now c.args.number (book_in c.scan_sheet.new.words b) (sym c.in-Ok.ensures) (omega (arith, l, c.if-number-said.true)))

pub returns-else-number-said : goal.returns-else-number-said
returns-else-number-said c =
    let b = c.in-Ok.said in
    let l = row_length b.names.fluents in
    sym (span_high c.args.sheet.now c.args.number (book_in c.scan_sheet.new.words b) (sym c.in-Ok.ensures) (omega (arith, l, c.if-number-said.false)))

pub returns-in_default : goal.returns-in_default
returns-in_default c =
    sym (span_refused c.args.sheet.now c.args.number _ _ (sym (ap (outcome_of c.scan_sheet.new.words) (sym c.in_default.is) ∙ c.scan_sheet.ensures)))
