-- `good_call` meets its contract, by the record's kind. Assumes nothing.
use mathlib.Core.Path.{sym, ◌∙◌}
use Rattle.checks.proofs.RecordLaws.{by_round, bad_row}
use Rattle.checks.proofs.tables.good_call.Goals as goal

pub good_row-requires : goal.good_row-requires
good_row-requires c = rw c.if-plain.true at c.requires

pub returns-then-plain : goal.returns-then-plain
returns-then-plain c n = rw c.if-plain.true (c.good_row.ensures n)

pub good_row-requires-2 : goal.good_row-requires-2
good_row-requires-2 c = rw c.if-plain.false at c.requires

pub round_of-requires : goal.round_of-requires
round_of-requires c = rw c.if-plain.false at c.requires

pub returns-then-good_row : goal.returns-then-good_row
returns-then-good_row c n = rw (c.if-plain.false, c.round_of.ensures) (by_round _ _ _ _ (sym (c.good_row-2.ensures n) ∙ c.if-good_row.true))

pub returns : goal.returns
returns c n = rw c.if-plain.false (bad_row _ _ _ _ (sym (c.good_row-2.ensures n) ∙ c.if-good_row.false))
