-- `write_figures` meets its contract. Assumes nothing.
use lib.ListN.{get_or}
use borrow.Author.Rules.{rules}
use Rattle.report.proofs.Written.{figures_written}
use Rattle.report.proofs.write_figures.Goals as goal

pub returns : goal.returns
returns c =
    let a = c.args in
    figures_written a.fluents (λ k. get_or a.counts.now k 0) a.sum a.lent a.runs a.out.now _ _ _
    c.write_fractions.ensures
    c.write_fraction.ensures
    c.write_fraction-2.ensures
