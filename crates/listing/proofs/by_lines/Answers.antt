use Rattle.listing.proofs.ListingLaws.{lines_listed}
use Rattle.listing.proofs.by_lines.Goals as goal

pub returns-clause-calls_listed : goal.returns-clause-calls_listed
returns-clause-calls_listed c = lines_listed c.args.calls.now c.put_lines.ensures c.sort.ensures c.take_numbers.ensures c.requires.n_in_bounds.2
