use Rattle.listing.proofs.ListingLaws.{numbers_listed}
use Rattle.listing.proofs.by_heap.Goals as goal

pub returns : goal.returns
returns c = numbers_listed c.args.calls.now c.number.ensures c.sort.ensures c.requires.2
