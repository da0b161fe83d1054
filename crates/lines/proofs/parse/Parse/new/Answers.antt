-- `Parse::new` meets its contract: nothing is said before the first line. Assumes nothing.
use Rattle.lines.specs.Kept.{rules_in}
use Rattle.lines.proofs.parse.Parse.new.Goals as goal

pub returns : goal.returns
unfolding rules_in
returns c = λ words. rw (c.new.ensures.words, c.new-2.ensures)
