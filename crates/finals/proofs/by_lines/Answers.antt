use Rattle.finals.proofs.LineLaws.{sorted_by}
use Rattle.finals.proofs.by_lines.Goals as goal

pub returns-clause-sorted : goal.returns-clause-sorted
returns-clause-sorted c = sorted_by c.put_lines.ensures c.sort.ensures c.take_words.ensures
