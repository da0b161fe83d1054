-- `column` meets its contract: from the last word down, `word` is the column of the words passed. Assumes nothing.
use mathlib.Core.Path.{◌≡◌}
use lib.ListN.{drop}
use Rattle.archive.specs.Archive.{column}
use Rattle.archive.proofs.column.Given as goal

abbrev pub invariant-loop-i : goal.invariant-loop-i
invariant-loop-i l = l.word ≡ column l.k (drop l.i l.words)
