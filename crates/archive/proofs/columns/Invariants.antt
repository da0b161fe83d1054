-- `columns` meets its contract: the columns passed are written, the words past them are as they were. Assumes nothing.
use mathlib.Core.Path.{◌≡◌}
use mathlib.Core.List.{◌++◌}
use lib.ListN.{drop}
use Rattle.archive.specs.Archive.{columns}
use Rattle.archive.proofs.columns.Given as goal

abbrev pub invariant-loop-j : goal.invariant-loop-j
invariant-loop-j l = l.word-items ≡ columns l.size l.m l.j l.list ++ drop l.j l.initial.word-items
