-- Each rule before this one has 18 words or more.
use Rattle.std.proofs.Common.{◌+◌, ◌*◌, ◌≤◌, vec_len}
use Rattle.print.proofs.books.book.Given as goal

abbrev pub invariant-loop-head : goal.invariant-loop-head
invariant-loop-head l = 18 * l.head-index ≤ vec_len l.words

-- Each turn adds a word.
abbrev pub invariant-loop : goal.invariant-loop
invariant-loop l = vec_len l.initial.words + l.counter ≤ vec_len l.words + l.initial.counter
