-- Each record before this one has 20 words or more.
use Rattle.std.proofs.Common.{◌+◌, ◌*◌, ◌≤◌, vec_len}
use Rattle.print.proofs.books.answers.Given as goal

abbrev pub invariant-loop-r : goal.invariant-loop-r
invariant-loop-r l = 20 * l.r-index ≤ vec_len l.words

-- Each turn adds a word.
abbrev pub invariant-loop : goal.invariant-loop
invariant-loop l = vec_len l.initial.words + l.counter ≤ vec_len l.words + l.initial.counter
