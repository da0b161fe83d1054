-- `Kind::of` meets its contract, mark by mark. Assumes nothing.
use Rattle.std.proofs.Common.{arith}
use borrow.Author.Tests.{ne_eqb}
use Rattle.chars.specs.Places.{byte_at}
use Rattle.fields.proofs.names.Kind.of.Goals as goal

pub returns-in-63 : goal.returns-in-63
unfolding byte_at
returns-in-63 c = rw c.in-63.is

pub returns-in-43 : goal.returns-in-43
unfolding byte_at
returns-in-43 c = rw c.in-43.is

pub returns-in-45 : goal.returns-in-45
unfolding byte_at
returns-in-45 c = rw c.in-45.is

pub returns-in-33 : goal.returns-in-33
unfolding byte_at
returns-in-33 c = rw c.in-33.is

pub returns-in-126 : goal.returns-in-126
unfolding byte_at
returns-in-126 c = rw c.in-126.is

pub returns-in_default : goal.returns-in_default
unfolding byte_at
returns-in_default c =
    let m = c.args.mark in
    rw (ne_eqb 63 m (λ e. omega arith), ne_eqb 43 m (λ e. omega arith), ne_eqb 45 m (λ e. omega arith), ne_eqb 33 m (λ e. omega arith), ne_eqb 126 m (λ e. omega arith))
