-- `Parse::overfull` meets its contract, word by word. Assumes nothing.
use Rattle.std.proofs.Common.{inl, inr}
use borrow.Author.Tests.{le-leb, lt-leb}
use Rattle.fields.proofs.NamePlaces.{row_length}
use Rattle.lines.specs.Line.{overfull}
use Rattle.lines.proofs.Rules.{rules_length}
use Rattle.lines.proofs.parse.Parse.overfull.Goals as goal

pub returns-in-Fluent : goal.returns-in-Fluent
unfolding overfull
returns-in-Fluent c = λ words. rw (c.in-Fluent.is, row_length c.args.self.now.names.fluents)

pub returns-in-Action : goal.returns-in-Action
unfolding overfull
returns-in-Action c = λ words. rw (c.in-Action.is, row_length c.args.self.now.names.actions)

pub returns-then-self-ge256 : goal.returns-then-self-ge256
unfolding overfull
returns-then-self-ge256 c =
    let b = c.args.self.now in
    λ words. rw (c.in-Rule.is, rules_length words b.rules, le-leb 256 b.rules c.if-self-ge256.true)

pub returns-else-self-ge256 : goal.returns-else-self-ge256
unfolding overfull
returns-else-self-ge256 c =
    let b = c.args.self.now in
    λ words. rw (c.in-Rule.is, rules_length words b.rules, lt-leb 256 b.rules c.if-self-ge256.false)

pub returns-in-Goal : goal.returns-in-Goal
unfolding overfull
returns-in-Goal c = λ words. rw c.in-Goal.is

pub returns-in-Start : goal.returns-in-Start
unfolding overfull
returns-in-Start c = λ words. elim c.in-Start.is [ inl e ↦ rw e | inr e ↦ rw e ]
