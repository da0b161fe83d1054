-- `Word::of` meets its contract: the words in their row. Assumes nothing.
use Rattle.std.proofs.Common.{sym, ◌∙◌}
use Rattle.lines.specs.Line.{word_of}
use Rattle.lines.proofs.Word.of.Goals as goal

pub returns-then-same_bytes : goal.returns-then-same_bytes
unfolding word_of
returns-then-same_bytes c = rw (sym c.same_bytes.ensures ∙ c.if-same_bytes.true)

pub returns-then-same_bytes-2 : goal.returns-then-same_bytes-2
unfolding word_of
returns-then-same_bytes-2 c = rw (sym c.same_bytes.ensures ∙ c.if-same_bytes.false, sym c.same_bytes-else-same_bytes.ensures ∙ c.if-same_bytes-2.true)

pub returns-then-same_bytes-3 : goal.returns-then-same_bytes-3
unfolding word_of
returns-then-same_bytes-3 c = rw (sym c.same_bytes.ensures ∙ c.if-same_bytes.false, sym c.same_bytes-else-same_bytes.ensures ∙ c.if-same_bytes-2.false, sym c.same_bytes-else-same_bytes-2.ensures ∙ c.if-same_bytes-3.true)

pub returns-then-same_bytes-4 : goal.returns-then-same_bytes-4
unfolding word_of
returns-then-same_bytes-4 c = rw (sym c.same_bytes.ensures ∙ c.if-same_bytes.false, sym c.same_bytes-else-same_bytes.ensures ∙ c.if-same_bytes-2.false, sym c.same_bytes-else-same_bytes-2.ensures ∙ c.if-same_bytes-3.false, sym c.same_bytes-else-same_bytes-3.ensures ∙ c.if-same_bytes-4.true)

pub returns-then-same_bytes-5 : goal.returns-then-same_bytes-5
unfolding word_of
returns-then-same_bytes-5 c = rw (sym c.same_bytes.ensures ∙ c.if-same_bytes.false, sym c.same_bytes-else-same_bytes.ensures ∙ c.if-same_bytes-2.false, sym c.same_bytes-else-same_bytes-2.ensures ∙ c.if-same_bytes-3.false, sym c.same_bytes-else-same_bytes-3.ensures ∙ c.if-same_bytes-4.false, sym c.same_bytes-else-same_bytes-4.ensures ∙ c.if-same_bytes-5.true)

pub returns-else-same_bytes-5 : goal.returns-else-same_bytes-5
unfolding word_of
returns-else-same_bytes-5 c = rw (sym c.same_bytes.ensures ∙ c.if-same_bytes.false, sym c.same_bytes-else-same_bytes.ensures ∙ c.if-same_bytes-2.false, sym c.same_bytes-else-same_bytes-2.ensures ∙ c.if-same_bytes-3.false, sym c.same_bytes-else-same_bytes-3.ensures ∙ c.if-same_bytes-4.false, sym c.same_bytes-else-same_bytes-4.ensures ∙ c.if-same_bytes-5.false)
