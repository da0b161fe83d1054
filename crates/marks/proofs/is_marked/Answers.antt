-- `is_marked` meets its contract. Assumes nothing.
use mathlib.Core.Path.{ap, ◌∙◌}
use Prim.Native.Nat.{ℕ}
use Rattle.steps.specs.State.{holds}
use Rattle.desk.specs.Desk.{mark_words}
use Rattle.marks.proofs.MarksLaws.{marked_by}
use Rattle.marks.proofs.is_marked.Goals as goal

pub returns : goal.returns
returns c =
    let a = c.args in
    marked_by (mark_words a.calls.now) a.walk a.place a.row c.requires.2 _
    (c.holds.ensures ∙ ap (λ (w : ℕ). holds w a.place) (c.of.ensures ∙ c.word_in.ensures))
