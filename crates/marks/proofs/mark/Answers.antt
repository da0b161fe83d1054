-- `mark` meets its contract: the place's bit is clear, so inserting it adds its power of two. Assumes nothing.
use Prim.Native.Nat.{◌+◌, ◌^◌}
use native.Mathlib.Omega.{arith}
use mathlib.Core.Path.{◌≡◌, refl, ◌∙◌}
use borrow.Author.Tests.{lt-ltb}
use Rattle.steps.specs.State.{bit}
use Rattle.desk.specs.Desk.{mark_words}
use Rattle.marks.specs.Marks.{word_in}
use Rattle.marks.proofs.MarksLaws.{word_free, word_fits, put_marked}
use Rattle.marks.proofs.mark.Goals as goal

pub put_marks-requires : goal.put_marks-requires
put_marks-requires c =
    let a = c.args in
    let M = mark_words a.calls.now in
    let free : bit (word_in M a.walk a.row) a.place ≡ 0 = word_free M a.walk a.place a.row c.requires.2 c.requires.3 in
    let e : c.of.result.0 ≡ word_in M a.walk a.row = c.of.ensures ∙ c.word_in.ensures in
    let w : c.insert-word.result.0 ≡ word_in M a.walk a.row + 2 ^ a.place = c.insert-word.ensures ∙ rw (lt-ltb a.place 64 (omega arith), e, free) refl in
    (c.requires.1, omega (arith, w, word_fits M a.walk a.place a.row c.requires.2 c.requires.0.few c.requires.3))

pub returns : goal.returns
returns c =
    let a = c.args in
    let M = mark_words a.calls.now in
    let free : bit (word_in M a.walk a.row) a.place ≡ 0 = word_free M a.walk a.place a.row c.requires.2 c.requires.3 in
    let e : c.of.result.0 ≡ word_in M a.walk a.row = c.of.ensures ∙ c.word_in.ensures in
    let w : c.insert-word.result.0 ≡ word_in M a.walk a.row + 2 ^ a.place = c.insert-word.ensures ∙ rw (lt-ltb a.place 64 (omega arith), e, free) refl in
    record { calls_after = put_marked a.walk a.place c.put_marks.ensures.1 w; marks_alone = c.put_marks.ensures.0 }
