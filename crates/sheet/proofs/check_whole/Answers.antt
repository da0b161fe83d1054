-- `check_whole` meets its contract: the tests of the whole sheet, in their order. Assumes nothing.
use Rattle.std.proofs.Common.{sym, ◌∙◌, ◌-◌, length, get_or}
use borrow.Author.Tests.{lt-leb, le-leb, eq-eqb, ne_eqb}
use Rattle.lines.specs.Reader.{whole_sheet, ended}
use Rattle.sheet.proofs.check_whole.Goals as goal
use Rattle.sheet.proofs.check_whole.Goals.{else-not-is_empty-via-then-not-is_empty+else-s-ne10, else-not-is_empty-via-else-not-is_empty}

pub returns-then-s-gt65536 : goal.returns-then-s-gt65536
unfolding whole_sheet
returns-then-s-gt65536 c = rw (lt-leb (length c.args.s.now) 65536 c.if-s-gt65536.true)

pub returns-then-not-is_clean : goal.returns-then-not-is_clean
unfolding whole_sheet
returns-then-not-is_clean c =
    rw (le-leb (length c.args.s.now) 65536 c.if-s-gt65536.false, sym c.is_clean.ensures ∙ c.if-not-is_clean.true)

pub returns-then-s-ne10 : goal.returns-then-s-ne10
unfolding whole_sheet ended
returns-then-s-ne10 c =
    let s = c.args.s.now in
    let e = sym c.is_empty.ensures ∙ c.if-not-is_empty.true in
    rw (le-leb (length s) 65536 c.if-s-gt65536.false, sym c.is_clean.ensures ∙ c.if-not-is_clean.false, e, ne_eqb (get_or s (length s - 1) 0) 10 c.if-s-ne10.true)

pub returns : goal.returns
unfolding whole_sheet ended
returns c =
    let s = c.args.s.now in
    let a = le-leb (length s) 65536 c.if-s-gt65536.false in
    let t = sym c.is_clean.ensures ∙ c.if-not-is_clean.false in
    elim c.else-not-is_empty.branch [
      | else-not-is_empty-via-then-not-is_empty+else-s-ne10 w ↦
          rw (a, t, sym c.is_empty.ensures ∙ w.if-not-is_empty.true, eq-eqb (get_or s (length s - 1) 0) 10 w.if-s-ne10.false)
      | else-not-is_empty-via-else-not-is_empty w ↦ rw (a, t, sym c.is_empty.ensures ∙ w.if-not-is_empty.false)
    ]
