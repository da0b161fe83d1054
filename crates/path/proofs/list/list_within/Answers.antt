-- `list_within` meets its contract: the sizes, and by them the path listed as a short one, too long for the list, or as a long one. Assumes nothing.
use Prim.Native.Nat.{suc, ◌<◌}
use native.Mathlib.Omega.{arith}
use mathlib.Core.Path.{◌≡◌, refl}
use borrow.Author.Tests.{lt-ltb}
use lib.ListN.{length}
use Rattle.unfolding.proofs.Walk.{lent, added_by}
use Rattle.unfolding.proofs.Writing.{listed_fewer}
use Rattle.path.proofs.list.list_within.Goals as goal

pub list_short-requires : goal.list_short-requires
list_short-requires c =
    let p = c.requires in
    let sized = c.size_all.ensures in
    let least = c.min-short.ensures in (
      p.0,
      omega (arith, least, p.1),
      omega (arith, least),
      omega (arith, sized.0, p.2.long, p.0.readable.most),
      sized.1,
      omega (arith, c.get.ensures, sized.1.at c.args.asked (omega arith), c.if-get-short.true),
      p.3,
    )

pub returns-then-get-short : goal.returns-then-get-short
returns-then-get-short c =
    let sized = c.size_all.ensures in
    listed_fewer (omega (arith, c.get.ensures, sized.1.at c.args.asked (omega arith), c.if-get-short.true)) (omega (arith, c.min-short.ensures)) c.list_short.ensures

pub returns-then-most-le-SHORT : goal.returns-then-most-le-SHORT
returns-then-most-le-SHORT c =
    let a = c.args in
    let it = lent a.plain a.rules.now a.goal.now a.second.now a.calls.now a.answers.now in
    let full : a.most < suc (length (added_by it a.asked)) =
    omega (arith, c.get.ensures, c.size_all.ensures.1.at a.asked (omega arith), c.min-short.ensures, c.if-get-short.false, c.if-most-le-SHORT.true) in
    record { the_count = rw (lt-ltb _ _ full) refl; the_list = rw (lt-ltb _ _ full) refl }

pub list_long-requires : goal.list_long-requires
list_long-requires c =
    let p = c.requires in
    let sized = c.size_all.ensures in
    let capped : c.min-short.result ≡ 16777215 = omega (arith, c.min-short.ensures, c.if-most-le-SHORT.false) in
    (p.0, p.1, omega (arith, c.if-most-le-SHORT.false), omega (arith, sized.0, p.2.long, p.0.readable.most), rw capped at sized.1, omega (arith, p.3.long, p.0.readable.most))
