-- `find` meets its contract: an index in the part, counted from its start. Assumes nothing.
use Rattle.std.proofs.Common.{◌-◌, drop, take, sym, ◌∙◌, arith}
use Rattle.std.proofs.Math.Seq.{length-slice}
use Rattle.chars.proofs.Pieces.{index_Some, index_None}
use Rattle.chars.proofs.Ends.{part_slice}
use Rattle.chars.proofs.find.Goals as goal

pub returns-in-Some : goal.returns-in-Some
returns-in-Some c =
    let a = c.args in
    let p = part_slice a.s.now a.from a.to c.requires.0 c.requires.1 in
    let e = index_Some a.b (take (a.to - a.from) (drop a.from a.s.now)) c.in-Some.k (sym c.first.ensures ∙ c.in-Some.is) in
    let f = rw p at e in
    omega (arith, f)

pub returns-in-None : goal.returns-in-None
returns-in-None c =
    let a = c.args in
    let p = part_slice a.s.now a.from a.to c.requires.0 c.requires.1 in
    let e = index_None a.b (take (a.to - a.from) (drop a.from a.s.now)) (sym c.first.ensures ∙ c.in-None.is) in
    let f = rw p at e in
    omega (arith, f, length-slice a.from a.to a.s.now c.requires.1)
