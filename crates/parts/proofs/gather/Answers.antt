-- `gather` meets its contract. Assumes nothing.
use mathlib.Core.Path.{◌≡◌, refl, sym, ap, ◌∙◌}
use mathlib.Core.List.{[], ◌++◌}
use Prim.Native.Nat.{◌-◌}
use native.Mathlib.Omega.{arith}
use lib.ListN.{length}
use Rattle.parts.specs.Parts.{part_at, parts_from, news}
use Rattle.parts.proofs.PartLists.{parts_none, grows_none, grows_as, grows_then}
use Rattle.parts.proofs.News.{news_none}
use Rattle.parts.proofs.Turns.{fresh_size, new_turn}
use Rattle.parts.proofs.gather.Goals as goal

pub loop-i-init : goal.loop-i-init
loop-i-init c = (omega arith, omega arith, refl, c.requires.inside, λ l q g. g)

pub add_new-n-requires : goal.add_new-n-requires
add_new-n-requires c =
    let l = c.loop-i in
    let p = c.requires.lo_le_hi in
    let t = c.loop-i-test.true in
    let h = p.1 in
    let b = p.2 in
    let r = p.3 in
    let a = l.invariant.0 in
    let n = l.invariant.1 in
    let z = l.invariant.2 in
    record { inside = l.invariant.3; i_lt_n = (omega arith, omega arith, omega arith) }

pub loop-i-preserved : goal.loop-i-preserved
loop-i-preserved c =
    let x = c.add_new-n in
    let l = c.loop-i in
    let a = c.args in
    let p = c.requires.lo_le_hi in
    let u = a.first.now ++ a.second.now in
    let cut = length a.first.now in
    let t = c.loop-i-test.true in
    let h = p.1 in
    let b = p.2 in
    let k = l.invariant.0 in
    let m = l.invariant.1 in
    let f = fresh_size (parts_from u l.list a.base (l.n - a.base)) (part_at u l.list l.i) in
    let w = x.ensures.longer in
    let turn = new_turn cut u l.list x.new.list l.n x.result l.i a.hi a.base (omega arith) t (omega arith) x.ensures in (
      omega arith,
      omega arith,
      x.auto.list ∙ l.invariant.2,
      x.ensures.inside l.invariant.3,
      λ z q g. l.invariant.4 z q (grows_as cut u l.list z l.n q _ _ turn (grows_then cut u l.list x.new.list z l.n x.result q _ _ x.ensures g)),
    )

pub returns : goal.returns
returns c =
    let l = c.loop-i in
    let a = c.args in
    let u = a.first.now ++ a.second.now in
    let cut = length a.first.now in
    let X = parts_from u l.list a.base (l.n - a.base) in
    let e : news X (parts_from u l.list l.i (a.hi - l.i)) ≡ [] = ap (news X) (parts_none u l.list l.i a.hi c.loop-i-test.false) ∙ news_none X in
    l.invariant.4 l.list l.n (grows_as cut u l.list l.list l.n l.n [] _ (sym e) (grows_none cut u l.list l.n))
