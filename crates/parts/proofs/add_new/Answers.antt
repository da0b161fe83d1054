-- `add_new` meets its contract. Assumes nothing.
use mathlib.Core.Path.{sym, ◌∙◌}
use mathlib.Core.List.{◌++◌}
use Prim.Native.Nat.{◌-◌}
use native.Mathlib.Omega.{arith}
use lib.ListN.{length}
use Rattle.parts.specs.Parts.{part_at, parts_from}
use Rattle.parts.proofs.PartLists.{parts_length, grows_none, grows_as}
use Rattle.parts.proofs.Founds.{found_there, found_not}
use Rattle.parts.proofs.News.{fresh_there, fresh_new}
use Rattle.parts.proofs.add_new.Goals as goal

pub find-requires : goal.find-requires
find-requires c = record { at = c.requires.inside c.args.i c.requires.i_lt_n.0; inside = c.requires.inside; lo_le_hi = c.requires.i_lt_n.1 }

pub returns-then-is_some : goal.returns-then-is_some
returns-then-is_some c =
    let a = c.args in
    let u = a.first.now ++ a.second.now in
    let z = a.list.now in
    let n = parts_length u z a.base (a.n - a.base) in
    grows_as (length a.first.now) u z z a.n a.n _ _ (sym (fresh_there (parts_from u z a.base (a.n - a.base)) (part_at u z a.i) (found_there (part_at u z a.i) (parts_from u z a.base (a.n - a.base)) a.base c.find.result c.find.ensures (sym c.is_some.ensures ∙ c.if-is_some.true)))) (grows_none (length a.first.now) u z a.n)

pub returns : goal.returns
returns c =
    let a = c.args in
    let u = a.first.now ++ a.second.now in
    let z = a.list.now in
    let n = parts_length u z a.base (a.n - a.base) in
    let f = found_not (part_at u z a.i) (parts_from u z a.base (a.n - a.base)) a.base c.find.result c.find.ensures (sym c.is_some.ensures ∙ c.if-is_some.false) in
    let b = c.requires.i_lt_n.1 in
    grows_as (length a.first.now) u z _ a.n _ _ _ (sym (fresh_new (parts_from u z a.base (a.n - a.base)) (part_at u z a.i) (omega (arith, f)))) (c.copy.ensures.by_index (length a.first.now) u (c.requires.inside a.i c.requires.i_lt_n.0))
