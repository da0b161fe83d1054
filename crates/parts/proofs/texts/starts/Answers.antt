-- `texts::starts` meets its contract. Assumes nothing.
use mathlib.Core.Path.{◌≡◌, sym, ap, ◌∙◌}
use mathlib.Core.List.{List, ◌++◌}
use Prim.Native.Nat.{ℕ, suc, ◌+◌, ◌-◌}
use native.Mathlib.Omega.{arith}
use Rattle.parts.specs.Parts.{part_at, parts_from, inserted_in}
use Rattle.parts.proofs.PartLists.{parts_first, parts_none}
use Rattle.parts.proofs.Turns.{inserted_more, inserted_none}
use Rattle.parts.proofs.texts.starts.Goals as goal

pub loop-i-init : goal.loop-i-init
loop-i-init c =
    let a = c.args in
    let u = a.first.now ++ a.second.now in
    let z = a.list.now in
    let e : 0 ≡ a.from - a.from = omega arith in
    ap (λ (k : ℕ). inserted_in (parts_from u z a.lo (a.hi - a.lo)) k a.s.0 (parts_from u z a.from (a.end - a.from)) a.to.0) e

pub start_one-state-requires : goal.start_one-state-requires
start_one-state-requires c = let p = c.requires in record { at = p.inside c.loop-i.i c.loop-i-test.true; inside = p.inside_2; lo_le_hi = p.lo_le_hi.0 }

pub loop-i-preserved : goal.loop-i-preserved
loop-i-preserved c =
    let l = c.loop-i in
    let a = c.args in
    let u = a.first.now ++ a.second.now in
    let z = a.list.now in
    let all = parts_from u z a.lo (a.hi - a.lo) in
    let rest = parts_from u z (l.i + 1) (a.end - (l.i + 1)) in
    let t = c.loop-i-test.true in
    let step : suc (l.i - a.from) ≡ l.i + 1 - a.from = omega arith in
    l.invariant ∙ ap (λ (y : List (List ℕ)). inserted_in all (l.i - a.from) a.s.0 y l.state.0) (parts_first u z l.i a.end t)
    ∙ inserted_more all (l.i - a.from) a.s.0 (part_at u z l.i) rest l.state.0
    ∙ ap (inserted_in all (suc (l.i - a.from)) a.s.0 rest) (sym c.start_one-state.ensures)
    ∙ ap (λ (k : ℕ). inserted_in all k a.s.0 rest c.start_one-state.result.0) step

pub returns : goal.returns
returns c =
    let l = c.loop-i in
    let a = c.args in
    let u = a.first.now ++ a.second.now in
    let z = a.list.now in
    let all = parts_from u z a.lo (a.hi - a.lo) in
    sym (l.invariant ∙ ap (λ (y : List (List ℕ)). inserted_in all (l.i - a.from) a.s.0 y l.state.0) (parts_none u z l.i a.end c.loop-i-test.false) ∙ inserted_none all (l.i - a.from) a.s.0 l.state.0)
