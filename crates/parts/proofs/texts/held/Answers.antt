-- `texts::held` meets its contract. Assumes nothing.
use mathlib.Core.Path.{◌≡◌, refl, sym, ap, ◌∙◌}
use mathlib.Core.List.{[], ◌∷◌, ◌++◌}
use Prim.Native.Nat.{ℕ, suc, ◌+◌, ◌-◌}
use native.Mathlib.Omega.{arith}
use Rattle.writer.specs.Text.{holding}
use Rattle.parts.specs.Parts.{part_at, parts_from}
use Rattle.parts.proofs.PartLists.{parts_none, grows_none, grows_as, grows_then}
use Rattle.parts.proofs.Turns.{held_none, held_turn}
use Rattle.parts.proofs.texts.held.Goals as goal

pub loop-i-init : goal.loop-i-init
loop-i-init c =
    let a = c.args in
    let e : 0 ≡ a.lo - a.lo = omega arith in
    (omega arith, omega arith, refl, λ cut u g. (g, λ l q h. grows_as cut u _ l _ q _ _ (ap (λ (k : ℕ). holding k a.state.0 (parts_from u a.list.now a.lo (a.hi - a.lo))) (sym e)) h))

pub held_one-n-requires : goal.held_one-n-requires
held_one-n-requires c =
    let l = c.loop-i in
    let p = c.requires in
    let t = c.loop-i-test.true in
    let h = p.1 in
    let r = p.2 in
    let a = l.invariant.0 in
    let n = l.invariant.1 in
    let z = l.invariant.2 in
    (omega arith, omega arith)

pub loop-i-preserved : goal.loop-i-preserved
loop-i-preserved c =
    let x = c.held_one-n in
    let l = c.loop-i in
    let a = c.args in
    let p = c.requires in
    let t = c.loop-i-test.true in
    let h = p.1 in
    let k = l.invariant.0 in
    let m = l.invariant.1 in
    let w = x.ensures.lower_bound.0 in
    let v = x.ensures.lower_bound.1 in
    let st = a.state.0 in
    let step : l.i + 1 - a.lo ≡ suc (l.i - a.lo) = omega arith in (
      omega arith,
      omega arith,
      x.auto.list ∙ l.invariant.2,
      λ cut u g.
          let at = (l.invariant.3 cut u g).0 in
          let G = x.ensures.by_index cut u (at l.i (omega arith)) in (
            G.inside at,
            λ z q f.
                (l.invariant.3 cut u g).1 z q (grows_as cut u l.list z l.n q _ _
                (ap (λ (j : ℕ). holding (l.i - a.lo) st (part_at u l.list l.i ∷ []) ++ holding j st (parts_from u x.new.list (l.i + 1) (a.hi - (l.i + 1)))) step
                ∙ held_turn cut u l.list x.new.list l.n x.result l.i a.hi (l.i - a.lo) st _ t (omega arith) G refl)
                (grows_then cut u l.list x.new.list z l.n x.result q _ _ G f)),
          ),
    )

pub returns : goal.returns
returns c =
    λ cut u g.
    let l = c.loop-i in
    let a = c.args in
    let e = ap (holding (l.i - a.lo) a.state.0) (parts_none u l.list l.i a.hi c.loop-i-test.false) ∙ held_none (l.i - a.lo) a.state.0 in
    (l.invariant.3 cut u g).1 l.list l.n (grows_as cut u l.list l.list l.n l.n [] _ (sym e) (grows_none cut u l.list l.n))
