use Prim.Native.Nat.{ℕ, ◌+◌, ◌-◌}
use native.Mathlib.Omega.{arith}
use mathlib.Core.Path.{◌≡◌}
use Rattle.index.proofs.IndexLaws.{chained_less}
use Rattle.index.proofs.forget_records.Goals as goal

pub loop-i-preserved : goal.loop-i-preserved
loop-i-preserved c =
    let i : ℕ = c.loop-i.i - 1 in
    let z : i + 1 ≡ c.loop-i.i = omega arith in
    (omega arith, chained_less i c.bucket_of-k.ensures.value (rw z c.loop-i.invariant.1) c.forget.ensures)

pub returns : goal.returns
returns c = let e : c.loop-i.i ≡ c.args.n0 = omega arith in let k = rw e at c.loop-i.invariant.1 in (k.covers, k.rechained)
