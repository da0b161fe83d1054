-- `bucket` meets its contract. Assumes nothing.
use Prim.Native.Nat.{ℕ, ◌+◌, ◌*◌, ◌%◌}
use native.Mathlib.Omega.{arith}
use mathlib.Core.Path.{◌≡◌, ap}
use Rattle.index.specs.Index.{bucket}
use Rattle.index.proofs.IndexLaws.{bucket_small}
use Rattle.index.proofs.bucket.Goals as goal

pub returns : goal.returns
unfolding bucket
returns c =
    let a = c.args in
    let e : (a.s % 65521 + a.a % 65536 * 1021) % c.buckets.result ≡ bucket a.most a.a a.s =
    ap (λ (k : ℕ). (a.s % 65521 + a.a % 65536 * 1021) % k) c.buckets.ensures.0 in
    record { value = e; below = omega (arith, bucket_small a.most a.a a.s c.requires.0, e) }
