-- `buckets` meets its contract. Assumes nothing.
use native.Mathlib.Omega.{arith}
use Rattle.index.proofs.IndexLaws.{buckets_shl, buckets_some}
use Rattle.index.proofs.buckets.Goals as goal

pub returns : goal.returns
returns c = let e = buckets_shl c.args.most in (e, omega (arith, e, buckets_some c.args.most))
