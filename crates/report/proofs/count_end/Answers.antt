use Prim.Native.Nat.{ℕ, ◌+◌, ◌-◌, ◌/◌, ◌%◌, ◌^◌, ◌<◌, ◌≤◌}
use native.Mathlib.Omega.{arith}
use native.Mathlib.Decide.{ℕ_discrete}
use native.Mathlib.Nat.{div-one}
use mathlib.Core.Path.{◌≡◌, refl, sym, ap, ap₂, ◌∙◌}
use mathlib.Core.List.{List}
use lib.ListN.{length, get_or, set, take}
use lib.Arith.{lt_of_le-ne}
use lib.Pow.{shr-shr}
use lib.Seq.{get_or-set_same, get_or-set_other}
use borrow.Author.Rules.{rules}
use Rattle.steps.specs.State.{bit}
use Rattle.report.proofs.count_end.Goals as goal

-- one fluent more is counted
more : (old counts : List ℕ) (end k v : ℕ) → k < length counts → v ≡ get_or old k 0 + bit end k
    → ((j : ℕ) → j < k → get_or counts j 0 ≡ get_or old j 0 + bit end j) → (j : ℕ) → j < k + 1 → get_or (set counts k v) j 0 ≡ get_or old j 0 + bit end j
more old counts end k v l e before j h = by (ℕ_discrete j k)
  where
    by : Dec (j ≡ k) → get_or (set counts k v) j 0 ≡ get_or old j 0 + bit end j
    by (yes z) = rw z (get_or-set_same counts k v 0 l ∙ e)
    by (no n) = get_or-set_other counts k j v 0 n ∙ before j (omega (arith, lt_of_le-ne {i = j} {k = k} (omega arith) n))

pub loop-count-preserved : goal.loop-count-preserved
loop-count-preserved c =
    let a = c.args in
    let now = c.loop-count in
    let k = now.count-index in
    let first = take a.fluents a.counts.now in
    let v = get_or now.count-items k 0 + now.rest % 2 in
    let e : v ≡ get_or first k 0 + bit a.end k = ap₂ (λ (x y : ℕ). x + y % 2) (now.invariant.kept k (omega arith)) now.invariant.shifted in
    record {
      shifted = ap (λ (n : ℕ). n / 2) now.invariant.shifted ∙ shr-shr a.end k 1;
      counted = more first now.count-items a.end k v (omega arith) e now.invariant.counted;
      kept = λ j l. get_or-set_other now.count-items k j v 0 (λ z. omega arith) ∙ now.invariant.kept j (omega arith);
    }
