use Prim.Native.Nat.{ℕ}
use native.Mathlib.Omega.{arith}
use mathlib.Core.Path.{◌≡◌, sym, ap, ◌∙◌}
use lib.ListN.{drop}
use Rattle.archive.specs.Archive.{column}
use Rattle.archive.proofs.Bits.{column_end, column_next}
use Rattle.archive.proofs.column.Goals as goal

pub loop-i-init : goal.loop-i-init
loop-i-init c = sym (column_end c.args.k c.args.words.now)

pub overflow_mul-word : goal.overflow_mul-word
overflow_mul-word c =
    let now = c.loop-i in
    let next = column_next c.args.k now.i now.word c.args.words.now (omega arith) (omega arith) c.requires.0 now.invariant in
    record { fits = omega (arith, next.1) }

pub overflow_add-word : goal.overflow_add-word
overflow_add-word c =
    let now = c.loop-i in
    let next = column_next c.args.k now.i now.word c.args.words.now (omega arith) (omega arith) c.requires.0 now.invariant in
    record { fits = omega (arith, next.1) }

pub loop-i-preserved : goal.loop-i-preserved
loop-i-preserved c =
    let now = c.loop-i in
    let next = column_next c.args.k now.i now.word c.args.words.now (omega arith) (omega arith) c.requires.0 now.invariant in
    omega (arith, next.0)

pub returns : goal.returns
returns c =
    let e : c.loop-i.i ≡ 0 = omega arith in
    c.loop-i.invariant ∙ ap (λ (i : ℕ). column c.args.k (drop i c.args.words.now)) e
