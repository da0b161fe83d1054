-- `write_words` meets its contract. Assumes nothing.
use Prim.Native.Nat.{◌^◌}
use native.Mathlib.Nat.{mul-le-mul_left, mul-le-mul_right}
use native.Mathlib.Omega.{arith}
use mathlib.Core.Path.{sym, ◌∙◌}
use lib.ListN.{length}
use Rattle.std.proofs.lemmas.Result.{err_from_is_err_and}
use Rattle.refusals.proofs.Numbers.{number-not_zero}
use Rattle.archive.proofs.Outcomes.{refused, stored_outcome, store_passed}
use Rattle.archive.proofs.write_words.Goals as goal

pub returns-in_err-may_store : goal.returns-in_err-may_store
returns-in_err-may_store c =
    let p = err_from_is_err_and c.from_residual.result c.from_residual.ensures.1 in
    rw (p.1, p.2) (refused _ _ _ _ c.in_err-may_store.ensures (number-not_zero _))

pub overflow_mul-count : goal.overflow_mul-count
overflow_mul-count c =
    let a = c.args in
    let passed = store_passed a.fluents a.states.now (length a.words.now) (sym c.in_ok-may_store.ensures) in
    record { fits = omega (arith, c.blocks-parts.ensures, mul-le-mul_left {m = a.fluents} {n = 64} c.blocks-parts.result passed.0) }

pub columns-requires : goal.columns-requires
columns-requires c =
    let a = c.args in
    let passed = store_passed a.fluents a.states.now (length a.words.now) (sym c.in_ok-may_store.ensures) in
    let b = c.blocks-parts.ensures in (
      omega arith,
      passed.0,
      rw b passed.2,
      mul-le-mul_right {m = c.blocks-parts.result} {n = 2 ^ 57} a.fluents (omega (arith, b)),
    )

pub returns : goal.returns
returns c = stored_outcome _ _ _ _ _ c.blocks-parts.ensures (sym c.in_ok-may_store.ensures) c.columns.ensures
