-- `may_store` meets its contract: the tests in the request's order. Assumes nothing.
use Prim.Native.Nat.{◌*◌, ◌<◌, ◌≤◌}
use native.Mathlib.Nat.{mul-le-mul_left}
use native.Mathlib.Omega.{arith}
use mathlib.Core.Path.{refl}
use lib.ListN.{length}
use borrow.Author.Tests.{lt-ltb, le-ltb}
use Rattle.archive.specs.Archive.{blocks}
use Rattle.archive.specs.Archived.{store_refusal}
use Rattle.archive.proofs.may_store.Goals as goal

pub returns-then-fluents-gt64 : goal.returns-then-fluents-gt64
unfolding store_refusal
returns-then-fluents-gt64 c = rw (lt-ltb _ _ c.if-fluents-gt64.true) refl

pub returns-then-bad_states : goal.returns-then-bad_states
unfolding store_refusal
returns-then-bad_states c = rw (le-ltb _ _ c.if-fluents-gt64.false, ← c.bad_states.ensures, c.if-bad_states.true) refl

pub overflow_mul-blocks : goal.overflow_mul-blocks
overflow_mul-blocks c =
    let a = c.args in
    record { fits = omega (arith, c.blocks-2.ensures, mul-le-mul_left {m = a.fluents} {n = 64} c.blocks-2.result (omega arith)) }

pub returns-then-room-blocks : goal.returns-then-room-blocks
unfolding store_refusal
returns-then-room-blocks c =
    let a = c.args in
    let short : a.room < blocks (length a.states.now) * a.fluents = rw c.blocks-2.ensures at c.if-room-blocks.true in
    rw (le-ltb _ _ c.if-fluents-gt64.false, ← c.bad_states.ensures, c.if-bad_states.false, lt-ltb _ _ short) refl

pub returns : goal.returns
unfolding store_refusal
returns c =
    let a = c.args in
    let long : blocks (length a.states.now) * a.fluents ≤ a.room = rw c.blocks-2.ensures at c.if-room-blocks.false in
    rw (le-ltb _ _ c.if-fluents-gt64.false, ← c.bad_states.ensures, c.if-bad_states.false, le-ltb _ _ long) refl
