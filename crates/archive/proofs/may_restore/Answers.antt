-- `may_restore` meets its contract: the tests in the request's order. Assumes nothing.
use native.Mathlib.Omega.{arith}
use mathlib.Core.Path.{refl, sym, ◌∙◌}
use borrow.Author.Tests.{lt-ltb, le-ltb, eqb-true, not-false}
use Rattle.archive.specs.Archived.{restore_refusal}
use Rattle.archive.proofs.may_restore.Goals as goal

pub returns-then-fluents-gt64 : goal.returns-then-fluents-gt64
unfolding restore_refusal
returns-then-fluents-gt64 c = rw (lt-ltb _ _ c.if-fluents-gt64.true) refl

pub returns-then-bad_words : goal.returns-then-bad_words
unfolding restore_refusal
returns-then-bad_words c = rw (le-ltb _ _ c.if-fluents-gt64.false, ← c.bad_words.ensures, c.if-bad_words.true) refl

pub bad_bits-requires : goal.bad_bits-requires
bad_bits-requires c = (omega arith, eqb-true _ _ (not-false _ (sym c.bad_words.ensures ∙ c.if-bad_words.false)))

pub returns-then-bad_bits : goal.returns-then-bad_bits
unfolding restore_refusal
returns-then-bad_bits c = rw (le-ltb _ _ c.if-fluents-gt64.false, ← c.bad_words.ensures, c.if-bad_words.false, ← c.bad_bits.ensures, c.if-bad_bits.true) refl

pub returns-then-room-count : goal.returns-then-room-count
unfolding restore_refusal
returns-then-room-count c =
    let few = le-ltb _ _ c.if-fluents-gt64.false in
    rw (few, ← c.bad_words.ensures, c.if-bad_words.false, ← c.bad_bits.ensures, c.if-bad_bits.false, lt-ltb _ _ c.if-room-count.true) refl

pub returns : goal.returns
unfolding restore_refusal
returns c =
    let few = le-ltb _ _ c.if-fluents-gt64.false in
    rw (few, ← c.bad_words.ensures, c.if-bad_words.false, ← c.bad_bits.ensures, c.if-bad_bits.false, le-ltb _ _ c.if-room-count.false) refl
