-- `bad_bits` meets its contract. Assumes nothing.
use Prim.Native.Nat.{ℕ, ◌/◌, ◌^◌, ◌*◌, ◌%◌, ◌+◌, ◌-◌}
use native.Mathlib.Omega.{arith}
use mathlib.Core.Path.{◌≡◌, refl, ap, sym, ◌∙◌}
use mathlib.Core.Bool.{Bool, not}
use lib.Dec.{eqb}
use lib.ListN.{take, drop, get_or, length, length-drop}
use lib.Seq.{get_or-drop, take_all}
use borrow.Author.Tests.{eq-eqb, ne_eqb}
use Rattle.std.specs.List.{list_any}
use Rattle.std.proofs.Common.{rules, tests}
use Rattle.std.proofs.lemmas.Iterator.{YieldsList-from_slice}
use Rattle.std.proofs.lemmas.Iterator.Search.{any_from_yields_List}
use Rattle.steps.specs.Acceptance.{each_below}
use Rattle.archive.specs.Archived.{bad_bits}
use Rattle.archive.proofs.AnyBelow.{any_below}
use Rattle.archive.proofs.Counted.{last_block}
use Rattle.archive.proofs.bad_bits.Goals as goal

pub returns-then-used-eq0 : goal.returns-then-used-eq0
unfolding bad_bits
returns-then-used-eq0 c = rw (eq-eqb _ _ c.if-used-eq0.true) refl

pub returns : goal.returns
unfolding bad_bits
returns c =
    let a = c.args in
    let from = a.count / 64 * a.fluents in
    let last = drop from a.words.now in
    let e : c.any.result ≡ list_any (λ w. not (eqb (w / 2 ^ (a.count % 64)) 0)) c.iter.result.rest.now = any_from_yields_List (λ w. not (eqb (w / 2 ^ (a.count % 64)) 0)) _ _ c.any.result c.any.ensures.ran (YieldsList-from_slice c.iter.result.rest.now cc) (λ x b q k. search (rules, tests)) in
    let r : c.iter.result.rest.now ≡ take (length a.words.now - from) last = cc in
    let n : length last ≡ a.fluents = omega (arith, length-drop from a.words.now, last_block a.count a.fluents (omega arith)) in
    let whole : take (length a.words.now - from) last ≡ last = take_all _ last (omega (arith, length-drop from a.words.now)) in
    let q : ℕ → Bool = λ k. eqb (get_or a.words.now (from + k) 0 / 2 ^ (a.count % 64)) 0 in
    rw (ne_eqb _ _ c.if-used-eq0.false) (e ∙ ap (list_any (λ w. not (eqb (w / 2 ^ (a.count % 64)) 0))) (r ∙ whole)
    ∙ any_below _ q last (λ k l. ap (λ (w : ℕ). not (eqb (w / 2 ^ (a.count % 64)) 0)) (get_or-drop from a.words.now k 0))
    ∙ ap (λ (m : ℕ). not (each_below m q)) n)
