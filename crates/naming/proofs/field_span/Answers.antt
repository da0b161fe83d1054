-- `field_span` meets its contract. Assumes nothing.
use mathlib.Core.Path.{sym, ap, ◌∙◌}
use mathlib.Core.List.{List, []}
use Prim.Native.Nat.{ℕ, ◌+◌}
use native.Mathlib.Omega.{arith}
use lib.ListN.{length, get_or}
use lib.Seq.{length-slice}
use Rattle.chars.proofs.Ends.{fields_gone}
use Rattle.naming.specs.declared.Span.{Span}
use borrow.Author.Rules.{rules}
use Rattle.naming.proofs.field_span.Goals as goal

abbrev span : ℕ → ℕ → Span
span i n = record { at = i; len = n }

pub returns-then-q-e : goal.returns-then-q-e
returns-then-q-e c =
    let a = c.args in
    let g = fields_gone a.s.now (a.q + 1) a.e (omega arith) in
    let l = ap (λ (x : List (List ℕ)). length (get_or x 0 [])) g in
    ap (span (a.q + 1)) (sym l)

pub returns : goal.returns
returns c =
    let a = c.args in
    let f = c.field_end-end in
    let i = f.ensures.within in
    let l = ap (λ (x : List (List ℕ)). length (get_or x 0 [])) f.ensures.cut ∙ length-slice (a.q + 1) f.result a.s.now (omega arith) in
    ap (span (a.q + 1)) (sym l)
