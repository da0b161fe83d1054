-- `lay` meets its contract: one word after the other, then the goal. Assumes nothing.
use mathlib.Core.Path.{refl}
use mathlib.Core.List.{List, []}
use Prim.Native.Nat.{ℕ}
use native.Mathlib.Omega.{arith}
use lib.ListN.{length}
use Rattle.parts.specs.Parts.{Inside}
use Rattle.merge.proofs.Laying.{laid}
use Rattle.merge.proofs.lay.Goals as goal

none : (cut : ℕ) (u l : List ℕ) → Inside cut u l 0
none cut u l i h = absurd (omega arith)

pub lay_word-fluents-requires : goal.lay_word-fluents-requires
lay_word-fluents-requires c =
    let (p, q, l) = c.requires in
    let p₁ = p.fluents in
    let q₁ = q.fluents in
    record { inside = none _ _ _; first_len_bound = (p.short, q.short); second_in_bounds = omega arith }

pub lay_word-actions-requires : goal.lay_word-actions-requires
lay_word-actions-requires c =
    let (p, q, l) = c.requires in
    let p₁ = p.fluents in
    let q₁ = q.fluents in
    let p₂ = p.actions in
    let q₂ = q.actions in
    let x = c.lay_word-fluents in
    let n = x.ensures.grows.longer in
    let z = x.ensures.size in
    let k = x.auto.list in
    record { inside = x.ensures.grows.inside (none _ _ _); first_len_bound = (p.short, q.short); second_in_bounds = omega arith }

pub lay_word-rules-requires : goal.lay_word-rules-requires
lay_word-rules-requires c =
    let (p, q, l) = c.requires in
    let p₁ = p.fluents in
    let q₁ = q.fluents in
    let p₂ = p.actions in
    let q₂ = q.actions in
    let p₃ = p.rules in
    let q₃ = q.rules in
    let x = c.lay_word-fluents in
    let n = x.ensures.grows.longer in
    let z = x.ensures.size in
    let k = x.auto.list in
    let x₂ = c.lay_word-actions in
    let n₂ = x₂.ensures.grows.longer in
    let z₂ = x₂.ensures.size in
    let k₂ = x₂.auto.list in
    record { inside = x₂.ensures.grows.inside (x.ensures.grows.inside (none _ _ _)); first_len_bound = (p.short, q.short); second_in_bounds = omega arith }

pub sections-end-requires : goal.sections-end-requires
sections-end-requires c =
    let (p, q, l) = c.requires in
    let p₁ = p.fluents in
    let q₁ = q.fluents in
    let p₂ = p.actions in
    let q₂ = q.actions in
    let p₃ = p.rules in
    let q₃ = q.rules in
    let p₄ = p.goal in
    let x = c.lay_word-fluents in
    let n = x.ensures.grows.longer in
    let z = x.ensures.size in
    let k = x.auto.list in
    let x₂ = c.lay_word-actions in
    let n₂ = x₂.ensures.grows.longer in
    let z₂ = x₂.ensures.size in
    let k₂ = x₂.auto.list in
    let x₃ = c.lay_word-rules in
    let n₃ = x₃.ensures.grows.longer in
    let z₃ = x₃.ensures.size in
    let k₃ = x₃.auto.list in
    record { base_bound = (omega arith, p.short); s_in_bounds = omega arith }

pub returns : goal.returns
returns c =
    let a = c.args in
    let s = a.first.now in
    let t = a.second.now in
    let (p, q, l) = c.requires in
    let x₁ = c.lay_word-fluents in
    let x₂ = c.lay_word-actions in
    let x₃ = c.lay_word-rules in
    let x₄ = c.sections-end in
    laid s t a.list.now x₁.new.list x₂.new.list x₃.new.list x₄.new.list x₁.result x₂.result x₃.result x₄.result
    (none _ _ _) p q x₁.ensures x₂.ensures x₃.ensures (x₄.ensures (length s) [] t refl (λ h. absurd (omega arith)))
