-- `texts::text_size` meets its contract. Assumes nothing.
use mathlib.Core.Path.{refl}
use mathlib.Core.List.{[], ◌∷◌, ◌++◌}
use Prim.Native.Nat.{ℕ, ◌*◌, ◌-◌, ◌≤◌}
use native.Mathlib.Omega.{arith}
use Rattle.chars.specs.Bytes.{text, LF}
use Rattle.parts.specs.Parts.{parts_from}
use Rattle.parts.specs.declared.Layout.{Layout}
use Rattle.parts.specs.Texts.{Ordered}
use Rattle.parts.proofs.Turns.{text_length}
use Rattle.parts.proofs.texts.text_size.Goals as goal

pub size-fluents-requires : goal.size-fluents-requires
size-fluents-requires c = let p = c.requires in let o = p.ordered.0 in let (i, j) = o.fluents in let (k, l) = o.last in record { inside = λ x h. p.inside x (omega arith); lo_le_hi = (i, omega arith, omega arith, p.ordered.1) }

pub size-actions-requires : goal.size-actions-requires
size-actions-requires c = let p = c.requires in let o = p.ordered.0 in let (i, j) = o.actions in let (k, l) = o.last in record { inside = λ x h. p.inside x (omega arith); lo_le_hi = (i, omega arith, omega arith, p.ordered.1) }

pub size-rules-requires : goal.size-rules-requires
size-rules-requires c = let p = c.requires in let o = p.ordered.0 in let (i, j) = o.rules in let (k, l) = o.last in record { inside = λ x h. p.inside x (omega arith); lo_le_hi = (i, omega arith, omega arith, p.ordered.1) }

pub size-start-requires : goal.size-start-requires
size-start-requires c = let p = c.requires in let o = p.ordered.0 in let (k, l) = o.last in record { inside = λ x h. p.inside x (omega arith); lo_le_hi = (k, omega arith, omega arith, p.ordered.1) }

pub size-goal-requires : goal.size-goal-requires
size-goal-requires c = let p = c.requires in let o = p.ordered.0 in let (i, j) = o.rules in let (k, l) = o.last in record { inside = λ x h. p.inside x (omega arith); lo_le_hi = (j, omega arith, omega arith, p.ordered.1) }

-- each is small
small : (l : Layout) (held a b d e f : ℕ) → Ordered l held → a ≤ 131080 * (l.fluents.end - l.fluents.own) → b ≤ 131080 * (l.actions.end - l.actions.own)
    → d ≤ 131080 * (l.rules.end - l.rules.own) → e ≤ 131080 * (held - l.end) → f ≤ 131080 * (l.end - l.rules.end)
    → (a ≤ 167782400) × (b ≤ 167782400) × (d ≤ 167782400) × (e ≤ 167782400) × (f ≤ 167782400)
small l held a b d e f o ha hb hd he hf =
    let (i, j) = o.fluents in
    let (k, m) = o.actions in
    let (n, p) = o.rules in
    let (q, r) = o.last in
    (omega arith, omega arith, omega arith, omega arith, omega arith)

pub overflow_add-result : goal.overflow_add-result
overflow_add-result c = let (a, b, d, e, f) = small c.args.l c.args.held _ _ _ _ _ c.requires.ordered.0 c.size-fluents.ensures.upper_bound c.size-actions.ensures.upper_bound c.size-rules.ensures.upper_bound c.size-start.ensures.upper_bound c.size-goal.ensures.upper_bound in omega arith

pub overflow_add-result-2 : goal.overflow_add-result-2
overflow_add-result-2 c = let (a, b, d, e, f) = small c.args.l c.args.held _ _ _ _ _ c.requires.ordered.0 c.size-fluents.ensures.upper_bound c.size-actions.ensures.upper_bound c.size-rules.ensures.upper_bound c.size-start.ensures.upper_bound c.size-goal.ensures.upper_bound in omega arith

pub overflow_add-result-3 : goal.overflow_add-result-3
overflow_add-result-3 c = let (a, b, d, e, f) = small c.args.l c.args.held _ _ _ _ _ c.requires.ordered.0 c.size-fluents.ensures.upper_bound c.size-actions.ensures.upper_bound c.size-rules.ensures.upper_bound c.size-start.ensures.upper_bound c.size-goal.ensures.upper_bound in omega arith

pub overflow_add-result-4 : goal.overflow_add-result-4
overflow_add-result-4 c = let (a, b, d, e, f) = small c.args.l c.args.held _ _ _ _ _ c.requires.ordered.0 c.size-fluents.ensures.upper_bound c.size-actions.ensures.upper_bound c.size-rules.ensures.upper_bound c.size-start.ensures.upper_bound c.size-goal.ensures.upper_bound in omega arith

pub overflow_add-result-5 : goal.overflow_add-result-5
overflow_add-result-5 c = let (a, b, d, e, f) = small c.args.l c.args.held _ _ _ _ _ c.requires.ordered.0 c.size-fluents.ensures.upper_bound c.size-actions.ensures.upper_bound c.size-rules.ensures.upper_bound c.size-start.ensures.upper_bound c.size-goal.ensures.upper_bound in omega arith

pub returns : goal.returns
returns c =
    let a = c.args in
    let u = a.first.now ++ a.second.now in
    let z = a.list.now in
    let l = a.l in
    let t = text_length (parts_from u z l.fluents.own (l.fluents.end - l.fluents.own)) (parts_from u z l.actions.own (l.actions.end - l.actions.own)) (parts_from u z l.rules.own (l.rules.end - l.rules.own)) (parts_from u z l.end (a.held - l.end)) (parts_from u z l.rules.end (l.end - l.rules.end)) in
    let f = c.size-fluents.ensures.by_index (text "fluent") (LF ∷ []) refl in
    let g = c.size-actions.ensures.by_index (text "action") (LF ∷ []) refl in
    let r = c.size-rules.ensures.by_index (text "rule") (LF ∷ []) refl in
    let h = c.size-start.ensures.by_index [] [] refl in
    let k = c.size-goal.ensures.by_index (text "goal") (LF ∷ []) refl in
    omega arith
