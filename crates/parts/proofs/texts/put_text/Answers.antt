-- `texts::put_text` meets its contract: the lines of fluents, actions and rules, `start`, the goal. Assumes nothing.
use mathlib.Core.Path.{◌≡◌, ◌∙◌}
use mathlib.Core.List.{List, [], ◌∷◌, ◌++◌}
use Prim.Native.Nat.{ℕ, ◌+◌, ◌-◌}
use native.Mathlib.Omega.{arith}
use lib.ListN.{length, length-append}
use Rattle.chars.specs.Bytes.{text, LF}
use Rattle.writer.proofs.Filling.{gives_then}
use Rattle.parts.specs.Parts.{parts_from, wrapped}
use Rattle.parts.specs.declared.Layout.{Layout}
use Rattle.parts.specs.Texts.{start_parts, text_in}
use Rattle.parts.proofs.texts.put_text.Goals as goal

-- the five pieces
module _ (u z : List ℕ) (l : Layout) (held : ℕ) where
  abbrev F : List ℕ
  F = wrapped (text "fluent") (LF ∷ []) (parts_from u z l.fluents.own (l.fluents.end - l.fluents.own))

  abbrev C : List ℕ
  C = wrapped (text "action") (LF ∷ []) (parts_from u z l.actions.own (l.actions.end - l.actions.own))

  abbrev R : List ℕ
  R = wrapped (text "rule") (LF ∷ []) (parts_from u z l.rules.own (l.rules.end - l.rules.own))

  abbrev S : List ℕ
  S = start_parts (parts_from u z l.end (held - l.end))

  abbrev G : List ℕ
  G = wrapped (text "goal") (LF ∷ []) (parts_from u z l.rules.end (l.end - l.rules.end))

  size : length (text_in u z l held) ≡ length F + (length C + (length R + (length S + length G)))
  size =
      let a = length-append F (C ++ (R ++ (S ++ G))) in
      let b = length-append C (R ++ (S ++ G)) in
      let d = length-append R (S ++ G) in
      let e = length-append S G in
      omega arith

pub put_all-fluents-requires : goal.put_all-fluents-requires
put_all-fluents-requires c =
    let a = c.args in
    let n = size (a.first.now ++ a.second.now) a.list.now a.l a.held in
    let p = c.requires in
    let (i, j) = p.ordered.0.fluents in
    let r = p.ordered.1 in
    record { inside = λ x h. p.inside x (omega arith); lo_le_hi = i; lo_in_bounds = omega arith }

pub put_all-actions-requires : goal.put_all-actions-requires
put_all-actions-requires c =
    let a = c.args in
    let n = size (a.first.now ++ a.second.now) a.list.now a.l a.held in
    let p = c.requires in
    let (i, j) = p.ordered.0.actions in
    let r = p.ordered.1 in
    let x = c.put_all-fluents in
    let e = x.ensures.0 in
    let k = x.auto.out in
    record { inside = λ x h. p.inside x (omega arith); lo_le_hi = i; lo_in_bounds = omega arith }

pub put_all-rules-requires : goal.put_all-rules-requires
put_all-rules-requires c =
    let a = c.args in
    let n = size (a.first.now ++ a.second.now) a.list.now a.l a.held in
    let p = c.requires in
    let (i, j) = p.ordered.0.rules in
    let (g, h) = p.ordered.0.last in
    let r = p.ordered.1 in
    let x = c.put_all-fluents in
    let e = x.ensures.0 in
    let k = x.auto.out in
    let x₂ = c.put_all-actions in
    let e₂ = x₂.ensures.0 in
    let k₂ = x₂.auto.out in
    record { inside = λ x h. p.inside x (omega arith); lo_le_hi = i; lo_in_bounds = omega arith }

pub put_start-start-requires : goal.put_start-start-requires
put_start-start-requires c =
    let a = c.args in
    let n = size (a.first.now ++ a.second.now) a.list.now a.l a.held in
    let p = c.requires in
    let (g, h) = p.ordered.0.last in
    let r = p.ordered.1 in
    let x = c.put_all-fluents in
    let e = x.ensures.0 in
    let k = x.auto.out in
    let x₂ = c.put_all-actions in
    let e₂ = x₂.ensures.0 in
    let k₂ = x₂.auto.out in
    let x₃ = c.put_all-rules in
    let e₃ = x₃.ensures.0 in
    let k₃ = x₃.auto.out in
    record { inside = p.inside; lo_le_hi = g; lo_in_bounds = omega arith }

pub put_all-requires : goal.put_all-requires
put_all-requires c =
    let a = c.args in
    let n = size (a.first.now ++ a.second.now) a.list.now a.l a.held in
    let p = c.requires in
    let (i, j) = p.ordered.0.rules in
    let (g, h) = p.ordered.0.last in
    let r = p.ordered.1 in
    let x = c.put_all-fluents in
    let e = x.ensures.0 in
    let k = x.auto.out in
    let x₂ = c.put_all-actions in
    let e₂ = x₂.ensures.0 in
    let k₂ = x₂.auto.out in
    let x₃ = c.put_all-rules in
    let e₃ = x₃.ensures.0 in
    let k₃ = x₃.auto.out in
    let x₄ = c.put_start-start in
    let e₄ = x₄.ensures.0 in
    let k₄ = x₄.auto.out in
    record { inside = λ x h. p.inside x (omega arith); lo_le_hi = j; lo_in_bounds = omega arith }

pub shape_of-out : goal.shape_of-out
shape_of-out c = c.put_all.auto.out ∙ c.put_start-start.auto.out ∙ c.put_all-rules.auto.out ∙ c.put_all-actions.auto.out ∙ c.put_all-fluents.auto.out

pub returns : goal.returns
returns c =
    let a = c.args in
    let u = a.first.now ++ a.second.now in
    let z = a.list.now in
    let l = a.l in
    let h = a.held in
    let n = size u z l h in
    let x₁ = c.put_all-fluents in
    let x₂ = c.put_all-actions in
    let x₃ = c.put_all-rules in
    let x₄ = c.put_start-start in
    let x₅ = c.put_all in
    let e₁ = x₁.ensures.0 in
    let e₂ = x₂.ensures.0 in
    let e₃ = x₃.ensures.0 in
    let e₄ = x₄.ensures.0 in
    let e₅ = x₅.ensures.0 in
    let o = a.out.now in
    let o₁ = x₁.new.out in
    let o₂ = x₂.new.out in
    let o₃ = x₃.new.out in
    let o₄ = x₄.new.out in
    let o₅ = x₅.new.out in (
      omega arith,
      gives_then o o₁ o₅ (F u z l h) _ 0 x₁.result x₅.result x₁.ensures.1
          (gives_then o₁ o₂ o₅ (C u z l h) _ x₁.result x₂.result x₅.result x₂.ensures.1
          (gives_then o₂ o₃ o₅ (R u z l h) _ x₂.result x₃.result x₅.result x₃.ensures.1
          (gives_then o₃ o₄ o₅ (S u z l h) (G u z l h) x₃.result x₄.result x₅.result x₄.ensures.1 x₅.ensures.1))),
    )
