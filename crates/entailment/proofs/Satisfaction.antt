-- Satisfaction reads as in the sources: a step alone is an atom, and a body in two parts is the serial conjunction of the two. Assumes nothing.
use mathlib.Core.Path.{◌≡◌, refl, sym, ap, subst, ◌∙◌}
use mathlib.Core.List.{[], ◌∷◌, ◌++◌}
use mathlib.Core.Logic.{◌↔◌}
use Rattle.steps.specs.Step.{Step, Body}
use Rattle.entailment.specs.Path.{Path, ⟨◌⟩, first, last, ◌∘◌}
use Rattle.entailment.specs.Entailment.{Structure, Satisfies, empty, serial}
use Rattle.entailment.proofs.PathLaws.{concatenate_assoc, first_concatenate, last_concatenate, concatenate_last}

-- xs and ys are true on two parts of the path.
pub record Parts (M : Structure) (π : Path) (xs ys : Body) : Type 0 where
  pub left : Path
  pub right : Path
  pub on_left : Satisfies M left xs
  pub on_right : Satisfies M right ys
  pub meet : last left ≡ first right
  pub whole : π ≡ left ∘ right

module _ {M : Structure} where
  -- one step more in front
  one_more : {π : Path} (π₁ : Path) {π₂ : Path} {s : Step} {xs ys : Body} → M.true_on π₁ s → last π₁ ≡ first π₂ → π ≡ π₁ ∘ π₂ → Parts M π₂ xs ys
      → Parts M π (s ∷ xs) ys
  one_more π₁ t m e p =
      record {
        left = π₁ ∘ p.left;
        right = p.right;
        on_left = serial t p.on_left (m ∙ ap first p.whole ∙ first_concatenate p.left p.right p.meet) refl;
        on_right = p.on_right;
        meet = last_concatenate π₁ p.left ∙ p.meet;
        whole = e ∙ ap (λ κ. π₁ ∘ κ) p.whole ∙ sym (concatenate_assoc π₁ p.left p.right);
      }

  split : {π : Path} (xs : Body) {ys : Body} → Satisfies M π (xs ++ ys) → Parts M π xs ys
  unfolding last ◌∘◌
  split {π} [] h = record { left = ⟨ first π ⟩; right = π; on_left = empty; on_right = h; meet = refl; whole = refl }
  split (x ∷ xs) (serial {π₁ = π₁} t h m e) = one_more π₁ t m e (split xs h)

  join : {π₁ π₂ : Path} {xs ys : Body} → Satisfies M π₁ xs → Satisfies M π₂ ys → last π₁ ≡ first π₂ → Satisfies M (π₁ ∘ π₂) (xs ++ ys)
  unfolding ◌∘◌
  join empty h m = h
  join {π₂ = π₂} (serial {π₁ = α} {π₂ = β} t g n e) h m =
      let meet : last β ≡ first π₂ = sym (last_concatenate α β) ∙ ap last (sym e) ∙ m in
      serial t (join g h meet) (n ∙ sym (first_concatenate β π₂ meet)) (ap (λ κ. κ ∘ π₂) e ∙ concatenate_assoc α β π₂)

  -- "Serial conjunction: M, π ⊨ φ ⊗ ψ iff M, π₁ ⊨ φ and M, π₂ ⊨ ψ for some paths π₁ and π₂ such that π = π₁ ∘ π₂", for any two bodies.
  pub serial_conjunction : {π : Path} (xs ys : Body) → Satisfies M π (xs ++ ys) ↔ Parts M π xs ys
  serial_conjunction xs ys = (split xs, λ p. subst (λ κ. Satisfies M κ (xs ++ ys)) (sym p.whole) (join p.on_left p.on_right p.meet))

  alone : {π : Path} {s : Step} → Satisfies M π (s ∷ []) → M.true_on π s
  unfolding first
  alone {s = s} (serial {π₁ = π₁} t empty m e) = subst (λ κ. M.true_on κ s) (sym (e ∙ ap (λ D. π₁ ∘ ⟨ D ⟩) (sym m) ∙ concatenate_last π₁)) t

  -- The base case: "M, π ⊨ p iff M(π) ⊨ᶜ p for any atomic formula p."
  pub atom : {π : Path} {s : Step} → Satisfies M π (s ∷ []) ↔ M.true_on π s
  unfolding first
  atom {π} = (alone, λ t. serial t (empty {D = last π}) refl (sym (concatenate_last π)))
