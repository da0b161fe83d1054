-- Laws of concatenation. Assumes nothing.
use mathlib.Core.Path.{◌≡◌, refl, sym, ap}
use Rattle.entailment.specs.Path.{Path, ⟨◌⟩, ◌▷◌, first, last, ◌∘◌}

pub concatenate_assoc : (κ κ' κ'' : Path) → (κ ∘ κ') ∘ κ'' ≡ κ ∘ (κ' ∘ κ'')
unfolding ◌∘◌
concatenate_assoc ⟨ D ⟩ κ' κ'' = refl
concatenate_assoc (D ▷ κ) κ' κ'' = ap (λ π. D ▷ π) (concatenate_assoc κ κ' κ'')

pub first_concatenate : (κ κ' : Path) → last κ ≡ first κ' → first (κ ∘ κ') ≡ first κ
unfolding first last ◌∘◌
first_concatenate ⟨ D ⟩ κ' e = sym e
first_concatenate (D ▷ κ) κ' e = refl

pub last_concatenate : (κ κ' : Path) → last (κ ∘ κ') ≡ last κ'
unfolding last ◌∘◌
last_concatenate ⟨ D ⟩ κ' = refl
last_concatenate (D ▷ κ) κ' = last_concatenate κ κ'

-- the last state alone adds nothing
pub concatenate_last : (κ : Path) → κ ∘ ⟨ last κ ⟩ ≡ κ
unfolding last ◌∘◌
concatenate_last ⟨ D ⟩ = refl
concatenate_last (D ▷ κ) = ap (λ π. D ▷ π) (concatenate_last κ)
