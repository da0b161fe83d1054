-- Paths of states and their concatenation. Assumes nothing.
use Rattle.steps.specs.State.{State}

-- "A path is a sequence of states": of one state, ⟨ D ⟩, or a state and a path after it.
infixr 25 ◌▷◌
pub data Path : Type 0 where
  ⟨◌⟩ : State → Path
  ◌▷◌ : State → Path → Path

unfoldable pub first : Path → State
first ⟨ D ⟩ = D
first (D ▷ π) = D

unfoldable pub last : Path → State
last ⟨ D ⟩ = D
last (D ▷ π) = last π

-- "Suppose that κ = ⟨D₁ … Dₖ⟩ and κ' = ⟨Dₖ … Dₖ₊ₗ⟩ are two paths. Then their concatenation is the path κ ∘ κ' = ⟨D₁ … Dₖ … Dₖ₊ₗ⟩"
-- (001, definition 3.1), "where Dₖ is the last state in κ and also the first state in κ'": who uses it says so.
infixr 24 ◌∘◌
unfoldable pub ◌∘◌ : Path → Path → Path
⟨ D ⟩ ∘ κ' = κ'
(D ▷ κ) ∘ κ' = D ▷ (κ ∘ κ')
