-- Path structures, satisfaction, models and executional entailment. 001 has m-paths, which are paths with pauses, for concurrency; document 01
-- leaves concurrency out, and what stands here are its definitions on paths, as section 2 of 000 has them. Assumes nothing.
use Rattle.std.specs.Prelude.{ℕ, ◌≡◌, true, false}
use mathlib.Core.List.{[], ◌∷◌, Memᴰ}
use Rattle.steps.specs.State.{State, holds, added, removed}
use Rattle.steps.specs.Step.{Step, query, insert, delete, call, deny, Body, Rule, Book}
use Rattle.entailment.specs.Path.{Path, ⟨◌⟩, ◌▷◌, first, last, ◌∘◌}

-- A path structure is "a function defined on the set of all possible paths that assigns first-order semantics to paths" (000; 001, definition 3.4).
-- Of ground atoms that is: which are true on which paths. The atoms are the steps: queries, elementary updates and calls.
pub record Structure : Type 1 where
  pub true_on : Path → Step → Type 0
  -- "Data oracle compliance": what is true at state D is true on the path ⟨D⟩.
  pub data_oracle : (D : State) (p : ℕ) → holds D p ≡ true → true_on ⟨ D ⟩ (query p)
  -- Request R-2: so is that a fluent does not hold at D.
  pub denial_oracle : (D : State) (p : ℕ) → holds D p ≡ false → true_on ⟨ D ⟩ (deny p)
  -- "Transition oracle compliance": an update that leads from D₁ to D₂ is true on ⟨D₁, D₂⟩. "Insert: iff D₂ = D₁ ∪ {p}",
  pub insert_oracle : (D : State) (p : ℕ) → true_on (D ▷ ⟨ added D p ⟩) (insert p)
  -- "Delete: iff D₂ = D₁ - {p}", where D₁ and D₂ may be equal.
  pub delete_oracle : (D : State) (p : ℕ) → true_on (D ▷ ⟨ removed D p ⟩) (delete p)

-- M, π ⊨ φ (000; 001, definition 3.5) for a body, the serial conjunction of its steps.
pub data Satisfies (M : Structure) : Path → Body → Type 0 where
  -- () "is a transaction that is true on every m-path of the form ⟨D⟩" (001, footnote 5).
  empty : {D : State} → Satisfies M ⟨ D ⟩ []
  -- "Serial conjunction: M, π ⊨ φ ⊗ ψ iff M, π₁ ⊨ φ and M, π₂ ⊨ ψ for some paths π₁ and π₂ such that π = π₁ ∘ π₂."
  serial : {π π₁ π₂ : Path} {s : Step} {rest : Body} → M.true_on π₁ s → Satisfies M π₂ rest → last π₁ ≡ first π₂
      → π ≡ π₁ ∘ π₂ → Satisfies M π (s ∷ rest)

-- "M is a model of P iff M, π ⊨ φ for every path π and every φ ∈ P": where the body of a rule is true, its head is.
abbrev pub Model : Book → Structure → Type 0
Model book M = (r : Rule) → Memᴰ r book → (π : Path) → Satisfies M π r.body → M.true_on π (call r.head)

-- Executional entailment, P, D₀, D₁, …, Dₙ ⊨ φ: "M, D₀, D₁, …, Dₙ ⊨ φ for every model M of P" (000; 001, definition 3.8, (1)).
abbrev pub Entails : Book → Path → Body → Type 1
Entails book π body = (M : Structure) → Model book M → Satisfies M π body

-- "Transaction φ may transform database D₀ into database Dₙ by passing through intermediate states" (001, after definition 3.8).
abbrev pub Transforms : Book → State → Body → State → Type 1
Transforms book D body D' = (π : Path) × (first π ≡ D) × (last π ≡ D') × Entails book π body

-- P, D --- ⊨ φ: "true iff statement (1) is true for some sequence" that begins with D (001, definition 3.8, (2)).
abbrev pub Succeeds : Book → State → Body → Type 1
Succeeds book D body = (π : Path) × (first π ≡ D) × Entails book π body
