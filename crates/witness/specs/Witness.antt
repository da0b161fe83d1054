-- What the path of an answer record says in the model theory. Assumes nothing.
use Rattle.std.specs.Prelude.{ℕ, ◌≡◌, List, [], ◌∷◌}
use Rattle.steps.specs.State.{State}
use Rattle.steps.specs.Run.{body_of_call}
use Rattle.steps.specs.Words.{book_of, run_of}
use Rattle.path.specs.Answered.{Handed, call_records, answer_records, states_of}
use Rattle.entailment.specs.Path.{Path, ⟨◌⟩, ◌▷◌, first, last}
use Rattle.entailment.specs.Entailment.{Entails}

-- The states of a path as they are listed: "one state for each update after the first state" (R-3).
unfoldable pub listed : Path → List State
listed ⟨ D ⟩ = D ∷ []
listed (D ▷ π) = D ∷ listed π

-- What is shown of record x is a path on which its call is entailed, from the call's state to the record's final state.
pub record Witness (l : Handed) (x : ℕ) : Type 1 where
  pub path : Path
  pub begins : first path ≡ (call_records l).state ((answer_records l).call x)
  pub ends : last path ≡ (answer_records l).final x
  pub entailed : Entails (book_of l.rules) path (body_of_call (run_of l.rules l.goal 0) ((call_records l).action ((answer_records l).call x)))
  pub shown : states_of l x ≡ listed path
