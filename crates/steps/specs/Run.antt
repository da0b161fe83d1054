-- A run's calls, answers and ends (demand 3, and "Rules, goal and start" of document 01). Assumes nothing.
use Rattle.std.specs.Prelude.{ℕ, ◌≡◌, cond, [], ◌∷◌, ◌⊎◌, eqb}
use Rattle.steps.specs.State.{State}
use Rattle.steps.specs.Step.{call, Body, Book}
use Rattle.steps.specs.Deduction.{Final, ComesToCall}

-- A run is of a goal from a start, under the rules of a book.
abbrev pub Run : Type 0
Run = record { book : Book; goal : Body; start : State }

-- The goal "stands in the tables as action 64".
abbrev pub Goal : ℕ
Goal = 64

-- Demand 3: a run's calls are the goal at its start and every action at every state where some deduction comes to call it.
abbrev pub Call : Run → ℕ × State → Type 0
Call run (a, D) = ((a ≡ Goal) × (D ≡ run.start)) ⊎ ComesToCall run.book run.start run.goal a D

-- The final states of an action "are those of the body that only calls it"; those of action 64 are the goal's.
abbrev pub body_of_call : Run → ℕ → Body
body_of_call run a = cond (eqb a Goal) run.goal (call a ∷ [])

-- Demand 3: its answers are each call with each of its final states.
abbrev pub Answer : Run → ℕ × State × State → Type 0
Answer run (a, D, D') = Call run (a, D) × Final run.book D (body_of_call run a) D'

-- "Its ends are the goal's final states at the start."
abbrev pub End : Run → State → Type 0
End run D = Final run.book run.start run.goal D
