-- When the tables are full (refusal 30). Assumes nothing.
use Rattle.std.specs.Prelude.{ℕ, ◌⊎◌}
use Rattle.steps.specs.Run.{Run, Call, Answer}
use Rattle.steps.specs.Counting.{Outnumbers}
use Rattle.records.specs.Records.{room, call_width, answer_width}

-- The run's calls outnumber the call room, or its answers the answer room, of tables of these lengths.
abbrev pub Full : Run → ℕ → ℕ → Type 0
Full run calls answers = Outnumbers (Call run) (room call_width calls) ⊎ Outnumbers (Answer run) (room answer_width answers)
