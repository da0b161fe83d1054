-- The code's answer to an elementary step as a value of the definition. Assumes nothing.
use Rattle.std.specs.Prelude.{Option, Some, None}
use Rattle.steps.specs.declared.state.State.{State}
use Rattle.steps.specs.Elementary.{Onward, on, stuck}

-- A state is one to go on in, none is no continuation.
unfoldable pub onward : Option State → Onward
onward (Some s) = on s.0
onward None = stuck
