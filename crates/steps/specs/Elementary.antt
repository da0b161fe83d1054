-- One elementary step, computed: the moves of a query, an insert, a delete and a denial. The law `elementary_move` ties it to them.
-- Assumes nothing.
use Rattle.std.specs.Prelude.{cond, ltb}
use Rattle.steps.specs.State.{State, holds, added, removed}
use Rattle.steps.specs.Step.{Step, query, insert, delete, call, deny}

-- A step goes on in a state, or has no continuation.
pub data Onward : Type 0 where
  on : State → Onward
  stuck : Onward

-- A call is no elementary step, and a 64-bit state has no fluent from 64 on to insert (an accepted step names none): these have no continuation here.
unfoldable pub elementary : Step → State → Onward
elementary (query p) s = cond (holds s p) (on s) stuck
elementary (insert p) s = cond (ltb p 64) (on (added s p)) stuck
elementary (delete p) s = on (removed s p)
elementary (call a) s = stuck
elementary (deny p) s = cond (holds s p) stuck (on s)
