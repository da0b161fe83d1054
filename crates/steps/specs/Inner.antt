-- What inner contracts and laws say in one word of states, step words and rules. Assumes nothing.
use Rattle.std.specs.Prelude.{ℕ, Bool, cond, List, eqb, ltb}
use Rattle.steps.specs.State.{State, added}
use Rattle.steps.specs.Step.{Rule}
use Rattle.steps.specs.Words.{kind_of, body_of, head_of, words_of}

-- What the code makes of an insert of any number: a 64-bit state has no fluent from 64 on, and is handed back as it is.
abbrev pub inserted : State → ℕ → State
inserted s k = cond (ltb k 64) (added s k) s

-- A word of kind 3 is a call.
abbrev pub is_call : ℕ → Bool
is_call w = eqb (kind_of w) 3

-- Rule r of the words lent.
abbrev pub rule_of : List ℕ → ℕ → Rule
rule_of rules r = record { head = head_of rules r; body = body_of (words_of rules r) }
