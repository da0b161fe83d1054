-- The records of the two tables as values, and their words (requests R-6 and R-7). Assumes nothing.
use Rattle.std.specs.Prelude.{ℕ, zero, suc, ◌-◌, List, [], ◌∷◌, ◌++◌, get_or, length, replicate}
use Rattle.steps.specs.State.{State}
use Rattle.canonical.specs.Order.{Key}

-- A call record: its action, its state, and the round that it came in.
pub record CallRow : Type 0 where
  pub action : ℕ
  pub state : State
  pub round : ℕ

-- An answer record. The evidence stands here for the steps of the body alone.
pub record AnswerRow : Type 0 where
  pub call : ℕ
  pub final : State
  pub rule : ℕ
  pub evidence : List ℕ
  pub round : ℕ

-- The records of both tables, in order.
pub record Rows : Type 0 where
  pub calls : List CallRow
  pub answers : List AnswerRow

-- "Calls shall stand by round, then action, then state": those of a round by this key;
abbrev pub call_key : CallRow → Key
call_key c = (c.action, c.state)

-- "answers by round, then call record, then final state".
abbrev pub answer_key : AnswerRow → Key
answer_key r = (r.call, r.final)

-- What stands past the last call record, of no account.
abbrev pub no_call : CallRow
no_call = record { action = 0; state = 0; round = 0 }

-- Call record number i.
abbrev pub call_at : List CallRow → ℕ → CallRow
call_at calls i = get_or calls i no_call

-- The n numbers from i on.
unfoldable pub numbers : ℕ → ℕ → List ℕ
numbers i zero = []
numbers i (suc n) = i ∷ numbers (suc i) n

-- ---- words

-- Call record: action, state, round.
unfoldable pub call_words : List CallRow → List ℕ
call_words [] = []
call_words (c ∷ cs) = c.action ∷ c.state ∷ c.round ∷ call_words cs

-- Answer record: call record number, final state, rule number, 16 evidence words, round.
unfoldable pub answer_words : List AnswerRow → List ℕ
answer_words [] = []
answer_words (r ∷ rs) =
    r.call ∷ r.final ∷ r.rule ∷ (r.evidence ++ (replicate (16 - length r.evidence) 0 ++ (r.round ∷ answer_words rs)))

-- A buffer of this length that begins with these words: 0 past them.
abbrev pub filled : ℕ → List ℕ → List ℕ
filled len words = words ++ replicate (len - length words) 0
