-- What the code that stores and finds records promises, over the views of the tables. Assumes nothing.
use Rattle.std.specs.Prelude.{ℕ, ◌+◌, ◌*◌, ◌<◌, ◌≤◌, ◌≡◌, Bool, true, false, cond, List, ◌⊎◌, length, get_or, ltb, Option, MatchOption}
use Rattle.steps.specs.State.{State}
use Rattle.records.specs.Records.{Calls, Answers, room, call_width, answer_width}

-- ---- the words

-- A record's round stands in the word after its others. Where its `width` is only that of the others, its number stands for its round.
abbrev pub round_in : ℕ → ℕ → List ℕ → ℕ → ℕ
round_in others width words i = cond (ltb others width) (get_or words (width * i + others) 0) i

-- The records of a table by the width of one: those of the two tables are `call_table` and `answer_table`, and the first two words of either
-- are looked up alike.
abbrev pub calls_in : ℕ → List ℕ → ℕ → Calls
calls_in width words n =
    record { count = n; action = λ i. get_or words (width * i) 0; state = λ i. get_or words (width * i + 1) 0; round = round_in 2 width words }

abbrev pub answers_in : ℕ → List ℕ → ℕ → Answers
answers_in width words n = record {
  count = n;
  call = λ x. get_or words (width * x) 0;
  final = λ x. get_or words (width * x + 1) 0;
  rule = λ x. get_or words (width * x + 2) 0;
  evidence = λ x q. get_or words (width * x + 3 + q) 0;
  round = round_in 19 width words;
}

-- The words of a call record and of an answer record: a plain one has no round, and its number stands for it.
abbrev pub call_width_of : Bool → ℕ
call_width_of plain = cond plain 2 call_width

abbrev pub answer_width_of : Bool → ℕ
answer_width_of plain = cond plain 19 answer_width

-- The first n records of `width` words are in use, and all words past them are 0.
pub record Stored (width : ℕ) (words : List ℕ) (n : ℕ) : Type 0 where
  pub fits : width * n ≤ length words
  pub most : n ≤ 65536
  pub past : (i : ℕ) → width * n ≤ i → get_or words i 0 ≡ 0

-- ---- calls

-- Record i is of this call.
pub record CallAt (calls : Calls) (i a : ℕ) (D : State) : Type 0 where
  pub has_action : calls.action i ≡ a
  pub has_state : calls.state i ≡ D

abbrev pub NoCall : Calls → ℕ → State → Type 0
NoCall calls a D = (i : ℕ) → i < calls.count → CallAt calls i a D → ⊥

-- The record of a call, if there is one.
abbrev pub FoundCall : Calls → ℕ → State → Option ℕ → Type 0
FoundCall calls a D r = MatchOption r (NoCall calls a D) (λ i. (i < calls.count) × CallAt calls i a D)

-- The record of a call, or the count where there is none.
pub record FindCall (calls : Calls) (a : ℕ) (D : State) (r : ℕ) : Type 0 where
  pub found : r < calls.count → CallAt calls r a D
  pub absent : calls.count ≤ r → NoCall calls a D

-- One call record more, of round r.
pub record CallAdded (calls : Calls) (a : ℕ) (D : State) (r : ℕ) (calls' : Calls) : Type 0 where
  pub count : calls'.count ≡ calls.count + 1
  pub action_kept : (i : ℕ) → i < calls.count → calls'.action i ≡ calls.action i
  pub state_kept : (i : ℕ) → i < calls.count → calls'.state i ≡ calls.state i
  pub round_kept : (i : ℕ) → i < calls.count → calls'.round i ≡ calls.round i
  pub new : CallAt calls' calls.count a D
  pub new_round : calls'.round calls.count ≡ r

-- A call that is to stand in the table: it stood already, was added, or there is no room.
pub data CallPut (places : ℕ) (calls : Calls) (a : ℕ) (D : State) (r : ℕ) (calls' : Calls) (row : ℕ) (full : Bool) : Type 0 where
  call_stood : full ≡ false → row < calls.count → CallAt calls row a D → calls' ≡ calls → CallPut places calls a D r calls' row full
  call_added : full ≡ false → row ≡ calls.count → calls.count < places → NoCall calls a D → CallAdded calls a D r calls'
      → CallPut places calls a D r calls' row full
  call_no_room : full ≡ true → calls.count ≡ places → NoCall calls a D → calls' ≡ calls → CallPut places calls a D r calls' row full

-- What the code leaves in the words.
pub record CallStored (width : ℕ) (words : List ℕ) (n a : ℕ) (D : State) (r : ℕ) (words' : List ℕ) (row n' : ℕ) (full : Bool) : Type 0 where
  pub long : length words' ≡ length words
  pub stored : Stored width words' n'
  pub put : CallPut (room width (length words)) (calls_in width words n) a D r (calls_in width words' n') row full

-- ---- answers

-- Record x is of this call record and ends in this state.
pub record AnswerAt (answers : Answers) (x row : ℕ) (f : State) : Type 0 where
  pub has_call : answers.call x ≡ row
  pub has_final : answers.final x ≡ f

abbrev pub NoAnswer : Answers → ℕ → State → Type 0
NoAnswer answers row f = (x : ℕ) → x < answers.count → AnswerAt answers x row f → ⊥

abbrev pub HeldAnswer : Answers → ℕ → State → Type 0
HeldAnswer answers row f = (x : ℕ) × (x < answers.count) × AnswerAt answers x row f

-- The record of an answer, or the count where there is none.
pub record FindAnswer (answers : Answers) (row : ℕ) (f : State) (r : ℕ) : Type 0 where
  pub found : r < answers.count → AnswerAt answers r row f
  pub absent : answers.count ≤ r → NoAnswer answers row f

-- The first answer of the call record at or after `from`, below `known`; or `known`.
pub record NextAnswer (answers : Answers) (known row from r : ℕ) : Type 0 where
  pub low : from ≤ r
  pub high : r ≤ known
  pub skipped : (y : ℕ) → from ≤ y → y < r → answers.call y ≡ row → ⊥
  pub found : r < known → answers.call r ≡ row

-- One answer record more, of round r.
pub record AnswerAdded (answers : Answers) (row : ℕ) (f : State) (rule : ℕ) (evidence : List ℕ) (r : ℕ) (answers' : Answers) : Type 0 where
  pub count : answers'.count ≡ answers.count + 1
  pub call_kept : (x : ℕ) → x < answers.count → answers'.call x ≡ answers.call x
  pub final_kept : (x : ℕ) → x < answers.count → answers'.final x ≡ answers.final x
  pub rule_kept : (x : ℕ) → x < answers.count → answers'.rule x ≡ answers.rule x
  pub evidence_kept : (x q : ℕ) → x < answers.count → q < 16 → answers'.evidence x q ≡ answers.evidence x q
  pub round_kept : (x : ℕ) → x < answers.count → answers'.round x ≡ answers.round x
  pub new : AnswerAt answers' answers.count row f
  pub new_rule : answers'.rule answers.count ≡ rule
  pub new_evidence : (q : ℕ) → q < 16 → answers'.evidence answers.count q ≡ get_or evidence q 0
  pub new_round : answers'.round answers.count ≡ r

pub data AnswerPut (places : ℕ) (answers : Answers) (row : ℕ) (f : State) (rule : ℕ) (evidence : List ℕ) (r : ℕ) (answers' : Answers)
    (full : Bool) : Type 0 where
  answer_stood : full ≡ false → HeldAnswer answers row f → answers' ≡ answers → AnswerPut places answers row f rule evidence r answers' full
  answer_added : full ≡ false → answers.count < places → NoAnswer answers row f → AnswerAdded answers row f rule evidence r answers'
      → AnswerPut places answers row f rule evidence r answers' full
  answer_no_room : full ≡ true → answers.count ≡ places → NoAnswer answers row f → answers' ≡ answers
      → AnswerPut places answers row f rule evidence r answers' full

pub record AnswerStored (width : ℕ) (words : List ℕ) (n row : ℕ) (f : State) (rule : ℕ) (evidence : List ℕ) (r : ℕ) (words' : List ℕ) (n' : ℕ)
    (full : Bool) : Type 0 where
  pub long : length words' ≡ length words
  pub stored : Stored width words' n'
  pub put : AnswerPut (room width (length words)) (answers_in width words n) row f rule evidence r (answers_in width words' n') full

-- ---- the words of one record written

-- Word i is none of record n.
abbrev pub Beside : ℕ → ℕ → ℕ → Type 0
Beside width n i = (i < width * n) ⊎ (width * n + width ≤ i)

pub record PutCall (width : ℕ) (words : List ℕ) (n a : ℕ) (D : State) (r : ℕ) (words' : List ℕ) : Type 0 where
  pub long : length words' ≡ length words
  pub other : (i : ℕ) → Beside width n i → get_or words' i 0 ≡ get_or words i 0
  pub new : CallAt (calls_in width words' n) n a D
  pub new_round : 2 < width → (calls_in width words' n).round n ≡ r

pub record PutAnswer (width : ℕ) (words : List ℕ) (m row : ℕ) (f : State) (rule : ℕ) (evidence : List ℕ) (r : ℕ) (words' : List ℕ) : Type 0 where
  pub long : length words' ≡ length words
  pub other : (i : ℕ) → Beside width m i → get_or words' i 0 ≡ get_or words i 0
  pub new : AnswerAt (answers_in width words' m) m row f
  pub new_rule : (answers_in width words' m).rule m ≡ rule
  pub new_evidence : (q : ℕ) → q < 16 → (answers_in width words' m).evidence m q ≡ get_or evidence q 0
  pub new_round : 19 < width → (answers_in width words' m).round m ≡ r
