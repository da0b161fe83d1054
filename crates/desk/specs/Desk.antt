-- The two tables while a run lasts: the records stand closer than they are given, and the words left hold what the run notes of them. Read by
-- the proofs alone. Assumes nothing.
use Rattle.std.specs.Prelude.{ℕ, ◌+◌, ◌*◌, ◌/◌, ◌%◌, ◌<◌, ◌≤◌, ◌≡◌, List, [], ◌∷◌, ◌++◌, ◌⊎◌, length, get_or, set}
use Rattle.steps.specs.State.{State}
use Rattle.quarters.specs.Quarters.{quarter}
use Rattle.records.specs.Records.{Calls, Answers, room, call_width, answer_width, call_table, answer_table}
use Rattle.records.specs.Storage.{Stored}

-- In the first word of a call record the action stands above the round, and the round above 32 bits of marks.
abbrev pub action_unit : ℕ
action_unit = 72057594037927936

abbrev pub round_unit : ℕ
round_unit = 4294967296

abbrev pub round_top : ℕ
round_top = 16777216

-- The first n call records.
abbrev pub open_calls : List ℕ → ℕ → Calls
open_calls words n = let at : ℕ → ℕ = λ i. get_or words i 0 in
    record {
      count = n;
      action = λ i. at (call_width * i) / action_unit;
      state = λ i. at (call_width * i + 1);
      round = λ i. at (call_width * i) / round_unit % round_top;
    }

-- The words of marks, one for each call record.
abbrev pub mark_words : List ℕ → ℕ → ℕ
mark_words words i = get_or words (call_width * i) 0 % round_unit

-- An answer record has 8 words: call record, final state, rule, round, and four words with a quarter for the evidence at each place.
abbrev pub packed_width : ℕ
packed_width = 8

-- The first m answer records.
abbrev pub packed_answers : List ℕ → ℕ → Answers
packed_answers words m = let w = packed_width in let at : ℕ → ℕ = λ i. get_or words i 0 in
    record {
      count = m;
      call = λ x. at (w * x);
      final = λ x. at (w * x + 1);
      rule = λ x. at (w * x + 2);
      evidence = λ x q. quarter (at (w * x + 4 + q / 4)) (q % 4);
      round = λ x. at (w * x + 3);
    }

-- n call records stand in the words of the call table, 0 past them, and the list has a word for each that there is room for.
pub record CallsOpen (calls list : List ℕ) (n : ℕ) : Type 0 where
  pub stored : Stored call_width calls n
  pub listed : room call_width (length calls) ≤ length list

-- How many words of the answer table a record takes while a run lasts: its own, and one for what is noted of it.
abbrev pub open_width : ℕ
open_width = 9

-- m answer records stand in the words of the answer table, which has room for so many at most.
pub record AnswersOpen (most : ℕ) (answers : List ℕ) (m : ℕ) : Type 0 where
  pub fits : m ≤ most
  pub small : most ≤ 65536
  pub long : open_width * most ≤ length answers

-- ---- what is written

-- The words with `new` from place `at` on.
pub record Written (words : List ℕ) (at : ℕ) (new words' : List ℕ) : Type 0 where
  pub long : length words' ≡ length words
  pub other : (p : ℕ) → (p < at) ⊎ (at + length new ≤ p) → get_or words' p 0 ≡ get_or words p 0
  pub here : (j : ℕ) → j < length new → get_or words' (at + j) 0 ≡ get_or new j 0

-- The words with call record n added: its action, state and round; the marks that stood there stay.
abbrev pub call_put : List ℕ → ℕ → ℕ → State → ℕ → List ℕ
call_put words n a D r = let at = call_width * n in set (set words at (a * action_unit + r * round_unit + mark_words words n)) (at + 1) D

-- The evidence at the four places from q on as the quarters of one word.
abbrev pub packed : List ℕ → ℕ → ℕ
packed evidence q = let at : ℕ → ℕ = λ i. get_or evidence i 0 % 65536 in
    at q + at (q + 1) * 65536 + at (q + 2) * 4294967296 + at (q + 3) * 281474976710656

-- The 8 words of an answer record.
abbrev pub packed_record : ℕ → State → ℕ → List ℕ → ℕ → List ℕ
packed_record row f rule evidence r =
    row ∷ f ∷ rule ∷ r ∷ packed evidence 0 ∷ packed evidence 4 ∷ packed evidence 8 ∷ packed evidence 12 ∷ []

-- ---- the tables as they are given

-- All quarters of a word.
abbrev pub quarters : ℕ → List ℕ
quarters word = quarter word 0 ∷ quarter word 1 ∷ quarter word 2 ∷ quarter word 3 ∷ []

-- The 20 words of answer record x as it is given.
abbrev pub given_record : List ℕ → ℕ → List ℕ
given_record words x = let w = packed_width * x in let at : ℕ → ℕ = λ i. get_or words i 0 in
    at w ∷ at (w + 1) ∷ at (w + 2) ∷ quarters (at (w + 4)) ++ (quarters (at (w + 5))
    ++ (quarters (at (w + 6)) ++ (quarters (at (w + 7)) ++ (at (w + 3) ∷ []))))

-- The first n call records are as they are given; the words past them stay.
pub record CallsClosed (words : List ℕ) (n : ℕ) (words' : List ℕ) : Type 0 where
  pub long : length words' ≡ length words
  pub actions : (i : ℕ) → i < n → (call_table words' n).action i ≡ (open_calls words n).action i
  pub states : (i : ℕ) → i < n → (call_table words' n).state i ≡ (open_calls words n).state i
  pub rounds : (i : ℕ) → i < n → (call_table words' n).round i ≡ (open_calls words n).round i
  pub past : (p : ℕ) → call_width * n ≤ p → get_or words' p 0 ≡ get_or words p 0

-- Answer record x is as it is given.
pub record AnswerClosed (words : List ℕ) (m : ℕ) (words' : List ℕ) (x : ℕ) : Type 0 where
  pub call : (answer_table words' m).call x ≡ (packed_answers words m).call x
  pub final : (answer_table words' m).final x ≡ (packed_answers words m).final x
  pub rule : (answer_table words' m).rule x ≡ (packed_answers words m).rule x
  pub evidence : (q : ℕ) → q < 16 → (answer_table words' m).evidence x q ≡ (packed_answers words m).evidence x q
  pub round : (answer_table words' m).round x ≡ (packed_answers words m).round x

-- The answer records from x up to m are as they are given; the words below them stay.
pub record AnswersSpread (words : List ℕ) (m x : ℕ) (words' : List ℕ) : Type 0 where
  pub long : length words' ≡ length words
  pub closed : (y : ℕ) → x ≤ y → y < m → AnswerClosed words m words' y
  pub below : (p : ℕ) → p < answer_width * x → get_or words' p 0 ≡ get_or words p 0

-- The first m answer records are as they are given, and the words past them are 0.
pub record AnswersClosed (words : List ℕ) (m : ℕ) (words' : List ℕ) : Type 0 where
  pub long : length words' ≡ length words
  pub closed : (x : ℕ) → x < m → AnswerClosed words m words' x
  pub stored : Stored answer_width words' m

-- The words from `from` on are 0; those below stay.
pub record ClearedFrom (words : List ℕ) (from : ℕ) (words' : List ℕ) : Type 0 where
  pub long : length words' ≡ length words
  pub cleared : (p : ℕ) → from ≤ p → get_or words' p 0 ≡ 0
  pub below : (p : ℕ) → p < from → get_or words' p 0 ≡ get_or words p 0
