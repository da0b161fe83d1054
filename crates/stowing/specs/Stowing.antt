-- The tables that two parties share, put aside within the words lent for them, and given back; or new ones given in their place. Read by the proofs
-- alone. Assumes nothing.
use Rattle.std.specs.Prelude.{ℕ, ◌+◌, ◌*◌, ◌/◌, ◌%◌, ◌<◌, ◌≤◌, ◌≡◌, List, [], ◌∷◌, length, get_or}
use Rattle.quarters.specs.Quarters.{quarter}
use Rattle.records.specs.Records.{Calls, Answers}
use Rattle.records.specs.Storage.{calls_in, answers_in, Beside}
use Rattle.desk.specs.Desk.{packed_width, packed_answers, open_calls, packed}

-- A call record: action, state.
abbrev pub call_words : ℕ
call_words = 2

-- An answer record: call record number, final state, rule number, 16 evidence words.
abbrev pub answer_words : ℕ
answer_words = 19

-- An answer record that is put aside, as a run has them: call record number, final state, rule number, a word that is free, four of evidence.
abbrev pub stowed_words : ℕ
stowed_words = packed_width

-- The words that each answer record put aside leaves free.
abbrev pub freed_words : ℕ
freed_words = 11

-- ---- answers

-- The first m answer records in the words of a table.
abbrev pub plain_answers : List ℕ → ℕ → Answers
plain_answers words m = answers_in answer_words words m

-- m answer records of 8 words that stand from a place on.
abbrev pub packed_from : ℕ → List ℕ → ℕ → Answers
packed_from from words m = let at : ℕ → ℕ → ℕ = λ x j. get_or words (from + stowed_words * x + j) 0 in
    record {
      count = m;
      call = λ x. get_or words (from + stowed_words * x) 0;
      final = λ x. at x 1;
      rule = λ x. at x 2;
      evidence = λ x q. quarter (at x (4 + q / 4)) (q % 4);
      round = λ x. at x 3;
    }

-- The answer records put aside in a table with room for `most`: they stand past the words that all of them leave free.
abbrev pub stowed_answers : ℕ → List ℕ → ℕ → Answers
stowed_answers most words m = packed_from (freed_words * most) words m

-- Answer record x is the same in both, whatever its round.
pub record AnswerAlike (a b : Answers) (x : ℕ) : Type 0 where
  pub call : a.call x ≡ b.call x
  pub final : a.final x ≡ b.final x
  pub rule : a.rule x ≡ b.rule x
  pub evidence : (q : ℕ) → q < 16 → a.evidence x q ≡ b.evidence x q

-- m answer records stand in a table with room for `most`.
pub record AnswersFit (most m : ℕ) (words : List ℕ) : Type 0 where
  pub few : m ≤ most
  pub fits : answer_words * most ≤ length words
  pub bound : most ≤ 65536

-- No evidence of the first m answer records is more than a quarter of a word holds.
pub record EvidenceSmall (words : List ℕ) (m : ℕ) : Type 0 where
  pub small : (x q : ℕ) → x < m → q < 16 → (plain_answers words m).evidence x q < 65536

-- The first m answer records are put aside.
pub record Stowed (most m : ℕ) (words words' : List ℕ) : Type 0 where
  pub long : length words' ≡ length words
  pub alike : (x : ℕ) → x < m → AnswerAlike (stowed_answers most words' m) (plain_answers words m) x

-- The m answer records put aside are given, and the words past them are 0.
pub record Unstowed (most m : ℕ) (words words' : List ℕ) : Type 0 where
  pub long : length words' ≡ length words
  pub alike : (x : ℕ) → x < m → AnswerAlike (plain_answers words' m) (stowed_answers most words m) x
  pub past : (p : ℕ) → answer_words * m ≤ p → get_or words' p 0 ≡ 0

-- The m answer records of a run are given, and the words past them are 0.
pub record AnswersGiven (m : ℕ) (words words' : List ℕ) : Type 0 where
  pub long : length words' ≡ length words
  pub alike : (x : ℕ) → x < m → AnswerAlike (plain_answers words' m) (packed_answers words m) x
  pub past : (p : ℕ) → answer_words * m ≤ p → get_or words' p 0 ≡ 0

-- The 8 words of an answer record put aside: the fourth is free, and 0 at first.
abbrev pub stow_words : ℕ → ℕ → ℕ → ℕ → ℕ → ℕ → ℕ → List ℕ
stow_words call last rule e₀ e₁ e₂ e₃ = call ∷ last ∷ rule ∷ 0 ∷ e₀ ∷ e₁ ∷ e₂ ∷ e₃ ∷ []

-- Those of answer record x.
abbrev pub stowed_record : List ℕ → ℕ → List ℕ
stowed_record words x = let w = answer_words * x in let at : ℕ → ℕ = λ i. get_or words i 0 in
    stow_words (at w) (at (w + 1)) (at (w + 2)) (packed words (w + 3)) (packed words (w + 7)) (packed words (w + 11)) (packed words (w + 15))

-- The answer record that stood in 8 words from a place on is record x; the words beside that record stay.
pub record AnswerLaid (words : List ℕ) (from x : ℕ) (words' : List ℕ) : Type 0 where
  pub long : length words' ≡ length words
  pub other : (p : ℕ) → Beside answer_words x p → get_or words' p 0 ≡ get_or words p 0
  pub call : get_or words' (answer_words * x) 0 ≡ get_or words from 0
  pub final : get_or words' (answer_words * x + 1) 0 ≡ get_or words (from + 1) 0
  pub rule : get_or words' (answer_words * x + 2) 0 ≡ get_or words (from + 2) 0
  pub evidence : (q : ℕ) → q < 16 → get_or words' (answer_words * x + 3 + q) 0 ≡ quarter (get_or words (from + 4 + q / 4) 0) (q % 4)

-- ---- calls

-- The first n call records in the words of a table.
abbrev pub plain_calls : List ℕ → ℕ → Calls
plain_calls words n = calls_in call_words words n

-- n call records stand in a table with room for `most`, and there are places for their actions.
pub record CallsFit (most n : ℕ) (words actions : List ℕ) : Type 0 where
  pub few : n ≤ most
  pub fits : call_words * most ≤ length words
  pub bound : most ≤ 65536
  pub places : n ≤ length actions

-- No action of the first n call records is more than a byte.
pub record ActionsSmall (words : List ℕ) (n : ℕ) : Type 0 where
  pub small : (i : ℕ) → i < n → (plain_calls words n).action i < 256

-- The first n call records are put aside: the states from word `most` on, the actions beside the table.
pub record CallsStowed (most n : ℕ) (words words' actions : List ℕ) : Type 0 where
  pub long : length words' ≡ length words
  pub actions_kept : (i : ℕ) → i < n → get_or actions i 0 ≡ (plain_calls words n).action i
  pub states_kept : (i : ℕ) → i < n → get_or words' (most + i) 0 ≡ (plain_calls words n).state i

-- The first n call records have these actions and states, and the words past them are 0.
pub record CallsLaid (n : ℕ) (action state : ℕ → ℕ) (words words' : List ℕ) : Type 0 where
  pub long : length words' ≡ length words
  pub actions : (i : ℕ) → i < n → (plain_calls words' n).action i ≡ action i
  pub states : (i : ℕ) → i < n → (plain_calls words' n).state i ≡ state i
  pub past : (p : ℕ) → call_words * n ≤ p → get_or words' p 0 ≡ 0

-- The n call records put aside are given,
abbrev pub CallsUnstowed : ℕ → ℕ → List ℕ → List ℕ → List ℕ → Type 0
CallsUnstowed most n words actions words' = CallsLaid n (λ i. get_or actions i 0) (λ i. get_or words (most + i) 0) words words'

-- and those of a run.
abbrev pub CallsGiven : ℕ → List ℕ → List ℕ → List ℕ → Type 0
CallsGiven n rows words words' = CallsLaid n (open_calls rows n).action (open_calls rows n).state words words'
