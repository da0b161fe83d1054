-- What an index of a table holds: chains by bucket, and the answers of each call record in rising order. It stands in quarters of the words lent.
-- Read by the proofs alone. Assumes nothing.
use Rattle.std.specs.Prelude.{ℕ, ◌+◌, ◌-◌, ◌*◌, ◌/◌, ◌%◌, ◌^◌, ◌<◌, ◌≤◌, ◌≡◌, Bool, true, false, List, ◌≢◌, length, get_or}
use Rattle.std.specs.Int.Count.{count_leading_zeros}
use Rattle.steps.specs.State.{State}
use Rattle.quarters.specs.Quarters.{quarter}
use Rattle.records.specs.Records.{Calls, Answers, room, call_width}
use Rattle.records.specs.Storage.{CallAt}
use Rattle.desk.specs.Desk.{open_calls, mark_words, packed_width, packed_answers}

-- How many buckets serve so many records: the greatest power of two among them.
unfoldable pub buckets : ℕ → ℕ
buckets most = 2 ^ (63 - count_leading_zeros 64 most)

-- The bucket of a record, by its two keys.
unfoldable pub bucket : ℕ → ℕ → ℕ → ℕ
bucket most a s = (s % 65521 + a % 65536 * 1021) % buckets most

-- ---- records by their keys
-- Of each key below `most` that some record has, the latest record.
abbrev pub Latest : ℕ → (ℕ → ℕ) → ℕ → (ℕ → ℕ) → Type 0
Latest most key n latest = (k j : ℕ) → k < most → j < n → key j ≡ k → (latest k < n) × (key (latest k) ≡ k) × (j ≤ latest k)

-- From a key's head the links lead to all records of that key, the latest first.
pub record Covers (most : ℕ) (key : ℕ → ℕ) (n : ℕ) (heads links : ℕ → ℕ) : Type 0 where
  pub head : Latest most key n heads
  pub link : (i j : ℕ) → i < n → j < i → key j ≡ key i → (links i < i) × (key (links i) ≡ key i) × (j ≤ links i)

-- ---- the answers of a call record, one after another
pub record Queued (call : ℕ → ℕ) (m : ℕ) (firsts lasts nexts : ℕ → ℕ) : Type 0 where
  pub first : (row y : ℕ) → row < 65536 → y < m → call y ≡ row → (firsts row < m) × (call (firsts row) ≡ row) × (firsts row ≤ y)
  pub last : Latest 65536 call m lasts
  pub next : (x y : ℕ) → x < y → y < m → call y ≡ call x → (x < nexts x) × (nexts x < m) × (call (nexts x) ≡ call x) × (nexts x ≤ y)

-- ---- where the notes stand
-- In the words from `base` on: the head of a bucket, the link of a record, the next answer, and at a call record's first answer its last.
abbrev pub heads_in : List ℕ → ℕ → ℕ → ℕ
heads_in words base k = quarter (get_or words (base + k) 0) 3

abbrev pub links_in : List ℕ → ℕ → ℕ → ℕ
links_in words base i = quarter (get_or words (base + i) 0) 2

abbrev pub lasts_in : List ℕ → ℕ → ℕ → ℕ
lasts_in words base f = quarter (get_or words (base + f) 0) 1

abbrev pub nexts_in : List ℕ → ℕ → ℕ → ℕ
nexts_in words base x = quarter (get_or words (base + x) 0) 0

-- In the last word of a call record: its first answer.
abbrev pub firsts_in : List ℕ → ℕ → ℕ
firsts_in calls r = quarter (get_or calls (call_width * r + 2) 0) 3

-- The notes of the answers stand behind the records that there is room for.
abbrev pub answer_notes : ℕ → ℕ
answer_notes most = packed_width * most

-- ---- finding by an index
-- Records of `width` words by their keys: the first word divided by a unit, and the second word.
abbrev pub keys_in : ℕ → ℕ → List ℕ → ℕ → Calls
keys_in unit width words n = record {
  count = n;
  action = λ i. get_or words (width * i) 0 / unit;
  state = λ i. get_or words (width * i + 1) 0;
  round = λ i. i;
}

-- The keys of an answer record: its call record and its final state.
abbrev pub answer_keys : List ℕ → ℕ → Calls
answer_keys words m = let answers = packed_answers words m in
    record { count = m; action = answers.call; state = answers.final; round = λ i. i }

-- Record i is of the call's bucket, and not before record j.
abbrev pub Reaches : ℕ → Calls → ℕ → State → ℕ → ℕ → Type 0
Reaches most calls a D j i = (i < calls.count) × (bucket most (calls.action i) (calls.state i) ≡ bucket most a D) × (j ≤ i)

-- Where a search for a call stands: from i the links still lead to each record of it.
abbrev pub Sought : ℕ → Calls → ℕ → State → ℕ → Type 0
Sought most calls a D i = (j : ℕ) → j < calls.count → CallAt calls j a D → Reaches most calls a D j i

-- The records of a table by their keys, in the words from `base` on.
abbrev pub Keyed : ℕ → Calls → List ℕ → ℕ → Type 0
Keyed most calls words base =
    Covers most (λ i. bucket most (calls.action i) (calls.state i)) calls.count (heads_in words base) (links_in words base)

-- Whether g is an answer of the call record.
abbrev pub OfRow : Answers → ℕ → ℕ → Bool → Type 0
OfRow answers g row true = (g < answers.count) × (answers.call g ≡ row)
OfRow answers g row false = g < answers.count → answers.call g ≡ row → ⊥

-- ---- the two indexes
-- The index of the first n call records: a head and a link in each word of the list.
pub record CallIndex (calls list : List ℕ) (n : ℕ) : Type 0 where
  pub covers : Keyed (room call_width (length calls)) (open_calls calls n) list 0

-- The first m answer records by their keys, in the notes behind them.
abbrev pub AnswersKeyed : ℕ → List ℕ → ℕ → Type 0
AnswersKeyed most answers m = Keyed most (answer_keys answers m) answers (answer_notes most)

-- The index of the first m answer records: chains, and the answers of each call record.
pub record AnswerIndex (most : ℕ) (calls answers : List ℕ) (m : ℕ) : Type 0 where
  pub covers : AnswersKeyed most answers m
  pub queued : Queued (packed_answers answers m).call m (firsts_in calls) (λ r. lasts_in answers (answer_notes most) (firsts_in calls r))
      (nexts_in answers (answer_notes most))

-- ---- what is noted
-- The words differ at most in the heads and links from `base` on.
pub record Rechained (base : ℕ) (words words' : List ℕ) : Type 0 where
  pub long : length words' ≡ length words
  pub below : (p : ℕ) → p < base → get_or words' p 0 ≡ get_or words p 0
  pub rest : (p j : ℕ) → j < 2 → quarter (get_or words' p 0) j ≡ quarter (get_or words p 0) j

-- Record n is noted as the latest of bucket k.
pub record Noted (words : List ℕ) (base k n : ℕ) (words' : List ℕ) : Type 0 where
  pub rechained : Rechained base words words'
  pub head : heads_in words' base k ≡ n
  pub heads : (i : ℕ) → i ≢ k → heads_in words' base i ≡ heads_in words base i
  pub link : links_in words' base n ≡ heads_in words base k
  pub links : (i : ℕ) → i ≢ n → links_in words' base i ≡ links_in words base i

-- Record n, the latest of bucket k, is taken back out.
pub record Forgotten (words : List ℕ) (base k n : ℕ) (words' : List ℕ) : Type 0 where
  pub rechained : Rechained base words words'
  pub head : heads_in words' base k ≡ links_in words base n
  pub heads : (i : ℕ) → i ≢ k → heads_in words' base i ≡ heads_in words base i
  pub links : (i : ℕ) → links_in words' base i ≡ links_in words base i

-- Heads and links alone were written, and they are now of the first n records.
pub record Chained (most : ℕ) (key : ℕ → ℕ) (n base : ℕ) (words words' : List ℕ) : Type 0 where
  pub rechained : Rechained base words words'
  pub covers : Covers most key n (heads_in words' base) (links_in words' base)

-- The last of the answers whose first is f, or m where f is none of the first m.
pub record LastOf (words : List ℕ) (base f m last : ℕ) : Type 0 where
  pub held : f < m → last ≡ lasts_in words base f
  pub none : m ≤ f → last ≡ m

-- Answer m comes behind `last`, and it is the last of those whose first is f.
pub record Joined (words : List ℕ) (base f last m : ℕ) (words' : List ℕ) : Type 0 where
  pub long : length words' ≡ length words
  pub below : (p : ℕ) → p < base → get_or words' p 0 ≡ get_or words p 0
  pub next : nexts_in words' base last ≡ m
  pub nexts : (x : ℕ) → x ≢ last → nexts_in words' base x ≡ nexts_in words base x
  pub end : lasts_in words' base f ≡ m
  pub lasts : (x : ℕ) → x ≢ f → lasts_in words' base x ≡ lasts_in words base x
  pub rest : (p j : ℕ) → j < 4 → 2 ≤ j → quarter (get_or words' p 0) j ≡ quarter (get_or words p 0) j

-- ---- what stays where a record is added
-- A call: the marks, the words of uses, and the list but for heads and links.
pub record CallsKept (calls list calls' list' : List ℕ) : Type 0 where
  pub long : length calls' ≡ length calls
  pub list_long : length list' ≡ length list
  pub marks : (k : ℕ) → mark_words calls' k ≡ mark_words calls k
  pub uses : (k : ℕ) → get_or calls' (call_width * k + 2) 0 ≡ get_or calls (call_width * k + 2) 0
  pub notes : (k j : ℕ) → j < 2 → quarter (get_or list' k 0) j ≡ quarter (get_or list k 0) j

-- An answer of call record `row`: the call table but for the first answer of that record.
pub record AnswersKept (calls answers calls' answers' : List ℕ) (row : ℕ) : Type 0 where
  pub long : length calls' ≡ length calls
  pub answers_long : length answers' ≡ length answers
  pub others : (p : ℕ) → p ≢ call_width * row + 2 → get_or calls' p 0 ≡ get_or calls p 0
  pub beside : (j : ℕ) → j < 3 → quarter (get_or calls' (call_width * row + 2) 0) j ≡ quarter (get_or calls (call_width * row + 2) 0) j

-- The notes hold one answer more, of call record `row` with final state f, whose record is about to be written.
pub record AnswerNoted (most : ℕ) (calls answers : List ℕ) (m row : ℕ) (f : State) (calls' answers' : List ℕ) : Type 0 where
  pub kept : AnswersKept calls answers calls' answers' row
  pub below : (p : ℕ) → p < answer_notes most → get_or answers' p 0 ≡ get_or answers p 0
  pub index : (words : List ℕ) → length words ≡ length answers
      → ((x : ℕ) → x < m → ((packed_answers words m).call x ≡ (packed_answers answers m).call x)
      × ((packed_answers words m).final x ≡ (packed_answers answers m).final x))
      → (packed_answers words m).call m ≡ row → (packed_answers words m).final m ≡ f
      → ((p : ℕ) → answer_notes most ≤ p → get_or words p 0 ≡ get_or answers' p 0)
      → AnswerIndex most calls' words (m + 1)
