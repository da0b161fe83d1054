-- Tables handed back, put aside while goals are evaluated in the words that this leaves free, and what is found so (request R-14). Read by the
-- proofs alone. Assumes nothing.
use Rattle.std.specs.Prelude.{ℕ, ◌*◌, ◌<◌, ◌≤◌, ◌≡◌, Bool, true, false, List, ◌⊎◌, length, get_or}
use Rattle.steps.specs.State.{State}
use Rattle.records.specs.Records.{Bodies, room, call_width}
use Rattle.records.specs.Bodies.{bodies_with}
use Rattle.records.proofs.Growth.{Tables, tables}
use Rattle.tabling.proofs.Evidence.{Among}
use Rattle.tabling.proofs.Closed.{Whole}
use Rattle.tabling.proofs.Adding.{Outgrown}
use Rattle.index.specs.Index.{CallIndex, AnswersKeyed}
use Rattle.invariants.proofs.Going.{Kept, in_words}
use Rattle.stowing.specs.Stowing.{call_words, answer_words, freed_words, plain_calls, plain_answers, stowed_answers, ActionsSmall, EvidenceSmall}
use Rattle.matching.specs.Flags.{Whether}
use Rattle.matching.specs.Matching.{SameRows}
use Rattle.checks.specs.Checks.{bad_plain}
use Rattle.joint.specs.Joint.{roots_of}
use Rattle.sharing.specs.Parties.{Account}

-- ---- the tables

-- For how many call records a table of so many words has room,
abbrev pub call_room : List ℕ → ℕ
call_room calls = room call_words (length calls)

-- and for how many answer records.
abbrev pub answer_room : List ℕ → ℕ
answer_room answers = room answer_words (length answers)

-- Both tables as they are handed back: n call records and m answer records.
abbrev pub plain_tables : List ℕ → ℕ → List ℕ → ℕ → Tables
plain_tables calls n answers m = tables (plain_calls calls n) (plain_answers answers m)

-- 42 does not refuse them, and all past the records is 0.
pub record GoodTables (first second : Bool) (fluents actions : ℕ) (bodies : Bodies) (calls : List ℕ) (n : ℕ) (answers : List ℕ) (m : ℕ) : Type 0 where
  pub right : bad_plain first second fluents actions bodies (plain_calls calls n) (plain_answers answers m) ≡ false
  pub calls_past : (p : ℕ) → call_words * n ≤ p → get_or calls p 0 ≡ 0
  pub answers_past : (p : ℕ) → answer_words * m ≤ p → get_or answers p 0 ≡ 0

-- They may be put aside, and come back word for word: the records are within their rooms, actions and evidence fit the places that they get, each
-- answer is of one of the call records, and all past the records is 0.
pub record Handed (calls : List ℕ) (n : ℕ) (answers : List ℕ) (m : ℕ) : Type 0 where
  pub calls_few : n ≤ call_room calls
  pub answers_few : m ≤ answer_room answers
  pub actions : ActionsSmall calls n
  pub evidence : EvidenceSmall answers m
  pub of_calls : (x : ℕ) → x < m → (plain_answers answers m).call x < n
  pub calls_past : (p : ℕ) → call_words * n ≤ p → get_or calls p 0 ≡ 0
  pub answers_past : (p : ℕ) → answer_words * m ≤ p → get_or answers p 0 ≡ 0

-- Words for the call records of a run, three for each that the table has room for, and a byte for the action of each.
pub record Lent (rows bytes calls : List ℕ) : Type 0 where
  pub rows_long : length rows ≡ call_width * call_room calls
  pub bytes_long : call_room calls ≤ length bytes

-- n call records and m answer records are put aside in their tables, and each answer is of one of the call records.
pub record Aside (bytes calls : List ℕ) (n : ℕ) (answers : List ℕ) (m : ℕ) : Type 0 where
  pub calls_few : n ≤ call_room calls
  pub bytes_long : n ≤ length bytes
  pub answers_few : m ≤ answer_room answers
  pub of_calls : (x : ℕ) → x < m → (stowed_answers (answer_room answers) answers m).call x < n

-- ---- what is found

-- All keep their lengths, and the words in which records are put aside stay.
pub record Spared (rows calls answers rows' calls' answers' : List ℕ) : Type 0 where
  pub rows_long : length rows' ≡ length rows
  pub calls_long : length calls' ≡ length calls
  pub answers_long : length answers' ≡ length answers
  pub calls_kept : (p : ℕ) → call_room calls ≤ p → get_or calls' p 0 ≡ get_or calls p 0
  pub answers_kept : (p : ℕ) → freed_words * answer_room answers ≤ p → get_or answers' p 0 ≡ get_or answers p 0

-- The free words hold the rows of these roots with their indexes, every record closed under all answers; or there are more calls or answers than
-- the tables have room for.
pub record FilledAside (bodies : Bodies) (roots : List (ℕ × State)) (rows calls answers rows' calls' answers' : List ℕ)
    (full : Bool) (n m : ℕ) : Type 0 where
  pub spared : Spared rows calls answers rows' calls' answers'
  pub kept : full ≡ false → Kept (answer_room answers) rows' calls' n answers' m
  pub calls_index : full ≡ false → CallIndex rows' calls' n
  pub answers_index : full ≡ false → AnswersKeyed (answer_room answers) answers' m
  pub whole : full ≡ false → Whole bodies (Among roots) 0 (in_words rows' n answers' m)
  pub outgrown : full ≡ true → Outgrown bodies (Among roots) (call_room calls) (answer_room answers)

-- These roots have n calls and m answers, and whether the tables t hold just these, each once; or they have more calls or answers than there are
-- places, and t, which has no more, does not hold them.
pub record Compared (bodies : Bodies) (roots : List (ℕ × State)) (places most : ℕ) (t : Tables) (full : Bool) (n m : ℕ) (same : Bool) : Type 0 where
  pub outgrown : full ≡ true → Outgrown bodies (Among roots) places most × (same ≡ false)
  pub found : full ≡ false
      → (e : Tables) × Whole bodies (Among roots) 0 e × (e.calls.count ≡ n) × (e.answers.count ≡ m) × Whether (SameRows t e) same

-- ---- limits

-- Whether the party of this account, if it holds rows, is within its limits: the n calls and m answers of both parties are; or by the calls and
-- answers of its goal alone.
pub data Sized (rules : List ℕ) (a : Account) (places most n m : ℕ) (r : Bool) : Type 0 where
  no_rows : r ≡ true → a.holds ≡ false → Sized rules a places most n m r
  by_both : r ≡ true → n ≤ a.call_limit → m ≤ a.answer_limit → Sized rules a places most n m r
  too_many : r ≡ false → a.holds ≡ true
      → Outgrown (bodies_with rules true false a.goal a.goal) (Among (roots_of true false a.start a.start)) places most
      → Sized rules a places most n m r
  counted : a.holds ≡ true → (e : Tables)
      → Whole (bodies_with rules true false a.goal a.goal) (Among (roots_of true false a.start a.start)) 0 e
      → Whether ((e.calls.count ≤ a.call_limit) × (e.answers.count ≤ a.answer_limit)) r → Sized rules a places most n m r

-- Both are, or one of them is not.
abbrev pub BothSized : List ℕ → Account → Account → ℕ → ℕ → ℕ → ℕ → Bool → Type 0
BothSized rules a b places most n m true = Sized rules a places most n m true × Sized rules b places most n m true
BothSized rules a b places most n m false = Sized rules a places most n m false ⊎ Sized rules b places most n m false
