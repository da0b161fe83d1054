-- The rows that two parties hold in one pair of tables, and when the tables are as kept (request R-14). Assumes nothing.
use Rattle.std.specs.Prelude.{ℕ, ◌+◌, ◌*◌, ◌<◌, ◌≤◌, ◌≡◌, Bool, true, false, cond, ◌&&◌, ◌||◌, List, [], ◌∷◌, ◌⊎◌, get_or, length, eqb, ltb}
use Rattle.steps.specs.State.{State}
use Rattle.steps.specs.Step.{call}
use Rattle.steps.specs.Deduction.{Final, ComesToCall}
use Rattle.steps.specs.Run.{Run, Call, Answer}
use Rattle.steps.specs.Words.{run_of}
use Rattle.steps.specs.Acceptance.{bad_goal, bad_state}
use Rattle.steps.specs.Counting.{Exactly, Outnumbers}
use Rattle.records.specs.Records.{Calls, Answers, Bodies, bodies_of, goal_rule, room, justified}
use Rattle.records.specs.Storage.{calls_in, answers_in}
use Rattle.records.specs.Finished.{call_rows, answer_rows}
use Rattle.sharing.specs.Parties.{Party, first, second, goal_number, Account, Ledger, account_of, ledger_width, ledger_of}

-- ---- calls and answers

-- A run's calls as demand 3 has them, the goal standing as action g (`Call` has 64 for it),
abbrev pub CallAs : ℕ → Run → ℕ × State → Type 0
CallAs g run (a, D) = ((a ≡ g) × (D ≡ run.start)) ⊎ ComesToCall run.book run.start run.goal a D

-- and its answers: each call with each of its final states.
abbrev pub AnswerAs : ℕ → Run → ℕ × State × State → Type 0
AnswerAs g run (a, D, D') = CallAs g run (a, D) × Final run.book D (cond (eqb a g) run.goal (call a ∷ [])) D'

-- The run of an account's goal from its start.
abbrev pub run_held : List ℕ → Account → Run
run_held rules a = run_of rules a.goal a.start

-- "The calls ... of the kept goals at their starts": those of each party that holds rows, whoever else needs them;
abbrev pub KeptCall : List ℕ → Ledger → ℕ × State → Type 0
KeptCall rules l c = (p : Party) × ((account_of l p).holds ≡ true) × CallAs (goal_number p) (run_held rules (account_of l p)) c

-- and their answers.
abbrev pub KeptAnswer : List ℕ → Ledger → ℕ × State × State → Type 0
KeptAnswer rules l c = (p : Party) × ((account_of l p).holds ≡ true) × AnswerAs (goal_number p) (run_held rules (account_of l p)) c

-- ---- records

-- "Rounds, R-7's order and R-10's list do not apply here: records have 2 and 19 words." A call record: action, state.
abbrev pub plain_call_width : ℕ
plain_call_width = 2

-- An answer record: call record number, final state, rule number, 16 evidence words. (Its number stands for its round.)
abbrev pub plain_answer_width : ℕ
plain_answer_width = 19

-- The call records of the tables, "so counted",
abbrev pub kept_calls : Ledger → List ℕ → Calls
kept_calls l calls = calls_in plain_call_width calls l.calls

-- and the answer records.
abbrev pub kept_answers : Ledger → List ℕ → Answers
kept_answers l answers = answers_in plain_answer_width answers l.answers

-- The action is 64 or 65 and its goal is kept.
unfoldable pub goal_kept : Ledger → ℕ → Bool
goal_kept l a = (eqb a (goal_number first) && l.first.holds) || (eqb a (goal_number second) && l.second.holds)

-- The goal that stands under this number.
unfoldable pub goal_under : Ledger → ℕ → List ℕ
goal_under l a = cond (eqb a (goal_number second)) l.second.goal l.first.goal

-- The bodies that answers may name: the rules' as ever; 256 is the goal of either party, and goes with its action where it is kept.
abbrev pub bodies_kept : List ℕ → Ledger → Bodies
bodies_kept rules l = record {
  fits = λ i a. cond (eqb i goal_rule) (goal_kept l a) ((bodies_of rules []).fits i a);
  words = λ i a. (bodies_of rules (goal_under l a)).words i a;
}

-- "The tables, so counted, hold exactly the calls and answers of the kept goals at their starts, each once and every answer justified, and 0 past
-- them." So "rows both need are stored once", and rows that no party needs are given up.
pub record Balanced (rules : List ℕ) (l : Ledger) (calls answers : List ℕ) : Type 0 where
  pub calls_held : Exactly (KeptCall rules l) (call_rows (kept_calls l calls))
  pub answers_held : Exactly (KeptAnswer rules l) (answer_rows (kept_calls l calls) (kept_answers l answers))
  pub justified : (x : ℕ) → x < l.answers → justified (kept_calls l calls) (kept_answers l answers) x (bodies_kept rules l) ≡ true
  pub calls_past : (i : ℕ) → plain_call_width * l.calls ≤ i → get_or calls i 0 ≡ 0
  pub answers_past : (i : ℕ) → plain_answer_width * l.answers ≤ i → get_or answers i 0 ≡ 0

-- ---- 90 and 91

-- 90: "the limits of both add up to more than a table's room"
unfoldable pub over_limits : Ledger → List ℕ → List ℕ → Bool
over_limits l calls answers = ltb (room plain_call_width (length calls)) (l.first.call_limit + l.second.call_limit)
    || ltb (room plain_answer_width (length answers)) (l.first.answer_limit + l.second.answer_limit)

-- 40: a record count over its room
unfoldable pub over_rooms : Ledger → List ℕ → List ℕ → Bool
over_rooms l calls answers = ltb (room plain_call_width (length calls)) l.calls || ltb (room plain_answer_width (length answers)) l.answers

-- 30 "against the party's own limits": the run's calls outnumber the limit of calls, or its answers that of answers. Rows both need are "charged to
-- each". (A run has as many calls and answers whatever its goal's number.)
abbrev pub Exceeds : Run → Account → Type 0
Exceeds run a = Outnumbers (Call run) a.call_limit ⊎ Outnumbers (Answer run) a.answer_limit

-- Not 91: what is kept is 44 words and meets none of "23, 24, 40 or 90", and "the tables handed back, counted as kept", do "hold just that, within
-- the limits".
pub record AsKept (fluents actions : ℕ) (rules words calls answers : List ℕ) : Type 0 where
  pub long : length words ≡ ledger_width
  pub goals : (p : Party) → bad_goal fluents actions (account_of (ledger_of words) p).goal ≡ false
  pub starts : (p : Party) → bad_state fluents (account_of (ledger_of words) p).start ≡ false
  pub counts : over_rooms (ledger_of words) calls answers ≡ false
  pub limits : over_limits (ledger_of words) calls answers ≡ false
  pub balanced : Balanced rules (ledger_of words) calls answers
  pub within : (p : Party) → (account_of (ledger_of words) p).holds ≡ true
      → ¬ Exceeds (run_held rules (account_of (ledger_of words) p)) (account_of (ledger_of words) p)
