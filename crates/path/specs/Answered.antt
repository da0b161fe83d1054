-- What the path answers, for every input: the refusal, the count of states, and the list. Assumes nothing.
use Rattle.std.specs.Prelude.{ℕ, ◌≡◌, Bool, cond, not, List, ◌++◌, length, drop, eqb, ltb}
use Rattle.refusals.specs.Path.{path_refusals}
use Rattle.steps.specs.State.{State}
use Rattle.steps.specs.Acceptance.{words_refusal}
use Rattle.records.specs.Records.{Calls, Answers, Bodies, bodies_of, call_table, answer_table}
use Rattle.checks.specs.Checks.{over_room, bad_records}
use Rattle.unfolding.specs.Path.{path_of}

-- What is handed over to be read: two counts, rule words, goal words, and two tables with the counts of their records.
abbrev pub Handed : Type 0
Handed = record { fluents : ℕ; actions : ℕ; rules : List ℕ; goal : List ℕ; calls : List ℕ; call_count : ℕ; answers : List ℕ; answer_count : ℕ }

abbrev pub handed : ℕ → ℕ → List ℕ → List ℕ → List ℕ → ℕ → List ℕ → ℕ → Handed
handed fluents actions rules goal calls call_count answers answer_count = record {
  fluents = fluents;
  actions = actions;
  rules = rules;
  goal = goal;
  calls = calls;
  call_count = call_count;
  answers = answers;
  answer_count = answer_count;
}

-- Its call records and its answer records.
abbrev pub call_records : Handed → Calls
call_records l = call_table l.calls l.call_count

abbrev pub answer_records : Handed → Answers
answer_records l = answer_table l.answers l.answer_count

abbrev pub bodies : Handed → Bodies
bodies l = bodies_of l.rules l.goal

-- The states in the path of answer record x.
abbrev pub states_of : Handed → ℕ → List State
states_of l x = path_of (call_records l) (answer_records l) (bodies l) x

-- The first of 20 to 23 and 40 to 42 that is met, down the table, or 0: all records counted are checked first.
unfoldable pub fault : Handed → ℕ → ℕ
fault l x =
    cond (eqb (words_refusal l.fluents l.actions l.rules l.goal) 0)
    (cond (over_room l.calls l.call_count l.answers l.answer_count) path_refusals.bad_record_count
    (cond (not (ltb x l.answer_count)) path_refusals.no_record
    (cond (bad_records l.fluents l.actions (bodies l) (call_records l) (answer_records l)) path_refusals.bad_record 0)))
    (words_refusal l.fluents l.actions l.rules l.goal)

-- 43: fewer places than states in the path
unfoldable pub too_short : Handed → ℕ → List ℕ → Bool
too_short l x list = ltb (length list) (length (states_of l x))

-- The refusal, or 0.
unfoldable pub path_refusal : Handed → ℕ → List ℕ → ℕ
path_refusal l x list = cond (eqb (fault l x) 0) (cond (too_short l x list) path_refusals.states_short 0) (fault l x)

-- The count of states; 0 where refused.
unfoldable pub state_count : Handed → ℕ → List ℕ → ℕ
state_count l x list = cond (eqb (path_refusal l x list) 0) (length (states_of l x)) 0

-- The list afterwards: the states, and past them what it held; unchanged where refused.
unfoldable pub list_after : Handed → ℕ → List ℕ → List ℕ
list_after l x list = cond (eqb (path_refusal l x list) 0) (states_of l x ++ drop (length (states_of l x)) list) list

-- The operation's answer and the list that it leaves.
pub record Answered (l : Handed) (x : ℕ) (list : List ℕ) (refusal states : ℕ) (list' : List ℕ) : Type 0 where
  pub the_refusal : refusal ≡ path_refusal l x list
  pub the_count : states ≡ state_count l x list
  pub the_list : list' ≡ list_after l x list
