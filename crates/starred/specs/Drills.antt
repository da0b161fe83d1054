-- The starred drills D1 to D10 of document 01, ten rows of one table, rows for request R-2 beside them, and what a row says of its run and its
-- paths. Assumes nothing.
use Rattle.std.specs.Prelude.{ℕ, ◌+◌, ◌-◌, ◌<◌, ◌≤◌, ◌≡◌, false, length, replicate}
use mathlib.Core.List.{List, [], ◌∷◌, ◌++◌, map, Memᴰ}
use Rattle.steps.specs.State.{State}
use Rattle.steps.specs.Step.{Step, query, insert, delete, call, deny, Body}
use Rattle.steps.specs.Run.{Run, Goal, Call, Answer, End}
use Rattle.steps.specs.Counting.{Exactly, Rising}
use Rattle.steps.specs.Words.{run_of}
use Rattle.steps.specs.Acceptance.{refusal_of}
use Rattle.records.specs.Finished.{Finished}
use Rattle.checks.specs.Checks.{last_round, over_room}
use Rattle.path.specs.Answered.{Handed, call_records, answer_records, fault, path_refusal, state_count, list_after}

-- A path of a row: words of both tables, the answer record asked for and the list lent; then the refusal, the count of states and the list
-- afterwards, which are the same for all tables of the row's run.
pub record DrillPath : Type 0 where
  pub calls : List ℕ
  pub answers : List ℕ
  pub asked : ℕ
  pub list : List ℕ
  pub refusal : ℕ
  pub count : ℕ
  pub after : List ℕ

-- A row: counts of fluents and actions, rule words, start and goal words as they are lent; the ends in rising order, how many calls and
-- answers there are, and the paths.
pub record Drill : Type 0 where
  pub fluents : ℕ
  pub actions : ℕ
  pub rules : List ℕ
  pub start : State
  pub goal : List ℕ
  pub ends : List State
  pub calls : ℕ
  pub answers : ℕ
  pub paths : List DrillPath

abbrev pub run : Drill → Run
run d = run_of d.rules d.goal d.start

-- What is handed over for a path of a row: the row's counts, rules and goal, and tables with as many records as the row has calls and answers.
abbrev pub handed_of : Drill → List ℕ → List ℕ → Handed
handed_of d calls answers = record {
  fluents = d.fluents;
  actions = d.actions;
  rules = d.rules;
  goal = d.goal;
  calls = calls;
  call_count = d.calls;
  answers = answers;
  answer_count = d.answers;
}

-- Tables of a finished run of the row, their counts not over their rooms and their calls' rounds not over the last that there can be, and the
-- number in them of an answer of the goal at the start.
pub record GoalAnswer (d : Drill) (calls answers : List ℕ) (x : ℕ) : Type 0 where
  pub finished : Finished d.rules d.goal d.start calls answers d.calls d.answers
  pub fits : over_room calls d.calls answers d.answers ≡ false
  pub rounds : (i : ℕ) → i < d.calls → (call_records (handed_of d calls answers)).round i ≤ last_round
  pub below : x < d.answers
  pub action : (call_records (handed_of d calls answers)).action ((answer_records (handed_of d calls answers)).call x) ≡ Goal
  pub state : (call_records (handed_of d calls answers)).state ((answer_records (handed_of d calls answers)).call x) ≡ d.start

-- What a path of a row says of such tables: what is lent meets none of 20 to 23 and 40 to 42, and this is the result of the path.
pub record Shows (d : Drill) (p : DrillPath) (calls answers : List ℕ) (x : ℕ) : Type 0 where
  pub sound : fault (handed_of d calls answers) x ≡ 0
  pub refusal : path_refusal (handed_of d calls answers) x p.list ≡ p.refusal
  pub count : state_count (handed_of d calls answers) x p.list ≡ p.count
  pub after : list_after (handed_of d calls answers) x p.list ≡ p.after

-- Exactly n things satisfy P: a list that holds exactly these has length n.
abbrev pub Counts : {A : Type 0} → (A → Type 0) → ℕ → Type 0
Counts {A} P n = (xs : List A) × Exactly P xs × (length xs ≡ n)

-- What a row says: no refusal of 20 to 24; the ends, calls and answers of its run; its paths.
pub record Holds (d : Drill) : Type 0 where
  pub accepted : refusal_of d.fluents d.actions d.rules d.goal d.start ≡ 0
  pub rising : Rising d.ends
  pub ends : Exactly (End (run d)) d.ends
  pub calls : Counts (Call (run d)) d.calls
  pub answers : Counts (Answer (run d)) d.answers
  -- Each path is shown of all tables of a finished run, and those that stand in the row are some.
  pub tables : (p : DrillPath) → Memᴰ p d.paths → GoalAnswer d p.calls p.answers p.asked
  pub paths : (p : DrillPath) → Memᴰ p d.paths → {calls answers : List ℕ} {x : ℕ} → GoalAnswer d calls answers x → Shows d p calls answers x

-- ---- steps and rules in their words

unfoldable pub word : Step → ℕ
word (query p) = p
word (insert p) = 256 + p
word (delete p) = 512 + p
word (call a) = 768 + a
word (deny p) = 1024 + p

infix 20 ◌⟵◌
unfoldable pub ◌⟵◌ : ℕ → Body → List ℕ
unfolding word
head ⟵ body = head ∷ length body ∷ map word body ++ replicate (16 - length body) 0

unfoldable pub drill : ℕ → ℕ → List ℕ → State → Body → List State → ℕ → ℕ → List DrillPath → Drill
unfolding word
drill f a r s g e c m p = record { fluents = f; actions = a; rules = r; start = s; goal = map word g; ends = e; calls = c; answers = m; paths = p }

-- ---- records in their words

-- a call record, and an answer record with its first evidence words; each with its round last
abbrev pub called : ℕ → State → ℕ → List ℕ
called action state round = action ∷ state ∷ round ∷ []

abbrev pub answered : ℕ → State → ℕ → List ℕ → ℕ → List ℕ
answered row final rule evidence round = row ∷ final ∷ rule ∷ evidence ++ replicate (16 - length evidence) 0 ++ round ∷ []

unfoldable pub path : List ℕ → List ℕ → ℕ → List ℕ → ℕ → ℕ → List ℕ → DrillPath
path c m x l r n a = record { calls = c; answers = m; asked = x; list = l; refusal = r; count = n; after = a }

-- the tables of D9: the calls are the goal, q and p, the answers those of p, q and the goal
abbrev calls_9 : List ℕ
calls_9 = called 64 0 0 ++ called 1 0 1 ++ called 0 0 2

abbrev answers_9 : List ℕ
answers_9 = answered 2 0 0 [] 3 ++ answered 1 0 1 (0 ∷ 0 ∷ []) 4 ++ answered 0 0 256 (1 ∷ []) 5

-- Counts of fluents and actions, rules, start and goal; then ends, calls, answers and paths. Fluents a and b are 0 and 1; actions are numbered
-- from 0. Each list is lent with words of 9.
unfoldable pub drills : List Drill
unfolding ◌⟵◌ drill path
drills =
    -- D1: purge is 0, light is 1; open is 0, lit is 1; the calls are the goal, light and purge, the answers those of purge, light and the goal
    drill 2 2 ((0 ⟵ insert 0 ∷ []) ++ (1 ⟵ call 0 ∷ query 0 ∷ insert 1 ∷ delete 0 ∷ [])) 0 (call 1 ∷ []) (2 ∷ []) 3 3
    (path (called 64 0 0 ++ called 1 0 1 ++ called 0 0 2) (answered 2 1 0 [] 3 ++ answered 1 2 1 (0 ∷ []) 4 ++ answered 0 2 256 (1 ∷ []) 5)
    2 (replicate 5 9) 0 4 (0 ∷ 1 ∷ 3 ∷ 2 ∷ 9 ∷ []) ∷ [])
    -- D2: a rule that calls itself first
    ∷ drill 2 1 ((0 ⟵ call 0 ∷ query 0 ∷ insert 1 ∷ []) ++ (0 ⟵ insert 0 ∷ [])) 0 (call 0 ∷ []) (1 ∷ 3 ∷ []) 2 4 []
    -- D3: a rule that only calls itself
    ∷ drill 2 1 (0 ⟵ call 0 ∷ []) 0 (call 0 ∷ []) [] 2 0 []
    -- D4: the empty goal, start 2
    ∷ drill 2 0 [] 2 [] (2 ∷ []) 1 1 []
    -- D5: an insert of what holds, start 1; its path has two states, and room 1 is 43
    ∷ drill 2 0 [] 1 (insert 0 ∷ []) (1 ∷ []) 1 1
    (path (called 64 1 0) (answered 0 1 256 [] 1) 0 (replicate 2 9) 0 2 (1 ∷ 1 ∷ [])
    ∷ path (called 64 1 0) (answered 0 1 256 [] 1) 0 (replicate 1 9) 43 0 (replicate 1 9)
    ∷ [])
    -- D6: a delete of what does not hold
    ∷ drill 2 0 [] 0 (delete 0 ∷ []) (0 ∷ []) 1 1 []
    -- D7: a call after which the goal fails
    ∷ drill 2 1 (0 ⟵ insert 0 ∷ []) 0 (call 0 ∷ query 1 ∷ []) [] 2 1 []
    -- D8: one action called at two states
    ∷ drill 2 1 ((0 ⟵ insert 0 ∷ call 0 ∷ []) ++ (0 ⟵ query 0 ∷ [])) 0 (call 0 ∷ []) (1 ∷ []) 3 3 []
    -- D9: p is 0, q is 1; room 5 serves, room 4 is 43
    ∷ drill 2 2 ((0 ⟵ insert 0 ∷ delete 0 ∷ []) ++ (1 ⟵ call 0 ∷ call 0 ∷ [])) 0 (call 1 ∷ []) (0 ∷ []) 3 3
    (path calls_9 answers_9 2 (replicate 5 9) 0 5 (0 ∷ 1 ∷ 0 ∷ 1 ∷ 0 ∷ []) ∷ path calls_9 answers_9 2 (replicate 4 9) 43 0 (replicate 4 9) ∷ [])
    -- D10: the last of 64 fluents
    ∷ drill 64 0 [] 0 (insert 63 ∷ []) (9223372036854775808 ∷ []) 1 1 []
    ∷ []

-- Rows for the fifth step (request R-2), beside the ten.
unfoldable pub denials : List Drill
unfolding ◌⟵◌ drill path
denials =
    -- D14: `~b` goes on in the same state where b does not hold, and has no continuation where it holds, start 2
    drill 2 0 [] 0 (deny 1 ∷ []) (0 ∷ []) 1 1 []
    ∷ drill 2 0 [] 2 (deny 1 ∷ []) [] 1 0 []
    -- D15: in a rule that calls itself first
    ∷ drill 2 1 ((0 ⟵ call 0 ∷ deny 0 ∷ insert 0 ∷ []) ++ (0 ⟵ insert 1 ∷ [])) 0 (call 0 ∷ []) (2 ∷ 3 ∷ []) 2 4 []
    -- D16: it adds no state to a path
    ∷ drill 2 1 (0 ⟵ deny 0 ∷ insert 0 ∷ deny 1 ∷ []) 0 (call 0 ∷ []) (1 ∷ []) 2 2
    (path (called 64 0 0 ++ called 0 0 1) (answered 1 1 0 [] 2 ++ answered 0 1 256 (0 ∷ []) 3) 1 (replicate 3 9) 0 2 (0 ∷ 1 ∷ 9 ∷ []) ∷ [])
    ∷ []

-- The statement: ten rows, and each holds.
abbrev pub AllHold : Type 0
AllHold = (length drills ≡ 10) × ((d : Drill) → Memᴰ d drills → Holds d)

-- The four rows beside them hold too.
abbrev pub DenialsHold : Type 0
DenialsHold = (length denials ≡ 4) × ((d : Drill) → Memᴰ d denials → Holds d)
