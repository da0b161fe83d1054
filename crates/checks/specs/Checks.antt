-- The checks of tables that may come from anybody: 40 and 42. Assumes nothing.
use Rattle.std.specs.Prelude.{ℕ, ◌+◌, ◌-◌, Bool, cond, not, ◌&&◌, ◌||◌, List, length, get_or, eqb, leb, ltb}
use Rattle.steps.specs.Run.{Goal}
use Rattle.steps.specs.Acceptance.{each_below, bad_state}
use Rattle.records.specs.Records.{Calls, Answers, Bodies, room, justified, call_width, answer_width}
use Rattle.records.specs.Bodies.{is_goal}

-- 40: a record count over its room
unfoldable pub over_room : List ℕ → ℕ → List ℕ → ℕ → Bool
over_room calls call_count answers answer_count = ltb (room call_width (length calls)) call_count
    || ltb (room answer_width (length answers)) answer_count

-- No call comes in a later round: the goal's call stands at round 0, each round after it adds a record, and both tables together hold at
-- most 131,072.
abbrev pub last_round : ℕ
last_round = 131071

-- A good call record: its action is 64 or below the count, no state bit is at or above the fluent count, and its round is not over 131,071.
unfoldable pub good_call : ℕ → ℕ → Calls → ℕ → Bool
good_call fluents actions calls i =
    (eqb (calls.action i) Goal || ltb (calls.action i) actions) && (not (bad_state fluents (calls.state i)) && leb (calls.round i) last_round)

-- Every call record is good.
unfoldable pub good_calls : ℕ → ℕ → Calls → Bool
good_calls fluents actions calls = each_below calls.count (good_call fluents actions calls)

-- Every answer record is justified.
unfoldable pub all_justified : Calls → Answers → Bodies → Bool
all_justified calls answers bodies = each_below answers.count (λ n. justified calls answers n bodies)

-- 42: a call record with an action neither 64 nor below the count, a state bit too high, or a round over 131,071; or an answer not justified
unfoldable pub bad_records : ℕ → ℕ → Bodies → Calls → Answers → Bool
bad_records fluents actions bodies calls answers = not (good_calls fluents actions calls && all_justified calls answers bodies)

-- ---- tables that two parties share

-- "42 takes action 64 or 65 only where its goal is kept": the action is below the count or that of a goal which stands, of the first party or of
-- the second, and no state bit is at or above the fluent count. Such a record has no round.
unfoldable pub good_row : Bool → Bool → ℕ → ℕ → Calls → ℕ → Bool
good_row first second fluents actions calls i =
    (is_goal first second (calls.action i) || ltb (calls.action i) actions) && not (bad_state fluents (calls.state i))

-- A good call record of either kind: a plain one, of tables that two parties share, or one with a round.
abbrev pub good_record : Bool → Bool → Bool → ℕ → ℕ → Calls → ℕ → Bool
good_record plain first second fluents actions calls = cond plain (good_row first second fluents actions calls) (good_call fluents actions calls)

-- 42 there: a call record that is not good, or an answer that is not justified
unfoldable pub bad_plain : Bool → Bool → ℕ → ℕ → Bodies → Calls → Answers → Bool
bad_plain first second fluents actions bodies calls answers =
    not (each_below calls.count (good_row first second fluents actions calls) && all_justified calls answers bodies)

-- ---- words that are 0

-- Every word from the first place on and below the second is 0.
unfoldable pub clear_between : List ℕ → ℕ → ℕ → Bool
clear_between words from to = each_below (to - from) (λ i. eqb (get_or words (from + i) 0) 0)

-- Every word from this place on is 0.
abbrev pub clear_past : List ℕ → ℕ → Bool
clear_past words from = clear_between words from (length words)
