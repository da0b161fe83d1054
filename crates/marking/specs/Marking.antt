-- Marking a trainee's record: whether a deduction carries out just the steps recorded (request R-9). Assumes nothing.
use Rattle.std.specs.Prelude.{ℕ, ◌+◌, ◌-◌, ◌*◌, ◌<◌, ◌≤◌, ◌≡◌, Bool, cond, not, ◌&&◌, ◌↔◌, ◌≢◌, get_or, length, take, drop, eqb, ltb}
use mathlib.Core.List.{List, [], ◌∷◌, ◌++◌}
use Rattle.refusals.specs.Marking.{marking_refusals}
use Rattle.steps.specs.State.{State, bit}
use Rattle.steps.specs.Step.{Step, query, insert, delete, call, deny, Body, Book}
use Rattle.steps.specs.Deduction.{Sequent, Move, queries, inserts, deletes, calls, denies, Deduction, done, move, Final}
use Rattle.steps.specs.Words.{body_of, book_of}
use Rattle.steps.specs.Inner.{is_call}
use Rattle.steps.specs.Acceptance.{each_below, good_step, refusal_of}
use Rattle.steps.specs.Elementary.{Onward, on, stuck, elementary}

module _ {book : Book} where
  -- The elementary step that a move carries out; a call is none.
  unfoldable pub move_step : {S T : Sequent} → Move book S T → List Step
  move_step (queries {p = p} h) = query p ∷ []
  move_step (inserts {p = p}) = insert p ∷ []
  move_step (deletes {p = p}) = delete p ∷ []
  move_step (calls r m e) = []
  move_step (denies {p = p} h) = deny p ∷ []

  -- The elementary steps that a deduction carries out, in order.
  unfoldable pub steps_of : {S T : Sequent} → Deduction book S T → List Step
  unfolding move_step
  steps_of done = []
  steps_of (move m d) = move_step m ++ steps_of d

-- Some complete deduction of the body from D "carries out those steps, in that order and no others".
abbrev pub CarriesOut : Book → State → Body → List Step → Type 0
CarriesOut book D body steps = (D' : State) × (d : Final book D body D') × (steps_of d ≡ steps)

-- The state that the steps leave, done one after another; none where one of them cannot run.
unfoldable pub left_by : List Step → State → Onward
unfolding elementary
left_by [] s = on s
left_by (x ∷ rest) s = elim (elementary x s) [ on t ↦ left_by rest t | stuck ↦ stuck ]

-- The recorded steps from place i up to but not including place j.
abbrev pub between : List Step → ℕ → ℕ → List Step
between steps i j = take (j - i) (drop i steps)

-- What is asked: rules, goal and start as for an evaluation, and the record's step words.
pub record Question : Type 0 where
  pub fluents : ℕ
  pub actions : ℕ
  pub rules : List ℕ
  pub goal : List ℕ
  pub start : ℕ
  pub words : List ℕ

abbrev pub question : (fluents actions : ℕ) (rules goal : List ℕ) (start : ℕ) (words : List ℕ) → Question
question fluents actions rules goal start words =
    record { fluents = fluents; actions = actions; rules = rules; goal = goal; start = start; words = words }

-- 62: a step that is a call or bad
unfoldable pub bad_recorded_steps : ℕ → ℕ → List ℕ → Bool
bad_recorded_steps fluents actions words =
    not (each_below (length words) (λ i. not (is_call (get_or words i 0)) && good_step fluents actions (get_or words i 0)))

-- The first that is met of 20 to 24, then of 60 (over 63 steps), 61 (table under 4,096 words) and 62; 0 if none is.
unfoldable pub refusal : Question → (room : ℕ) → ℕ
refusal q room =
    cond (eqb (refusal_of q.fluents q.actions q.rules q.goal q.start) 0)
    (cond (ltb 63 (length q.words)) marking_refusals.long_record
    (cond (ltb room 4096) marking_refusals.marks_short
    (cond (bad_recorded_steps q.fluents q.actions q.words) marking_refusals.bad_recorded_step
    0)))
    (refusal_of q.fluents q.actions q.rules q.goal q.start)

-- "A yes exactly if some complete deduction of the goal from the start carries out those steps, in that order and no others". A step that
-- cannot run where it stands is in no deduction there.
abbrev pub Yes : Question → Type 0
Yes q = CarriesOut (book_of q.rules) q.start (body_of q.goal) (body_of q.words)

-- Bit j of the word of action a and place i: "some complete deduction of a, from the state that the steps before i leave, carries out just the
-- steps from i up to but not including j, in order, all of which can run". There is no such state after a step that cannot run, and no such
-- place past the record's end.
pub record Marked (q : Question) (a i j : ℕ) : Type 0 where
  pub action : a < q.actions
  pub from : i ≤ j
  pub to : j ≤ length q.words
  pub state : State
  pub left : left_by (take i (body_of q.words)) q.start ≡ on state
  pub carried : CarriesOut (book_of q.rules) state (call a ∷ []) (between (body_of q.words) i j)

-- The table afterwards: a bit of the first 4,096 words is set exactly if it is marked; "words past the 4,096 are unchanged".
pub record TableMarked (q : Question) (before after : List ℕ) : Type 0 where
  pub size : length after ≡ length before
  pub bits : (a i j : ℕ) → a < 64 → i < 64 → j < 64 → (bit (get_or after (64 * a + i) 0) j ≡ 1) ↔ Marked q a i j
  pub past : (n : ℕ) → 4096 ≤ n → get_or after n 0 ≡ get_or before n 0

-- What `mark` tells (its refusal, and 1 for a yes, else 0) and leaves in the table.
pub data RecordMarked (q : Question) (before : List ℕ) (told yes : ℕ) (after : List ℕ) : Type 0 where
  refused : refusal q (length before) ≢ 0 → told ≡ refusal q (length before) → yes ≡ 0 → after ≡ before → RecordMarked q before told yes after
  marked : refusal q (length before) ≡ 0 → told ≡ 0 → yes ≤ 1 → (yes ≡ 1) ↔ Yes q → TableMarked q before after → RecordMarked q before told yes after
