-- The records of the two tables, rooms, and when an answer record is justified. Assumes nothing.
use Rattle.std.specs.Prelude.{ℕ, suc, ◌+◌, ◌-◌, ◌*◌, ◌/◌, min, Bool, false, cond, ◌&&◌, List, [], ◌∷◌, get_or, length, eqb, ltb}
use Rattle.steps.specs.State.{State}
use Rattle.steps.specs.Step.{Step, query, insert, delete, call, deny, Body}
use Rattle.steps.specs.Run.{Goal}
use Rattle.steps.specs.Words.{body_of, head_of, words_of}
use Rattle.steps.specs.Widths.{rule_width}
use Rattle.steps.specs.Acceptance.{each_below}
use Rattle.steps.specs.Elementary.{Onward, on, stuck, elementary}

-- A table of call records: how many there are, and of each its action, its state and the round it came in.
abbrev pub Calls : Type 0
Calls = record { count : ℕ; action : ℕ → ℕ; state : ℕ → State; round : ℕ → ℕ }

-- A table of answer records: how many there are, and of each its call record number, final state, rule number, evidence at each place, and the
-- round it came in.
abbrev pub Answers : Type 0
Answers = record { count : ℕ; call : ℕ → ℕ; final : ℕ → State; rule : ℕ → ℕ; evidence : ℕ → ℕ → ℕ; round : ℕ → ℕ }

-- A call record has 3 words, an answer record 20.
abbrev pub call_width : ℕ
call_width = 3

abbrev pub answer_width : ℕ
answer_width = 20

-- Call record: action, state, round. The first n records in the words of a table.
abbrev pub call_table : List ℕ → ℕ → Calls
call_table words n = let w = call_width in let at : ℕ → ℕ = λ i. get_or words i 0 in
    record { count = n; action = λ i. at (w * i); state = λ i. at (w * i + 1); round = λ i. at (w * i + 2) }

-- Answer record: call record number; final state; rule number; then 16 evidence words; round. The first n records in the words of a table.
abbrev pub answer_table : List ℕ → ℕ → Answers
answer_table words n = let w = answer_width in let at : ℕ → ℕ = λ i. get_or words i 0 in
    record {
      count = n;
      call = λ x. at (w * x);
      final = λ x. at (w * x + 1);
      rule = λ x. at (w * x + 2);
      evidence = λ x q. at (w * x + 3 + q);
      round = λ x. at (w * x + 19);
    }

-- Room of a table: its length divided by the record's width, rounded down, at most 65,536.
abbrev pub room : ℕ → ℕ → ℕ
room width len = min (len / width) 65536

-- The bodies that answers may name: whether a rule number goes with an action, and the step words that it has for that action.
abbrev pub Bodies : Type 0
Bodies = record { fits : ℕ → ℕ → Bool; words : ℕ → ℕ → List ℕ }

-- The goal's number among the rules.
abbrev pub goal_rule : ℕ
goal_rule = 256

-- A rule goes with its head; the goal goes with action 64 (no accepted head is 64).
abbrev pub bodies_of : List ℕ → List ℕ → Bodies
bodies_of rules goal = let words : ℕ → ℕ → List ℕ = λ i a. cond (eqb i goal_rule) goal (words_of rules i) in
    record { fits = λ i a. cond (eqb i goal_rule) (eqb a Goal) (ltb i (length rules / rule_width) && eqb (head_of rules i) a); words = words }

module _ (calls : Calls) (answers : Answers) (n : ℕ) where
  -- The answer e comes before record n: its number is smaller, and so is its round.
  abbrev pub earlier : ℕ → Bool
  earlier e = ltb e n && ltb (answers.round e) (answers.round n)

  -- Where step x of record n leads from state s with evidence e. A call takes the named answer: it comes before record n, and
  -- its call is this step's action at s (that its call record exists is asked of the named answer's own record). Any other step is done, and
  -- its evidence is 0.
  unfoldable pub follow : Step → State → ℕ → Onward
  follow (call a) s e =
      cond (earlier e && (eqb (calls.action (answers.call e)) a && eqb (calls.state (answers.call e)) s)) (on (answers.final e)) stuck
  follow (query p) s e = cond (eqb e 0) (elementary (query p) s) stuck
  follow (insert p) s e = cond (eqb e 0) (elementary (insert p) s) stuck
  follow (delete p) s e = cond (eqb e 0) (elementary (delete p) s) stuck
  follow (deny p) s e = cond (eqb e 0) (elementary (deny p) s) stuck

  -- Walking the steps from place q on, from state s, ends in record n's final state; evidence past the steps is 0.
  unfoldable pub follows : Body → ℕ → State → Bool
  follows [] q s = eqb s (answers.final n) && each_below (16 - q) (λ i. eqb (answers.evidence n (q + i)) 0)
  follows (x ∷ rest) q s = elim (follow x s (answers.evidence n q)) [ on t ↦ follows rest (suc q) t | stuck ↦ false ]

  -- Record n is justified: its call record exists, its rule goes with that call's action, and walking the body from the call's state
  -- with its evidence ends in its final state.
  unfoldable pub justified : Bodies → Bool
  justified bodies = ltb (answers.call n) calls.count && (bodies.fits (answers.rule n) (calls.action (answers.call n))
      && follows (body_of (bodies.words (answers.rule n) (calls.action (answers.call n)))) 0 (calls.state (answers.call n)))
