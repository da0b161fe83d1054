-- Tables of D2 with their rounds, and which rounds the check of records (42) takes: request R-6. Assumes nothing.
use Rattle.std.specs.Prelude.{ℕ, ◌≡◌, List, [], ◌∷◌, ◌++◌}
use Rattle.steps.specs.Step.{query, insert, call}
use Rattle.path.specs.Answered.{Handed, handed, fault}
use Rattle.starred.specs.Drills.{word, ◌⟵◌, called, answered}

-- D2's counts, rules and goal, with tables of two calls and four answers.
abbrev pub handed_2 : List ℕ → List ℕ → Handed
handed_2 calls answers =
    handed 2 1 ((0 ⟵ call 0 ∷ query 0 ∷ insert 1 ∷ []) ++ (0 ⟵ insert 0 ∷ [])) (word (call 0) ∷ []) calls 2 answers 4

-- The calls of D2; the goal's, which a run finds in round 0, has this round.
abbrev pub calls_2 : ℕ → List ℕ
calls_2 round = called 64 0 round ++ called 0 0 1

-- The answers of D2; the second, whose evidence came in round 2 and which a run finds in round 3, has this round.
abbrev pub answers_2 : ℕ → List ℕ
answers_2 round = answered 1 1 1 [] 2 ++ answered 0 1 256 (0 ∷ []) round ++ answered 1 3 0 (0 ∷ []) 3 ++ answered 0 3 256 (2 ∷ []) 4

-- What is met of 20 to 23 and 40 to 42.
pub record RoundsChecked : Type 0 where
  -- The tables as a run leaves them meet none.
  pub as_found : fault (handed_2 (calls_2 0) (answers_2 3)) 3 ≡ 0
  -- A call's round is at most 131,071.
  pub last : fault (handed_2 (calls_2 131071) (answers_2 3)) 3 ≡ 0
  pub over : fault (handed_2 (calls_2 131072) (answers_2 3)) 3 ≡ 42
  -- An answer's round is over that of its evidence, and has no other bound.
  pub equal : fault (handed_2 (calls_2 0) (answers_2 2)) 3 ≡ 42
  pub higher : fault (handed_2 (calls_2 0) (answers_2 131072)) 3 ≡ 0
