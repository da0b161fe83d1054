-- The path: the states of the execution that one answer record's evidence unfolds to. Assumes nothing.
use Rattle.std.specs.Prelude.{ℕ, zero, suc, cond, List, [], ◌∷◌, ◌++◌, eqb}
use Rattle.steps.specs.State.{State}
use Rattle.steps.specs.Step.{Step, query, insert, delete, call, deny, Body}
use Rattle.steps.specs.Words.{body_of}
use Rattle.steps.specs.Elementary.{on, stuck}
use Rattle.records.specs.Records.{Calls, Answers, Bodies, follow}

-- "One state for each update": an elementary step that leads to t adds t if it is an update, also where t is the state that it leads from;
-- "queries add none", and no more does a denial. (A call is no elementary step: see `adds`.)
unfoldable pub shown : Step → State → List State
shown (query p) t = []
shown (insert p) t = t ∷ []
shown (delete p) t = t ∷ []
shown (call a) t = []
shown (deny p) t = []

-- What step x that leads to t with evidence e adds: a call adds what the answer used adds, which `earlier` gives.
unfoldable pub adds : (ℕ → List State) → Step → State → ℕ → List State
adds earlier (call a) t e = earlier e
adds earlier (query p) t e = shown (query p) t
adds earlier (insert p) t e = shown (insert p) t
adds earlier (delete p) t e = shown (delete p) t
adds earlier (deny p) t e = shown (deny p) t

-- What walking the steps of record n from place q on, from state s, adds.
unfoldable pub walked : Calls → Answers → ℕ → (ℕ → List State) → Body → ℕ → State → List State
walked calls answers n earlier [] q s = []
walked calls answers n earlier (x ∷ rest) q s =
    elim (follow calls answers n x s (answers.evidence n q))
    [ on t ↦ adds earlier x t (answers.evidence n q) ++ walked calls answers n earlier rest (suc q) t | stuck ↦ [] ]

module _ (calls : Calls) (answers : Answers) (bodies : Bodies) where
  -- What record x adds, if it is one of the records below n: they use only each other, and only downward.
  unfoldable pub below : ℕ → ℕ → List State
  below zero x = []
  below (suc n) x = let c = answers.call n in
      cond (eqb x n) (walked calls answers n (below n) (body_of (bodies.words (answers.rule n) (calls.action c))) 0 (calls.state c)) (below n x)

  -- What record x adds after its call's state: the state after each update.
  abbrev pub states_added : ℕ → List State
  states_added x = below (suc x) x

  -- The path of record x: first the call's state, then the state after each update.
  unfoldable pub path_of : ℕ → List State
  path_of x = calls.state (answers.call x) ∷ states_added x
