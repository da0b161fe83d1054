-- What the path of a shared answer record gives, for every input: the refusal, the count of states, and the list (request R-14). Assumes nothing.
use Rattle.std.specs.Prelude.{ℕ, ◌≡◌, Bool, cond, not, ◌&&◌, ◌||◌, List, ◌++◌, length, drop, eqb, ltb}
use Rattle.refusals.specs.Path.{path_refusals}
use Rattle.steps.specs.State.{State}
use Rattle.steps.specs.Acceptance.{each_below, bad_state, words_refusal}
use Rattle.records.specs.Records.{Calls}
use Rattle.checks.specs.Checks.{all_justified}
use Rattle.unfolding.specs.Path.{path_of}
use Rattle.sharing.specs.Parties.{Ledger, ledger_of}
use Rattle.sharing.specs.Charged.{kept_calls, kept_answers, goal_kept, bodies_kept, over_rooms}

-- A good call record: its action is below the count, or 64 or 65 "only where its goal is kept", and no state bit is at or above the fluent count.
unfoldable pub good_call_kept : ℕ → ℕ → Ledger → Calls → ℕ → Bool
good_call_kept fluents actions l calls i =
    (goal_kept l (calls.action i) || ltb (calls.action i) actions) && not (bad_state fluents (calls.state i))

-- What is handed over: two counts, rule words, the words kept, and both tables. Words that are not 44 keep no records: 41.
module _ (fluents actions : ℕ) (rules words calls answers : List ℕ) where
  abbrev l : Ledger
  l = ledger_of words

  -- "The path takes the goals kept, 23 for either": the first of 20 to 23 that is met, or 0.
  unfoldable pub goals_refusal : ℕ
  goals_refusal = let refusal = words_refusal fluents actions rules l.first.goal in
      cond (eqb refusal 0) (words_refusal fluents actions rules l.second.goal) refusal

  -- 42: a call record that is not good, or an answer record that is not justified
  unfoldable pub bad_rows : Bool
  bad_rows = not (each_below l.calls (good_call_kept fluents actions l (kept_calls l calls))
      && all_justified (kept_calls l calls) (kept_answers l answers) (bodies_kept rules l))

  -- The states in the path of answer record x.
  abbrev pub shared_states : ℕ → List State
  shared_states x = path_of (kept_calls l calls) (kept_answers l answers) (bodies_kept rules l) x

  -- The first of 20 to 23 and 40 to 42 that is met, down the table, or 0.
  unfoldable pub shared_fault : ℕ → ℕ
  shared_fault x =
      cond (eqb goals_refusal 0)
      (cond (over_rooms l calls answers) path_refusals.bad_record_count
      (cond (not (ltb x l.answers)) path_refusals.no_record
      (cond bad_rows path_refusals.bad_record 0))) goals_refusal

  -- The refusal, or 0. 43: fewer places than states in the path.
  unfoldable pub traced_refusal : ℕ → List ℕ → ℕ
  traced_refusal x list = let fault = shared_fault x in
      cond (eqb fault 0) (cond (ltb (length list) (length (shared_states x))) path_refusals.states_short 0) fault

  -- The operation's answer and the list that it leaves: the count of states, 0 where refused; and the states, past them what the list held, or the
  -- list unchanged.
  pub record Traced (x : ℕ) (list : List ℕ) (refusal states : ℕ) (list' : List ℕ) : Type 0 where
    pub the_refusal : refusal ≡ traced_refusal x list
    pub the_count : states ≡ cond (eqb (traced_refusal x list) 0) (length (shared_states x)) 0
    pub the_list : list' ≡ cond (eqb (traced_refusal x list) 0) (shared_states x ++ drop (length (shared_states x)) list) list
