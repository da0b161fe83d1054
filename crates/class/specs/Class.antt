-- A class run: one book and goal from many starts, as single evaluations made in turn (request R-4). Assumes nothing.
use Rattle.std.specs.Prelude.{ℕ, ◌+◌, ◌*◌, ◌≡◌, Bool, true, false, cond, ◌||◌, List, [], ◌∷◌, ◌++◌, length, take, drop, eqb, ltb}
use Rattle.refusals.specs.Class.{class_refusals}
use Rattle.steps.specs.State.{State}
use Rattle.evaluator.specs.Evaluated.{Asked, Lent, Told, lent, Evaluated}

-- For each start "4 words are written": "refusal number or 0, ends, calls, answers". The rounds of R-6 have no word here.
abbrev pub four : Told → List ℕ
four r = r.refusal ∷ r.ends ∷ r.calls ∷ r.answers ∷ []

-- The words of all starts, in their order.
unfoldable pub result_words : List Told → List ℕ
result_words [] = []
result_words (r ∷ rs) = four r ++ result_words rs

-- "A refused start takes no list places"; any other takes one for each of its ends.
abbrev pub places : Told → ℕ
places r = cond (eqb r.refusal 0) r.ends 0

-- How many places of the list of ends all starts take: so many ends are written.
unfoldable pub written : List Told → ℕ
written [] = 0
written (r ∷ rs) = places r + written rs

-- "With the same tables, each lent what is left of the list": what a start left, without the places that it took. The list of calls (R-10) is lent
-- whole to each.
abbrev pub handed_on : ℕ → Lent → Lent
handed_on taken left = lent left.calls left.answers (drop taken left.ends) left.list

-- "Ends follow one another in one list": the tables and the list of calls as the last start left them, and the list of ends with what a start wrote
-- before what later ones left.
abbrev pub together : ℕ → Lent → Lent → Lent
together taken left last = lent last.calls last.answers (take taken left.ends ++ last.ends) last.list

-- "Everything equals single calls made in turn with the same tables": from the buffers lent to those left, with what each evaluation gave.
-- `ask` says what is asked from a start, over one book and goal.
module _ (ask : State → Asked) where
  pub data Turns : List State → Lent → Lent → List Told → Type 0 where
    over : {buffers : Lent} → Turns [] buffers buffers []
    turn : {start : State} {later : List State} {before left last : Lent} {r : Told} {rs : List Told}
        → Evaluated (ask start) before left r → Turns later (handed_on (places r) left) last rs
        → Turns (start ∷ later) before (together (places r) left last) (r ∷ rs)

-- 25: "over 1,024 starts or result room under 4 words each"
abbrev pub bad_class : List State → List ℕ → Bool
bad_class starts results = ltb 1024 (length starts) || ltb (length results) (4 * length starts)

-- What a class run gives and leaves: 25 "comes before all", and nothing changes; else 0, the starts are run in turn, and "result words past the
-- last start are unchanged".
pub data Ran (ask : State → Asked) (starts : List State)
    (results : List ℕ) (before : Lent) (results' : List ℕ) (after : Lent) (r : ℕ) : Type 0 where
  refused : bad_class starts results ≡ true → r ≡ class_refusals.bad_class → results' ≡ results → after ≡ before
      → Ran ask starts results before results' after r
  ran : {rs : List Told} → bad_class starts results ≡ false → r ≡ 0 → Turns ask starts before after rs
      → results' ≡ result_words rs ++ drop (4 * length starts) results → Ran ask starts results before results' after r
