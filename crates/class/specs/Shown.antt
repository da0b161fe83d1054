-- What is shown of a class run beyond its contract: single evaluations, the ends in one list, the tables and the list of calls left. Assumes nothing.
use Rattle.std.specs.Prelude.{ℕ, ◌*◌, ◌<◌, ◌≤◌, ◌≡◌, ◌≢◌, ◌⊎◌, length, get_or, take, drop}
use mathlib.Core.List.{List, [], ◌∷◌, ◌++◌, Memᴰ}
use Rattle.steps.specs.State.{State}
use Rattle.steps.specs.Run.{End}
use Rattle.steps.specs.Counting.{Exactly, Rising}
use Rattle.evaluator.specs.Evaluated.{Asked, Lent, Told, refused_with, run_asked, CallListShort, Evaluated}
use Rattle.class.specs.Class.{four, written, result_words, handed_on, Ran}

-- Tables, and lists, of the same lengths.
pub record SameRoom (one other : Lent) : Type 0 where
  pub calls : length one.calls ≡ length other.calls
  pub answers : length one.answers ≡ length other.answers
  pub ends : length one.ends ≡ length other.ends
  pub list : length one.list ≡ length other.list

-- The same tables and the same list of calls.
pub record SameTables (one other : Lent) : Type 0 where
  pub calls : one.calls ≡ other.calls
  pub answers : one.answers ≡ other.answers
  pub list : one.list ≡ other.list

module _ (ask : State → Asked) where
  -- The ends of the unrefused starts, one start after another, each start's in rising order.
  pub data InTurn : List State → List Told → List State → Type 0 where
    none : InTurn [] [] []
    without : {start : State} {later : List State} {r : Told} {rs : List Told} {ends : List State}
        → r.refusal ≢ 0 → InTurn later rs ends → InTurn (start ∷ later) (r ∷ rs) ends
    with_ends : {start : State} {later : List State} {r : Told} {rs : List Told} {own ends : List State}
        → r.refusal ≡ 0 → Rising own → Exactly (End (run_asked (ask start))) own → length own ≡ r.ends
        → InTurn later rs ends → InTurn (start ∷ later) (r ∷ rs) (own ++ ends)

  -- Every start is refused with one of 20 to 24.
  abbrev pub NoneAccepted : List State → Type 0
  NoneAccepted starts = (start : State) → Memᴰ start starts → refused_with (ask start) ≢ 0

  -- The tables and the list of calls left are those of the last start that is refused with none of 20 to 24, as a single evaluation in buffers of
  -- these lengths leaves them; if there is none, or 34 is met, they are unchanged.
  pub data TablesLeft (starts : List State) (before last : Lent) : Type 0 where
    untouched : NoneAccepted starts ⊎ CallListShort before → last.calls ≡ before.calls → last.answers ≡ before.answers → last.list ≡ before.list
        → TablesLeft starts before last
    of_last : (earlier : List State) {later : List State} {start : State} {lent left : Lent} {r : Told}
        → starts ≡ earlier ++ start ∷ later → refused_with (ask start) ≡ 0 → NoneAccepted later → ¬ CallListShort before
        → length lent.calls ≡ length before.calls → length lent.answers ≡ length before.answers
        → length lent.list ≡ length before.list → Evaluated (ask start) lent left r
        → last.calls ≡ left.calls → last.answers ≡ left.answers → last.list ≡ left.list → TablesLeft starts before last

  -- What an unrefused class run shows.
  pub record ClassShown (starts : List State) (results : List ℕ) (before : Lent) (results' : List ℕ) (after : Lent) : Type 0 where
    -- What each start was told, and its four words.
    pub given : List Told
    pub words : results' ≡ result_words given ++ drop (4 * length starts) results
    -- The words of start i are those of any single evaluation of it, in tables and a list of calls of these lengths and a list of ends of the places
    -- left.
    pub single : {lent left : Lent} {r : Told} (i : ℕ) → i < length starts → SameRoom lent (handed_on (written (take i given)) before)
        → Evaluated (ask (get_or starts i 0)) lent left r → take 4 (drop (4 * i) results') ≡ four r
    -- The list of ends begins with the ends of the unrefused starts one after another, and goes on with what it held.
    pub ends : List State
    pub in_turn : InTurn starts given ends
    pub ends_list : after.ends ≡ ends ++ drop (length ends) before.ends
    pub ends_many : length ends ≡ written given
    -- No unrefused start has over 65,536 of them, and each is an end of an accepted start of the class.
    pub most : (r : Told) → Memᴰ r given → r.refusal ≡ 0 → r.ends ≤ 65536
    pub of_starts : (D : State) → Memᴰ D ends
        → (start : State) × Memᴰ start starts × (refused_with (ask start) ≡ 0) × End (run_asked (ask start)) D
    -- Which tables and which list of calls are left.
    pub tables : TablesLeft starts before after
    -- Every buffer keeps its length.
    pub room : SameRoom after before

-- The request, the rooms and the list of ends determine the number given, the result words and the list of ends, whatever the other buffers held;
-- the tables and the list of calls too, where some start is refused with none of 20 to 24 and neither 25 nor 34 is met.
abbrev pub ClassDetermined : Type 0
ClassDetermined =
    (ask : State → Asked) (starts : List State) (results results₁ results₂ : List ℕ) (b₁ b₂ a₁ a₂ : Lent) (r₁ r₂ : ℕ)
    → SameRoom b₁ b₂ → b₁.ends ≡ b₂.ends → Ran ask starts results b₁ results₁ a₁ r₁ → Ran ask starts results b₂ results₂ a₂ r₂
    → (r₁ ≡ r₂) × (results₁ ≡ results₂) × (a₁.ends ≡ a₂.ends)
    × ((start : State) → Memᴰ start starts → refused_with (ask start) ≡ 0 → r₁ ≡ 0 → ¬ CallListShort b₁ → SameTables a₁ a₂)
