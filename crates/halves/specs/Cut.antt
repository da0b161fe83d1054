-- A goal cut at any place, and what is shown of its two halves (request R-11). Assumes nothing.
use Rattle.std.specs.Prelude.{ℕ, ◌≡◌, ◌↔◌, ◌⊎◌, take, drop}
use mathlib.Core.List.{List, Memᴰ}
use Rattle.refusals.specs.Run.{run_refusals}
use Rattle.steps.specs.State.{State}
use Rattle.steps.specs.Run.{End}
use Rattle.evaluator.specs.Evaluated.{Asked, Lent, Told, asked, refused_with, run_asked, Evaluated}

-- The first k steps of the goal, from the start; a goal of fewer steps is its own first half.
abbrev pub first_half : Asked → ℕ → Asked
first_half q k = asked q.fluents q.actions q.rules (take k q.goal) q.start

-- The steps after them, from a state.
abbrev pub second_half : Asked → ℕ → State → Asked
second_half q k D = asked q.fluents q.actions q.rules (drop k q.goal) D

-- An evaluation that is not refused, whatever was lent to it.
pub record Unrefused (q : Asked) : Type 0 where
  pub before : Lent
  pub after : Lent
  pub told : Told
  pub evaluated : Evaluated q before after told
  pub unrefused : told.refusal ≡ 0

-- The states that it lists as ends: they stand in the places of the list of ends that its result counts.
abbrev pub Listed : {q : Asked} → Unrefused q → State → Type 0
Listed u D = Memᴰ D (take u.told.ends u.after.ends)

-- "For a goal cut at any place, before the first step and after the last too, the ends of the whole are exactly the ends of the second half
-- over all ends of the first, provided none of these runs is refused": the whole, the first half, and the second from each end of the first.
abbrev pub CutAnywhere : Type 0
CutAnywhere =
    (q : Asked) (k : ℕ) (whole : Unrefused q) (first : Unrefused (first_half q k))
    (second : (D : State) → Listed first D → Unrefused (second_half q k D))
    → (D' : State) → Listed whole D' ↔ ((D : State) × (l : Listed first D) × Listed (second D l) D')

-- The same of the logic's ends, whatever is refused.
abbrev pub EndsCut : Type 0
EndsCut =
    (q : Asked) (k : ℕ) (D' : State)
    → End (run_asked q) D' ↔ ((D : State) × End (run_asked (first_half q k)) D × End (run_asked (second_half q k D)) D')

-- Where the whole meets none of 20 to 24, neither does a half, the second from any end of the first.
abbrev pub HalvesAccepted : Type 0
HalvesAccepted =
    (q : Asked) (k : ℕ) → refused_with q ≡ 0
    → (refused_with (first_half q k) ≡ 0) × ((D : State) → End (run_asked (first_half q k)) D → refused_with (second_half q k D) ≡ 0)

-- What is evaluated here is refused with nothing but 30, 31 or 34: for want of room.
abbrev pub OnlyRoom : Asked → Type 0
OnlyRoom q = (before after : Lent) (r : Told) → Evaluated q before after r → (r.refusal ≡ 0) ⊎ (r.refusal ≡ run_refusals.tables_full)
    ⊎ (r.refusal ≡ run_refusals.list_short) ⊎ (r.refusal ≡ run_refusals.call_list_short)

-- So only room can be wanting in a half of an accepted whole.
abbrev pub HalvesRefused : Type 0
HalvesRefused =
    (q : Asked) (k : ℕ) → refused_with q ≡ 0
    → OnlyRoom (first_half q k) × ((D : State) → End (run_asked (first_half q k)) D → OnlyRoom (second_half q k D))
