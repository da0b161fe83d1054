-- Masks of places and tables of masks, as the contracts below `mark` speak of them. Only the proof of `mark` reads these.
-- Assumes nothing.
use Rattle.std.specs.Prelude.{ℕ, suc, ◌+◌, ◌*◌, ◌/◌, ◌%◌, ◌^◌, ◌<◌, ◌≤◌, ◌≡◌, Bool, false, not, ◌≢◌, eqb, get_or, length, take, set}
use mathlib.Core.List.{List, [], ◌∷◌, Memᴰ}
use Rattle.std.specs.Int.Bits.{bit_or}
use Rattle.steps.specs.State.{bit}
use Rattle.steps.specs.Step.{Step, query, call}
use Rattle.steps.specs.Words.{body_of, head_of, count_of, words_of, book_of}
use Rattle.steps.specs.Widths.{rule_width}
use Rattle.steps.specs.Inner.{is_call}
use Rattle.steps.proofs.Deductions.{RuleOf}
use Rattle.steps.proofs.Execution.{Runs, Ends}
use Rattle.steps.proofs.Tables.{Walk}

-- A recorded step that can run, from its place to the next.
pub data Carried (steps : List Step) (runs : ℕ) : Step → ℕ → ℕ → Type 0 where
  carries : {x : Step} {p : ℕ} → p < runs → get_or steps p (query 0) ≡ x → Carried steps runs x p (suc p)

-- Bit j of the word of action a and place i is set.
abbrev pub Held : List ℕ → ℕ → ℕ → ℕ → Type 0
Held table a i j = (a < 64) × (i < 64) × (j < 64) × (bit (get_or table (64 * a + i) 0) j ≡ 1)

-- The mask of the places below 64 of which P holds.
pub record Mask (m : ℕ) (P : ℕ → Type 0) : Type 0 where
  pub only : (j : ℕ) → j < 64 → bit m j ≡ 1 → P j
  pub every : (j : ℕ) → j < 64 → P j → bit m j ≡ 1

-- The words walked from place i, a call by the table, come to place j.
abbrev pub WalkTo : List ℕ → ℕ → List ℕ → ℕ → List ℕ → ℕ → Type 0
WalkTo steps runs table i words j = Walk (Carried (body_of steps) runs) (Held table) i (body_of words) j []

-- A word of one of the five kinds, whose index is below 64.
abbrev pub GoodWord : ℕ → Type 0
GoodWord w = (w / 256 < 5) × (w % 256 < 64)

abbrev pub GoodWords : List ℕ → Type 0
GoodWords words = (i : ℕ) → i < length words → GoodWord (get_or words i 0)

-- What the walks go by: a short record of elementary steps of which `runs` can run, and a table of 64 words for each of 64 actions.
pub record Guide (steps : List ℕ) (runs : ℕ) (table : List ℕ) : Type 0 where
  pub within : runs ≤ length steps
  pub few : length steps ≤ 63
  pub plain : (i : ℕ) → i < length steps → is_call (get_or steps i 0) ≡ false
  pub good : GoodWords steps
  pub room : 4096 ≤ length table

-- ---- tables, place by place

-- The words are numbers of 64 bits.
abbrev pub Wide : List ℕ → Type 0
Wide table = (n : ℕ) → get_or table n 0 < 2 ^ 64

-- The sum of a table's words.
unfoldable pub total : List ℕ → ℕ
total [] = 0
total (w ∷ rest) = w + total rest

-- The table after is the one before with more bits in words of place i.
pub record Grown (i : ℕ) (before after : List ℕ) : Type 0 where
  pub size : length after ≡ length before
  pub past : (n : ℕ) → 4096 ≤ n → get_or after n 0 ≡ get_or before n 0
  pub elsewhere : (a p : ℕ) → p < 64 → p ≢ i → get_or after (64 * a + p) 0 ≡ get_or before (64 * a + p) 0
  pub wide : Wide before → Wide after
  pub up : total before ≤ total after

-- Rules that can be walked: at most 256, heads below 64, at most 16 steps, good step words.
pub record Walkable (rules : List ℕ) : Type 0 where
  pub few : length rules / rule_width ≤ 256
  pub heads : (r : ℕ) → r < length rules / rule_width → head_of rules r < 64
  pub counts : (r : ℕ) → r < length rules / rule_width → count_of rules r ≤ 16
  pub good : (r : ℕ) → r < length rules / rule_width → GoodWords (words_of rules r)

-- The words call no action of the mask.
abbrev pub NoCall : ℕ → List ℕ → Type 0
NoCall m words = (b : ℕ) → Memᴰ (call b) (body_of words) → bit m b ≡ 0

-- Where rule r stands in a table for place i.
abbrev pub word_at : List ℕ → ℕ → ℕ → ℕ
word_at rules i r = 64 * head_of rules r + i

-- The places of a mask have been added to the word of rule r's head for place i; whether the word has gained.
pub record Added (rules : List ℕ) (i r mask : ℕ) (before after : List ℕ) (gained : Bool) : Type 0 where
  pub small : mask < 2 ^ 64
  pub put : after ≡ set before (word_at rules i r) (bit_or (get_or before (word_at rules i r) 0) mask)
  pub told : gained ≡ not (eqb (bit_or (get_or before (word_at rules i r) 0) mask) (get_or before (word_at rules i r) 0))

module _ (rules steps : List ℕ) (runs : ℕ) where
  -- Each bit is the end of an execution.
  pub record SoundMarks (table : List ℕ) : Type 0 where
    pub each : (a i j : ℕ) → Held table a i j → (i ≤ runs) × Ends (Carried (body_of steps) runs) (RuleOf (book_of rules)) a i j

  module _ (i : ℕ) where
    -- Rule r walked at the place adds nothing.
    abbrev pub ClosedRule : List ℕ → ℕ → Type 0
    ClosedRule table r = (j : ℕ) → WalkTo steps runs table i (words_of rules r) j → Held table (head_of rules r) i j

    -- No rule that calls no action of the mask adds anything.
    abbrev pub Fresh : ℕ → List ℕ → Type 0
    Fresh m table = (r : ℕ) → r < length rules / rule_width → NoCall m (words_of rules r) → ClosedRule table r

    -- Rule r has been walked, and the places to which it comes are added to its head's word; whether the word has gained.
    pub record Widened (r : ℕ) (before after : List ℕ) (gained : Bool) : Type 0 where
      pub mask : ℕ
      pub walked : Mask mask (WalkTo steps runs before i (words_of rules r))
      pub added : Added rules i r mask before after gained

    -- A pass has come to rule r, from one table to another: what gained in the pass before it, and what has gained in it.
    pub record Turned (gained r : ℕ) (before table : List ℕ) (more : ℕ) : Type 0 where
      pub grown : Grown i before table
      pub sound : SoundMarks before → SoundMarks table
      pub early : (k : ℕ) → k < r → NoCall more (words_of rules k) → ClosedRule table k
      pub late : gained ≢ 0 → (k : ℕ) → r ≤ k → k < length rules / rule_width → NoCall (bit_or gained more) (words_of rules k) → ClosedRule table k
      pub gains : more ≢ 0 → total before < total table

    -- A pass is over: what has gained in it.
    pub record Passed (before after : List ℕ) (more : ℕ) : Type 0 where
      pub grown : Grown i before after
      pub sound : SoundMarks before → SoundMarks after
      pub fresh : Fresh more after
      pub gains : more ≢ 0 → total before < total after

    -- The place is settled: no rule walked there adds anything.
    pub record Settled (before after : List ℕ) : Type 0 where
      pub grown : Grown i before after
      pub sound : SoundMarks before → SoundMarks after
      pub closed : (r : ℕ) → r < length rules / rule_width → ClosedRule after r

    -- An execution of the first p steps of rule r comes to each place of the mask.
    abbrev pub Came : (r p mask : ℕ) → Type 0
    Came r p mask =
        (j : ℕ) → j < 64 → bit mask j ≡ 1 → Runs (Carried (body_of steps) runs) (RuleOf (book_of rules)) i (body_of (take p (words_of rules r))) j

    -- Notes of places that the first p steps of rule r come to, in word 17 r + p.
    pub record Noted (notes : List ℕ) : Type 0 where
      pub room : 4352 ≤ length notes
      pub each : (r p : ℕ) → p ≤ 16 → Came r p (get_or notes (17 * r + p) 0)

    -- What gains are followed by at the place: nothing wrong is in the table or the notes.
    pub record Ready (table notes : List ℕ) : Type 0 where
      pub guide : Guide steps runs table
      pub place : i ≤ runs
      pub walkable : Walkable rules
      pub sound : SoundMarks table
      pub noted : Noted notes

  -- The places from `left` on are settled.
  pub record AllSettled (left : ℕ) (before after : List ℕ) : Type 0 where
    pub size : length after ≡ length before
    pub past : (n : ℕ) → 4096 ≤ n → get_or after n 0 ≡ get_or before n 0
    pub sound : SoundMarks after
    pub closed : (i : ℕ) → left ≤ i → i ≤ runs → (r : ℕ) → r < length rules / rule_width → ClosedRule i after r
