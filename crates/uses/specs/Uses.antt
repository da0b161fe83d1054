-- What a run notes of each call record: its callers, after which answers walks come to it, and from which answer on it is looked at anew.
-- Read by the proofs alone. Assumes nothing.
use Rattle.std.specs.Prelude.{ℕ, ◌+◌, ◌-◌, ◌*◌, ◌<◌, ◌≤◌, min, max, ◌≡◌, Bool, true, cond, List, ◌⊎◌, ◌≢◌, length, get_or, eqb}
use Rattle.steps.specs.State.{State}
use Rattle.quarters.specs.Quarters.{quarter}
use Rattle.records.specs.Records.{Answers, call_width}
use Rattle.records.specs.Storage.{CallAt}
use Rattle.records.proofs.Growth.{Tables}
use Rattle.desk.specs.Desk.{packed_width}

-- Five numbers for each call record.
abbrev pub Uses : Type 0
Uses = record { least : ℕ → ℕ; greatest : ℕ → ℕ; via : ℕ → ℕ; start : ℕ → ℕ; heat : ℕ → ℕ }

-- Quarter j of the third word of call record k.
abbrev pub third : List ℕ → ℕ → ℕ → ℕ
third calls k j = quarter (get_or calls (call_width * k + 2) 0) j

-- Where they stand: three in the third word of the call record, two in the list.
abbrev pub uses_in : List ℕ → List ℕ → Uses
uses_in calls list =
    record {
      least = λ k. 65535 - third calls k 0;
      greatest = λ k. third calls k 1;
      via = λ k. third calls k 2;
      start = λ k. quarter (get_or list k 0) 0;
      heat = λ k. quarter (get_or list k 0) 1;
    }

-- The least and the greatest number of a record's callers. Where nothing is noted, nothing lies between them.
abbrev pub least : Uses → ℕ → ℕ
least uses i = uses.least i

abbrev pub greatest : Uses → ℕ → ℕ
greatest uses i = uses.greatest i

-- The walks of record `row` may have come to record i.
abbrev pub Used : Uses → ℕ → ℕ → Type 0
Used uses row i = (i < 65536) × (least uses i ≤ row) × (row ≤ greatest uses i)

-- One more than the number of the answer after which walks come to a record: 0 for none, 65,535 for several or one of a number too high.
abbrev pub via : Uses → ℕ → ℕ
via uses k = uses.via k

-- Where a round begins among a record's answers.
abbrev pub start : Uses → ℕ → ℕ
start uses k = uses.start k

-- The number of the answer, new in some round, for which that round looks at the record: the first of the record's own new answers where it
-- has any. Where nothing is noted it is 0, which no round takes for a new answer: one with no old answers passes over none.
abbrev pub heat : Uses → ℕ → ℕ
heat uses k = uses.heat k

-- Walks may have come to record k after the answer `last - 1`, or with none before it where `last` is 0.
abbrev pub Came : Uses → ℕ → ℕ → Type 0
Came uses last k = (last ≡ 0) ⊎ ((via uses k ≡ last) ⊎ (via uses k ≡ 65535))

-- Callers and answers before are the same.
pub record SameBefore (uses uses' : Uses) : Type 0 where
  pub leasts : (k : ℕ) → least uses' k ≡ least uses k
  pub greatests : (k : ℕ) → greatest uses' k ≡ greatest uses k
  pub vias : (k : ℕ) → via uses' k ≡ via uses k

-- What a round looks at is the same.
pub record SameLooks (uses uses' : Uses) : Type 0 where
  pub starts : (k : ℕ) → start uses' k ≡ start uses k
  pub heats : (k : ℕ) → heat uses' k ≡ heat uses k

-- The numbers with `row` among the records that come to record i.
pub record UseAdded (uses : Uses) (row i : ℕ) (uses' : Uses) : Type 0 where
  pub lowest : least uses' i ≡ min (least uses i) row
  pub highest : greatest uses' i ≡ max (greatest uses i) row
  pub leasts : (k : ℕ) → k ≢ i → least uses' k ≡ least uses k
  pub greatests : (k : ℕ) → k ≢ i → greatest uses' k ≡ greatest uses k
  pub vias : (k : ℕ) → via uses' k ≡ via uses k
  pub looks : SameLooks uses uses'

-- Nothing noted is forgotten.
pub record UsesKept (uses uses' : Uses) : Type 0 where
  pub more : (row i : ℕ) → Used uses row i → Used uses' row i
  pub came : (last k : ℕ) → k < 65536 → Came uses last k → Came uses' last k

-- And what a round looks at stays.
pub record UsesGrew (uses uses' : Uses) : Type 0 where
  pub more : (row i : ℕ) → Used uses row i → Used uses' row i
  pub came : (last k : ℕ) → k < 65536 → Came uses last k → Came uses' last k
  pub starts : (k : ℕ) → start uses' k ≡ start uses k
  pub heats : (k : ℕ) → heat uses' k ≡ heat uses k

-- ---- the answer before
-- What is noted of a record to which walks have come after `was` and now come after `last`.
unfoldable pub after_both : ℕ → ℕ → ℕ
after_both was last = cond (eqb was 0) (min last 65535) (cond (eqb was last) last 65535)

-- The numbers with that for record i.
pub record ViaNoted (uses : Uses) (last i : ℕ) (uses' : Uses) : Type 0 where
  pub here : via uses' i ≡ after_both (via uses i) last
  pub vias : (k : ℕ) → k ≢ i → via uses' k ≡ via uses k
  pub leasts : (k : ℕ) → least uses' k ≡ least uses k
  pub greatests : (k : ℕ) → greatest uses' k ≡ greatest uses k
  pub looks : SameLooks uses uses'

-- What the code leaves where a walk of `row` has come to record i after `last`.
pub record Noted (uses uses' : Uses) (row last i : ℕ) : Type 0 where
  pub grew : UsesGrew uses uses'
  pub used : Used uses' row i
  pub after : Came uses' last i

-- ---- a call that stands and that the walks of `row` have come to
-- after the answer of this number, less one
abbrev pub HeldUsed : Tables → Uses → ℕ → (ℕ × State) × ℕ → Type 0
HeldUsed t uses row c = (i : ℕ) × (i < t.calls.count) × CallAt t.calls i c.0.0 c.0.1 × Used uses row i × Came uses c.1 i

-- ---- the answers of a round
-- Record r was walked, and has come to no call record that has an answer from `seen` up to `known`.
pub record Quiet (answers : Answers) (uses : Uses) (walked seen known r : ℕ) : Type 0 where
  pub old : r < walked
  pub none : (x : ℕ) → seen ≤ x → x < known → Used uses r (answers.call x) → ⊥

-- The records of a round that are passed: those before `low` and from `top` on, and those from `high` on that were walked.
abbrev pub Passed : ℕ → ℕ → ℕ → ℕ → ℕ → Type 0
Passed low high top walked r = (r < low) ⊎ (((high ≤ r) × (r < walked)) ⊎ (top ≤ r))

-- All callers of the call records with new answers lie from `low` up to `high`.
abbrev pub Between : Answers → Uses → ℕ → ℕ → ℕ → ℕ → Type 0
Between answers uses low high seen known = (x : ℕ) → seen ≤ x → x < known → answers.call x < 65536 → (low ≤ least uses (answers.call x))
    × (greatest uses (answers.call x) < high)

-- What the code picks for a round.
pub record Spans (answers : Answers) (uses : Uses) (walked seen known rows low high top : ℕ) : Type 0 where
  pub low_in : low ≤ rows
  pub top_in : top ≤ rows
  pub quiet : (r : ℕ) → r < rows → Passed low high top walked r → Quiet answers uses walked seen known r

-- ---- the answers that a round has to look at again
-- The round with the new answers from `seen` on looks at answer y and at all later ones of its record.
abbrev pub Hot : Answers → Uses → ℕ → ℕ → Type 0
Hot answers uses seen y = (answers.call y < 65536) × (seen ≤ heat uses (answers.call y)) × (start uses (answers.call y) ≤ y)

-- What is noted of a record with new answers, y among them: the first of them.
abbrev pub Newest : Answers → Uses → ℕ → ℕ → Type 0
Newest answers uses seen y =
    (answers.call y < 65536) × (seen ≤ heat uses (answers.call y)) × (heat uses (answers.call y) ≤ y)
    × (answers.call (heat uses (answers.call y)) ≡ answers.call y)

-- Record k is come to after no answer, or after a single one, which is looked at.
abbrev pub Up : Answers → Uses → ℕ → ℕ → ℕ → Type 0
Up answers uses seen known k = (via uses k ≡ 0) ⊎ ((y : ℕ) × (via uses k ≡ y + 1) × (y < min known 65534) × Hot answers uses seen y)

-- The new answers are looked at, and so is each answer after which walks come to a record that has answers looked at.
pub record Warm (answers : Answers) (uses : Uses) (seen known : ℕ) : Type 0 where
  pub new : (x : ℕ) → seen ≤ x → x < known → Hot answers uses seen x
  pub up : (k : ℕ) → k < 65536 → seen ≤ heat uses k → Up answers uses seen known k

-- What a round notes before it walks: the new answers, and, if `warm`, all that it has to look at again.
pub record Lit (answers : Answers) (uses : Uses) (seen known : ℕ) (warm : Bool) : Type 0 where
  pub newest : (y : ℕ) → seen ≤ y → y < known → Newest answers uses seen y
  pub looked : warm ≡ true → Warm answers uses seen known

-- The numbers with the answers of record k from y on looked at, for the answer h.
pub record StartPut (uses : Uses) (k y h : ℕ) (uses' : Uses) : Type 0 where
  pub low : SameBefore uses uses'
  pub start_here : start uses' k ≡ y
  pub heat_here : heat uses' k ≡ h
  pub starts : (i : ℕ) → i ≢ k → start uses' i ≡ start uses i
  pub heats : (i : ℕ) → i ≢ k → heat uses' i ≡ heat uses i

-- The new answer for which record k is looked at is its own.
abbrev pub Own : Answers → Uses → ℕ → Type 0
Own answers uses k = answers.call (heat uses k) ≡ k

-- ---- the new answers
-- The new answers from x on are noted. Where there are old ones, no other record is looked at yet.
pub record Lighted (answers : Answers) (uses uses' : Uses) (seen known x : ℕ) : Type 0 where
  pub low : SameBefore uses uses'
  pub most : (k : ℕ) → heat uses' k ≤ known - 1
  pub newest : (y : ℕ) → x ≤ y → y < known → Newest answers uses' seen y
  pub hot : (y : ℕ) → x ≤ y → y < known → Hot answers uses' seen y
  pub own : 0 < seen → (k : ℕ) → seen ≤ heat uses' k → Own answers uses' k

-- ---- the answers before them
-- What all words have that are written then: nothing noted before is lost. `ok` where all there is to look at is looked at, but for the records
-- of new answers from x on.
pub record Looked (answers : Answers) (uses uses' : Uses) (seen known x : ℕ) (ok : Bool) : Type 0 where
  pub low : SameBefore uses uses'
  pub most : ((k : ℕ) → heat uses k ≤ known - 1) → (k : ℕ) → heat uses' k ≤ known - 1
  pub newest : (y : ℕ) → Newest answers uses seen y → Newest answers uses' seen y
  pub hot : (y : ℕ) → Hot answers uses seen y → Hot answers uses' seen y
  pub up : ok ≡ true → ((k : ℕ) → seen ≤ heat uses k → Own answers uses k) → (k : ℕ) → k < 65536 → seen ≤ heat uses' k
      → Up answers uses' seen known k ⊎ ((x ≤ heat uses' k) × Own answers uses' k)

-- The answer of number w less one, after which a record comes that is looked at for the new answer x, is still to be looked at.
pub record Heating (answers : Answers) (uses uses' : Uses) (seen known x w : ℕ) : Type 0 where
  pub low : SameBefore uses uses'
  pub most : ((k : ℕ) → heat uses k ≤ known - 1) → (k : ℕ) → heat uses' k ≤ known - 1
  pub newest : (y : ℕ) → Newest answers uses seen y → Newest answers uses' seen y
  pub hot : (y : ℕ) → Hot answers uses seen y → Hot answers uses' seen y
  pub up : ((k : ℕ) → seen ≤ heat uses k → Own answers uses k) → (k : ℕ) → k < 65536 → seen ≤ heat uses' k
      → Up answers uses' seen known k ⊎ (((x + 1 ≤ heat uses' k) × Own answers uses' k) ⊎ (via uses' k ≡ w))

-- What the code leaves for a round: other numbers only for what it looks at, and none of them beyond the round's answers.
pub record Begun (answers : Answers) (uses uses' : Uses) (walked seen known old : ℕ) (warm : Bool) : Type 0 where
  pub low : SameBefore uses uses'
  pub stale : (k : ℕ) → heat uses' k ≤ known - 1
  pub lit : (r : ℕ) → r < old → (r < walked) × Lit answers uses' seen known warm

-- The first answer of record r that is wanted, or `known`; or an answer of it before that.
pub record FirstOf (answers : Answers) (Wanted : ℕ → Type 0) (known r j : ℕ) : Type 0 where
  pub high : j ≤ known
  pub found : j < known → answers.call j ≡ r
  pub skipped : (y : ℕ) → y < j → answers.call y ≡ r → Wanted y → ⊥

abbrev pub FirstHot : Answers → Uses → ℕ → ℕ → ℕ → ℕ → Type 0
FirstHot answers uses seen known r j = FirstOf answers (Hot answers uses seen) known r j

abbrev pub FirstNew : Answers → Uses → ℕ → ℕ → ℕ → ℕ → Type 0
FirstNew answers uses seen known r j = FirstOf answers (λ (y : ℕ). (seen ≤ y) × Newest answers uses seen y) known r j

-- ---- in the words
-- In the call table only callers and answers before are other, and only those of the first n records.
pub record UsesAlone (n : ℕ) (words words' : List ℕ) : Type 0 where
  pub long : length words' ≡ length words
  pub heads : (i : ℕ) → get_or words' (call_width * i) 0 ≡ get_or words (call_width * i) 0
  pub states : (i : ℕ) → get_or words' (call_width * i + 1) 0 ≡ get_or words (call_width * i + 1) 0
  pub firsts : (i : ℕ) → third words' i 3 ≡ third words i 3
  pub past : (p : ℕ) → call_width * n ≤ p → get_or words' p 0 ≡ get_or words p 0

-- In the list only what a round looks at is other.
pub record LooksAlone (list list' : List ℕ) : Type 0 where
  pub long : length list' ≡ length list
  pub links : (i : ℕ) → quarter (get_or list' i 0) 2 ≡ quarter (get_or list i 0) 2
  pub heads : (i : ℕ) → quarter (get_or list' i 0) 3 ≡ quarter (get_or list i 0) 3

-- The first `known` answers are each of one of the first `rows` call records, and the tables have all their words.
pub record AnswersHeld (calls list answers : List ℕ) (known rows : ℕ) : Type 0 where
  pub answers_fit : packed_width * known ≤ length answers
  pub calls_fit : call_width * rows ≤ length calls
  pub listed : rows ≤ length list
  pub few : known ≤ 65536
  pub small : rows ≤ 65536
  pub inside : (x : ℕ) → x < known → get_or answers (packed_width * x) 0 < rows
