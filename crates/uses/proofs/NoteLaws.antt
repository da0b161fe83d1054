-- The uses of call records in their words: one quarter written, and what that leaves as it was. Assumes nothing.
use Prim.Native.Nat.{ℕ, ◌+◌, ◌-◌, ◌*◌, ◌/◌, ◌%◌, ◌<◌, ◌≤◌, min, max}
use native.Mathlib.Omega.{arith}
use native.Mathlib.Decide.{ℕ_discrete, dec_lt}
use mathlib.Core.Path.{◌≡◌, refl, ap, ◌∙◌}
use mathlib.Core.List.{List}
use mathlib.Core.Logic.{◌≢◌}
use lib.ListN.{get_or, replicate, get_or-replicate, length-replicate, get_or-eq_default}
use Rattle.quarters.specs.Quarters.{quarter, QuarterPut}
use Rattle.records.specs.Records.{call_width}
use Rattle.records.specs.Storage.{Stored}
use Rattle.desk.specs.Desk.{open_calls, mark_words, round_unit, round_top, action_unit}
use Rattle.uses.specs.Uses.{third, uses_in, heat, after_both, UseAdded, ViaNoted, StartPut, SameLooks, UsesAlone, LooksAlone, AnswersHeld}

-- ---- the call table
pub alone_refl : (n : ℕ) (words : List ℕ) → UsesAlone n words words
alone_refl n words = record { long = refl; heads = λ i. refl; states = λ i. refl; firsts = λ i. refl; past = λ p l. refl }

pub alone_trans : {n : ℕ} {words words' words'' : List ℕ} → UsesAlone n words words' → UsesAlone n words' words'' → UsesAlone n words words''
alone_trans a b = record {
  long = b.long ∙ a.long;
  heads = λ i. b.heads i ∙ a.heads i;
  states = λ i. b.states i ∙ a.states i;
  firsts = λ i. b.firsts i ∙ a.firsts i;
  past = λ p l. b.past p l ∙ a.past p l;
}

-- where uses alone differ, they do among more records too
pub alone_up : {m n : ℕ} {words words' : List ℕ} → m ≤ n → UsesAlone m words words' → UsesAlone n words words'
alone_up l a = record { long = a.long; heads = a.heads; states = a.states; firsts = a.firsts; past = λ p h. a.past p (omega arith) }

-- the call records are the same
pub alone_calls : {n : ℕ} {words words' : List ℕ} → UsesAlone n words words' → (m : ℕ) → open_calls words' m ≡ open_calls words m
alone_calls a m = λ d. record {
  count = m;
  action = λ i. a.heads i d / action_unit;
  state = λ i. a.states i d;
  round = λ i. a.heads i d / round_unit % round_top;
}

-- and their marks
pub alone_marks : {n : ℕ} {words words' : List ℕ} → UsesAlone n words words' → mark_words words' ≡ mark_words words
alone_marks a = λ d i. a.heads i d % round_unit

-- and their first answers
pub alone_firsts : {n : ℕ} {words words' : List ℕ} → UsesAlone n words words' → ◌≡◌ {A = ℕ → ℕ} (λ i. third words' i 3) (λ i. third words i 3)
alone_firsts a = λ d i. a.firsts i d

-- and all is 0 past them
pub alone_stored : {n : ℕ} {words words' : List ℕ} → UsesAlone n words words' → Stored call_width words n → Stored call_width words' n
alone_stored a s = record { fits = omega (arith, a.long, s.fits); most = s.most; past = λ i l. a.past i l ∙ s.past i l }

-- ---- other words of the same tables
-- where the third words of call records stay, so do callers and answers before
pub uses_calls : (calls calls' list : List ℕ) → ((i : ℕ) → get_or calls' (call_width * i + 2) 0 ≡ get_or calls (call_width * i + 2) 0) → uses_in calls' list ≡ uses_in calls list
uses_calls calls calls' list same = λ d. record {
  least = λ k. 65535 - quarter (same k d) 0;
  greatest = λ k. quarter (same k d) 1;
  via = λ k. quarter (same k d) 2;
  start = λ k. quarter (get_or list k 0) 0;
  heat = λ k. quarter (get_or list k 0) 1;
}

-- where the low half of the words of the list stays, so does what a round looks at
pub uses_list : (calls list list' : List ℕ) → ((k : ℕ) → quarter (get_or list' k 0) 0 ≡ quarter (get_or list k 0) 0) → ((k : ℕ) → quarter (get_or list' k 0) 1 ≡ quarter (get_or list k 0) 1)
    → uses_in calls list' ≡ uses_in calls list
uses_list calls list list' starts heats = λ d. record {
  least = λ k. 65535 - third calls k 0;
  greatest = λ k. third calls k 1;
  via = λ k. third calls k 2;
  start = λ k. starts k d;
  heat = λ k. heats k d;
}

-- in a cleared list no record has been looked at
pub heat_clear : (calls : List ℕ) (n k : ℕ) → heat (uses_in calls (replicate n 0)) k ≡ 0
unfolding quarter
heat_clear calls n k = rw (zero k (dec_lt k n)) refl
  where
    zero : (i : ℕ) → Dec (i < n) → ◌≡◌ {A = ℕ} (get_or (replicate n 0) i 0) 0
    zero i (yes l) = get_or-replicate n i 0 0 l
    zero i (no m) = get_or-eq_default (replicate n 0) 0 (omega (arith, length-replicate {A = ℕ} n 0))

-- ---- one quarter written, none of a first answer
module _ {words words' : List ℕ} {j v : ℕ} (i : ℕ) (p : QuarterPut words (call_width * i + 2) j v words') where
  pub third_here : third words' i j ≡ v
  third_here = p.changed.here

  pub third_beside : (k : ℕ) → k < 4 → k ≢ j → third words' i k ≡ third words i k
  third_beside k l n = p.changed.beside k l n

  -- that of another record
  pub third_other : (r k : ℕ) → r ≢ i → third words' r k ≡ third words r k
  third_other r k n = ap (λ (w : ℕ). quarter w k) (p.other (call_width * r + 2) (λ e. n (omega arith)))

  -- another quarter, of any record
  pub third_same : (r k : ℕ) → k < 4 → k ≢ j → third words' r k ≡ third words r k
  third_same r k l n = by (ℕ_discrete r i)
    where
      by : Dec (r ≡ i) → third words' r k ≡ third words r k
      by (yes e) = rw e (third_beside k l n)
      by (no m) = third_other r k m

-- what a round looks at is not there
pub same_looks : (calls calls' list : List ℕ) → SameLooks (uses_in calls list) (uses_in calls' list)
same_looks calls calls' list = record { starts = λ k. refl; heats = λ k. refl }

-- A caller more.
pub use_added : {words words' words'' : List ℕ} {row i low high : ℕ} (list : List ℕ) → QuarterPut words (call_width * i + 2) 0 (65535 - low) words' → QuarterPut words' (call_width * i + 2) 1 high words''
    → low ≤ 65535 → low ≡ min (65535 - third words i 0) row → high ≡ max (third words i 1) row → UseAdded (uses_in words list) row i (uses_in words'' list)
use_added {words} {words'} {words''} {row} {i} {low} {high} list p q l e f = record {
  lowest = omega (arith, third_same i q i 0 (omega arith) (λ z. omega arith), third_here i p);
  highest = third_here i q ∙ f;
  leasts = λ k n. ap (λ (w : ℕ). 65535 - w) (third_other i q k 0 n ∙ third_other i p k 0 n);
  greatests = λ k n. third_other i q k 1 n ∙ third_other i p k 1 n;
  vias = λ k. third_same i q k 2 (omega arith) (λ z. omega arith) ∙ third_same i p k 2 (omega arith) (λ z. omega arith);
  looks = same_looks words words'' list;
}

-- An answer before.
pub via_noted : {words words' : List ℕ} {last i v : ℕ} (list : List ℕ) → QuarterPut words (call_width * i + 2) 2 v words' → v ≡ after_both (third words i 2) last → ViaNoted (uses_in words list) last i (uses_in words' list)
via_noted {words} {words'} {last} {i} {v} list p e = record {
  here = third_here i p ∙ e;
  vias = λ k n. third_other i p k 2 n;
  leasts = λ k. ap (λ (w : ℕ). 65535 - w) (third_same i p k 0 (omega arith) (λ z. omega arith));
  greatests = λ k. third_same i p k 1 (omega arith) (λ z. omega arith);
  looks = same_looks words words' list;
}

-- ---- the list
pub looks_refl : (list : List ℕ) → LooksAlone list list
looks_refl list = record { long = refl; links = λ i. refl; heads = λ i. refl }

pub looks_trans : {list list' list'' : List ℕ} → LooksAlone list list' → LooksAlone list' list'' → LooksAlone list list''
looks_trans a b = record { long = b.long ∙ a.long; links = λ i. b.links i ∙ a.links i; heads = λ i. b.heads i ∙ a.heads i }

-- links and heads of the list as functions
pub looks_links : {list list' : List ℕ} → LooksAlone list list' → ◌≡◌ {A = ℕ → ℕ} (λ i. quarter (get_or list' i 0) 2) (λ i. quarter (get_or list i 0) 2)
looks_links a = λ d i. a.links i d

pub looks_heads : {list list' : List ℕ} → LooksAlone list list' → ◌≡◌ {A = ℕ → ℕ} (λ i. quarter (get_or list' i 0) 3) (λ i. quarter (get_or list i 0) 3)
looks_heads a = λ d i. a.heads i d

-- Where a round begins, and for which answer.
module _ {list list' list'' : List ℕ} {k y h : ℕ} (p : QuarterPut list k 0 y list') (q : QuarterPut list' k 1 h list'') where
  at_other : (i j : ℕ) → i ≢ k → quarter (get_or list'' i 0) j ≡ quarter (get_or list i 0) j
  at_other i j n = ap (λ (w : ℕ). quarter w j) (q.other i n ∙ p.other i n)

  pub start_put : (calls : List ℕ) → StartPut (uses_in calls list) k y h (uses_in calls list'')
  start_put calls = record {
    low = record { leasts = λ i. refl; greatests = λ i. refl; vias = λ i. refl };
    start_here = q.changed.beside 0 (omega arith) (λ e. omega arith) ∙ p.changed.here;
    heat_here = q.changed.here;
    starts = λ i n. at_other i 0 n;
    heats = λ i n. at_other i 1 n;
  }

-- the answers are held still
pub held_same : {calls list list' answers : List ℕ} {known rows : ℕ} → LooksAlone list list' → AnswersHeld calls list answers known rows → AnswersHeld calls list' answers known rows
held_same a h = record { answers_fit = h.answers_fit; calls_fit = h.calls_fit; listed = omega (arith, a.long, h.listed); few = h.few; small = h.small; inside = h.inside }
