-- Both accounts and the counts in 44 words, and what is sound. Assumes nothing.
use Prim.Native.Nat.{ℕ, ◌+◌, ◌-◌, ◌<◌, ◌≤◌}
use native.Mathlib.Omega.{arith}
use native.Mathlib.Decide.{dec_lt, ℕ_discrete}
use mathlib.Core.Path.{◌≡◌, refl, sym, ap, ◌∙◌}
use mathlib.Core.Bool.{Bool, true, false, ◌||◌}
use mathlib.Core.List.{List, [], ◌∷◌, ◌++◌}
use lib.ListN.{length, get_or, take, drop, set, replicate}
use lib.Seq.{take-append_seam, drop-append_seam}
use Rattle.std.proofs.lemmas.List.{set-append_right}
use borrow.Rule.Slice.PartMut.{put_mid}
use lib.Dec.{ltb}
use borrow.Author.Count.{below_none, below_more}
use borrow.Author.Tests.{lt-ltb, le-ltb, ltb-false, eq-eqb}
use Rattle.steps.specs.Acceptance.{bad_goal, bad_state}
use Rattle.sharing.specs.Parties.{Party, first, second, Account, Ledger, opened, account_of, entered, account_words, ledger_words, account_at, ledger_width, ledger_of, party_of}
use Rattle.records.specs.Records.{room}
use Rattle.sharing.specs.Charged.{plain_call_width, plain_answer_width, Balanced, over_limits, over_rooms, run_held, Exceeds, AsKept}
use Rattle.sharing.specs.Shared.{takes_up}
use Rattle.accounts.specs.Accounts.{account_width, place_of, took_up, Sound, ShortGoals}
use Rattle.accounts.proofs.GoalWords.{left_false, right_false, goal_short}

-- ---- where what stands

module _ (words : List ℕ) (long : length words ≡ ledger_width) where
  pub first_placed : (ledger_of words).first ≡ account_at words 0
  unfolding ledger_of
  first_placed = rw (eq-eqb (length words) ledger_width long) refl

  pub second_placed : (ledger_of words).second ≡ account_at words account_width
  unfolding ledger_of
  second_placed = rw (eq-eqb (length words) ledger_width long) refl

  pub calls_placed : (ledger_of words).calls ≡ get_or words 42 0
  unfolding ledger_of
  calls_placed = rw (eq-eqb (length words) ledger_width long) refl

  pub answers_placed : (ledger_of words).answers ≡ get_or words 43 0
  unfolding ledger_of
  answers_placed = rw (eq-eqb (length words) ledger_width long) refl

  pub rooms_placed : (calls answers : List ℕ) → over_rooms (ledger_of words) calls answers
      ≡ (ltb (room plain_call_width (length calls)) (get_or words 42 0) || ltb (room plain_answer_width (length answers)) (get_or words 43 0))
  unfolding over_rooms
  rooms_placed calls answers = rw (calls_placed, answers_placed) refl

  pub account_placed : (p : Party) → account_of (ledger_of words) p ≡ account_at words (place_of p)
  unfolding account_of place_of
  account_placed first = first_placed
  account_placed second = second_placed

-- ---- two accounts and the counts joined

-- The accounts written into 44 words of 0, one behind the other, and then the counts.
pub joined : (own other : List ℕ) (n m : ℕ) → length own ≡ account_width → length other ≡ account_width
    → set (set (put_mid 21 21 (own ++ replicate 23 0) other) 42 n) 43 m ≡ own ++ (other ++ (n ∷ m ∷ []))
joined own other n m e f =
    let front : take 21 (own ++ replicate 23 0) ≡ own = rw e at (take-append_seam own (replicate 23 0)) in
    let back : drop 21 (own ++ replicate 23 0) ≡ replicate 23 0 = rw e at (drop-append_seam own (replicate 23 0)) in
    rw (
      front,
      back,
      set-append_right own (other ++ (0 ∷ 0 ∷ [])) 21 42 n e (omega arith),
      set-append_right other (0 ∷ 0 ∷ []) 21 21 n f (omega arith),
      set-append_right own (other ++ (n ∷ 0 ∷ [])) 21 43 m e (omega arith),
      set-append_right other (n ∷ 0 ∷ []) 21 22 m f (omega arith),
    ) refl

module _ (words : List ℕ) (long : length words ≡ ledger_width) (a : Account) (n m : ℕ) {x y : List ℕ} where
  pub entered_second : {b : Bool} → b ≡ true → x ≡ account_words (account_at words 0) → y ≡ account_words a
      → x ++ (y ++ (n ∷ m ∷ [])) ≡ ledger_words (entered (ledger_of words) (party_of b) a n m)
  unfolding ledger_words entered party_of
  entered_second e f g = rw (e, f, g) (ap (λ (z : Account). account_words z ++ (account_words a ++ (n ∷ m ∷ []))) (sym (first_placed words long)))

  pub entered_first : {b : Bool} → b ≡ false → x ≡ account_words a → y ≡ account_words (account_at words account_width)
      → x ++ (y ++ (n ∷ m ∷ [])) ≡ ledger_words (entered (ledger_of words) (party_of b) a n m)
  unfolding ledger_words entered party_of
  entered_first e f g = rw (e, f, g) (ap (λ (z : Account). account_words a ++ (account_words z ++ (n ∷ m ∷ []))) (sym (second_placed words long)))

pub place_inside : (b : Bool) → place_of (party_of b) ≤ account_width
unfolding place_of party_of
place_inside true = omega arith
place_inside false = omega arith

pub short_first : {words : List ℕ} → ShortGoals words → length (account_at words 0).goal ≤ 16
unfolding account_of
short_first {words} s = rw (first_placed words s.long) at (s.short first)

pub short_second : {words : List ℕ} → ShortGoals words → length (account_at words account_width).goal ≤ 16
unfolding account_of
short_second {words} s = rw (second_placed words s.long) at (s.short second)

-- The account of a run that takes rows up.
pub took_up_as : (a : Account) (fluents actions : ℕ) (rules goal : List ℕ) (start : ℕ)
    → takes_up a (record { fluents = fluents; actions = actions; rules = rules; goal = goal; start = start }) ≡ took_up a goal start
took_up_as a fluents actions rules goal start = refl

-- ---- limits

pub over_sum : (room a b : ℕ) → a ≤ room → ltb (room - a) b ≡ ltb room (a + b)
over_sum room a b l = elim (dec_lt (room - a) b) [
  | yes h ↦ lt-ltb (room - a) b h ∙ sym (lt-ltb room (a + b) (omega arith))
  | no h ↦ le-ltb (room - a) b (omega arith) ∙ sym (le-ltb room (a + b) (omega arith))
]

module _ (l : Ledger) (calls answers : List ℕ) (h : over_limits l calls answers ≡ false) where
  abbrev both_calls : ℕ
  both_calls = l.first.call_limit + l.second.call_limit

  abbrev both_answers : ℕ
  both_answers = l.first.answer_limit + l.second.answer_limit

  -- Limits that do not meet 90: both parties' together are within the rooms,
  pub limits_fit : (both_calls ≤ room plain_call_width (length calls)) × (both_answers ≤ room plain_answer_width (length answers))
  unfolding over_limits
  limits_fit =
      let f : ltb (room plain_call_width (length calls)) both_calls ≡ false = left_false _ _ h in
      let g : ltb (room plain_answer_width (length answers)) both_answers ≡ false = right_false (ltb (room plain_call_width (length calls)) both_calls) _ h in
      (ltb-false _ _ f, ltb-false _ _ g)

  -- and so are either's.
  pub limits_within : (p : Party) → ((account_of l p).call_limit ≤ room plain_call_width (length calls)) × ((account_of l p).answer_limit ≤ room plain_answer_width (length answers))
  unfolding account_of
  limits_within first = let (c, a) = limits_fit in (omega arith, omega arith)
  limits_within second = let (c, a) = limits_fit in (omega arith, omega arith)

-- ---- sound

pub as_kept_sound : {fluents actions : ℕ} {rules words calls answers : List ℕ} → AsKept fluents actions rules words calls answers
    → Sound fluents actions words calls answers
as_kept_sound k = record { long = k.long; goals = k.goals; starts = k.starts; counts = k.counts; limits = k.limits }

pub sound_as_kept : {fluents actions : ℕ} {rules words calls answers : List ℕ} → Sound fluents actions words calls answers
    → Balanced rules (ledger_of words) calls answers
    → ((p : Party) → (account_of (ledger_of words) p).holds ≡ true → ¬ Exceeds (run_held rules (account_of (ledger_of words) p)) (account_of (ledger_of words) p))
    → AsKept fluents actions rules words calls answers
sound_as_kept s b w =
    record { long = s.long; goals = s.goals; starts = s.starts; counts = s.counts; limits = s.limits; balanced = b; within = w }

pub sound_short : {fluents actions : ℕ} {words calls answers : List ℕ} → Sound fluents actions words calls answers → ShortGoals words
sound_short {fluents} {actions} s = record { long = s.long; short = λ p. goal_short fluents actions _ (s.goals p) }

module _ (fluents actions : ℕ) (words calls answers : List ℕ) where
  abbrev bad_at : ℕ → Bool
  bad_at i = bad_goal fluents actions (account_at words i).goal || bad_state fluents (account_at words i).start

  abbrev over_at : Bool
  over_at = over_limits (opened (account_at words 0).call_limit (account_at words 0).answer_limit (account_at words 21).call_limit
      (account_at words 21).answer_limit) calls answers

  module _ (long : length words ≡ ledger_width) where
    limits_placed : over_limits (ledger_of words) calls answers ≡ over_at
    unfolding over_limits
    limits_placed = rw (first_placed words long, second_placed words long) refl

    pub sound_by : bad_at 0 ≡ false → bad_at 21 ≡ false → over_rooms (ledger_of words) calls answers ≡ false → over_at ≡ false
        → Sound fluents actions words calls answers
    unfolding account_of
    sound_by f g c o = record { long = long; goals = goals; starts = starts; counts = c; limits = limits_placed ∙ o }
      where
        goals : (p : Party) → bad_goal fluents actions (account_of (ledger_of words) p).goal ≡ false
        goals first = rw (first_placed words long) (left_false _ _ f)
        goals second = rw (second_placed words long) (left_false _ _ g)

        starts : (p : Party) → bad_state fluents (account_of (ledger_of words) p).start ≡ false
        starts first = rw (first_placed words long) (right_false (bad_goal fluents actions (account_at words 0).goal) _ f)
        starts second = rw (second_placed words long) (right_false (bad_goal fluents actions (account_at words 21).goal) _ g)

    module _ (s : Sound fluents actions words calls answers) where
      both_false : (b c : Bool) → b ≡ false → c ≡ false → (b || c) ≡ false
      both_false b c e f = rw (e, f) refl

      pub sound_first : bad_at 0 ≡ false
      unfolding account_of
      sound_first = both_false _ _ (rw (first_placed words long) at (s.goals first)) (rw (first_placed words long) at (s.starts first))

      pub sound_second : bad_at 21 ≡ false
      unfolding account_of
      sound_second = both_false _ _ (rw (second_placed words long) at (s.goals second)) (rw (second_placed words long) at (s.starts second))

      pub sound_limits : over_at ≡ false
      sound_limits = sym limits_placed ∙ s.limits
