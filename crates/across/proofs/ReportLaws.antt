-- What a class run leaves is never refused with 26 by the report. Assumes nothing.
use Prim.Native.Nat.{ℕ, zero, suc, ◌+◌, ◌*◌, ◌<◌, ◌≤◌}
use native.Mathlib.Omega.{arith}
use mathlib.Core.Path.{◌≡◌, refl, sym, ap, ap₂, subst, ◌∙◌}
use mathlib.Core.Logic.{◌≢◌}
use mathlib.Core.Bool.{true, false, cond}
use mathlib.Core.List.{List, [], ◌∷◌, ◌++◌, append-nil}
use lib.Dec.{eqb}
use lib.ListN.{length, get_or, take, drop}
use lib.Seq.{take_at, get_or-take, get_or-drop, get_or-append-add}
use borrow.Author.Tests.{ltb-false}
use Rattle.refusals.specs.Class.{class_refusals}
use Rattle.steps.specs.State.{State}
use Rattle.steps.proofs.Lists.{at_member}
use Rattle.evaluator.specs.Evaluated.{Asked, Lent, Told, asked, told}
use Rattle.class.specs.Class.{four, result_words, places, written, Ran, refused, ran}
use Rattle.class.specs.Shown.{InTurn, none, without, with_ends, ClassShown}
use Rattle.class.proofs.Running.{words_long}
use Rattle.class.proofs.Single.{words_of_start}
use Rattle.class.proofs.Laws.{class_shown, class_below}
use Rattle.report.specs.Figures.{sum_below, starts, unrefused, ends_of, all_ends}
use Rattle.report.specs.Report.{bad_starts, refusal}
use Rattle.report.proofs.Sums.{sum_none, sum_same, sum_first}
use Rattle.report.proofs.Results.{or_false, few, few_at, good_starts}
use Rattle.report.proofs.Outcomes.{never_26, good_ends}

-- ---- the result words of starts that were told so

-- word k of start i
word_at : (rs : List Told) (i k : ℕ) → i < length rs → k < 4 → get_or (result_words rs) (4 * i + k) 0 ≡ get_or (four (get_or rs i (told 0 0 0 0 0))) k 0
word_at rs i k l h =
    sym (get_or-take 4 (drop (4 * i) (result_words rs)) k 0 h ∙ get_or-drop (4 * i) (result_words rs) k 0)
    ∙ ap (λ (ws : List ℕ). get_or ws k 0) (ap (λ (ws : List ℕ). take 4 (drop (4 * i) ws)) (sym (append-nil (result_words rs))) ∙ words_of_start rs [] i l)

-- words of the starts after the first
later : (r : Told) (rs : List Told) (j i : ℕ) → j ≡ 4 + i → get_or (result_words (r ∷ rs)) j 0 ≡ get_or (result_words rs) i 0
unfolding result_words
later r rs j i e = ap (λ (n : ℕ). get_or (four r ++ result_words rs) n 0) e ∙ get_or-append-add (four r) (result_words rs) i 0

-- the ends that start i adds
abbrev own : List ℕ → ℕ → ℕ
own words i = cond (unrefused words i) (ends_of words i) 0

first : (r : Told) (rs : List Told) → own (result_words (r ∷ rs)) 0 ≡ places r
unfolding result_words
first r rs = refl

-- the ends of all unrefused starts are those written
sum_written : (rs : List Told) → sum_below (length rs) (own (result_words rs)) ≡ written rs
unfolding written
sum_written [] = sum_none (own (result_words []))
sum_written (r ∷ rs) =
    let words = result_words (r ∷ rs) in
    let same : (i : ℕ) → own words (suc i) ≡ own (result_words rs) i =
    λ i. ap₂ (λ (a b : ℕ). cond (eqb a 0) b 0) (later r rs (4 * suc i) (4 * i) (omega arith)) (later r rs (4 * suc i + 1) (4 * i + 1) (omega arith)) in
    sum_first (length rs) (own words)
    ∙ ap₂ ◌+◌ (first r rs) (sum_same (length rs) (λ i. own words (suc i)) (own (result_words rs)) (λ i l. same i) ∙ sum_written rs)

-- ---- a class run's results and ends

-- What the report is lent after a class run: the result words of its starts, those past the last start cut off,
abbrev pub words_left : List State → List ℕ → List ℕ
words_left begun results = take (4 * length begun) results

-- and the ends that these say were written.
abbrev pub ends_left : List ℕ → Lent → List State
ends_left words after = take (all_ends words) after.ends

-- as many are told as begin
told_many : {ask : State → Asked} {begun : List State} {rs : List Told} {ends : List State} → InTurn ask begun rs ends → length rs ≡ length begun
told_many none = refl
told_many (without ne t) = ap suc (told_many t)
told_many (with_ends z rise each many t) = ap suc (told_many t)

module _ {fluents actions : ℕ} {rules goal : List ℕ} {begun : List State} {results results' : List ℕ} {before after : Lent} where
  module _ (small : length begun ≤ 1024) (S : ClassShown (asked fluents actions rules goal) begun results before results' after) where
    abbrev words : List ℕ
    words = result_words S.given

    many : length S.given ≡ length begun
    many = told_many S.in_turn

    words_are : words_left begun results' ≡ words
    words_are = ap (take (4 * length begun)) S.words ∙ take_at words _ (4 * length begun) (words_long S.given ∙ ap (λ (n : ℕ). 4 * n) many)

    long : starts words ≡ length S.given
    long = omega (arith, words_long S.given)

    sum_is : all_ends words ≡ length S.ends
    sum_is = ap (λ (n : ℕ). sum_below n (own words)) long ∙ sum_written S.given ∙ sym S.ends_many

    ends_are : ends_left (words_left begun results') after ≡ S.ends
    ends_are = ap₂ take (ap all_ends words_are ∙ sum_is) S.ends_list ∙ take_at S.ends _ (length S.ends) refl

    few_ends : (i : ℕ) → i < starts words → few words i ≡ true
    few_ends i l =
        let h : i < length S.given = omega (arith, long) in
        let r = get_or S.given i (told 0 0 0 0 0) in
        let first_word : get_or words (4 * i) 0 ≡ r.refusal = ap (λ (n : ℕ). get_or words n 0) (omega arith) ∙ word_at S.given i 0 h (omega arith) in
        few_at words i (λ z.
        subst (λ (n : ℕ). n ≤ 65536) (sym (word_at S.given i 1 h (omega arith)))
        (S.most r (at_member S.given i (told 0 0 0 0 0) h) (sym first_word ∙ z)))

    results_good : bad_starts words (length S.ends) ≡ false
    results_good = good_starts words (length S.ends) (omega (arith, words_long S.given)) (omega (arith, long, many)) few_ends sum_is

    left_good : (room : ℕ) → refusal fluents (words_left begun results') (ends_left (words_left begun results') after) room ≢ class_refusals.bad_results
    left_good room =
        rw (ends_are, words_are)
        (never_26 fluents words S.ends room results_good
        (good_ends fluents S.ends (λ i l. class_below S (get_or S.ends i 0) (at_member S.ends i 0 l))))

  -- The results of a class run that is not refused, words past the last start cut off, and the ends that it wrote are never refused with 26.
  pub class_report : {r : ℕ} → Ran (asked fluents actions rules goal) begun results before results' after r → r ≢ class_refusals.bad_class → (room : ℕ)
      → refusal fluents (words_left begun results') (ends_left (words_left begun results') after) room ≢ class_refusals.bad_results
  class_report (refused b e w s) ne = absurd (ne e)
  class_report (ran b e T w) ne = left_good (ltb-false _ _ (or_false _ _ b).0) (class_shown (asked fluents actions rules goal) (ran b e T w) e)
