-- The check of plain records, with the goals of the parties that hold rows, is 42 of shared tables. Assumes nothing.
use Prim.Native.Nat.{ℕ}
use mathlib.Core.Path.{◌≡◌, refl}
use mathlib.Core.Bool.{true}
use mathlib.Core.List.{List}
use Rattle.records.specs.Records.{Bodies, justified, goal_rule}
use Rattle.records.specs.Bodies.{is_goal, bodies_with}
use Rattle.checks.specs.Checks.{all_justified, good_row, bad_plain}
use Rattle.checks.proofs.ClearLaws.{each_same}
use Rattle.checks.proofs.JustifiedLaws.{justified_same}
use Rattle.sharing.specs.Parties.{Ledger, ledger_of}
use Rattle.sharing.specs.Charged.{kept_calls, kept_answers, goal_kept, bodies_kept}
use Rattle.sharing.specs.SharedPath.{good_call_kept, bad_rows}

module _ (fluents actions : ℕ) (rules words calls answers : List ℕ) where
  abbrev l : Ledger
  l = ledger_of words

  abbrev held : Bodies
  held = bodies_with rules l.first.holds l.second.holds l.first.goal l.second.goal

  -- where these bodies go with the same actions as those kept, and have the same words where they do
  module _ (fits_same : (i a : ℕ) → held.fits i a ≡ (bodies_kept rules l).fits i a) (words_same : (i a : ℕ) → held.fits i a ≡ true → (bodies_kept rules l).words i a ≡ held.words i a) where
    row_same : (i : ℕ) → good_row l.first.holds l.second.holds fluents actions (kept_calls l calls) i ≡ good_call_kept fluents actions l (kept_calls l calls) i
    unfolding good_row good_call_kept
    row_same i =
        let same : is_goal l.first.holds l.second.holds ((kept_calls l calls).action i) ≡ goal_kept l ((kept_calls l calls).action i) = fits_same goal_rule ((kept_calls l calls).action i) in
        rw (← same) refl

    pub rows_shared : bad_plain l.first.holds l.second.holds fluents actions held (kept_calls l calls) (kept_answers l answers) ≡ bad_rows fluents actions rules words calls answers
    unfolding bad_plain bad_rows all_justified
    rows_shared =
        rw (
          each_same (good_row l.first.holds l.second.holds fluents actions (kept_calls l calls)) (good_call_kept fluents actions l (kept_calls l calls)) l.calls row_same,
          each_same (λ n. justified (kept_calls l calls) (kept_answers l answers) n held) (λ n. justified (kept_calls l calls) (kept_answers l answers) n (bodies_kept rules l)) l.answers
              (λ n. justified_same (kept_calls l calls) (kept_answers l answers) n held (bodies_kept rules l) fits_same words_same),
        ) refl
