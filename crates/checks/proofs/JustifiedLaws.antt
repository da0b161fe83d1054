-- The test `justified` by its parts, and what the records below are good for once they are justified. Assumes nothing.
use Prim.Native.Nat.{ℕ, ◌+◌, ◌*◌, ◌<◌, ◌≤◌}
use native.Mathlib.Omega.{arith}
use mathlib.Core.Path.{◌≡◌, refl}
use mathlib.Core.Bool.{Bool, true, false}
use mathlib.Core.List.{List}
use lib.ListN.{length, get_or}
use borrow.Author.Count.{below_more}
use borrow.Author.Tests.{lt-ltb, le-ltb}
use Rattle.steps.specs.Words.{body_of}
use Rattle.steps.specs.Acceptance.{each_below}
use Rattle.steps.proofs.EachBelow.{each_at}
use Rattle.records.specs.Records.{Calls, Answers, Bodies, follows, justified}
use Rattle.records.specs.Storage.{calls_in, answers_in, call_width_of, answer_width_of}
use Rattle.records.proofs.Growth.{tables}
use Rattle.records.proofs.Justification.{justified_out}
use Rattle.checks.specs.Readable.{Readable}
use Rattle.checks.proofs.WidthLaws.{call_within, answers_more}

module _ (calls : Calls) (answers : Answers) (n : ℕ) (bodies : Bodies) where
  pub no_call : calls.count ≤ answers.call n → false ≡ justified calls answers n bodies
  unfolding justified
  no_call l = rw (le-ltb _ _ l) refl

  module _ (exists : answers.call n < calls.count) where
    pub no_rule : bodies.fits (answers.rule n) (calls.action (answers.call n)) ≡ false → false ≡ justified calls answers n bodies
    unfolding justified
    no_rule e = rw (lt-ltb _ _ exists, e) refl

    pub by_walk : {b : Bool} → bodies.fits (answers.rule n) (calls.action (answers.call n)) ≡ true
        → b ≡ follows calls answers n (body_of (bodies.words (answers.rule n) (calls.action (answers.call n)))) 0 (calls.state (answers.call n)) → b ≡ justified calls answers n bodies
    unfolding justified
    by_walk e w = rw (lt-ltb _ _ exists, e) w

-- bodies that go with the same actions, and have the same words where they do, justify the same records
pub justified_same : (calls : Calls) (answers : Answers) (n : ℕ) (bodies bodies' : Bodies) → ((i a : ℕ) → bodies.fits i a ≡ bodies'.fits i a)
    → ((i a : ℕ) → bodies.fits i a ≡ true → bodies'.words i a ≡ bodies.words i a) → justified calls answers n bodies ≡ justified calls answers n bodies'
unfolding justified
justified_same calls answers n bodies bodies' f w = by (bodies.fits (answers.rule n) (calls.action (answers.call n))) refl
  where
    by : (b : Bool) → bodies.fits (answers.rule n) (calls.action (answers.call n)) ≡ b → justified calls answers n bodies ≡ justified calls answers n bodies'
    by true e = rw (← f (answers.rule n) (calls.action (answers.call n)), e, w (answers.rule n) (calls.action (answers.call n)) e) refl
    by false e = rw (← f (answers.rule n) (calls.action (answers.call n)), e) refl

-- justified records name call records that stand
pub readable : (plain : Bool) (calls : List ℕ) (k : ℕ) (answers : List ℕ) (m : ℕ) (bodies : Bodies) (n : ℕ) → call_width_of plain * k ≤ length calls → n ≤ 65536 → answer_width_of plain * n ≤ length answers
    → each_below n (λ x. justified (calls_in (call_width_of plain) calls k) (answers_in (answer_width_of plain) answers m) x bodies) ≡ true → Readable plain calls answers n
readable plain calls k answers m bodies n fits most long all =
    let rows = calls_in (call_width_of plain) calls k in
    let ends = answers_in (answer_width_of plain) answers m in
    record {
      most = most;
      long = long;
      called = λ x l. call_within plain _ fits (justified_out {bodies = bodies} {t = tables rows ends} {n = x} (each_at (λ x. justified rows ends x bodies) n all x l)).exists;
    }

-- one record more, whose call record stands
pub readable_more : (plain : Bool) {calls answers : List ℕ} {n k : ℕ} → Readable plain calls answers n → call_width_of plain * k ≤ length calls → n < 65536 → answer_width_of plain * n + answer_width_of plain ≤ length answers
    → get_or answers (answer_width_of plain * n) 0 < k → Readable plain calls answers (n + 1)
readable_more plain {n = n} r fits most long exists = record { most = omega arith; long = answers_more plain n long; called = below_more _ _ r.called (call_within plain _ fits exists) }
