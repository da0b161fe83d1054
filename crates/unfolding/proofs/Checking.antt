-- What the checks give the path: records that can be walked, and a path that does not hang on the counts. Assumes nothing.
use Prim.Native.Nat.{ℕ, ◌+◌, ◌*◌, ◌<◌, ◌≤◌}
use native.Mathlib.Omega.{arith}
use mathlib.Core.Path.{◌≡◌, refl, sym, ◌∙◌}
use mathlib.Core.Bool.{true, false}
use mathlib.Core.List.{◌∷◌}
use lib.ListN.{length}
use lib.Dec.{ltb}
use borrow.Author.Tests.{not-false}
use Rattle.steps.specs.Words.{body_of}
use Rattle.steps.proofs.EachBelow.{both, each_at}
use Rattle.records.specs.Records.{Calls, Answers, Bodies, follows, justified}
use Rattle.records.specs.Storage.{calls_in, answers_in, call_width_of, answer_width_of}
use Rattle.records.specs.Bodies.{Short}
use Rattle.checks.specs.Checks.{good_calls, all_justified, bad_records}
use Rattle.checks.proofs.JustifiedLaws.{readable}
use Rattle.unfolding.specs.Path.{states_added, path_of}
use Rattle.unfolding.proofs.Below.{follows_uncounted, path_uncounted}
use Rattle.unfolding.proofs.Walk.{Lent, calls_of, answers_of, bodies_lent, words_at, start_at, added_by, Checked, checked_less}

module _ (calls : Calls) (answers : Answers) (n : ℕ) (bodies : Bodies) (j : justified calls answers n bodies ≡ true) where
  pub justified_parts : (ltb (answers.call n) calls.count ≡ true) × (bodies.fits (answers.rule n) (calls.action (answers.call n)) ≡ true)
      × (follows calls answers n (body_of (bodies.words (answers.rule n) (calls.action (answers.call n)))) 0 (calls.state (answers.call n)) ≡ true)
  unfolding justified
  justified_parts =
      let (e, r) = both (ltb (answers.call n) calls.count) _ j in
      let (f, w) = both (bodies.fits (answers.rule n) (calls.action (answers.call n))) _ r in
      (e, f, w)

path_first : (calls : Calls) (answers : Answers) (bodies : Bodies) (x : ℕ) → path_of calls answers bodies x ≡ calls.state (answers.call x) ∷ states_added calls answers bodies x
unfolding path_of
path_first calls answers bodies x = refl

-- every answer that no check refuses is justified
pub records_justified : (fluents actions : ℕ) (bodies : Bodies) (calls : Calls) (answers : Answers) → bad_records fluents actions bodies calls answers ≡ false → all_justified calls answers bodies ≡ true
unfolding bad_records
records_justified fluents actions bodies calls answers e = (both (good_calls fluents actions calls) _ (not-false _ e)).1

-- counted records that stand and are justified by bodies that what is lent has too can be walked, and a path by such bodies is the one that it has
module _ (it : Lent) (k m : ℕ) (bodies : Bodies) (same : (i a : ℕ) → bodies.words i a ≡ (bodies_lent it).words i a) where
  abbrev rows : Calls
  rows = calls_in (call_width_of it.plain) it.calls k

  abbrev ends : Answers
  ends = answers_in (answer_width_of it.plain) it.answers m

  pub checked_by : (x : ℕ) → ((i a : ℕ) → bodies.fits i a ≡ true → (b : ℕ) × ((bodies_lent it).fits i b ≡ true)) → Short it.rules it.goal → Short it.rules it.second
      → call_width_of it.plain * k ≤ length it.calls → m ≤ 65536 → answer_width_of it.plain * m ≤ length it.answers → all_justified rows ends bodies ≡ true → x < m → Checked it (x + 1)
  unfolding all_justified
  checked_by x more short short_second calls_fit most answers_fit all l = checked_less (omega arith) (record {
    short = short;
    short_second = short_second;
    readable = readable it.plain it.calls k it.answers m bodies m calls_fit most answers_fit all;
    fits = λ n h. more _ _ (parts n h).1;
    followed = λ n h. sym (follows_uncounted (call_width_of it.plain) (answer_width_of it.plain) it.calls it.answers k m 0 0 n (body_of (words_at it n)) 0 (start_at it n))
        ∙ rw (same _ _) at (parts n h).2;
  })
    where
      parts : (n : ℕ) → n < m → (ltb (ends.call n) rows.count ≡ true) × (bodies.fits (ends.rule n) (rows.action (ends.call n)) ≡ true)
          × (follows rows ends n (body_of (bodies.words (ends.rule n) (rows.action (ends.call n)))) 0 (rows.state (ends.call n)) ≡ true)
      parts n h = justified_parts rows ends n bodies (each_at (λ n. justified rows ends n bodies) m all n h)

  -- however many records are counted
  pub path_added : (x : ℕ) → path_of rows ends bodies x ≡ start_at it x ∷ added_by it x
  path_added x =
      path_uncounted (call_width_of it.plain) (answer_width_of it.plain) it.calls it.answers k m 0 0 bodies (bodies_lent it) same x
      ∙ path_first (calls_of it) (answers_of it) (bodies_lent it) x
