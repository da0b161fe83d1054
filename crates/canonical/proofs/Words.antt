-- The words of both tables, as values, where the rounds of the code are over. Assumes nothing.
use Prim.Native.Nat.{ℕ, ◌+◌, ◌/◌, ◌<◌, ◌≤◌}
use native.Mathlib.Omega.{arith}
use mathlib.Core.Path.{◌≡◌, sym, ap, ◌∙◌}
use mathlib.Core.List.{List}
use lib.ListN.{length, length-map}
use Rattle.steps.specs.State.{State}
use Rattle.steps.specs.Step.{Body}
use Rattle.steps.specs.Words.{step_of}
use Rattle.steps.specs.Widths.{rule_width}
use Rattle.records.specs.Records.{Bodies, bodies_of, goal_rule, call_width, answer_width}
use Rattle.records.specs.Storage.{Stored}
use Rattle.records.proofs.Growth.{Tables}
use Rattle.records.proofs.Justification.{Proper, Follows, ends, goes}
use Rattle.tabling.proofs.Evidence.{Valid}
use Rattle.tabling.proofs.Found.{RoundsOver}
use Rattle.canonical.specs.Rows.{Rows, call_words, answer_words, filled}
use Rattle.canonical.specs.Rounds.{after_round, Settled}
use Rattle.canonical.proofs.TableRows.{rows_calls, rows_answers}
use Rattle.canonical.proofs.ReadBack.{in_rows, Unused, calls_read, answers_read}
use Rattle.canonical.proofs.Beginning.{Begins, over_few}
use Rattle.canonical.proofs.CodeRounds.{over_rows}

-- evidence past a justified record's body is 0
follows_unused : {t : Tables} {n q : ℕ} {xs : Body} {s : State} → Follows t n xs q s
    → (i : ℕ) → q + length xs ≤ i → i < 16 → t.answers.evidence n i ≡ 0
follows_unused (ends e z) i h l = z i (omega arith) l
follows_unused (goes f w) i h l = follows_unused w i (omega arith) l

-- The words of the lent tables, n calls and m answers, after the r rounds that added something.
pub record Worded (rules goal : List ℕ) (start : State) (calls answers : List ℕ) (n m r : ℕ) : Type 0 where
  pub settled : Settled rules goal start r
  pub calls_are : calls ≡ filled (length calls) (call_words (after_round rules goal start r).calls)
  pub answers_are : answers ≡ filled (length answers) (answer_words (after_round rules goal start r).answers)
  pub calls_many : n ≡ length (after_round rules goal start r).calls
  pub answers_many : m ≡ length (after_round rules goal start r).answers
  -- "It is at most calls plus answers less 1."
  pub few : r < n + m

module _ (rules goal : List ℕ) (calls : List ℕ) (n : ℕ) (answers : List ℕ) (m : ℕ) where
  abbrev bodies : Bodies
  bodies = bodies_of rules goal

  abbrev u : Tables
  u = in_rows calls n answers m

  module _ {Root : ℕ → State → Type 0} (proper : Proper bodies) (valid : Valid bodies Root u) where
    unused : Unused bodies calls n answers m
    unused x l = (
      short,
      λ q h g. follows_unused (valid.justified x l).followed q (omega (arith, length-map (bodies.words (u.answers.rule x) (u.calls.action (u.answers.call x))) step_of)) g,
    )
      where
        short : length (bodies.words (u.answers.rule x) (u.calls.action (u.answers.call x))) ≤ 16
        short = proper.short (u.answers.rule x) (u.calls.action (u.answers.call x)) (valid.justified x l).fits

    -- Neither order nor justification is left to the program.
    pub over_words : (start : State) → length rules / rule_width ≤ goal_rule → Stored call_width calls n → Stored answer_width answers m
        → {b₀ : Tables} → Begins start b₀ → {r : ℕ} → RoundsOver bodies b₀ r u → Worded rules goal start calls answers n m r
    over_words start few s t B {r} O =
        let (settled, e) = over_rows rules goal few start B O in
        record {
          settled = settled;
          calls_are = calls_read bodies calls n answers m s ∙ ap (λ (w : Rows). filled (length calls) (call_words w.calls)) e;
          answers_are = answers_read bodies calls n answers m t unused ∙ ap (λ (w : Rows). filled (length answers) (answer_words w.answers)) e;
          calls_many = sym (rows_calls bodies u) ∙ ap (λ (w : Rows). length w.calls) e;
          answers_many = sym (rows_answers bodies u) ∙ ap (λ (w : Rows). length w.answers) e;
          few = over_few B O;
        }
