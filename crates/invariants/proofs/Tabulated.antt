-- The tables as they are given, once the run is over: what holds of them while it lasts holds of them then. Assumes nothing.
use Prim.Native.Nat.{ℕ, ◌<◌, ◌≤◌}
use native.Mathlib.Omega.{arith}
use mathlib.Core.Path.{◌≡◌, refl, sym, ◌∙◌}
use mathlib.Core.Bool.{Bool, true, false}
use mathlib.Core.List.{List}
use lib.ListN.{length}
use Rattle.steps.specs.State.{State}
use Rattle.steps.proofs.EachBelow.{true_not_false}
use Rattle.records.specs.Records.{bodies_of, room, call_table, answer_table, call_width, answer_width}
use Rattle.records.specs.Storage.{Stored}
use Rattle.records.proofs.Growth.{Tables, tables}
use Rattle.records.proofs.Justification.{Proper}
use Rattle.desk.specs.Desk.{CallsClosed, AnswersClosed}
use Rattle.tabling.proofs.Evidence.{Among}
use Rattle.tabling.proofs.Adding.{Outgrown}
use Rattle.tabling.proofs.Closed.{Whole}
use Rattle.tabling.proofs.Found.{RoundsOver}
use Rattle.tabling.proofs.Rewritten.{Rewritten, whole_same, rounds_over_same}
use Rattle.invariants.proofs.Going.{in_words}
use Rattle.invariants.proofs.Filling.{Filled}

-- Both tables in their words, as they are given.
abbrev pub in_tables : List ℕ → ℕ → List ℕ → ℕ → Tables
in_tables calls n answers m = tables (call_table calls n) (answer_table answers m)

pub record KeptTables (calls : List ℕ) (n : ℕ) (answers : List ℕ) (m : ℕ) : Type 0 where
  pub calls_stored : Stored call_width calls n
  pub answers_stored : Stored answer_width answers m

-- Every record from `first` on is closed under all answers, after so many rounds from b₀ on that added something, or there are more calls or answers
-- than places.
pub record Tabulated (rules goal : List ℕ) (roots : List (ℕ × State)) (first : ℕ) (b₀ : Tables) (calls answers calls' answers' : List ℕ) (full : Bool) (n m rounds : ℕ) : Type 0 where
  pub calls_long : length calls' ≡ length calls
  pub answers_long : length answers' ≡ length answers
  pub kept : full ≡ false → KeptTables calls' n answers' m
  pub closed : full ≡ false → Whole (bodies_of rules goal) (Among roots) first (in_tables calls' n answers' m)
  pub rounded : full ≡ false → first ≡ 0 → RoundsOver (bodies_of rules goal) b₀ rounds (in_tables calls' n answers' m)
  pub outgrown : full ≡ true → Outgrown (bodies_of rules goal) (Among roots) (room call_width (length calls)) (room answer_width (length answers))

-- The same records.
given : {calls answers calls' answers' : List ℕ} {n m : ℕ} → CallsClosed calls n calls' → AnswersClosed answers m answers' → Rewritten (in_words calls n answers m) (in_tables calls' n answers' m)
given c a = record {
  calls_count = refl;
  answers_count = refl;
  calls = λ i l. record { action = c.actions i l; state = c.states i l; round = c.rounds i l };
  answers = λ x l. (let z = a.closed x l in record { call = z.call; final = z.final; rule = z.rule; evidence = z.evidence; round = z.round });
}

-- Where the rounds are over and the tables are given.
pub tabulated : {rules goal : List ℕ} {roots : List (ℕ × State)} {first : ℕ} {b₀ : Tables} {calls list answers calls₁ list₁ answers₁ calls' answers' : List ℕ} {full : Bool} {n m rounds : ℕ}
    → Proper (bodies_of rules goal) → full ≡ false → Filled (bodies_of rules goal) (room answer_width (length answers)) roots first b₀ calls list answers calls₁ list₁ answers₁ full n m rounds
    → CallsClosed calls₁ n calls' → AnswersClosed answers₁ m answers' → Tabulated rules goal roots first b₀ calls answers calls' answers' full n m rounds
tabulated {calls₁ = calls₁} {answers₁ = answers₁} {n = n} {m} proper over F c a =
    let R = given {calls = calls₁} {answers = answers₁} {n = n} {m = m} c a in
    let W = F.closed over in
    let S = F.kept.calls_open.stored in
    record {
      calls_long = c.long ∙ F.calls_long;
      answers_long = a.long ∙ F.answers_long;
      kept = λ e. record { calls_stored = record { fits = rw c.long S.fits; most = S.most; past = λ p l. c.past p l ∙ S.past p l }; answers_stored = a.stored };
      closed = λ e. whole_same R proper W;
      rounded = λ e z. rounds_over_same R proper W.valid (F.rounded over z);
      outgrown = λ e. absurd (true_not_false (sym e ∙ over));
    }

-- Where a table is full.
pub tabulated_full : {rules goal : List ℕ} {roots : List (ℕ × State)} {first : ℕ} {b₀ : Tables} {calls list answers calls₁ list₁ answers₁ : List ℕ} {full : Bool} {n m rounds : ℕ}
    → full ≡ true → Filled (bodies_of rules goal) (room answer_width (length answers)) roots first b₀ calls list answers calls₁ list₁ answers₁ full n m rounds → Tabulated rules goal roots first b₀ calls answers calls₁ answers₁ full n m rounds
tabulated_full t F = record {
  calls_long = F.calls_long;
  answers_long = F.answers_long;
  kept = λ e. absurd (true_not_false (sym t ∙ e));
  closed = λ e. absurd (true_not_false (sym t ∙ e));
  rounded = λ e. absurd (true_not_false (sym t ∙ e));
  outgrown = F.outgrown;
}
