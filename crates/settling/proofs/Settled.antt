-- Closed tables of the goals that a ledger keeps, given as records of 2 and 19 words, are balanced. Assumes nothing.
use Prim.Native.Nat.{ℕ, ◌*◌, ◌≤◌}
use mathlib.Core.Path.{◌≡◌, refl}
use mathlib.Core.List.{List}
use lib.ListN.{get_or}
use Rattle.steps.specs.State.{State}
use Rattle.steps.proofs.AcceptanceLaws.{AcceptedWords}
use Rattle.records.specs.Records.{Bodies}
use Rattle.records.proofs.Growth.{tables}
use Rattle.records.proofs.Justification.{Proper}
use Rattle.tabling.proofs.Closed.{Whole}
use Rattle.tabling.proofs.Rewritten.{Rewritten, whole_same}
use Rattle.desk.specs.Desk.{open_calls, packed_answers}
use Rattle.stowing.specs.Stowing.{call_words, answer_words, plain_calls, plain_answers, CallsGiven, AnswersGiven}
use Rattle.sharing.specs.Parties.{Party, Ledger, account_of}
use Rattle.sharing.specs.Charged.{Balanced}
use Rattle.sharing.proofs.TwoGoals.{KeptRoot, whole_balanced}
use Rattle.settling.proofs.Numbered.{numbered, whole_numbered}
use Rattle.settling.proofs.KeptBodies.{bodies_held, whole_kept}

-- Given records are those of the run, with their numbers for rounds.
given : (rows : List ℕ) {answers calls calls' answers' : List ℕ} (n m : ℕ) → CallsGiven n rows calls calls' → AnswersGiven m answers answers'
    → Rewritten (numbered (tables (open_calls rows n) (packed_answers answers m))) (tables (plain_calls calls' n) (plain_answers answers' m))
given rows n m c a = record {
  calls_count = refl;
  answers_count = refl;
  calls = λ i l. record { action = c.actions i l; state = c.states i l; round = refl };
  answers = λ x l. (let z = a.alike x l in record { call = z.call; final = z.final; rule = z.rule; evidence = z.evidence; round = refl });
}

-- Closed tables stay closed where they are given.
pub given_whole : (rows : List ℕ) {answers calls calls' answers' : List ℕ} {bodies : Bodies} {Root : ℕ → State → Type 0} (n m : ℕ) → Proper bodies
    → Whole bodies Root 0 (tables (open_calls rows n) (packed_answers answers m)) → CallsGiven n rows calls calls' → AnswersGiven m answers answers'
    → Whole bodies Root 0 (tables (plain_calls calls' n) (plain_answers answers' m))
given_whole rows n m proper W c a = whole_same (given rows n m c a) proper (whole_numbered _ W)

module _ {fluents actions : ℕ} (rules : List ℕ) (l : Ledger) (acc : (p : Party) → AcceptedWords fluents actions rules (account_of l p).goal)
    (Root : ℕ → State → Type 0) (root_in : (a : ℕ) (D : State) → Root a D → KeptRoot rules l acc a D) (in_root : (a : ℕ) (D : State) → KeptRoot rules l acc a D → Root a D) where
  -- Tables of their rows, as they are given, are balanced.
  pub settled : {calls answers : List ℕ} → Whole (bodies_held rules l) Root 0 (tables (plain_calls calls l.calls) (plain_answers answers l.answers))
      → ((p : ℕ) → call_words * l.calls ≤ p → get_or calls p 0 ≡ 0) → ((p : ℕ) → answer_words * l.answers ≤ p → get_or answers p 0 ≡ 0) → Balanced rules l calls answers
  settled {calls} {answers} W c a = whole_balanced rules l acc Root root_in in_root calls answers (whole_kept rules l W) c a
