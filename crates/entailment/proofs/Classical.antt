-- Truth on a path is a type here. In structures of classical truth, where what is not false is true, nothing else is entailed. Assumes nothing.
use mathlib.Core.Path.{refl}
use mathlib.Core.List.{[], ◌∷◌}
use Rattle.steps.specs.State.{added, removed}
use Rattle.steps.specs.Step.{Step, Body, Book}
use Rattle.steps.specs.Deduction.{queries, inserts, deletes, denies, done, move}
use Rattle.entailment.specs.Path.{Path}
use Rattle.entailment.specs.Entailment.{Structure, Satisfies, empty, serial, Model}
use Rattle.entailment.specs.Execution.{execution, Along}
use Rattle.entailment.proofs.Completeness.{then, along_call}

-- What is not false is true.
abbrev pub Classical : Structure → Type 0
Classical M = (π : Path) (s : Step) → ¬ ¬ M.true_on π s → M.true_on π s

module _ (book : Book) where
  -- A step is true on a path where it is not false that a deduction carries it out.
  unfoldable twice : Structure
  unfolding execution
  twice =
      record {
        true_on = λ π s. ¬ ¬ Along book π (s ∷ []);
        data_oracle = λ D p h k. k (D, D, move (queries h) done, refl);
        denial_oracle = λ D p h k. k (D, D, move (denies h) done, refl);
        insert_oracle = λ D p k. k (D, added D p, move inserts done, refl);
        delete_oracle = λ D p k. k (D, removed D p, move deletes done, refl);
      }

  twice_classical : Classical twice
  unfolding twice
  twice_classical π s n k = n (λ f. f k)

  twice_along : {π : Path} {xs : Body} → Satisfies twice π xs → ¬ ¬ Along book π xs
  unfolding execution twice
  twice_along (empty {D}) k = k (D, D, done, refl)
  twice_along (serial t h m e) k = t (λ a. twice_along h (λ b. k (then book a b m e)))

  twice_model : Model book twice
  unfolding twice
  twice_model r m π h k = twice_along h (λ a. k (along_call book r m a))

-- What is true in every classical model, it is not false that a deduction carries out: where no deduction does, it is not entailed classically either.
pub classical_complete : {book : Book} {π : Path} {body : Body} → ((M : Structure) → Classical M → Model book M → Satisfies M π body) → ¬ ¬ Along book π body
classical_complete {book} h = twice_along book (h (twice book) (twice_classical book) (twice_model book))
