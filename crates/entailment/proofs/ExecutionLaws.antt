-- Laws of a deduction's path: where it begins and ends, and deductions in parts. Assumes nothing.
use mathlib.Core.Path.{◌≡◌, refl, ap, subst}
use mathlib.Core.List.{◌++◌, append_assoc}
use Rattle.steps.specs.State.{State}
use Rattle.steps.specs.Step.{Body, Book}
use Rattle.steps.specs.Deduction.{◌⊢◌, queries, inserts, deletes, calls, denies, Deduction, done, move}
use Rattle.entailment.specs.Path.{◌▷◌, first, last, ◌∘◌}
use Rattle.entailment.specs.Execution.{execution}

module _ {book : Book} where
  pub execution_first : {D D' : State} {xs ys : Body} (d : Deduction book (D ⊢ xs) (D' ⊢ ys)) → first (execution d) ≡ D
  unfolding first execution
  execution_first done = refl
  execution_first (move (queries h) d) = execution_first d
  execution_first (move inserts d) = refl
  execution_first (move deletes d) = refl
  execution_first (move (calls r m e) d) = execution_first d
  execution_first (move (denies h) d) = execution_first d

  pub execution_last : {D D' : State} {xs ys : Body} (d : Deduction book (D ⊢ xs) (D' ⊢ ys)) → last (execution d) ≡ D'
  unfolding last execution
  execution_last done = refl
  execution_last (move (queries h) d) = execution_last d
  execution_last (move inserts d) = execution_last d
  execution_last (move deletes d) = execution_last d
  execution_last (move (calls r m e) d) = execution_last d
  execution_last (move (denies h) d) = execution_last d

  -- one after another
  pub joined : {D E F : State} {xs ys zs : Body} (p : Deduction book (D ⊢ xs) (E ⊢ ys)) (q : Deduction book (E ⊢ ys) (F ⊢ zs))
      → (d : Deduction book (D ⊢ xs) (F ⊢ zs)) × (execution d ≡ execution p ∘ execution q)
  unfolding execution ◌∘◌
  joined done q = (q, refl)
  joined (move (queries h) p) q = let (d, e) = joined p q in (move (queries h) d, e)
  joined (move (inserts {D}) p) q = let (d, e) = joined p q in (move inserts d, ap (λ π. D ▷ π) e)
  joined (move (deletes {D}) p) q = let (d, e) = joined p q in (move deletes d, ap (λ π. D ▷ π) e)
  joined (move (calls r m e) p) q = let (d, f) = joined p q in (move (calls r m e) d, f)
  joined (move (denies h) p) q = let (d, e) = joined p q in (move (denies h) d, e)

  -- before further steps
  pub before : {D D' : State} {xs ys : Body} (zs : Body) (d : Deduction book (D ⊢ xs) (D' ⊢ ys)) → (d' : Deduction book (D ⊢ xs ++ zs) (D' ⊢ ys ++ zs)) × (execution d' ≡ execution d)
  unfolding execution
  before zs done = (done, refl)
  before zs (move (queries h) d) = let (d', e) = before zs d in (move (queries h) d', e)
  before zs (move (inserts {D}) d) = let (d', e) = before zs d in (move inserts d', ap (λ π. D ▷ π) e)
  before zs (move (deletes {D}) d) = let (d', e) = before zs d in (move deletes d', ap (λ π. D ▷ π) e)
  before {D} {D'} {ys = ys} zs (move (calls {rest = rest} r m e) d) =
      let (d', f) = subst (λ (us : Body). (d' : Deduction book (D ⊢ us) (D' ⊢ ys ++ zs)) × (execution d' ≡ execution d)) (append_assoc r.body rest zs) (before zs d) in
      (move (calls r m e) d', f)
  before zs (move (denies h) d) = let (d', e) = before zs d in (move (denies h) d', e)
