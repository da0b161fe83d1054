-- Laws of a deduction's states: neighbours are one update apart, their number is that of the updates, and deductions in parts. Assumes nothing.
use native.Mathlib.Omega.{arith}
use mathlib.Core.Path.{◌≡◌, refl, sym, ap, subst, ◌∙◌}
use mathlib.Core.List.{List, ◌++◌, append_assoc}
use lib.ListN.{length}
use Rattle.steps.specs.State.{State}
use Rattle.steps.specs.Step.{Body, Book}
use Rattle.steps.specs.Deduction.{Sequent, ◌⊢◌, queries, inserts, deletes, calls, denies, Deduction, done, move}
use Rattle.unfolding.specs.States.{move_states, states, move_updates, updates, gains, loses, Chain, ends, next}

module _ {book : Book} where
  -- each two neighbours are one update apart
  pub states_chain : {D D' : State} {xs ys : Body} (d : Deduction book (D ⊢ xs) (D' ⊢ ys)) → Chain D (states d) D'
  unfolding states move_states
  states_chain done = ends
  states_chain (move (queries h) d) = states_chain d
  states_chain (move (inserts {p = p}) d) = next (gains p) (states_chain d)
  states_chain (move (deletes {p = p}) d) = next (loses p) (states_chain d)
  states_chain (move (calls r m e) d) = states_chain d
  states_chain (move (denies h) d) = states_chain d

  -- there are as many as updates
  pub states_length : {S T : Sequent} (d : Deduction book S T) → length (states d) ≡ updates d
  unfolding states move_states updates move_updates
  states_length done = refl
  states_length (move (queries h) d) = omega (arith, states_length d)
  states_length (move inserts d) = omega (arith, states_length d)
  states_length (move deletes d) = omega (arith, states_length d)
  states_length (move (calls r m e) d) = omega (arith, states_length d)
  states_length (move (denies h) d) = omega (arith, states_length d)

  -- ---- deductions in parts

  -- one after another
  pub joined : {S T U : Sequent} (p : Deduction book S T) (q : Deduction book T U) → (d : Deduction book S U) × (states d ≡ states p ++ states q)
  unfolding states
  joined done q = (q, refl)
  joined (move m p) q =
      let (d, e) = joined p q in
      (move m d, ap (λ (l : List State). move_states m ++ l) e ∙ sym (append_assoc (move_states m) (states p) (states q)))

  -- before further steps
  pub before : {D D' : State} {xs ys : Body} (zs : Body) (d : Deduction book (D ⊢ xs) (D' ⊢ ys)) → (d' : Deduction book (D ⊢ xs ++ zs) (D' ⊢ ys ++ zs)) × (states d' ≡ states d)
  unfolding states move_states
  before zs done = (done, refl)
  before zs (move (queries h) d) = let (d', e) = before zs d in (move (queries h) d', rw e refl)
  before zs (move inserts d) = let (d', e) = before zs d in (move inserts d', rw e refl)
  before zs (move deletes d) = let (d', e) = before zs d in (move deletes d', rw e refl)
  before zs (move (denies h) d) = let (d', e) = before zs d in (move (denies h) d', rw e refl)
  before {D} {D'} {ys = ys} zs (move (calls {rest = rest} r m e) d) =
      let (d', f) = subst (λ (us : Body). (d' : Deduction book (D ⊢ us) (D' ⊢ ys ++ zs)) × (states d' ≡ states d)) (append_assoc r.body rest zs) (before zs d) in
      (move (calls r m e) d', f)
