-- The path that the product shows is one on which the call is entailed. Assumes nothing.
use Prim.Native.Nat.{ℕ}
use mathlib.Core.Path.{◌≡◌, refl, sym, ap, ◌∙◌}
use mathlib.Core.Bool.{Bool, true, false, cond}
use mathlib.Core.List.{List, ◌∷◌, ◌++◌}
use lib.ListN.{length, drop}
use lib.Dec.{eqb}
use borrow.Author.Tests.{eqb-true, eqb-false, eq-eqb}
use Rattle.steps.specs.State.{State}
use Rattle.steps.specs.Step.{Body, Book}
use Rattle.steps.specs.Deduction.{◌⊢◌, queries, inserts, deletes, calls, denies, Deduction, done, move}
use Rattle.unfolding.specs.States.{move_states, states}
use Rattle.unfolding.proofs.Soundness.{Executed}
use Rattle.path.specs.Answered.{Handed, call_records, answer_records, fault, too_short, path_refusal, state_count, list_after, Answered}
use Rattle.path.proofs.OutcomeLaws.{path_executed}
use Rattle.entailment.specs.Execution.{execution}
use Rattle.entailment.proofs.ExecutionLaws.{execution_first, execution_last}
use Rattle.entailment.proofs.Soundness.{sound}
use Rattle.witness.specs.Witness.{listed, Witness}

-- The states that are shown of a deduction are those of its execution path.
pub states_listed : {book : Book} {D D' : State} {xs ys : Body} (d : Deduction book (D ⊢ xs) (D' ⊢ ys)) → D ∷ states d ≡ listed (execution d)
unfolding states move_states listed execution
states_listed done = refl
states_listed (move (queries h) d) = states_listed d
states_listed {D = D} (move inserts d) = ap (λ (l : List State). D ∷ l) (states_listed d)
states_listed {D = D} (move deletes d) = ap (λ (l : List State). D ∷ l) (states_listed d)
states_listed (move (calls r m e) d) = states_listed d
states_listed (move (denies h) d) = states_listed d

pub path_entailed : (l : Handed) (x : ℕ) → fault l x ≡ 0 → Witness l x
path_entailed l x e = by (path_executed l x e)
  where
    by : Executed l.rules l.goal (call_records l) (answer_records l) x → Witness l x
    by p =
        let d = p.deduction in
        record { path = execution d; begins = execution_first d; ends = execution_last d; entailed = sound d; shown = p.listed ∙ states_listed d }

-- Where `path` refuses nothing, the places of the list that its result counts hold the states of such a path, followed by what the list held.
pub answered_entailed : (l : Handed) (x : ℕ) (list : List ℕ) {states : ℕ} {list' : List ℕ} → Answered l x list 0 states list'
    → (w : Witness l x) × (states ≡ length (listed w.path)) × (list' ≡ listed w.path ++ drop (length (listed w.path)) list)
unfolding path_refusal state_count list_after
answered_entailed l x list {states} {list'} a = by (eqb (fault l x) 0) refl a.the_refusal
  where
    none : eqb (path_refusal l x list) 0 ≡ true
    none = eq-eqb (path_refusal l x list) 0 (sym a.the_refusal)

    by : (b : Bool) → eqb (fault l x) 0 ≡ b → 0 ≡ cond b (cond (too_short l x list) 43 0) (fault l x)
        → (w : Witness l x) × (states ≡ length (listed w.path)) × (list' ≡ listed w.path ++ drop (length (listed w.path)) list)
    by true z r =
        let w = path_entailed l x (eqb-true (fault l x) 0 z) in
        (w, a.the_count ∙ rw (sym w.shown, none) refl, a.the_list ∙ rw (sym w.shown, none) refl)
    by false z r = absurd (eqb-false (fault l x) 0 z (sym r))
