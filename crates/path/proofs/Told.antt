-- What is told of a path, where a fault is met or none: the refusal, the count of states, and the list. Assumes nothing.
use Prim.Native.Nat.{ℕ}
use mathlib.Core.Path.{◌≡◌, refl, sym, ◌∙◌}
use mathlib.Core.Bool.{Bool, true, false, cond}
use mathlib.Core.List.{List, ◌++◌}
use mathlib.Core.Logic.{◌≢◌}
use lib.ListN.{length, drop}
use lib.Dec.{eqb, ltb}
use borrow.Author.Tests.{eq-eqb, ne_eqb}
use Rattle.std.specs.Prelude.{Option, None, Some}
use Rattle.refusals.specs.Path.{path_refusals}
use Rattle.unfolding.proofs.Writing.{PathListed}

-- The fault, or 43 where there are fewer places than states.
abbrev pub refusal_of : ℕ → List ℕ → List ℕ → ℕ
refusal_of fault path list = cond (eqb fault 0) (cond (ltb (length list) (length path)) path_refusals.states_short 0) fault

-- The answer and the list that go with a fault and a path.
pub record Told (fault : ℕ) (path list : List ℕ) (refusal states : ℕ) (list' : List ℕ) : Type 0 where
  pub the_refusal : refusal ≡ refusal_of fault path list
  pub the_count : states ≡ cond (eqb (refusal_of fault path list) 0) (length path) 0
  pub the_list : list' ≡ cond (eqb (refusal_of fault path list) 0) (path ++ drop (length path) list) list

-- a fault
pub told_fault : (f fault : ℕ) (path list : List ℕ) → f ≡ fault → f ≢ 0 → Told fault path list f 0 list
told_fault f fault path list e n =
    let z : eqb fault 0 ≡ false = ne_eqb fault 0 (λ h. n (e ∙ h)) in
    record { the_refusal = rw z e; the_count = rw (z, z) refl; the_list = rw (z, z) refl }

-- none, and the path is listed if there are places for it
module _ (fault : ℕ) (path list : List ℕ) (none : fault ≡ 0) {listed : Option ℕ} {list' : List ℕ} (y : PathListed path (length list) list listed list') where
  refusal_is : (b : Bool) → ltb (length list) (length path) ≡ b → refusal_of fault path list ≡ cond b path_refusals.states_short 0
  refusal_is b e = rw (eq-eqb fault 0 none, e) refl

  pub told_short : listed ≡ None → Told fault path list path_refusals.states_short 0 list'
  told_short z = by (ltb (length list) (length path)) refl
    where
      by : (b : Bool) → ltb (length list) (length path) ≡ b → Told fault path list path_refusals.states_short 0 list'
      by true e = record { the_refusal = sym (refusal_is true e); the_count = rw (refusal_is true e) refl; the_list = rw (refusal_is true e) (rw e at y.the_list) }
      by false e = let n : listed ≡ Some (length path) = rw e at y.the_count in let no : ⊥ = cc in absurd no

  pub told_listed : {count : ℕ} → listed ≡ Some count → Told fault path list 0 count list'
  told_listed {count} n = by (ltb (length list) (length path)) refl
    where
      by : (b : Bool) → ltb (length list) (length path) ≡ b → Told fault path list 0 count list'
      by true e = let z : listed ≡ None = rw e at y.the_count in let no : ⊥ = cc in absurd no
      by false e = let z : listed ≡ Some (length path) = rw e at y.the_count in let k : count ≡ length path = cc in record { the_refusal = sym (refusal_is false e); the_count = rw (refusal_is false e) k; the_list = rw (refusal_is false e) (rw e at y.the_list) }
