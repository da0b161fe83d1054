-- What is known of a verdict that is one of acceptance. Assumes nothing.
use mathlib.Core.Path.{◌≡◌, refl}
use mathlib.Core.Bool.{Bool, true, false, ◌||◌}
use Prim.Native.Nat.{ℕ}
use native.Mathlib.Omega.{arith}
use Rattle.std.specs.Result.{IsErrAnd}
use Rattle.std.proofs.Common.{Result}
use Rattle.std.proofs.lemmas.Result.{err_from_is_err_and}
use Rattle.refusals.specs.declared.Refusal.{Refusal}
use Rattle.refusals.specs.Number.{number_of}
use Rattle.fields.specs.Held.{answer}
use Rattle.fields.specs.Verdict.{Verdict, refuse, accept, ◌>>=◌, require}

-- no verdict is both
pub not_both : {A : Type 0} (k : ℕ) (a : A) → refuse k ≡ accept a → ⊥
not_both k a e = let z : ◌≡◌ {A = ℕ} 0 1 = cc in omega arith

pub same_value : {A : Type 0} {a b : A} → accept a ≡ accept b → a ≡ b
same_value e = cc

pub held : (t : Bool) (k : ℕ) → require t k ≡ accept tt → t ≡ true
held true k e = refl
held false k e = absurd (not_both k tt e)

-- an accepted requirement held, and what followed it was accepted
pub required : {A : Type 0} (t : Bool) (k : ℕ) (f : Unit {0} → Verdict A) (a : A) → (require t k >>= f) ≡ accept a → (t ≡ true) × (f tt ≡ accept a)
required true k f a e = (refl, e)
required false k f a e = absurd (not_both k a e)

-- what a verdict that is followed by others gave, where these accept
pub followed : {A B : Type 0} (v : Verdict A) (f : A → Verdict B) (b : B) → (v >>= f) ≡ accept b → (a : A) × (v ≡ accept a) × (f a ≡ accept b)
followed (refuse k) f b e = absurd (not_both k b e)
followed (accept a) f b e = (a, refl, e)

pub neither : (t u : Bool) → (t || u) ≡ false → (t ≡ false) × (u ≡ false)
neither true u e = let z : ◌≡◌ {A = ℕ} 0 1 = cc in absurd (omega arith)
neither false u e = (refl, e)

-- what the exit of a `?` gives: the refusal of the call
pub refused_with : {A B : Type 0} (says : A → B) (r : Result A Refusal) (e : Refusal) → IsErrAnd r (λ y. y ≡ e) → answer says r ≡ refuse (number_of e)
refused_with says r e h = let p = err_from_is_err_and r h in rw (p.1, p.2)
