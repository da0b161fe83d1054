-- Lists filled from the front, piece by piece. Assumes nothing.
use Prim.Native.Nat.{ℕ, ◌+◌}
use native.Mathlib.Omega.{arith}
use mathlib.Core.Path.{◌≡◌, refl, ap, ap₂, sym, ◌∙◌, subst}
use mathlib.Core.List.{List, [], ◌++◌, append-nil, append_assoc}
use lib.ListN.{length, take, drop, length-append}
use lib.Seq.{take_at, drop-append-add, drop-drop}
use Rattle.writer.specs.Inner.{Filled}

-- from a list filled up to p to one filled by x more, up to q (with its length this is `Puts`)
abbrev pub Gives : List ℕ → ℕ → List ℕ → List ℕ → ℕ → Type 0
Gives o p x o' q = (d t : List ℕ) → Filled d t o p → Filled d (t ++ x) o' q

pub gives_none : (o : List ℕ) (p : ℕ) → Gives o p [] o p
gives_none o p d t f = subst (λ (x : List ℕ). Filled d x o p) (sym (append-nil t)) f

pub gives_then : (o o' o'' x y : List ℕ) (p q r : ℕ) → Gives o p x o' q → Gives o' q y o'' r → Gives o p (x ++ y) o'' r
gives_then o o' o'' x y p q r f g d t h = subst (λ (z : List ℕ). Filled d z o'' r) (append_assoc t x y) (g d (t ++ x) (f d t h))

pub gives_as : (o o' x y : List ℕ) (p q : ℕ) → x ≡ y → Gives o p x o' q → Gives o p y o' q
gives_as o o' x y p q e f d t h = subst (λ (z : List ℕ). Filled d (t ++ z) o' q) e (f d t h)

-- a piece copied to its place
pub filled_piece : (o x : List ℕ) (p : ℕ) (d t o' : List ℕ) → Filled d t o p → o' ≡ take p o ++ x ++ drop (p + length x) o → Filled d (t ++ x) o' (p + length x)
filled_piece o x p d t o' f w =
    let n = length x in
    let e : length t ≡ p = sym f.here in
    let first : take p o ≡ t = ap (take p) f.is ∙ take_at t (drop p d) p e in
    let past : drop (p + n) o ≡ drop (p + n) d =
    ap (drop (p + n)) f.is ∙ ap (λ (k : ℕ). drop (k + n) (t ++ drop p d)) (sym e) ∙ drop-append-add t (drop p d) n ∙ drop-drop n p d in
    record { here = omega (arith, length-append t x); is = w ∙ ap₂ (λ (a b : List ℕ). a ++ x ++ b) first past }

-- from nothing
pub filled_first : (d : List ℕ) → Filled d [] d 0
filled_first d = record { here = refl; is = refl }
