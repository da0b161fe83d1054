-- Lists put in the order of a key of two numbers, one member for each key. Assumes nothing.
use Rattle.std.specs.Prelude.{ℕ, Bool, false, ◌&&◌, ◌||◌, eqb, ltb}
use Rattle.std.proofs.Math.Bool.{cond}
use mathlib.Core.List.{List, [], ◌∷◌}

-- A key of two numbers.
abbrev pub Key : Type 0
Key = ℕ × ℕ

-- The first number decides, then the second.
abbrev pub before : Key → Key → Bool
before x y = ltb x.0 y.0 || (eqb x.0 y.0 && ltb x.1 y.1)

-- Two keys are one.
abbrev pub same : Key → Key → Bool
same x y = eqb x.0 y.0 && eqb x.1 y.1

module _ {A : Type 0} (key : A → Key) where
  -- Some member has this key.
  unfoldable pub holds_key : List A → Key → Bool
  holds_key [] k = false
  holds_key (x ∷ xs) k = same (key x) k || holds_key xs k

  -- x at its place in a list with rising keys; it takes the place of a member with its key.
  unfoldable pub put : A → List A → List A
  put x [] = x ∷ []
  put x (y ∷ ys) = cond (before (key x) (key y)) (x ∷ y ∷ ys) (cond (same (key x) (key y)) (x ∷ ys) (y ∷ put x ys))

  -- The members with rising keys, of those with one key the first.
  unfoldable pub in_order : List A → List A
  unfolding put
  in_order [] = []
  in_order (x ∷ xs) = put x (in_order xs)

  -- The members whose keys no member of `held` has.
  unfoldable pub new_to : List A → List A → List A
  unfolding holds_key
  new_to held [] = []
  new_to held (x ∷ xs) = cond (holds_key held (key x)) (new_to held xs) (x ∷ new_to held xs)
