-- What of a second list is new, one after the other. Assumes nothing.
use Prim.Native.Nat.{ℕ, ◌≤◌, ◌<◌}
use mathlib.Core.Path.{◌≡◌, refl, ap}
use mathlib.Core.Bool.{Bool, cond}
use mathlib.Core.List.{List, [], ◌∷◌, ◌++◌}
use lib.ListN.{length}
use borrow.Author.Tests.{lt-ltb, le-ltb}
use Rattle.chars.specs.Places.{place}
use Rattle.parts.specs.Parts.{fresh, news}

module _ (xs : List (List ℕ)) (y : List ℕ) where
  pub fresh_there : place y xs < length xs → fresh xs y ≡ []
  unfolding fresh
  fresh_there h = ap (λ (v : Bool). cond v [] (y ∷ [])) (lt-ltb (place y xs) (length xs) h)

  pub fresh_new : length xs ≤ place y xs → fresh xs y ≡ y ∷ []
  unfolding fresh
  fresh_new h = ap (λ (v : Bool). cond v [] (y ∷ [])) (le-ltb (place y xs) (length xs) h)

pub news_more : (xs : List (List ℕ)) (y : List ℕ) (ys : List (List ℕ)) → news xs (y ∷ ys) ≡ fresh xs y ++ news (xs ++ fresh xs y) ys
unfolding news
news_more xs y ys = refl

pub news_none : (xs : List (List ℕ)) → news xs [] ≡ []
unfolding news
news_none xs = refl
