-- The start of two books where the second names nothing beyond the first's. Assumes nothing.
use Prim.Native.Nat.{ℕ, suc, ◌+◌, ◌^◌, ◌<◌}
use native.Mathlib.Omega.{arith}
use mathlib.Core.Path.{◌≡◌, refl, ap, sym, ◌∙◌, subst}
use mathlib.Core.Bool.{Bool, true, false, cond}
use mathlib.Core.List.Memᴰ
use mathlib.Core.List.{List, [], ◌∷◌, Memᴰ}
use lib.ListN.{length, get_or}
use Rattle.steps.specs.State.{State, holds, added}
use Rattle.steps.proofs.Lists.{at_member}
use Rattle.chars.specs.Places.{place}
use Rattle.writer.specs.Text.{holding}
use Rattle.writer.proofs.NamesApart.{Adds, adds_place}
use Rattle.merge.specs.Joined.{together, start_in}
use Rattle.merge.proofs.Together.{together_place}

-- a name that holds: its number
pub holding_at : (n : List ℕ) (k : ℕ) (s : State) (ns : List (List ℕ)) → Memᴰ n (holding k s ns) → (i : ℕ) × (i < length ns) × (get_or ns i [] ≡ n) × (holds s (k + i) ≡ true)
unfolding holding
holding_at n k s [] m = absurd (Memᴰ.not-nil m)
holding_at n k s (x ∷ ns) m = by (holds s k) refl (holding_at n (suc k) s ns) m
  where
    later : (i : ℕ) × (i < length ns) × (get_or ns i [] ≡ n) × (holds s (suc k + i) ≡ true) → (i : ℕ) × (i < suc (length ns)) × (get_or (x ∷ ns) i [] ≡ n) × (holds s (k + i) ≡ true)
    later (i, l, e, h) = (suc i, omega arith, e, ap (holds s) (omega arith) ∙ h)

    by : (t : Bool) → holds s k ≡ t → (Memᴰ n (holding (suc k) s ns) → (i : ℕ) × (i < length ns) × (get_or ns i [] ≡ n) × (holds s (suc k + i) ≡ true)) → Memᴰ n (cond t (x ∷ holding (suc k) s ns) (holding (suc k) s ns)) → (i : ℕ) × (i < suc (length ns)) × (get_or (x ∷ ns) i [] ≡ n) × (holds s (k + i) ≡ true)
    by true h go (Memᴰ.head e) = (0, omega arith, sym e, ap (holds s) (omega arith) ∙ h)
    by true h go (Memᴰ.tail j) = later (go j)
    by false h go j = later (go j)

-- a name that holds is held by its place
pub held_place : (s : State) (xs : List (List ℕ)) → Adds [] xs → (n : List ℕ) → Memᴰ n (holding 0 s xs) → Memᴰ n xs × (holds s (place n xs) ≡ true)
held_place s xs a n m = by (holding_at n 0 s xs m)
  where
    by : (i : ℕ) × (i < length xs) × (get_or xs i [] ≡ n) × (holds s (0 + i) ≡ true) → Memᴰ n xs × (holds s (place n xs) ≡ true)
    by (i, l, e, h) = (subst (λ (x : List ℕ). Memᴰ x xs) e (at_member xs i [] l), ap (holds s) (ap (λ (x : List ℕ). place x xs) (sym e) ∙ adds_place [] xs a i l) ∙ h)

-- nothing new sets nothing
pub start_same : (all : List (List ℕ)) (k : ℕ) (s to : State) (ns : List (List ℕ)) → ((n : List ℕ) → Memᴰ n (holding k s ns) → holds to (place n all) ≡ true) → start_in all k s ns to ≡ to
unfolding start_in holding
start_same all k s to [] h = refl
start_same all k s to (n ∷ ns) h = by (holds s k) (start_same all (suc k) s to ns) h
  where
    by : (t : Bool) → (((x : List ℕ) → Memᴰ x (holding (suc k) s ns) → holds to (place x all) ≡ true) → start_in all (suc k) s ns to ≡ to) → ((x : List ℕ) → Memᴰ x (cond t (n ∷ holding (suc k) s ns) (holding (suc k) s ns)) → holds to (place x all) ≡ true) → start_in all (suc k) s ns (cond t (added to (place n all)) to) ≡ to
    by true go g =
        let e : added to (place n all) ≡ to = ap (λ (t : Bool). cond t to (to + 2 ^ place n all)) (g n (Memᴰ.head refl)) in
        ap (start_in all (suc k) s ns) e ∙ go (λ x m. g x (Memᴰ.tail m))
    by false go g = go g

pub start_kept : (xs ys : List (List ℕ)) (s t : State) → Adds [] xs → ((n : List ℕ) → Memᴰ n (holding 0 t ys) → Memᴰ n (holding 0 s xs)) → start_in (together xs ys) 0 t ys s ≡ s
start_kept xs ys s t a h = start_same (together xs ys) 0 t s ys (λ n m. let (i, j) = held_place s xs a n (h n m) in ap (holds s) (together_place n xs ys i) ∙ j)
