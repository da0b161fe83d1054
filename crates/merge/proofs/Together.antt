-- Lists of names or of rules put together: what stands in them, and where. Assumes nothing.
use Prim.Native.Nat.{ℕ, suc, ◌≤◌, ◌<◌}
use native.Mathlib.Omega.{arith}
use mathlib.Core.Path.{◌≡◌, refl, ap, sym, ◌∙◌, subst, subst⁻¹}
use mathlib.Core.Bool.{Bool, true, false, cond, ◌||◌}
use mathlib.Core.List.Memᴰ
use mathlib.Core.List.{List, [], ◌∷◌, ◌++◌, append_assoc, append-nil, Memᴰ}
use mathlib.Core.Logic.{◌⊎◌, inl, inr}
use lib.ListN.{length, length-append}
use borrow.Author.Tests.{lt-ltb, ltb-true}
use Rattle.steps.proofs.Lists.{at_member}
use Rattle.chars.specs.Bytes.{is_name}
use Rattle.chars.specs.Places.{same, place, place_after, among, meets}
use Rattle.writer.proofs.NamesApart.{Adds, none, more, same_self, adds_snoc}
use Rattle.writer.proofs.Undoing.{place_is}
use Rattle.merge.specs.Joined.{together}

-- ---- among, as membership

pub among_member : (x : List ℕ) (xs : List (List ℕ)) → among x xs ≡ true → Memᴰ x xs
among_member x xs h =
    let l = ltb-true (place x xs) (length xs) h in
    subst (λ (y : List ℕ). Memᴰ y xs) (place_is x xs l) (at_member xs (place x xs) [] l)

pub member_below : (x : List ℕ) (xs : List (List ℕ)) → Memᴰ x xs → place x xs < length xs
unfolding place
member_below x (y ∷ ys) (Memᴰ.head e) = let s = ap (λ (z : List ℕ). same x z) (sym e) ∙ same_self x in rw s (omega arith)
member_below x (y ∷ ys) (Memᴰ.tail m) = by (same x y) (member_below x ys m)
  where
    by : (t : Bool) → place x ys < length ys → place_after t (place x ys) < suc (length ys)
    by true l = omega arith
    by false l = omega arith
member_below x [] x'' = elim x'' [ ]

pub member_among : (x : List ℕ) (xs : List (List ℕ)) → Memᴰ x xs → among x xs ≡ true
member_among x xs m = lt-ltb (place x xs) (length xs) (member_below x xs m)

true_false : true ≡ false → ⊥
true_false e = let z : ◌≡◌ {A = ℕ} 0 1 = cc in omega arith

pub not_member : (x : List ℕ) (xs : List (List ℕ)) → (Memᴰ x xs → ⊥) → among x xs ≡ false
not_member x xs h = by (among x xs) refl
  where
    by : (t : Bool) → among x xs ≡ t → among x xs ≡ false
    by true e = absurd (h (among_member x xs e))
    by false e = e

pub no_member : (x : List ℕ) (xs : List (List ℕ)) → among x xs ≡ false → Memᴰ x xs → ⊥
no_member x xs h m = true_false (sym (member_among x xs m) ∙ h)

-- the place in the first part is the place in the whole
pub place_before : (x : List ℕ) (xs ys : List (List ℕ)) → Memᴰ x xs → place x (xs ++ ys) ≡ place x xs
unfolding place
place_before x (y ∷ xs) ys (Memᴰ.head e) = let s = ap (λ (z : List ℕ). same x z) (sym e) ∙ same_self x in rw s refl
place_before x (y ∷ xs) ys (Memᴰ.tail m) = ap (place_after (same x y)) (place_before x xs ys m)
place_before x [] ys x'' = elim x'' [ ]

-- ---- together

-- what one more makes of a list
abbrev pub with_one : List (List ℕ) → List ℕ → List (List ℕ)
with_one xs y = cond (among y xs) xs (xs ++ (y ∷ []))

one_more : (xs : List (List ℕ)) (y : List ℕ) → (zs : List (List ℕ)) × (with_one xs y ≡ xs ++ zs)
one_more xs y = by (among y xs)
  where
    by : (t : Bool) → (zs : List (List ℕ)) × (cond t xs (xs ++ (y ∷ [])) ≡ xs ++ zs)
    by true = ([], sym (append-nil xs))
    by false = (y ∷ [], refl)

-- the first list stands in front
pub together_more : (xs ys : List (List ℕ)) → (zs : List (List ℕ)) × (together xs ys ≡ xs ++ zs)
unfolding together
together_more xs [] = ([], sym (append-nil xs))
together_more xs (y ∷ ys) =
    let (us, e) = one_more xs y in
    let (vs, f) = together_more (with_one xs y) ys in
    (us ++ vs, f ∙ ap (λ (l : List (List ℕ)). l ++ vs) e ∙ append_assoc xs us vs)

pub together_left : (x : List ℕ) (xs ys : List (List ℕ)) → Memᴰ x xs → Memᴰ x (together xs ys)
together_left x xs ys m = let (zs, e) = together_more xs ys in subst⁻¹ (Memᴰ x) e (Memᴰ.append_left zs m)

pub together_longer : (xs ys : List (List ℕ)) → length xs ≤ length (together xs ys)
together_longer xs ys = let (zs, e) = together_more xs ys in let n = ap length e ∙ length-append xs zs in omega arith

one_there : (xs : List (List ℕ)) (y : List ℕ) → Memᴰ y (with_one xs y)
one_there xs y = by (among y xs) refl
  where
    by : (t : Bool) → among y xs ≡ t → Memᴰ y (cond t xs (xs ++ (y ∷ [])))
    by true e = among_member y xs e
    by false e = Memᴰ.append_right xs (Memᴰ.head refl)

-- each of the second list stands there
pub together_right : (y : List ℕ) (xs ys : List (List ℕ)) → Memᴰ y ys → Memᴰ y (together xs ys)
unfolding together
together_right y xs (x ∷ ys) (Memᴰ.head e) = subst⁻¹ (λ (z : List ℕ). Memᴰ z (together (with_one xs x) ys)) e (together_left x (with_one xs x) ys (one_there xs x))
together_right y xs (x ∷ ys) (Memᴰ.tail m) = together_right y (with_one xs x) ys m
together_right y xs [] x' = elim x' [ ]

one_out : (x y : List ℕ) (xs : List (List ℕ)) → Memᴰ x (with_one xs y) → Memᴰ x xs ⊎ (x ≡ y)
one_out x y xs = by (among y xs)
  where
    ends : Memᴰ x xs ⊎ Memᴰ x (y ∷ []) → Memᴰ x xs ⊎ (x ≡ y)
    ends (inl m) = inl m
    ends (inr m) = inr (Memᴰ.eq_of_singleton m)

    by : (t : Bool) → Memᴰ x (cond t xs (xs ++ (y ∷ []))) → Memᴰ x xs ⊎ (x ≡ y)
    by true m = inl m
    by false m = ends (Memᴰ.append_cases xs m)

-- and nothing else does
pub together_out : (x : List ℕ) (xs ys : List (List ℕ)) → Memᴰ x (together xs ys) → Memᴰ x xs ⊎ Memᴰ x ys
unfolding together
together_out x xs [] m = inl m
together_out x xs (y ∷ ys) m = by (together_out x (with_one xs y) ys m)
  where
    first : Memᴰ x xs ⊎ (x ≡ y) → Memᴰ x xs ⊎ Memᴰ x (y ∷ ys)
    first (inl k) = inl k
    first (inr e) = inr (Memᴰ.head e)

    by : Memᴰ x (with_one xs y) ⊎ Memᴰ x ys → Memᴰ x xs ⊎ Memᴰ x (y ∷ ys)
    by (inl k) = first (one_out x y xs k)
    by (inr k) = inr (Memᴰ.tail k)

-- nothing new is nothing more
pub together_same : (xs ys : List (List ℕ)) → ((y : List ℕ) → Memᴰ y ys → Memᴰ y xs) → together xs ys ≡ xs
unfolding together
together_same xs [] h = refl
together_same xs (y ∷ ys) h = rw (member_among y xs (h y (Memᴰ.head refl))) (together_same xs ys (λ z m. h z (Memᴰ.tail m)))

-- the first list's places stay
pub together_place : (x : List ℕ) (xs ys : List (List ℕ)) → Memᴰ x xs → place x (together xs ys) ≡ place x xs
together_place x xs ys m = let (zs, e) = together_more xs ys in ap (place x) e ∙ place_before x xs zs m

-- ---- none of the first among the second

pub or_first : (t u : Bool) → (t || u) ≡ false → (t ≡ false) × (u ≡ false)
or_first true u e = absurd (true_false e)
or_first false u e = (refl, e)

pub never_meets : (x : List ℕ) (xs ys : List (List ℕ)) → meets xs ys ≡ false → Memᴰ x xs → Memᴰ x ys → ⊥
never_meets x (y ∷ xs) ys h (Memᴰ.head e) m = no_member y ys (or_first (among y ys) (meets xs ys) h).0 (subst (λ (z : List ℕ). Memᴰ z ys) e m)
never_meets x (y ∷ xs) ys h (Memᴰ.tail k) m = never_meets x xs ys (or_first (among y ys) (meets xs ys) h).1 k m
never_meets x [] ys h x4 m = elim x4 [ ]

-- ---- names one after the other, none twice

pub adds_member : (b xs : List (List ℕ)) → Adds b xs → (x : List ℕ) → Memᴰ x xs → (is_name x ≡ true) × (among x b ≡ false)
adds_member b (y ∷ ys) (more n a r) x (Memᴰ.head e) = rw e (n, a)
adds_member b (y ∷ ys) (more n a r) x (Memᴰ.tail m) =
    let (i, f) = adds_member (b ++ (y ∷ [])) ys r x m in
    (i, not_member x b (λ k. no_member x (b ++ (y ∷ [])) f (Memᴰ.append_left (y ∷ []) k)))
adds_member b [] _ x x5 = elim x5 [ ]

-- behind names that none of them is
pub adds_behind : (p b xs : List (List ℕ)) → Adds b xs → ((x : List ℕ) → Memᴰ x xs → Memᴰ x p → ⊥) → Adds (p ++ b) xs
adds_behind p b [] none h = none
adds_behind p b (x ∷ xs) (more n a r) h =
    more n (not_member x (p ++ b) (λ m. apart (Memᴰ.append_cases p m)))
    (subst⁻¹ (λ (l : List (List ℕ)). Adds l xs) (append_assoc p b (x ∷ [])) (adds_behind p (b ++ (x ∷ [])) xs r (λ y m k. h y (Memᴰ.tail m) k)))
  where
    apart : Memᴰ x p ⊎ Memᴰ x b → ⊥
    apart (inl m) = h x (Memᴰ.head refl) m
    apart (inr m) = no_member x b a m

pub adds_join : (b p q : List (List ℕ)) → Adds b p → Adds (b ++ p) q → Adds b (p ++ q)
adds_join b [] q none r = subst (λ (l : List (List ℕ)). Adds l q) (append-nil b) r
adds_join b (x ∷ p) q (more n a s) r = more n a (adds_join (b ++ (x ∷ [])) p q s (subst⁻¹ (λ (l : List (List ℕ)). Adds l q) (append_assoc b (x ∷ []) p) r))

one_adds : (xs : List (List ℕ)) (y : List ℕ) → Adds [] xs → is_name y ≡ true → Adds [] (with_one xs y)
one_adds xs y a n = by (among y xs) refl
  where
    by : (t : Bool) → among y xs ≡ t → Adds [] (cond t xs (xs ++ (y ∷ [])))
    by true e = a
    by false e = adds_snoc [] xs y a n e

pub together_adds : (xs ys : List (List ℕ)) → Adds [] xs → ((y : List ℕ) → Memᴰ y ys → is_name y ≡ true) → Adds [] (together xs ys)
unfolding together
together_adds xs [] a h = a
together_adds xs (y ∷ ys) a h = together_adds (with_one xs y) ys (one_adds xs y a (h y (Memᴰ.head refl))) (λ z m. h z (Memᴰ.tail m))
