-- Names defined one after the other, none twice. Assumes nothing.
use Prim.Native.Nat.{ℕ, zero, suc, ◌+◌, ◌≤◌, ◌<◌}
use native.Mathlib.Omega.{arith}
use mathlib.Core.Path.{◌≡◌, refl, ap, sym, subst}
use mathlib.Core.Bool.{Bool, true, false}
use mathlib.Core.List.{List, [], ◌∷◌, ◌++◌, append_assoc, append-nil}
use lib.ListN.{length, get_or, length-append}
use borrow.Author.Tests.{le-ltb, ltb-false, eq-eqb}
use Rattle.chars.specs.Bytes.{is_name}
use Rattle.chars.specs.Places.{same, place, place_after, among}
use Rattle.writer.proofs.StepsBack.{Named}

-- the names behind those before them: each is a name, and none stands before it
pub data Adds : List (List ℕ) → List (List ℕ) → Type 0 where
  none : {before : List (List ℕ)} → Adds before []
  more : {before : List (List ℕ)} {x : List ℕ} {xs : List (List ℕ)} → is_name x ≡ true → among x before ≡ false → Adds (before ++ (x ∷ [])) xs → Adds before (x ∷ xs)

pub same_self : (x : List ℕ) → same x x ≡ true
unfolding same
same_self [] = refl
same_self (x ∷ xs) = rw (eq-eqb x x refl) (same_self xs)

-- what is not among the first names has its place behind them
pub place_behind : (x : List ℕ) (p q : List (List ℕ)) → among x p ≡ false → place x (p ++ q) ≡ length p + place x q
unfolding place
place_behind x [] q h = omega arith
place_behind x (g ∷ gs) q h = by (same x g) refl (λ k. place_behind x gs q k)
  where
    by : (t : Bool) → same x g ≡ t → (among x gs ≡ false → place x (gs ++ q) ≡ length gs + place x q) → place_after (same x g) (place x (gs ++ q)) ≡ suc (length gs) + place x q
    by true e later =
        let l = ltb-false (place_after (same x g) (place x gs)) (suc (length gs)) h in
        let z : place_after (same x g) (place x gs) ≡ 0 = rw e refl in
        absurd (omega arith)
    by false e later =
        let l = ltb-false (place_after (same x g) (place x gs)) (suc (length gs)) h in
        let z : place_after (same x g) (place x gs) ≡ suc (place x gs) = rw e refl in
        let i = later (le-ltb (place x gs) (length gs) (omega arith)) in
        rw e (omega arith)

pub not_among : (x : List ℕ) (p : List (List ℕ)) → length p ≤ place x p → among x p ≡ false
not_among x p h = le-ltb (place x p) (length p) h

pub place_first : (x : List ℕ) (xs : List (List ℕ)) → place x (x ∷ xs) ≡ 0
unfolding place
place_first x xs = rw (same_self x) refl

-- not among the two is not among the second
later_only : (x : List ℕ) (p q : List (List ℕ)) → among x (p ++ q) ≡ false → among x q ≡ false
unfolding place
later_only x [] q h = h
later_only x (g ∷ gs) q h = later_only x gs q (by (same x g) refl)
  where
    by : (t : Bool) → same x g ≡ t → among x (gs ++ q) ≡ false
    by true e =
        let l = ltb-false (place_after (same x g) (place x (gs ++ q))) (suc (length (gs ++ q))) h in
        let z : place_after (same x g) (place x (gs ++ q)) ≡ 0 = rw e refl in
        absurd (omega arith)
    by false e =
        let l = ltb-false (place_after (same x g) (place x (gs ++ q))) (suc (length (gs ++ q))) h in
        let z : place_after (same x g) (place x (gs ++ q)) ≡ suc (place x (gs ++ q)) = rw e refl in
        not_among x (gs ++ q) (omega arith)

-- fewer names before
pub fewer : (p q xs : List (List ℕ)) → Adds (p ++ q) xs → Adds q xs
fewer p q [] none = none
fewer p q (x ∷ xs) (more n a r) = more n (later_only x p q a) (fewer p (q ++ (x ∷ [])) xs (subst (λ (l : List (List ℕ)). Adds l xs) (append_assoc p q (x ∷ [])) r))

-- the two parts of names
pub first_part : (b p q : List (List ℕ)) → Adds b (p ++ q) → Adds b p
first_part b [] q a = none
first_part b (x ∷ xs) q (more n a r) = more n a (first_part (b ++ (x ∷ [])) xs q r)

pub second_part : (b p q : List (List ℕ)) → Adds b (p ++ q) → Adds (b ++ p) q
second_part b [] q a = subst (λ (l : List (List ℕ)). Adds l q) (sym (append-nil b)) a
second_part b (x ∷ xs) q (more n a r) = subst (λ (l : List (List ℕ)). Adds l q) (append_assoc b (x ∷ []) xs) (second_part (b ++ (x ∷ [])) xs q r)

-- one name more
pub adds_snoc : (b xs : List (List ℕ)) (x : List ℕ) → Adds b xs → is_name x ≡ true → among x (b ++ xs) ≡ false → Adds b (xs ++ (x ∷ []))
adds_snoc b [] x none n a = more n (subst (λ (l : List (List ℕ)). among x l ≡ false) (append-nil b) a) none
adds_snoc b (y ∷ ys) x (more m f r) n a = more m f (adds_snoc (b ++ (y ∷ [])) ys x r n (subst (λ (l : List (List ℕ)). among x l ≡ false) (sym (append_assoc b (y ∷ []) ys)) a))

-- each is a name, and has its own place
pub adds_name : (b xs : List (List ℕ)) → Adds b xs → (k : ℕ) → k < length xs → is_name (get_or xs k []) ≡ true
adds_name b [] none k l = absurd (omega arith)
adds_name b (x ∷ xs) (more n a r) zero l = n
adds_name b (x ∷ xs) (more n a r) (suc k) l = adds_name (b ++ (x ∷ [])) xs r k (omega arith)

pub adds_place : (b xs : List (List ℕ)) → Adds b xs → (k : ℕ) → k < length xs → place (get_or xs k []) (b ++ xs) ≡ length b + k
adds_place b [] none k l = absurd (omega arith)
adds_place b (x ∷ xs) (more n a r) zero l = let e = place_first x xs in let f = place_behind x b (x ∷ xs) a in omega arith
adds_place b (x ∷ xs) (more n a r) (suc k) l =
    let i = adds_place (b ++ (x ∷ [])) xs r k (omega arith) in
    let n = length-append b (x ∷ []) in
    let e = ap (place (get_or xs k [])) (append_assoc b (x ∷ []) xs) in
    omega arith

pub adds_named : (b xs : List (List ℕ)) → Adds b xs → Named xs
adds_named b xs a =
    let c = fewer b [] xs (subst (λ (l : List (List ℕ)). Adds l xs) (sym (append-nil b)) a) in
    record { good = adds_name b xs a; apart = λ k l. let i = adds_place [] xs c k l in omega arith }
