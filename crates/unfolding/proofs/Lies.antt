-- A list that lies in another at a place; writing a known list word by word. Assumes nothing.
use Prim.Native.Nat.{ℕ, ◌+◌, ◌<◌, ◌≤◌}
use native.Mathlib.Omega.{arith}
use native.Mathlib.Nat.{add_assoc}
use mathlib.Core.Path.{◌≡◌, refl, sym, ◌∙◌}
use mathlib.Core.Bool.{Bool, true, false}
use mathlib.Core.List.{List, ◌++◌}
use lib.ListN.{length, get_or, set, length-set, length-append, get_or-append}
use lib.Seq.{get_or-append-add, get_or-set_same, get_or-set_other}
use lib.Dec.{eqb}
use borrow.Author.Tests.{eqb-true, eqb-false}

-- The words of l stand in the wanted list from place p on.
pub record Lies (l : List ℕ) (p : ℕ) (wanted : List ℕ) : Type 0 where
  pub bound : p + length l ≤ length wanted
  pub same : (i : ℕ) → i < length l → get_or wanted (p + i) 0 ≡ get_or l i 0

pub lies_left : (a b : List ℕ) {p : ℕ} {wanted : List ℕ} → Lies (a ++ b) p wanted → Lies a p wanted
lies_left a b h = record {
  bound = omega (arith, h.bound, length-append a b);
  same = λ i l. h.same i (omega (arith, length-append a b)) ∙ get_or-append a b 0 i l;
}

pub lies_right : (a b : List ℕ) {p : ℕ} {wanted : List ℕ} → Lies (a ++ b) p wanted → Lies b (p + length a) wanted
lies_right a b {p} h = record {
  bound = omega (arith, h.bound, length-append a b);
  same = λ i l. rw (add_assoc p (length a) i) (h.same (length a + i) (omega (arith, length-append a b)) ∙ get_or-append-add a b i 0);
}

-- in a longer list that begins so too
pub lies_longer : {l : List ℕ} {p : ℕ} (wanted more : List ℕ) → Lies l p wanted → Lies l p (wanted ++ more)
lies_longer {l} {p} wanted more h = record {
  bound = omega (arith, h.bound, length-append wanted more);
  same = λ i k. get_or-append wanted more 0 (p + i) (omega (arith, h.bound)) ∙ h.same i k;
}

-- ---- writing

-- The buffer has the wanted word at x.
abbrev pub Agree : List ℕ → List ℕ → ℕ → Type 0
Agree wanted l x = get_or l x 0 ≡ get_or wanted x 0

-- a right word keeps what agrees
pub agree_keep : (wanted l : List ℕ) (y v : ℕ) → y < length l → v ≡ get_or wanted y 0 → (x : ℕ) → Agree wanted l x → Agree wanted (set l y v) x
agree_keep wanted l y v h e x a = by (eqb x y) refl
  where
    by : (b : Bool) → eqb x y ≡ b → Agree wanted (set l y v) x
    by true q = rw (eqb-true x y q) (get_or-set_same l y v 0 h ∙ e)
    by false q = get_or-set_other l y x v 0 (eqb-false x y q) ∙ a

-- The wanted list has the same n words at both places, and the buffer has them already at the first.
pub record Twice (wanted l : List ℕ) (from to n : ℕ) : Type 0 where
  pub same : (i : ℕ) → i < n → get_or wanted (to + i) 0 ≡ get_or wanted (from + i) 0
  pub have : (i : ℕ) → i < n → Agree wanted l (from + i)

-- m is l after i of n words were copied: every word written is a right one, so nothing need be said of overlaps.
pub record Copied (l m : List ℕ) (from to n i : ℕ) : Type 0 where
  pub long : length m ≡ length l
  pub keeps : (wanted : List ℕ) → Twice wanted l from to n → (x : ℕ) → Agree wanted l x → Agree wanted m x
  pub fills : (wanted : List ℕ) → Twice wanted l from to n → (x : ℕ) → x < i → Agree wanted m (to + x)

pub copied_none : (l : List ℕ) (from to n : ℕ) → Copied l l from to n 0
copied_none l from to n = record { long = refl; keeps = λ w t x a. a; fills = λ w t x h. absurd (omega arith) }

pub copied_same : (l : List ℕ) (at n : ℕ) → Copied l l at at n n
copied_same l at n = record { long = refl; keeps = λ w t x a. a; fills = λ w t x h. t.have x h }

pub copied_more : {l m : List ℕ} {from to n i : ℕ} → Copied l m from to n i → i < n → to + n ≤ length l
    → Copied l (set m (to + i) (get_or m (from + i) 0)) from to n (i + 1)
copied_more {l} {m} {from} {to} {n} {i} c h r = record { long = simp length-set c.long; keeps = keep; fills = fill }
  where
    room : to + i < length m
    room = omega (arith, c.long)

    word : (w : List ℕ) → Twice w l from to n → get_or m (from + i) 0 ≡ get_or w (to + i) 0
    word w t = c.keeps w t (from + i) (t.have i h) ∙ sym (t.same i h)

    keep : (w : List ℕ) → Twice w l from to n → (x : ℕ) → Agree w l x → Agree w (set m (to + i) (get_or m (from + i) 0)) x
    keep w t x a = agree_keep w m (to + i) (get_or m (from + i) 0) room (word w t) x (c.keeps w t x a)

    fill : (w : List ℕ) → Twice w l from to n → (x : ℕ) → x < i + 1 → Agree w (set m (to + i) (get_or m (from + i) 0)) (to + x)
    fill w t x k = by (eqb x i) refl
      where
        by : (b : Bool) → eqb x i ≡ b → Agree w (set m (to + i) (get_or m (from + i) 0)) (to + x)
        by true q = rw (eqb-true x i q) (get_or-set_same m (to + i) (get_or m (from + i) 0) 0 room ∙ word w t)
        by false q =
            let d : (x ≡ i → ⊥) = eqb-false x i q in
            agree_keep w m (to + i) (get_or m (from + i) 0) room (word w t) (to + x) (c.fills w t x (omega arith))
