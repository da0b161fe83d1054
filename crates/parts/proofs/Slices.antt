-- Parts of lists that stand behind one another. Assumes nothing.
use Prim.Native.Nat.{ℕ, ◌+◌, ◌-◌, ◌≤◌}
use native.Mathlib.Omega.{arith}
use mathlib.Core.Path.{◌≡◌, ap, ◌∙◌}
use mathlib.Core.List.{List, ◌++◌}
use lib.ListN.{length, take, drop}
use lib.Seq.{slice, take-append-le, take-append-add, drop-append-add}

-- of the first
pub slice_first : (s t : List ℕ) (a e : ℕ) → e ≤ length s → slice a e (s ++ t) ≡ slice a e s
slice_first s t a e h = ap (drop a) (take-append-le e s t h)

-- of the second
pub slice_behind : (s t : List ℕ) (a e : ℕ) → slice (length s + a) (length s + e) (s ++ t) ≡ slice a e t
slice_behind s t a e = ap (drop (length s + a)) (take-append-add s t e) ∙ drop-append-add s (take e t) a

pub slice_second : (s t : List ℕ) (a e : ℕ) → length s ≤ a → length s ≤ e → slice a e (s ++ t) ≡ slice (a - length s) (e - length s) t
slice_second s t a e h k =
    let x : a ≡ length s + (a - length s) = omega arith in
    let y : e ≡ length s + (e - length s) = omega arith in
    ap (λ (n : ℕ). slice n e (s ++ t)) x ∙ ap (λ (n : ℕ). slice (length s + (a - length s)) n (s ++ t)) y ∙ slice_behind s t (a - length s) (e - length s)
