-- The words of rules as the code writes them. Assumes nothing.
use mathlib.Core.Path.{◌≡◌, refl, ap, sym, ◌∙◌}
use mathlib.Core.List.{List, [], ◌∷◌, ◌++◌, append_assoc}
use Prim.Native.Nat.{ℕ, zero, suc, ◌+◌, ◌*◌, ◌≤◌, ◌<◌}
use native.Mathlib.Numerals.{add-one}
use native.Mathlib.Omega.{arith}
use lib.ListN.{length, take, drop, set, length-set, length-drop}
use lib.Seq.{drop-set-lt, take-suc-set, take_all, take_at, drop_at, take-add, length-take-le, paste}
use Rattle.steps.specs.Widths.{rule_width}
use Rattle.fields.specs.Book.{joined}
use Rattle.lines.specs.Kept.{rules_in}

-- two words stored one after the other
pub two_words : (w : List ℕ) (at h c : ℕ) → at + 1 < length w → take (at + 2) (set (set w at h) (at + 1) c) ≡ take at w ++ (h ∷ c ∷ [])
two_words w at h c k =
    let l = length-set w at h in
    let e : at + 2 ≡ suc (at + 1) = omega arith in
    let a = take-suc-set (set w at h) (at + 1) c (omega arith) in
    let b = take-suc-set w at h (omega arith) in
    ap (λ (n : ℕ). take n (set (set w at h) (at + 1) c)) e ∙ a ∙ ap (λ (x : List ℕ). x ++ (c ∷ [])) (ap (λ (n : ℕ). take n (set w at h)) (add-one at) ∙ b) ∙ append_assoc (take at w) (h ∷ []) (c ∷ [])

-- the words of a rule put in place
pub rule_put : (w body : List ℕ) (at h c : ℕ) → at + rule_width ≤ length w → length body ≡ 16 → paste (set (set w at h) (at + 1) c) (at + 2) body 16 ≡ take at w ++ ((h ∷ c ∷ body) ++ drop (at + rule_width) w)
rule_put w body at h c k z =
    let e : at + 2 + 16 ≡ at + rule_width = omega arith in
    let a = two_words w at h c (omega arith) in
    let b = take_all 16 body (omega arith) in
    let d = drop-set-lt (at + rule_width) (set w at h) (at + 1) c (omega arith) ∙ drop-set-lt (at + rule_width) w at h (omega arith) in
    rw (e, a, b, d) (append_assoc (take at w ++ (h ∷ c ∷ [])) body (drop (at + rule_width) w) ∙ append_assoc (take at w) (h ∷ c ∷ []) (body ++ drop (at + rule_width) w))

-- one rule more
pub rules_more : (w r rest : List ℕ) (n : ℕ) → length r ≡ rule_width → rule_width * n ≤ length w → rules_in (take (rule_width * n) w ++ (r ++ rest)) (n + 1) ≡ rules_in w n ++ (r ∷ [])
unfolding rules_in
rules_more w r rest zero z h = ap (λ (x : List ℕ). x ∷ []) (take_at r rest rule_width z)
rules_more w r rest (suc n) z h =
    let o : suc n + 1 ≡ suc (n + 1) = omega arith in
    let e : rule_width * suc n ≡ rule_width + rule_width * n = omega arith in
    let l = length-take-le rule_width w (omega arith) in
    let d = length-drop rule_width w in
    let a = ap (λ (k : ℕ). take k w ++ (r ++ rest)) e ∙ ap (λ (x : List ℕ). x ++ (r ++ rest)) (take-add rule_width (rule_width * n) w) ∙ append_assoc (take rule_width w) (take (rule_width * n) (drop rule_width w)) (r ++ rest) in
    let t = take_at (take rule_width w) (take (rule_width * n) (drop rule_width w) ++ (r ++ rest)) rule_width l in
    let u = drop_at (take rule_width w) (take (rule_width * n) (drop rule_width w) ++ (r ++ rest)) rule_width l in
    rw (o, a, t, u, rules_more (drop rule_width w) r rest n z (omega arith))

pub rules_length : (w : List ℕ) (n : ℕ) → length (rules_in w n) ≡ n
unfolding rules_in
rules_length w zero = refl
rules_length w (suc n) = ap suc (rules_length (drop rule_width w) n)

pub rules_joined : (w : List ℕ) (n : ℕ) → joined (rules_in w n) ≡ take (rule_width * n) w
unfolding rules_in
rules_joined w zero = refl
rules_joined w (suc n) =
    let e : rule_width * suc n ≡ rule_width + rule_width * n = omega arith in
    ap (λ (l : List ℕ). take rule_width w ++ l) (rules_joined (drop rule_width w) n) ∙ sym (take-add rule_width (rule_width * n) w) ∙ ap (λ (k : ℕ). take k w) (sym e)
