-- `put` meets its contract. Assumes nothing.
use Prim.Native.Nat.{ℕ, suc, ◌+◌, ◌≤◌}
use native.Mathlib.Omega.{arith}
use mathlib.Core.Path.{◌≡◌, ◌∙◌}
use mathlib.Core.List.{List, [], ◌∷◌, ◌++◌}
use lib.ListN.{length, set, take, drop, length-set}
use lib.Seq.{sets-eq}
use Rattle.class.proofs.put.Goals as goal

-- four words stored one after another
four_stored : (list : List ℕ) (at a b c d : ℕ) → at + 4 ≤ length list
    → set (set (set (set list at a) (at + 1) b) (at + 2) c) (at + 3) d ≡ take at list ++ (a ∷ b ∷ c ∷ d ∷ []) ++ drop (at + 4) list
four_stored list at a b c d l =
    let second : at + 1 ≡ suc at = omega arith in
    let third : at + 2 ≡ suc (suc at) = omega arith in
    let fourth : at + 3 ≡ suc (suc (suc at)) = omega arith in
    (λ k. set (set (set (set list at a) (second k) b) (third k) c) (fourth k) d) ∙ sets-eq (a ∷ b ∷ c ∷ d ∷ []) list at l

pub bounds-results-at-2 : goal.bounds-results-at-2
bounds-results-at-2 c = simp length-set (omega arith)

pub bounds-results-at-3 : goal.bounds-results-at-3
bounds-results-at-3 c = simp length-set (omega arith)

pub bounds-results-at-4 : goal.bounds-results-at-4
bounds-results-at-4 c = simp length-set (omega arith)

pub returns : goal.returns
returns c = four_stored c.args.results.now c.args.at _ _ _ _ c.requires
