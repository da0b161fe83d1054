-- Words copied all at once are copied as one after another. Assumes nothing.
use Prim.Native.Nat.{ℕ, zero, suc, ◌+◌, ◌<◌, ◌≤◌}
use native.Mathlib.Omega.{arith}
use native.Mathlib.Decide.{ℕ_discrete}
use mathlib.Core.Path.{◌≡◌, sym, ◌∙◌}
use mathlib.Core.List.{List}
use lib.ListN.{length, get_or, set, drop, length-set}
use lib.Seq.{paste, paste-suc, get_or-set_same}
use Rattle.std.proofs.lemmas.List.{get_or-drop, length-drop}
use Rattle.std.proofs.lemmas.List.Edits.{paste_none}
use Rattle.unfolding.proofs.Lies.{Agree, Twice, Copied, copied_none, agree_keep}

module _ (l : List ℕ) (from to n : ℕ) (read : from + n ≤ length l) (room : to + n ≤ length l) where
  -- one word more, as the list had it
  copied_word : {m : List ℕ} (i : ℕ) → Copied l m from to n i → i < n → Copied l (set m (to + i) (get_or l (from + i) 0)) from to n (suc i)
  copied_word {m} i c h = record {
    long = simp length-set c.long;
    keeps = λ w t x a. agree_keep w m (to + i) _ (omega (arith, c.long)) (t.have i h ∙ sym (t.same i h)) x (c.keeps w t x a);
    fills = λ w t x k. fill w t x k (ℕ_discrete x i);
  }
    where
      fill : (w : List ℕ) → Twice w l from to n → (x : ℕ) → x < suc i → Dec (x ≡ i) → Agree w (set m (to + i) (get_or l (from + i) 0)) (to + x)
      fill w t x k (yes e) = rw e (get_or-set_same m (to + i) _ 0 (omega (arith, c.long)) ∙ t.have i h ∙ sym (t.same i h))
      fill w t x k (no o) = agree_keep w m (to + i) _ (omega (arith, c.long)) (t.have i h ∙ sym (t.same i h)) (to + x) (c.fills w t x (omega arith))

  pasted : (i : ℕ) → i ≤ n → Copied l (paste l to (drop from l) i) from to n i
  pasted zero h = rw (← paste_none l to (drop from l)) (copied_none l from to n)
  pasted (suc i) h =
      rw (← paste-suc l to (drop from l) i 0 (omega arith) (omega (arith, length-drop from l)), get_or-drop from l i 0)
      (copied_word i (pasted i (omega arith)) (omega arith))

  pub copied_within : Copied l (paste l to (drop from l) n) from to n n
  copied_within = pasted n (omega arith)
