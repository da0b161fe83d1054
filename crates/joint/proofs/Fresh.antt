-- Tables that were cleared, and those into which nothing but calls was put since then. Assumes nothing.
use Prim.Native.Nat.{ℕ, ◌*◌, ◌≤◌}
use native.Mathlib.Omega.{arith}
use mathlib.Core.Path.{◌≡◌, refl, sym, subst, ◌∙◌}
use mathlib.Core.List.{List}
use lib.ListN.{length, replicate}
use Rattle.records.specs.Records.{room, call_width}
use Rattle.records.proofs.Zeros.{zeros_stored, zero_at, all_zero, zero_long}
use Rattle.desk.specs.Desk.{CallsOpen, mark_words}
use Rattle.index.specs.Index.{CallsKept}
use Rattle.uses.specs.Uses.{heat, uses_in}
use Rattle.uses.proofs.NoteLaws.{heat_clear}

-- They are as long as the words lent, nothing is marked, and no record has been looked at.
pub record Fresh (calls list calls' list' : List ℕ) : Type 0 where
  pub long : length calls' ≡ length calls
  pub list_long : length list' ≡ length list
  pub unmarked : (k : ℕ) → mark_words calls' k ≡ 0
  pub cold : (k : ℕ) → heat (uses_in calls' list') k ≡ 0

module _ (calls list : List ℕ) {calls' list' : List ℕ} (c : calls' ≡ replicate (length calls) 0) (l : list' ≡ replicate (length list) 0) where
  pub cleared_open : room call_width (length calls) ≤ length list → CallsOpen calls' list' 0
  cleared_open h = record { stored = zeros_stored call_width calls' (all_zero (length calls) c); listed = rw (zero_long (length calls) c, zero_long (length list) l) h }

  pub cleared_fresh : Fresh calls list calls' list'
  cleared_fresh = record {
    long = zero_long (length calls) c;
    list_long = zero_long (length list) l;
    unmarked = λ k. rw (zero_at calls' (all_zero (length calls) c) (call_width * k)) refl;
    cold = λ k. subst (λ (w : List ℕ). heat (uses_in calls' w) k ≡ 0) (sym l) (heat_clear calls' (length list) k);
  }

-- They stay so where a call is put in.
pub fresh_still : {calls list calls₁ list₁ calls₂ list₂ : List ℕ} → CallsKept calls₁ list₁ calls₂ list₂ → Fresh calls list calls₁ list₁ → Fresh calls list calls₂ list₂
fresh_still k f = record {
  long = k.long ∙ f.long;
  list_long = k.list_long ∙ f.list_long;
  unmarked = λ i. k.marks i ∙ f.unmarked i;
  cold = λ i. k.notes i 1 (omega arith) ∙ f.cold i;
}
