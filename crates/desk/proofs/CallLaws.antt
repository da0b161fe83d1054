-- Laws of call records while a run lasts: one put, and all of them given. Assumes nothing.
use Prim.Native.Nat.{ℕ, ◌+◌, ◌*◌, ◌/◌, ◌%◌, ◌<◌, ◌≤◌}
use native.Mathlib.Omega.{arith}
use native.Mathlib.Decide.{ℕ_discrete}
use mathlib.Core.Path.{◌≡◌, refl, ap, ◌∙◌, fun_ext}
use mathlib.Core.Logic.{◌≢◌}
use mathlib.Core.List.{List}
use lib.ListN.{length, get_or, set, length-set}
use lib.Seq.{get_or-set_same, get_or-set_other}
use Rattle.steps.specs.State.{State}
use Rattle.records.specs.Records.{call_width}
use Rattle.records.specs.Storage.{Stored, CallAdded}
use Rattle.records.proofs.StorageLaws.{stored_more}
use Rattle.desk.specs.Desk.{action_unit, round_unit, round_top, open_calls, mark_words, call_put}

-- ---- one call record more

module _ (words : List ℕ) (n a : ℕ) (D : State) (r : ℕ) where
  pub put_long : length (call_put words n a D r) ≡ length words
  put_long = simp length-set

  pub put_other : (p : ℕ) → p ≢ call_width * n → p ≢ call_width * n + 1 → get_or (call_put words n a D r) p 0 ≡ get_or words p 0
  put_other p h k =
      get_or-set_other (set words (call_width * n) (a * action_unit + r * round_unit + mark_words words n)) (call_width * n + 1) p D 0 k
      ∙ get_or-set_other words (call_width * n) p _ 0 h

  -- what is noted in the third word of each record stays
  pub put_notes : (k : ℕ) → get_or (call_put words n a D r) (call_width * k + 2) 0 ≡ get_or words (call_width * k + 2) 0
  put_notes k = put_other (call_width * k + 2) (omega arith) (omega arith)

  module _ (fits : call_width * n + 3 ≤ length words) where
    put_first : get_or (call_put words n a D r) (call_width * n) 0 ≡ a * action_unit + r * round_unit + mark_words words n
    put_first =
        get_or-set_other (set words (call_width * n) (a * action_unit + r * round_unit + mark_words words n)) (call_width * n + 1) (call_width * n) D 0 (omega arith)
        ∙ get_or-set_same words (call_width * n) _ 0 (omega arith)

    put_state : get_or (call_put words n a D r) (call_width * n + 1) 0 ≡ D
    put_state = get_or-set_same (set words (call_width * n) (a * action_unit + r * round_unit + mark_words words n)) (call_width * n + 1) D 0 (simp length-set (omega arith))

    pub put_stored : Stored call_width words n → n < 65536 → Stored call_width (call_put words n a D r) (n + 1)
    put_stored s most = stored_more s put_long (omega arith) most (λ i l. put_other i (omega arith) (omega arith))

    pub put_marks : mark_words (call_put words n a D r) ≡ mark_words words
    put_marks = fun_ext (λ k. elim (ℕ_discrete k n) [
      | yes e ↦ rw e (omega (arith, put_first))
      | no ne ↦ ap (λ (w : ℕ). w % round_unit) (put_other (call_width * k) (omega arith) (omega arith))
    ])

    pub put_added : a < 256 → r < round_top → CallAdded (open_calls words n) a D r (open_calls (call_put words n a D r) (n + 1))
    put_added la lr = record {
      count = refl;
      action_kept = λ i l. ap (λ (w : ℕ). w / action_unit) (put_other (call_width * i) (omega arith) (omega arith));
      state_kept = λ i l. put_other (call_width * i + 1) (omega arith) (omega arith);
      round_kept = λ i l. ap (λ (w : ℕ). w / round_unit % round_top) (put_other (call_width * i) (omega arith) (omega arith));
      new = record { has_action = omega (arith, put_first); has_state = put_state };
      new_round = omega (arith, put_first);
    }
