-- `share` meets its contract: 20 to 22 change nothing, and the words made for a run are as many as it asks for. Assumes nothing.
use Prim.Native.Nat.{ℕ, ◌*◌, ◌≤◌}
use native.Mathlib.Omega.{arith}
use mathlib.Core.Path.{refl, sym, ap, ◌∙◌}
use lib.ListN.{length, replicate, length-replicate}
use lib.Seq.{length-take-le}
use Rattle.refusals.proofs.Numbers.{number-not_zero}
use Rattle.records.specs.Records.{call_width}
use Rattle.sharing.specs.Shared.{refused, handed_back, refused_book}
use Rattle.panel.proofs.share.Goals as goal

pub returns-in-Err : goal.returns-in-Err
returns-in-Err c =
    refused_book (λ z. number-not_zero _ (c.in-Err.ensures ∙ z))
    (c.unchanged.ensures ∙ ap (λ (n : ℕ). refused n (handed_back c.args.kept.now)) c.in-Err.ensures) refl

pub slice_bounds-run-end : goal.slice_bounds-run-end
slice_bounds-run-end c = sym (length-take-le _ _ ((let rows_fit : call_width * c.room_of-size.result ≤ length (replicate {A = ℕ} 196608 0) = omega (arith, length-replicate {A = ℕ} 196608 0, c.room_of-size.ensures) in rows_fit)))

pub run-requires : goal.run-requires
run-requires c = record { rules_value = sym c.in_default.ensures; rows_len = (length-take-le _ _ ((let rows_fit : call_width * c.room_of-size.result ≤ length (replicate {A = ℕ} 196608 0) = omega (arith, length-replicate {A = ℕ} 196608 0, c.room_of-size.ensures) in rows_fit)) ∙ ap (λ (n : ℕ). call_width * n) c.room_of-size.ensures, omega (arith, length-replicate {A = ℕ} 65536 0)) }
