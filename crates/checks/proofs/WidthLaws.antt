-- Where the records of either kind, plain or with rounds, stand in their words. Assumes nothing.
use Prim.Native.Nat.{ℕ, ◌+◌, ◌*◌, ◌<◌, ◌≤◌}
use native.Mathlib.Omega.{arith}
use mathlib.Core.Path.{◌≡◌}
use mathlib.Core.Bool.{Bool, true, false}
use Rattle.records.specs.Storage.{call_width_of, answer_width_of}

-- the key of a call record that stands
pub call_key : (plain : Bool) {w : ℕ} (i : ℕ) {len : ℕ} → w ≡ call_width_of plain → call_width_of plain * i + call_width_of plain ≤ len → w * i + 2 ≤ len
call_key true i e l = rw e (omega arith)
call_key false i e l = rw e (omega arith)

-- a call record below a count of records that stand
pub call_within : (plain : Bool) (i : ℕ) {n len : ℕ} → call_width_of plain * n ≤ len → i < n → call_width_of plain * i + call_width_of plain ≤ len
call_within true i l h = omega arith
call_within false i l h = omega arith

-- an answer record below a count of records that stand, and its words before a round
pub answer_within : (plain : Bool) (x : ℕ) {n len : ℕ} → answer_width_of plain * n ≤ len → x < n → answer_width_of plain * x + answer_width_of plain ≤ len
answer_within true x l h = omega arith
answer_within false x l h = omega arith

pub answer_others : (plain : Bool) {w : ℕ} (x : ℕ) {len : ℕ} → w ≡ answer_width_of plain → answer_width_of plain * x + answer_width_of plain ≤ len → w * x + 19 ≤ len
answer_others true x e l = rw e (omega arith)
answer_others false x e l = rw e (omega arith)

-- one record more
pub answers_more : (plain : Bool) (n : ℕ) {len : ℕ} → answer_width_of plain * n + answer_width_of plain ≤ len → answer_width_of plain * (n + 1) ≤ len
answers_more true n l = omega arith
answers_more false n l = omega arith

-- fewer records
pub answers_less : (plain : Bool) (x : ℕ) {n len : ℕ} → answer_width_of plain * n ≤ len → x ≤ n → answer_width_of plain * x ≤ len
answers_less true x l h = omega arith
answers_less false x l h = omega arith
