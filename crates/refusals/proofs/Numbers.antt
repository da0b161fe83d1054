-- No refusal has the number 0: an answer's number is 0 exactly where nothing is refused. Assumes nothing.
use Rattle.std.proofs.Common.{◌≡◌, ◌≤◌, ◌≢◌, arith, refl, false}
use Rattle.std.specs.Prelude.{eqb, Option, None, Some, Result, Ok, Err, IsOk}
use Rattle.refusals.specs.declared.Refusal.{Refusal}
use Rattle.refusals.specs.declared.Refusal.TheVariants.{TooLong, BadByte, NotEnded, BadWord, BadField, Repeated, Undefined, TooMany, Incomplete}
use Rattle.refusals.specs.declared.Refusal.TheVariants.{NoRoom, BadCounts, BadLength, BadRule, BadGoal, BadStart, BadClass, BadResults, ReportShort}
use Rattle.refusals.specs.declared.Refusal.TheVariants.{TablesFull, ListShort, CallListShort, BadCallList, BadRecordCount, NoRecord, BadRecord}
use Rattle.refusals.specs.declared.Refusal.TheVariants.{StatesShort, TextShort, LongRecord, MarksShort, BadRecordedStep, BothKinds, OutputShort}
use Rattle.refusals.specs.declared.Refusal.TheVariants.{BadWordCount, BitPastEnd, OverLimits, NotAsKept}
use Rattle.refusals.specs.Number.{number_of, number_in, number_if}

-- The numbers begin at 10.
pub number-from_ten : (r : Refusal) → 10 ≤ number_of r
number-from_ten TooLong = omega arith
number-from_ten BadByte = omega arith
number-from_ten NotEnded = omega arith
number-from_ten BadWord = omega arith
number-from_ten BadField = omega arith
number-from_ten Repeated = omega arith
number-from_ten Undefined = omega arith
number-from_ten TooMany = omega arith
number-from_ten Incomplete = omega arith
number-from_ten NoRoom = omega arith
number-from_ten BadCounts = omega arith
number-from_ten BadLength = omega arith
number-from_ten BadRule = omega arith
number-from_ten BadGoal = omega arith
number-from_ten BadStart = omega arith
number-from_ten BadClass = omega arith
number-from_ten BadResults = omega arith
number-from_ten ReportShort = omega arith
number-from_ten TablesFull = omega arith
number-from_ten ListShort = omega arith
number-from_ten CallListShort = omega arith
number-from_ten BadCallList = omega arith
number-from_ten BadRecordCount = omega arith
number-from_ten NoRecord = omega arith
number-from_ten BadRecord = omega arith
number-from_ten StatesShort = omega arith
number-from_ten TextShort = omega arith
number-from_ten LongRecord = omega arith
number-from_ten MarksShort = omega arith
number-from_ten BadRecordedStep = omega arith
number-from_ten BothKinds = omega arith
number-from_ten OutputShort = omega arith
number-from_ten BadWordCount = omega arith
number-from_ten BitPastEnd = omega arith
number-from_ten OverLimits = omega arith
number-from_ten NotAsKept = omega arith

pub number-not_zero : (r : Refusal) → number_of r ≢ 0
number-not_zero r e = let l = number-from_ten r in omega arith

-- The test for 0 as code makes it.
pub number-tested : (r : Refusal) → eqb (number_of r) 0 ≡ false
number-tested TooLong = refl
number-tested BadByte = refl
number-tested NotEnded = refl
number-tested BadWord = refl
number-tested BadField = refl
number-tested Repeated = refl
number-tested Undefined = refl
number-tested TooMany = refl
number-tested Incomplete = refl
number-tested NoRoom = refl
number-tested BadCounts = refl
number-tested BadLength = refl
number-tested BadRule = refl
number-tested BadGoal = refl
number-tested BadStart = refl
number-tested BadClass = refl
number-tested BadResults = refl
number-tested ReportShort = refl
number-tested TablesFull = refl
number-tested ListShort = refl
number-tested CallListShort = refl
number-tested BadCallList = refl
number-tested BadRecordCount = refl
number-tested NoRecord = refl
number-tested BadRecord = refl
number-tested StatesShort = refl
number-tested TextShort = refl
number-tested LongRecord = refl
number-tested MarksShort = refl
number-tested BadRecordedStep = refl
number-tested BothKinds = refl
number-tested OutputShort = refl
number-tested BadWordCount = refl
number-tested BitPastEnd = refl
number-tested OverLimits = refl
number-tested NotAsKept = refl

-- An answer of the number 0 has a value.
pub ok_at_zero : {A : Type 0} (a : Result A Refusal) → number_in a ≡ 0 → IsOk a
ok_at_zero (Ok a) e = refl
ok_at_zero (Err r) e = absurd (number-not_zero r e)

-- An answer of another number has none.
pub none_at_zero : (o : Option Refusal) → number_if o ≡ 0 → o ≡ None
none_at_zero None e = refl
none_at_zero (Some r) e = absurd (number-not_zero r e)
