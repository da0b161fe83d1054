-- The number of each refusal, by the records of numbers, and of an answer that may be a refusal: 0 where nothing is refused. Assumes nothing.
use Rattle.std.specs.Prelude.{ℕ, Option, None, Some, Result, Ok, Err}
use Rattle.refusals.specs.declared.Refusal.{Refusal}
use Rattle.refusals.specs.declared.Refusal.TheVariants.{TooLong, BadByte, NotEnded, BadWord, BadField, Repeated, Undefined, TooMany, Incomplete}
use Rattle.refusals.specs.declared.Refusal.TheVariants.{NoRoom, BadCounts, BadLength, BadRule, BadGoal, BadStart, BadClass, BadResults, ReportShort}
use Rattle.refusals.specs.declared.Refusal.TheVariants.{TablesFull, ListShort, CallListShort, BadCallList, BadRecordCount, NoRecord, BadRecord}
use Rattle.refusals.specs.declared.Refusal.TheVariants.{StatesShort, TextShort, LongRecord, MarksShort, BadRecordedStep, BothKinds, OutputShort}
use Rattle.refusals.specs.declared.Refusal.TheVariants.{BadWordCount, BitPastEnd, OverLimits, NotAsKept}
use Rattle.refusals.specs.Sheet.{sheet_refusals, line_refusals}
use Rattle.refusals.specs.Run.{run_refusals}
use Rattle.refusals.specs.Class.{class_refusals}
use Rattle.refusals.specs.Path.{path_refusals}
use Rattle.refusals.specs.Lookup.{lookup_refusals}
use Rattle.refusals.specs.Text.{text_refusals}
use Rattle.refusals.specs.Marking.{marking_refusals}
use Rattle.refusals.specs.Archive.{archive_refusals}
use Rattle.refusals.specs.Sharing.{sharing_refusals}

-- The number of a refusal.
abbrev pub number_of : Refusal → ℕ
number_of TooLong = sheet_refusals.too_long
number_of BadByte = sheet_refusals.bad_byte
number_of NotEnded = sheet_refusals.not_ended
number_of BadWord = line_refusals.bad_word
number_of BadField = line_refusals.bad_field
number_of Repeated = line_refusals.repeated
number_of Undefined = line_refusals.undefined
number_of TooMany = line_refusals.too_many
number_of Incomplete = sheet_refusals.incomplete
number_of NoRoom = sheet_refusals.no_room
number_of BadCounts = run_refusals.bad_counts
number_of BadLength = run_refusals.bad_length
number_of BadRule = run_refusals.bad_rule
number_of BadGoal = run_refusals.bad_goal
number_of BadStart = run_refusals.bad_start
number_of BadClass = class_refusals.bad_class
number_of BadResults = class_refusals.bad_results
number_of ReportShort = class_refusals.report_short
number_of TablesFull = run_refusals.tables_full
number_of ListShort = run_refusals.list_short
number_of CallListShort = run_refusals.call_list_short
number_of BadCallList = lookup_refusals.bad_call_list
number_of BadRecordCount = path_refusals.bad_record_count
number_of NoRecord = path_refusals.no_record
number_of BadRecord = path_refusals.bad_record
number_of StatesShort = path_refusals.states_short
number_of TextShort = text_refusals.text_short
number_of LongRecord = marking_refusals.long_record
number_of MarksShort = marking_refusals.marks_short
number_of BadRecordedStep = marking_refusals.bad_recorded_step
number_of BothKinds = text_refusals.both_kinds
number_of OutputShort = archive_refusals.output_short
number_of BadWordCount = archive_refusals.bad_word_count
number_of BitPastEnd = archive_refusals.bit_past_end
number_of OverLimits = sharing_refusals.over_limits
number_of NotAsKept = sharing_refusals.not_as_kept

-- The number of an answer: of its refusal, or 0 where it has a value.
abbrev pub number_in : {A : Type 0} → Result A Refusal → ℕ
number_in (Ok a) = 0
number_in (Err refusal) = number_of refusal

-- The number of a refusal that may be missing: 0 where there is none.
abbrev pub number_if : Option Refusal → ℕ
number_if None = 0
number_if (Some refusal) = number_of refusal
