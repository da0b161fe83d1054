-- The refusals of a sheet, 10 to 19 (document 01, "Refusals by place"). Assumes nothing.
use Rattle.std.specs.Prelude.{ℕ}

-- Told without a line. 10: over 65,536 bytes. 11: a byte that may not stand where it does. 12: not empty, and its last byte is not LF.
-- 18: no `start` or no `goal` at its end. 19: rule words lent that are fewer than the rules have.
abbrev pub sheet_refusals : record { too_long : ℕ; bad_byte : ℕ; not_ended : ℕ; incomplete : ℕ; no_room : ℕ }
sheet_refusals = record { too_long = 10; bad_byte = 11; not_ended = 12; incomplete = 18; no_room = 19 }

-- Told with a line. 13: its first field is no record word, or is out of order. 14: a fluent or action without exactly one name, a rule without
-- head, or a field that is no name or step. 15: a name defined before, or twice in `start`. 16: a used name that is undefined or of the wrong
-- kind. 17: a 65th fluent or action, a 257th rule, or more than 16 steps.
abbrev pub line_refusals : record { bad_word : ℕ; bad_field : ℕ; repeated : ℕ; undefined : ℕ; too_many : ℕ }
line_refusals = record { bad_word = 13; bad_field = 14; repeated = 15; undefined = 16; too_many = 17 }
