-- The refusals of a run, 20 to 24, 30, 31 and 34 (document 01, "Refusals by place"; request R-10). Assumes nothing.
use Rattle.std.specs.Prelude.{ℕ}

-- 20: a count of fluents or actions over 64. 21: rule words that are not whole rules, or over 256 rules. 22: a bad rule. 23: a bad goal.
-- 24: a start, or a state to be stored, with a bit at or above the fluent count. 30: calls outnumber the call room, or answers the answer room.
-- 31: fewer places for ends than there are ends. 34: a list of calls shorter than the call room.
abbrev pub run_refusals : record {
  bad_counts : ℕ;
  bad_length : ℕ;
  bad_rule : ℕ;
  bad_goal : ℕ;
  bad_start : ℕ;
  tables_full : ℕ;
  list_short : ℕ;
  call_list_short : ℕ;
}
run_refusals = record {
  bad_counts = 20;
  bad_length = 21;
  bad_rule = 22;
  bad_goal = 23;
  bad_start = 24;
  tables_full = 30;
  list_short = 31;
  call_list_short = 34;
}
