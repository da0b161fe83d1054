-- The check of records takes the rounds that it is said to take, by computation. Assumes nothing.
use mathlib.Core.Path.{refl}
use Rattle.steps.specs.Words.{step_by}
use Rattle.steps.specs.Acceptance.{each_below, good_step, good_word, good_rule, bad_counts, bad_length, bad_rules, bad_goal, bad_state, words_refusal}
use Rattle.steps.specs.Elementary.{elementary}
use Rattle.records.specs.Records.{follow, follows, justified}
use Rattle.checks.specs.Checks.{over_room, good_call, good_calls, all_justified, bad_records}
use Rattle.path.specs.Answered.{fault}
use Rattle.starred.specs.Drills.{word, ◌⟵◌}
use Rattle.starred.specs.Rounds.{RoundsChecked}

pub rounds_checked : RoundsChecked
unfolding ◌⟵◌ word fault words_refusal bad_counts bad_length bad_rules bad_goal good_rule good_word good_step each_below over_room bad_records good_calls good_call all_justified bad_state justified follows follow elementary step_by
rounds_checked = record { as_found = refl; last = refl; over = refl; equal = refl; higher = refl }
