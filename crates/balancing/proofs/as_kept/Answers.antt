-- `as_kept` meets its contract: what is kept is judged by itself, its goals are read, and the tables are held to them. Assumes nothing.
use Prim.Native.Nat.{◌≤◌}
use native.Mathlib.Omega.{arith}
use mathlib.Core.Path.{◌≡◌, refl, sym}
use mathlib.Core.Bool.{false}
use lib.Seq.{length-take-le}
use Rattle.steps.specs.Acceptance.{bad_goal}
use Rattle.sharing.specs.Parties.{account_at}
use Rattle.accounts.specs.Accounts.{Sound}
use Rattle.accounts.proofs.GoalWords.{left_false, read_few}
use Rattle.accounts.proofs.KeptWords.{as_kept_sound, sound_first, sound_second}
use Rattle.balancing.proofs.as_kept.Goals as goal

pub returns-then-bad_kept : goal.returns-then-bad_kept
returns-then-bad_kept c =
    let b = c.bad_kept.ensures in
    record { calls_unchanged = (refl, refl); rows_len_unchanged = (refl, refl); whether = λ k. b.1 c.if-bad_kept.true (as_kept_sound k) }

pub goal_into-steps-requires : goal.goal_into-steps-requires
goal_into-steps-requires c = let s = (let sound : Sound c.args.fluents c.args.actions c.args.kept.now c.args.calls.now c.args.answers.now = c.bad_kept.ensures.0 c.if-bad_kept.false in sound) in (omega (arith, s.long), omega arith)

pub goal_into-second_steps-requires : goal.goal_into-second_steps-requires
goal_into-second_steps-requires c = let s = (let sound : Sound c.args.fluents c.args.actions c.args.kept.now c.args.calls.now c.args.answers.now = c.bad_kept.ensures.0 c.if-bad_kept.false in sound) in (omega (arith, s.long), omega arith)

pub slice_bounds-goal-end : goal.slice_bounds-goal-end
slice_bounds-goal-end c = omega (arith, (let own_few : c.goal_into-steps.result ≤ 16 = read_few c.args.fluents c.args.actions c.goal_into-steps.ensures ((let own_good : bad_goal c.args.fluents c.args.actions (account_at c.args.kept.now 0).goal ≡ false = left_false _ _ (sound_first c.args.fluents c.args.actions c.args.kept.now c.args.calls.now c.args.answers.now ((let sound : Sound c.args.fluents c.args.actions c.args.kept.now c.args.calls.now c.args.answers.now = c.bad_kept.ensures.0 c.if-bad_kept.false in sound)).long ((let sound : Sound c.args.fluents c.args.actions c.args.kept.now c.args.calls.now c.args.answers.now = c.bad_kept.ensures.0 c.if-bad_kept.false in sound))) in own_good)) in own_few), c.goal_into-steps.ensures.long)

pub slice_bounds-as_held-end : goal.slice_bounds-as_held-end
slice_bounds-as_held-end c = sym (length-take-le c.goal_into-steps.result _ (omega (arith, (let own_few : c.goal_into-steps.result ≤ 16 = read_few c.args.fluents c.args.actions c.goal_into-steps.ensures ((let own_good : bad_goal c.args.fluents c.args.actions (account_at c.args.kept.now 0).goal ≡ false = left_false _ _ (sound_first c.args.fluents c.args.actions c.args.kept.now c.args.calls.now c.args.answers.now ((let sound : Sound c.args.fluents c.args.actions c.args.kept.now c.args.calls.now c.args.answers.now = c.bad_kept.ensures.0 c.if-bad_kept.false in sound)).long ((let sound : Sound c.args.fluents c.args.actions c.args.kept.now c.args.calls.now c.args.answers.now = c.bad_kept.ensures.0 c.if-bad_kept.false in sound))) in own_good)) in own_few), c.goal_into-steps.ensures.long)))

pub slice_bounds-second-end : goal.slice_bounds-second-end
slice_bounds-second-end c = omega (arith, (let other_few : c.goal_into-second_steps.result ≤ 16 = read_few c.args.fluents c.args.actions c.goal_into-second_steps.ensures ((let other_good : bad_goal c.args.fluents c.args.actions (account_at c.args.kept.now 21).goal ≡ false = left_false _ _ (sound_second c.args.fluents c.args.actions c.args.kept.now c.args.calls.now c.args.answers.now ((let sound : Sound c.args.fluents c.args.actions c.args.kept.now c.args.calls.now c.args.answers.now = c.bad_kept.ensures.0 c.if-bad_kept.false in sound)).long ((let sound : Sound c.args.fluents c.args.actions c.args.kept.now c.args.calls.now c.args.answers.now = c.bad_kept.ensures.0 c.if-bad_kept.false in sound))) in other_good)) in other_few), c.goal_into-second_steps.ensures.long)

pub slice_bounds-as_held-end-2 : goal.slice_bounds-as_held-end-2
slice_bounds-as_held-end-2 c = sym (length-take-le c.goal_into-second_steps.result _ (omega (arith, (let other_few : c.goal_into-second_steps.result ≤ 16 = read_few c.args.fluents c.args.actions c.goal_into-second_steps.ensures ((let other_good : bad_goal c.args.fluents c.args.actions (account_at c.args.kept.now 21).goal ≡ false = left_false _ _ (sound_second c.args.fluents c.args.actions c.args.kept.now c.args.calls.now c.args.answers.now ((let sound : Sound c.args.fluents c.args.actions c.args.kept.now c.args.calls.now c.args.answers.now = c.bad_kept.ensures.0 c.if-bad_kept.false in sound)).long ((let sound : Sound c.args.fluents c.args.actions c.args.kept.now c.args.calls.now c.args.answers.now = c.bad_kept.ensures.0 c.if-bad_kept.false in sound))) in other_good)) in other_few), c.goal_into-second_steps.ensures.long)))

pub as_held-requires : goal.as_held-requires
as_held-requires c =
    let p = c.requires in
    record { rules_value = (p.rules_value, (let sound : Sound c.args.fluents c.args.actions c.args.kept.now c.args.calls.now c.args.answers.now = c.bad_kept.ensures.0 c.if-bad_kept.false in sound), record { rows_long = p.rows_len.0; bytes_long = p.rows_len.1 }); goal_value = (c.goal_into-steps.ensures.read ((let own_few : c.goal_into-steps.result ≤ 16 = read_few c.args.fluents c.args.actions c.goal_into-steps.ensures ((let own_good : bad_goal c.args.fluents c.args.actions (account_at c.args.kept.now 0).goal ≡ false = left_false _ _ (sound_first c.args.fluents c.args.actions c.args.kept.now c.args.calls.now c.args.answers.now ((let sound : Sound c.args.fluents c.args.actions c.args.kept.now c.args.calls.now c.args.answers.now = c.bad_kept.ensures.0 c.if-bad_kept.false in sound)).long ((let sound : Sound c.args.fluents c.args.actions c.args.kept.now c.args.calls.now c.args.answers.now = c.bad_kept.ensures.0 c.if-bad_kept.false in sound))) in own_good)) in own_few)), c.goal_into-second_steps.ensures.read ((let other_few : c.goal_into-second_steps.result ≤ 16 = read_few c.args.fluents c.args.actions c.goal_into-second_steps.ensures ((let other_good : bad_goal c.args.fluents c.args.actions (account_at c.args.kept.now 21).goal ≡ false = left_false _ _ (sound_second c.args.fluents c.args.actions c.args.kept.now c.args.calls.now c.args.answers.now ((let sound : Sound c.args.fluents c.args.actions c.args.kept.now c.args.calls.now c.args.answers.now = c.bad_kept.ensures.0 c.if-bad_kept.false in sound)).long ((let sound : Sound c.args.fluents c.args.actions c.args.kept.now c.args.calls.now c.args.answers.now = c.bad_kept.ensures.0 c.if-bad_kept.false in sound))) in other_good)) in other_few))) }
