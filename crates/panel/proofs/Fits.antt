-- The rows of the goals that fitting words keep: no table is too small for them, and tables filled with them are left as counted. Assumes nothing.
use Prim.Native.Nat.{ℕ, ◌≤◌}
use mathlib.Core.Path.{◌≡◌, refl, sym, ap, ◌∙◌}
use mathlib.Core.Bool.{Bool, true, false}
use mathlib.Core.List.{List, []}
use lib.ListN.{length, take}
use Rattle.steps.specs.Acceptance.{bad_goal, words_refusal, refusal_of}
use Rattle.steps.proofs.AcceptanceLaws.{AcceptedWords, start_accepted}
use Rattle.records.specs.Records.{room}
use Rattle.records.specs.Bodies.{bodies_with}
use Rattle.tabling.proofs.Adding.{Outgrown}
use Rattle.joint.specs.Joint.{roots_of}
use Rattle.sharing.specs.Parties.{Party, first, second, Account, Ledger, account_of, account_at, ledger_of}
use Rattle.sharing.specs.Charged.{plain_call_width, plain_answer_width, run_held, over_limits, Exceeds, AsKept}
use Rattle.sharing.proofs.Refusals.{accepted_with}
use Rattle.sharing.proofs.Balanced.{never_outgrown}
use Rattle.accounts.specs.Accounts.{account_width, GoalRead, ShortGoals}
use Rattle.accounts.proofs.GoalWords.{goal_short, read_few}
use Rattle.accounts.proofs.KeptWords.{first_placed, second_placed, limits_fit}
use Rattle.settling.specs.Given.{RowsGiven}
use Rattle.settling.proofs.KeptBodies.{bodies_held, outgrown_held}
use Rattle.settling.proofs.KeptRoots.{KeptRoots, root_in, in_root}
use Rattle.settling.proofs.Settled.{settled}
use Rattle.panel.specs.Left.{Fitting, counted, Left}

-- Words that are as kept fit, under an accepted book,
pub as_kept_fitting : {fluents actions : ℕ} {rules words calls answers : List ℕ} → words_refusal fluents actions rules [] ≡ 0
    → AsKept fluents actions rules words calls answers → Fitting fluents actions rules words calls answers
as_kept_fitting b k = record { book = b; long = k.long; goals = k.goals; starts = k.starts; limits = k.limits; within = k.within }

-- and fit any tables of the same lengths.
pub fitting_on : {fluents actions : ℕ} {rules words calls answers calls' answers' : List ℕ} → length calls' ≡ length calls → length answers' ≡ length answers
    → Fitting fluents actions rules words calls answers → Fitting fluents actions rules words calls' answers'
unfolding over_limits
fitting_on e f k = record { book = k.book; long = k.long; goals = k.goals; starts = k.starts; limits = rw (e, f) k.limits; within = k.within }

-- Their goals have at most 16 steps.
pub fitting_short : {fluents actions : ℕ} {rules words calls answers : List ℕ} → Fitting fluents actions rules words calls answers → ShortGoals words
fitting_short {fluents} {actions} k = record { long = k.long; short = λ p. goal_short fluents actions _ (k.goals p) }

module _ {fluents actions : ℕ} {rules words calls answers : List ℕ} (F : Fitting fluents actions rules words calls answers) where
  abbrev l : Ledger
  l = ledger_of words

  good : (p : Party) → refusal_of fluents actions rules (account_of l p).goal (account_of l p).start ≡ 0
  good p = accepted_with fluents actions rules (account_of l p).goal (account_of l p).start F.book (F.goals p) (F.starts p)

  pub fitting_accepted : (p : Party) → AcceptedWords fluents actions rules (account_of l p).goal
  fitting_accepted p = (start_accepted fluents actions rules (account_of l p).goal (account_of l p).start (good p)).0

  -- A goal that is read from the words is the one that they keep.
  goal_read : {goal' places places' : List ℕ} {r : ℕ} (goal : List ℕ) → bad_goal fluents actions goal ≡ false → goal ≡ goal' → GoalRead goal' places places' r
      → (r ≤ 16) × (take r places' ≡ goal)
  goal_read goal b e g = let few = read_few fluents actions g (ap (bad_goal fluents actions) (sym e) ∙ b) in (few, g.read few ∙ sym e)

  pub first_read : {places places' : List ℕ} {r : ℕ} → GoalRead (account_at words 0).goal places places' r → (r ≤ 16) × (take r places' ≡ l.first.goal)
  unfolding account_of
  first_read g = goal_read l.first.goal (F.goals first) (ap (λ (a : Account). a.goal) (first_placed words F.long)) g

  pub second_read : {places places' : List ℕ} {r : ℕ} → GoalRead (account_at words account_width).goal places places' r → (r ≤ 16) × (take r places' ≡ l.second.goal)
  unfolding account_of
  second_read g = goal_read l.second.goal (F.goals second) (ap (λ (a : Account). a.goal) (second_placed words F.long)) g

  module _ (n m : ℕ) where
    abbrev now : Ledger
    now = counted l n m

    accepted : (p : Party) → AcceptedWords fluents actions rules (account_of now p).goal
    unfolding account_of
    accepted first = fitting_accepted first
    accepted second = fitting_accepted second

    never_full : ¬ Outgrown (bodies_held rules now) (KeptRoots rules now accepted) (room plain_call_width (length calls)) (room plain_answer_width (length answers))
    unfolding account_of
    never_full o =
        let (c, a) = limits_fit l calls answers F.limits in
        never_outgrown rules now accepted (KeptRoots rules now accepted) (root_in rules now accepted) (in_root rules now accepted) held within _ _ c a
        (outgrown_held rules now _ _ o)
      where
        held : (p : Party) → (account_of now p).holds ≡ true → refusal_of fluents actions rules (account_of now p).goal (account_of now p).start ≡ 0
        held first h = good first
        held second h = good second

        within : (p : Party) → (account_of now p).holds ≡ true → ¬ Exceeds (run_held rules (account_of now p)) (account_of now p)
        within first h = F.within first h
        within second h = F.within second h

    -- What is given is left.
    given_left : {calls' answers' : List ℕ} → RowsGiven (bodies_held rules l) (roots_of l.first.holds l.second.holds l.first.start l.second.start)
        (room plain_answer_width (length answers)) calls answers calls' answers' false n m → Left rules now calls answers calls' answers'
    given_left R = record {
      calls_long = R.calls_long;
      answers_long = R.answers_long;
      calls_fit = rw R.calls_long (R.calls_fit refl);
      answers_fit = rw R.answers_long (R.answers_fit refl);
      balanced = settled rules now accepted (KeptRoots rules now accepted) (root_in rules now accepted) (in_root rules now accepted)
          (R.whole refl) (R.calls_past refl) (R.answers_past refl);
    }

    -- No table is full of the rows of goals read from the words,
    pub settled_fits : {b c : Bool} {g h calls' answers' : List ℕ} {s t most k j : ℕ} → b ≡ l.first.holds → c ≡ l.second.holds
        → g ≡ l.first.goal → h ≡ l.second.goal → s ≡ l.first.start → t ≡ l.second.start → most ≡ room plain_answer_width (length answers)
        → ¬ RowsGiven (bodies_with rules b c g h) (roots_of b c s t) most calls answers calls' answers' true k j
    settled_fits e f e' f' e'' f'' w R = never_full (rw (e, f, e', f', e'', f'', w) at (R.outgrown refl))

    -- and they are left.
    pub settled_left : {b c : Bool} {g h calls' answers' : List ℕ} {s t most : ℕ} → b ≡ l.first.holds → c ≡ l.second.holds
        → g ≡ l.first.goal → h ≡ l.second.goal → s ≡ l.first.start → t ≡ l.second.start → most ≡ room plain_answer_width (length answers)
        → RowsGiven (bodies_with rules b c g h) (roots_of b c s t) most calls answers calls' answers' false n m → Left rules now calls answers calls' answers'
    settled_left e f e' f' e'' f'' w R = given_left (rw (e, f, e', f', e'', f'', w) at R)
