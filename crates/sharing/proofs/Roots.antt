-- What holds of tables throughout an evaluation holds with more bodies. Assumes nothing.
use Prim.Native.Nat.{ℕ, ◌/◌}
use mathlib.Core.Path.{◌≡◌, refl, sym, ap, ◌∙◌}
use mathlib.Core.Bool.{Bool, true, false, cond}
use mathlib.Core.List.{List, []}
use lib.ListN.{length}
use lib.Dec.{eqb}
use borrow.Author.Tests.{lt-ltb, eqb-false, eq-eqb, ne_eqb}
use Rattle.steps.specs.State.{State}
use Rattle.steps.specs.Step.{Body}
use Rattle.steps.specs.Words.{body_of, head_of}
use Rattle.steps.specs.Widths.{rule_width}
use Rattle.steps.proofs.Tables.{reached_map}
use Rattle.records.specs.Records.{Bodies, bodies_of, goal_rule}
use Rattle.records.proofs.Growth.{Tables}
use Rattle.records.proofs.Justification.{Has, Justified}
use Rattle.records.proofs.Numbers.{fits_cases, words_rule}
use Rattle.tabling.proofs.Evidence.{Valid}
use Rattle.sharing.specs.Parties.{Party, first, goal_number, Ledger, account_of}
use Rattle.sharing.specs.Charged.{goal_kept, goal_under, bodies_kept}
use Rattle.sharing.proofs.TwoGoals.{kept_goal, goal_keeps, under_is}

-- Whatever goes with an action goes with it here too, and has the same words.
abbrev pub MoreBodies : Bodies → Bodies → Type 0
MoreBodies bodies bodies' = (i a : ℕ) → bodies.fits i a ≡ true → (bodies'.fits i a ≡ true) × (bodies'.words i a ≡ bodies.words i a)

module _ (bodies bodies' : Bodies) (more : MoreBodies bodies bodies') where
  has_more : (a : ℕ) (body : Body) → Has bodies a body → Has bodies' a body
  has_more a body (i, f, e) = let (g, w) = more i a f in (i, g, e ∙ ap body_of (sym w))

  justified_more : {t : Tables} {n : ℕ} → Justified bodies t n → Justified bodies' t n
  justified_more {t} {n} j =
      let (g, w) = more (t.answers.rule n) (t.calls.action (t.answers.call n)) j.fits in
      record { exists = j.exists; fits = g; followed = rw w j.followed }

  pub valid_more : {Root : ℕ → State → Type 0} {t : Tables} → Valid bodies Root t → Valid bodies' Root t
  valid_more v = record {
    roots = v.roots;
    calls_once = v.calls_once;
    answers_once = v.answers_once;
    reached = λ i l. reached_map has_more (λ a D r. r) (v.reached i l);
    justified = λ x l. justified_more (v.justified x l);
  }

-- A ledger that keeps these goals and more.
pub kept_more : (rules : List ℕ) (l l' : Ledger)
    → ((p : Party) → (account_of l p).holds ≡ true → ((account_of l' p).holds ≡ true) × ((account_of l' p).goal ≡ (account_of l p).goal))
    → MoreBodies (bodies_kept rules l) (bodies_kept rules l')
kept_more rules l l' up i a f = by (eqb i goal_rule) refl f
  where
    by : (b : Bool) → eqb i goal_rule ≡ b → cond b (goal_kept l a) ((bodies_of rules []).fits i a) ≡ true
        → (cond (eqb i goal_rule) (goal_kept l' a) ((bodies_of rules []).fits i a) ≡ true) × ((bodies_of rules (goal_under l' a)).words i a ≡ (bodies_of rules (goal_under l a)).words i a)
    by true z h =
        let (p, k, e) = goal_keeps l a h in
        let (held, same) = up p k in (
          ap (λ (b : Bool). cond b (goal_kept l' a) ((bodies_of rules []).fits i a)) z ∙ kept_goal l' p a held e,
          ap (λ (g : List ℕ). (bodies_of rules g).words i a) (under_is l' p a e ∙ same ∙ sym (under_is l p a e)),
        )
    by false z h = (
      ap (λ (b : Bool). cond b (goal_kept l' a) ((bodies_of rules []).fits i a)) z ∙ h,
      words_rule rules (goal_under l' a) i a (eqb-false i goal_rule z) ∙ sym (words_rule rules (goal_under l a) i a (eqb-false i goal_rule z)),
    )

-- One that keeps this goal for the first party, whose number is that of a run alone.
pub goal_more : (rules goal : List ℕ) (l : Ledger) → (account_of l first).holds ≡ true → (account_of l first).goal ≡ goal → MoreBodies (bodies_of rules goal) (bodies_kept rules l)
unfolding goal_number
goal_more rules goal l h same i a f = fits_cases rules goal i a f _
    (λ z g. (
      ap (λ (b : Bool). cond b (goal_kept l a) ((bodies_of rules []).fits i a)) (eq-eqb i goal_rule z) ∙ kept_goal l first a h g,
      ap (λ (g : List ℕ). (bodies_of rules g).words i a) (under_is l first a g ∙ same),
    ))
    (λ n k g. (
      rw (ne_eqb i goal_rule n, lt-ltb i (length rules / rule_width) k, eq-eqb (head_of rules i) a g) refl,
      words_rule rules (goal_under l a) i a n ∙ sym (words_rule rules goal i a n),
    ))
