-- What is told of a run alone is what `Shared` asks for, with an account of the same limits. Assumes nothing.
use Prim.Native.Nat.{ℕ, ◌<◌, ◌≤◌}
use mathlib.Core.Path.{◌≡◌, sym, ◌∙◌}
use mathlib.Core.Bool.{Bool, true, false}
use mathlib.Core.List.{List}
use lib.ListN.{length}
use Rattle.refusals.specs.Run.{run_refusals}
use Rattle.steps.specs.Run.{Run}
use Rattle.steps.proofs.EachBelow.{true_not_false}
use Rattle.evaluator.specs.Evaluated.{Asked, refused_with, run_asked}
use Rattle.sharing.specs.Parties.{Party, Account, vacant}
use Rattle.sharing.specs.Charged.{Exceeds}
use Rattle.sharing.specs.Shared.{Panel, Reply, refused, gives_up, takes_up, Entered, Alone, account, Shared, refused_full, refused_list, listed}
use Rattle.alone.specs.Alone.{Within, RanAlone}
use Rattle.alone.specs.Alone as alone

module _ (a : Account) {c d : ℕ} (calls_are : c ≡ a.call_limit) (answers_are : d ≡ a.answer_limit) where
  -- ---- any run
  module _ (run : Run) where
    exceeds_as : Exceeds run (vacant c d) → Exceeds run a
    exceeds_as x = rw (calls_are, answers_are) at x

    as_exceeds : Exceeds run a → Exceeds run (vacant c d)
    as_exceeds x = rw (calls_are, answers_are) x

    -- It is full where it exceeds the account's limits,
    pub ran_exceeds : {full : Bool} {e n m : ℕ} {list list' : List ℕ} → RanAlone run (vacant c d) full e n m list list' → full ≡ true → Exceeds run a × (list' ≡ list)
    ran_exceeds (alone.over z x s) f = (exceeds_as x, s)
    ran_exceeds (alone.short z t l s) f = absurd (true_not_false (sym f ∙ z))
    ran_exceeds (alone.listed z t l up s) f = absurd (true_not_false (sym f ∙ z))

    -- and there alone.
    pub ran_fits : {full : Bool} {e n m : ℕ} {list list' : List ℕ} → RanAlone run (vacant c d) full e n m list list' → full ≡ false → ¬ Exceeds run a
    ran_fits (alone.over z x s) f = absurd (true_not_false (sym z ∙ f))
    ran_fits (alone.short z t l s) f = λ x. t.fits (as_exceeds x)
    ran_fits (alone.listed z t l up s) f = λ x. t.fits (as_exceeds x)

  -- ---- an accepted one
  module _ (q : Asked) (ok : refused_with q ≡ 0) (r : Reply) where
    within_alone : Within (run_asked q) (vacant c d) r.ends r.calls r.answers → Alone q a r
    within_alone t = record {
      accepted = ok;
      fits = λ x. t.fits (as_exceeds (run_asked q) x);
      calls = t.calls;
      calls_all = t.calls_all;
      calls_many = t.calls_many;
      answers = t.answers;
      answers_all = t.answers_all;
      answers_many = t.answers_many;
      ends = t.ends;
      ends_all = t.ends_all;
      ends_many = t.ends_many;
    }

    pub ran_alone : {full : Bool} {list list' : List ℕ} → RanAlone (run_asked q) (vacant c d) full r.ends r.calls r.answers list list' → full ≡ false → Alone q a r
    ran_alone (alone.over z x s) f = absurd (true_not_false (sym z ∙ f))
    ran_alone (alone.short z t l s) f = within_alone t
    ran_alone (alone.listed z t l up s) f = within_alone t

-- ---- a party's run
module _ (p : Party) (q : Asked) (ok : refused_with q ≡ 0) (words : List ℕ) {c d : ℕ} (calls_are : c ≡ (account p q words).call_limit) (answers_are : d ≡ (account p q words).answer_limit)
    (before after : Panel) (r : Reply) where
  abbrev own : Account
  own = account p q words

  -- 30, where the other's rows alone are kept
  pub ran_full : {full : Bool} {e n m : ℕ} → RanAlone (run_asked q) (vacant c d) full e n m before.ends after.ends → full ≡ true
      → Entered p q words before after (gives_up own) r.kept → r ≡ refused run_refusals.tables_full r.kept → Shared p q words before after r
  ran_full R f E z = let (x, s) = ran_exceeds own calls_are answers_are (run_asked q) R f in refused_full ok x E z s

  -- 31 by the count of ends, and else no refusal, where the rows of both are kept
  pub ran_within : {full : Bool} → RanAlone (run_asked q) (vacant c d) full r.ends r.calls r.answers before.ends after.ends → full ≡ false
      → Entered p q words before after (takes_up own q) r.kept
      → (length before.ends < r.ends → r.refusal ≡ run_refusals.list_short) → (r.ends ≤ length before.ends → r.refusal ≡ 0) → Shared p q words before after r
  unfolding within_alone
  ran_within (alone.over z x s) f E if-short if-listed = absurd (true_not_false (sym z ∙ f))
  ran_within (alone.short z t l s) f E if-short if-listed = refused_list (within_alone own calls_are answers_are q ok r t) E (if-short l) l s
  ran_within (alone.listed z t l up s) f E if-short if-listed = listed (within_alone own calls_are answers_are q ok r t) E (if-listed l) l up s
