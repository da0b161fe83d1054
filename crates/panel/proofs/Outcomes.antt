-- The cases of a party's run, from what its parts tell. Assumes nothing.
use Prim.Native.Nat.{ℕ}
use native.Mathlib.Omega.{arith}
use mathlib.Core.Path.{◌≡◌, sym, ap, subst, ◌∙◌}
use mathlib.Core.Bool.{Bool, true, false, cond}
use mathlib.Core.List.{List}
use mathlib.Core.Logic.{◌≢◌}
use lib.ListN.{length}
use lib.Dec.{ltb}
use borrow.Author.Tests.{lt-ltb, le-ltb}
use Rattle.refusals.specs.Run.{run_refusals}
use Rattle.evaluator.specs.Evaluated.{Asked, refused_with, run_asked}
use Rattle.sharing.specs.Parties.{Party, vacant}
use Rattle.sharing.specs.Shared.{Panel, Reply, refused, gives_up, takes_up, Entered, account, Shared, refused_goal}
use Rattle.alone.specs.Alone.{RanAlone}
use Rattle.alone.proofs.AsShared.{ran_full, ran_within}
use Rattle.panel.specs.Reply.{reply}

module _ (p : Party) (q : Asked) (words : List ℕ) (before after : Panel) (r : Reply) where
  -- A refusal that gives these words.
  module _ {n : ℕ} {kept : List ℕ} (e : r ≡ refused n kept) where
    given : kept ≡ r.kept
    given = sym (ap (λ (r : Reply). r.kept) e)

    so : r ≡ refused n r.kept
    so = e ∙ ap (refused n) given

    entry : Entered p q words before after (gives_up (account p q words)) kept → Entered p q words before after (gives_up (account p q words)) r.kept
    entry E = subst (λ (ws : List ℕ). Entered p q words before after (gives_up (account p q words)) ws) given E

  -- 23 and 24
  pub goal_refused : {kept : List ℕ} → refused_with q ≢ 0 → r ≡ refused (refused_with q) kept
      → Entered p q words before after (gives_up (account p q words)) kept → after.ends ≡ before.ends → Shared p q words before after r
  unfolding entry so
  goal_refused n e E s = refused_goal n (entry e E) (so e) s

  module _ (ok : refused_with q ≡ 0) {c d : ℕ} (calls_are : c ≡ (account p q words).call_limit) (answers_are : d ≡ (account p q words).answer_limit) {full : Bool} {e n m : ℕ}
      (R : RanAlone (run_asked q) (vacant c d) full e n m before.ends after.ends) {kept : List ℕ} where
    -- 30
    pub limits_exceeded : full ≡ true → r ≡ refused run_refusals.tables_full kept → Entered p q words before after (gives_up (account p q words)) kept
        → Shared p q words before after r
    limits_exceeded f z E = ran_full p q ok words calls_are answers_are before after r R f (entry z E) (so z)

    -- 31 and 0
    pub ran_through : full ≡ false → r ≡ reply (cond (ltb (length before.ends) e) run_refusals.list_short 0) e n m kept
        → Entered p q words before after (takes_up (account p q words) q) kept → Shared p q words before after r
    ran_through f z E = ran_within p q ok words calls_are answers_are before after r
        (rw (sym (ap (λ (r : Reply). r.ends) z), sym (ap (λ (r : Reply). r.calls) z), sym (ap (λ (r : Reply). r.answers) z)) at R) f
        (subst (λ (ws : List ℕ). Entered p q words before after (takes_up (account p q words) q) ws) (sym (ap (λ (r : Reply). r.kept) z)) E)
        (λ l. ap (λ (r : Reply). r.refusal) z ∙ ap (λ (b : Bool). cond b run_refusals.list_short 0) (lt-ltb _ e (omega (arith, l, ap (λ (r : Reply). r.ends) z))))
        (λ l. ap (λ (r : Reply). r.refusal) z ∙ ap (λ (b : Bool). cond b run_refusals.list_short 0) (le-ltb _ e (omega (arith, l, ap (λ (r : Reply). r.ends) z))))
