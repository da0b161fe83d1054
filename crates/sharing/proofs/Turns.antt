-- Runs in turn over tables that were opened and handed on as they were left, under one book: none is refused with 91, each party keeps its limits, and
-- so each run tells what it tells alone, "whatever the other's goal, start, limits, order of runs or refusals". Assumes nothing.
use Prim.Native.Nat.{ℕ}
use native.Mathlib.Omega.{arith}
use mathlib.Core.Path.{◌≡◌, refl, ap, subst, ◌∙◌}
use mathlib.Core.List.{List}
use lib.ListN.{length}
use borrow.Author.Tests.{eq-eqb}
use Rattle.steps.specs.State.{State}
use Rattle.evaluator.specs.Evaluated.{Asked, refused_with}
use Rattle.sharing.specs.Parties.{Party, first, second, Account, Ledger, opened, account_of, ledger_words, ledger_width, ledger_of}
use Rattle.sharing.specs.Charged.{AsKept}
use Rattle.sharing.specs.Shared.{Opening, Panel, Reply, handed_back, gives_up, takes_up, AsKeptUnder, Entered, account, Shared, refused_book, refused_kept, refused_goal, refused_full, refused_list, listed, no_room, emptied}
use Rattle.sharing.proofs.Ledgers.{ProperAccount, opened_proper, ledger_read}
use Rattle.sharing.proofs.AsKept.{opening_as_kept}
use Rattle.sharing.proofs.AsAlone.{Tells, shared_tells}
use Rattle.sharing.proofs.Runs.{other, own_account, other_account, gives_up_proper, takes_up_proper}
use Rattle.sharing.proofs.Determined.{not_91}

-- What is asked under a book: a goal and a start.
abbrev pub under : ℕ → ℕ → List ℕ → List ℕ → State → Asked
under fluents actions rules goal start = record { fluents = fluents; actions = actions; rules = rules; goal = goal; start = start }

-- The limits that words keep for a party: of calls, and of answers.
abbrev pub limits_in : List ℕ → Party → ℕ × ℕ
limits_in words p = ((account_of (ledger_of words) p).call_limit, (account_of (ledger_of words) p).answer_limit)

-- ---- one run

both_limits : {a b : Account} → a ≡ b → ◌≡◌ {A = ℕ × ℕ} (a.call_limit, a.answer_limit) (b.call_limit, b.answer_limit)
both_limits e = ap (λ (a : Account). (a.call_limit, a.answer_limit)) e

-- What holds of a party and of the other holds of both.
of_both : (P : Party → Type 0) (p : Party) → P p → P (other p) → (p' : Party) → P p'
unfolding other
of_both P first own others first = own
of_both P first own others second = others
of_both P second own others first = others
of_both P second own others second = own

-- 44 words are handed back as they are.
back : (words : List ℕ) → length words ≡ ledger_width → handed_back words ≡ words
back words e = rw (eq-eqb (length words) ledger_width e) refl

module _ {p : Party} {q : Asked} {words : List ℕ} {b a : Panel} where
  entered_limits : {x : Account} {kept : List ℕ} → ProperAccount x → ◌≡◌ {A = ℕ × ℕ} (x.call_limit, x.answer_limit) (limits_in words p) → Entered p q words b a x kept → (p' : Party) → limits_in kept p' ≡ limits_in words p'
  entered_limits {x} {kept} proper same E = of_both (λ p'. limits_in kept p' ≡ limits_in words p') p (both_limits (own_account E proper) ∙ same) (both_limits (other_account E proper))

  -- Over tables as kept a run leaves both parties' limits as they are,
  pub limits_stay : {r : Reply} → AsKeptUnder q words b → Shared p q words b a r → (p' : Party) → limits_in r.kept p' ≡ limits_in words p'
  limits_stay K (refused_book n z s) p' = ap (λ (ws : List ℕ). limits_in ws p') (ap (λ (r : Reply). r.kept) z ∙ back words K.long)
  limits_stay K (refused_kept k n z s) p' = absurd (n K)
  limits_stay K (refused_goal n E z s) p' = entered_limits (gives_up_proper (account p q words)) refl E p'
  limits_stay K (refused_full k x E z s) p' = entered_limits (gives_up_proper (account p q words)) refl E p'
  limits_stay K (refused_list t E z l s) p' = entered_limits (takes_up_proper (account p q words) q t.accepted) refl E p'
  limits_stay K (listed t E z l up s) p' = entered_limits (takes_up_proper (account p q words) q t.accepted) refl E p'

  -- and tables as kept again.
  pub stays_as_kept : {r : Reply} → AsKeptUnder q words b → Shared p q words b a r → AsKeptUnder q r.kept a
  stays_as_kept K (refused_book n z s) = rw (ap (λ (r : Reply). r.kept) z ∙ back words K.long, s) K
  stays_as_kept K (refused_kept k n z s) = absurd (n K)
  stays_as_kept K (refused_goal n E z s) = E.stands
  stays_as_kept K (refused_full k x E z s) = E.stands
  stays_as_kept K (refused_list t E z l s) = E.stands
  stays_as_kept K (listed t E z l up s) = E.stands

-- ---- runs in turn

module _ (fluents actions : ℕ) (rules : List ℕ) (c₁ a₁ c₂ a₂ : ℕ) where
  -- Words kept and tables that an opening for these limits, and then runs of either party under this book, have left.
  pub data Handed : List ℕ → List ℕ → List ℕ → Type 0 where
    opens : {calls answers kept calls' answers' : List ℕ} → Opening (opened c₁ a₁ c₂ a₂) calls answers 0 kept calls' answers' → Handed kept calls' answers'
    runs : {words : List ℕ} {before after : Panel} {r : Reply} (p : Party) (goal : List ℕ) (start : State) → Handed words before.calls before.answers
        → Shared p (under fluents actions rules goal start) words before after r → Handed r.kept after.calls after.answers

  unfoldable pub limits_given : Party → ℕ × ℕ
  limits_given first = (c₁, a₁)
  limits_given second = (c₂, a₂)

  -- They are as kept, with the limits that the tables were opened for.
  pub record Stands (words calls answers : List ℕ) : Type 0 where
    pub as_kept : AsKept fluents actions rules words calls answers
    pub limits : (p : Party) → limits_in words p ≡ limits_given p

  opened_limits : (p : Party) → limits_in (ledger_words (opened c₁ a₁ c₂ a₂)) p ≡ limits_given p
  unfolding account_of limits_given
  opened_limits p = by p (ledger_read (opened c₁ a₁ c₂ a₂) (opened_proper c₁ a₁ c₂ a₂))
    where
      by : (p : Party) → ledger_of (ledger_words (opened c₁ a₁ c₂ a₂)) ≡ opened c₁ a₁ c₂ a₂ → limits_in (ledger_words (opened c₁ a₁ c₂ a₂)) p ≡ limits_given p
      by first e = both_limits (ap (λ (l : Ledger). l.first) e)
      by second e = both_limits (ap (λ (l : Ledger). l.second) e)

  kept_limits : {calls answers kept calls' answers' : List ℕ} → Opening (opened c₁ a₁ c₂ a₂) calls answers 0 kept calls' answers' → (p : Party) → limits_in kept p ≡ limits_given p
  kept_limits (no_room v e k c a) p = absurd (omega (arith, e))
  kept_limits (emptied v e k c a) p = ap (λ (ws : List ℕ). limits_in ws p) k ∙ opened_limits p

  pub handed_stands : {words calls answers : List ℕ} → Handed words calls answers → Stands words calls answers
  handed_stands (opens o) = record { as_kept = opening_as_kept c₁ a₁ c₂ a₂ fluents actions rules o; limits = kept_limits o }
  handed_stands (runs p goal start h S) =
      let s = handed_stands h in
      record { as_kept = stays_as_kept s.as_kept S; limits = λ p'. limits_stay s.as_kept S p' ∙ s.limits p' }

  -- Whatever was run before, by whom and with what refusals: a party's run tells what it tells alone in tables of the limits that it was given.
  pub in_turn : {words : List ℕ} {before after : Panel} {r : Reply} (p : Party) (goal : List ℕ) (start : State) → Handed words before.calls before.answers
      → Shared p (under fluents actions rules goal start) words before after r
      → Tells (under fluents actions rules goal start) (limits_given p).0 (limits_given p).1 before.ends r after.ends
  in_turn {words} {before} {after} {r} p goal start h S =
      let s = handed_stands h in
      let q = under fluents actions rules goal start in
      subst (λ (l : ℕ × ℕ). Tells q l.0 l.1 before.ends r after.ends) (s.limits p)
      (shared_tells p q words before after r S (not_91 p q words before s.as_kept S))
