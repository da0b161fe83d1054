-- What is asked, the words kept and the buffers lent determine what a run gives, the words kept then and the list of ends; of the tables, whose rows
-- they determine too, the order of the records and the choice among justifications stay open. Assumes nothing.
use Prim.Native.Nat.{ℕ}
use native.Mathlib.Omega.{arith}
use mathlib.Core.Path.{◌≡◌, refl, sym, ap, ap₂, subst, ◌∙◌}
use mathlib.Core.Bool.{true}
use mathlib.Core.List.{List, Memᴰ}
use mathlib.Core.Logic.{◌⊎◌, inl, inr, ◌≢◌, ◌↔◌}
use Rattle.refusals.specs.Sharing.{sharing_refusals}
use Rattle.steps.specs.State.{State}
use Rattle.steps.specs.Counting.{Exactly}
use Rattle.steps.proofs.Rows.{rows_many}
use Rattle.records.specs.Finished.{call_rows, answer_rows}
use Rattle.evaluator.specs.Evaluated.{Asked, refused_with, run_asked}
use Rattle.sharing.specs.Parties.{Party, first, second, goal_number, Account, Ledger, account_of, entered, ledger_words, ledger_of}
use Rattle.sharing.specs.Charged.{CallAs, AnswerAs, run_held, KeptCall, KeptAnswer, kept_calls, kept_answers, Balanced, Exceeds}
use Rattle.sharing.specs.Shared.{Panel, Reply, book_refusal, handed_back, gives_up, takes_up, AsKeptUnder, Entered, Alone, account, Shared, refused_book, refused_kept, refused_goal, refused_full, refused_list, listed}
use Rattle.sharing.proofs.Ledgers.{ProperAccount}
use Rattle.sharing.proofs.AsAlone.{Same, whatever_other}
use Rattle.sharing.proofs.Refusals.{refused_with_any}
use Rattle.sharing.proofs.Runs.{entered_ledger, gives_up_proper, takes_up_proper, refusal_few}

-- ---- the rows of a ledger

-- Two ledgers that keep the same, whatever they count.
abbrev SameAccounts : Ledger → Ledger → Type 0
SameAccounts l l' = (p : Party) → account_of l p ≡ account_of l' p

module _ (rules : List ℕ) (l l' : Ledger) (same : SameAccounts l l') where
  call_too : (c : ℕ × State) → KeptCall rules l c → KeptCall rules l' c
  call_too c (p, h, k) = (p, subst (λ (a : Account). a.holds ≡ true) (same p) h, subst (λ (a : Account). CallAs (goal_number p) (run_held rules a) c) (same p) k)

  answer_too : (c : ℕ × State × State) → KeptAnswer rules l c → KeptAnswer rules l' c
  answer_too c (p, h, k) = (p, subst (λ (a : Account). a.holds ≡ true) (same p) h, subst (λ (a : Account). AnswerAs (goal_number p) (run_held rules a) c) (same p) k)

exactly_too : {A : Type 0} {P Q : A → Type 0} {xs : List A} → ((x : A) → P x → Q x) → ((x : A) → Q x → P x) → Exactly P xs → Exactly Q xs
exactly_too f g e = record { once = e.once; members = λ x. (λ m. f x ((e.members x).0 m), λ q. (e.members x).1 (g x q)) }

module _ (rules : List ℕ) (l l' : Ledger) (same : SameAccounts l l') {calls answers calls' answers' : List ℕ} (B : Balanced rules l calls answers) (B' : Balanced rules l' calls' answers') where
  back : SameAccounts l' l
  back p = sym (same p)

  calls_too : Exactly (KeptCall rules l) (call_rows (kept_calls l' calls'))
  calls_too = exactly_too (call_too rules l' l back) (call_too rules l l' same) B'.calls_held

  answers_too : Exactly (KeptAnswer rules l) (answer_rows (kept_calls l' calls') (kept_answers l' answers'))
  answers_too = exactly_too (answer_too rules l' l back) (answer_too rules l l' same) B'.answers_held

  -- They count the same,
  pub counts_once : (l.calls ≡ l'.calls) × (l.answers ≡ l'.answers)
  counts_once = (rows_many _ _ B.calls_held _ _ calls_too, rows_many _ _ B.answers_held _ _ answers_too)

  -- and the tables hold the same calls and answers.
  pub calls_same : (c : ℕ × State) → Memᴰ c (call_rows (kept_calls l calls)) ↔ Memᴰ c (call_rows (kept_calls l' calls'))
  calls_same c = (λ m. (calls_too.members c).1 ((B.calls_held.members c).0 m), λ m. (B.calls_held.members c).1 ((calls_too.members c).0 m))

  pub answers_same : (c : ℕ × State × State) → Memᴰ c (answer_rows (kept_calls l calls) (kept_answers l answers)) ↔ Memᴰ c (answer_rows (kept_calls l' calls') (kept_answers l' answers'))
  answers_same c = (λ m. (answers_too.members c).1 ((B.answers_held.members c).0 m), λ m. (B.answers_held.members c).1 ((answers_too.members c).0 m))

-- The tables hold the same calls and the same answers, each counted by its ledger,
pub record SameIn (l : Ledger) (a : Panel) (l' : Ledger) (a' : Panel) : Type 0 where
  pub calls : (c : ℕ × State) → Memᴰ c (call_rows (kept_calls l a.calls)) ↔ Memᴰ c (call_rows (kept_calls l' a'.calls))
  pub answers : (c : ℕ × State × State) → Memᴰ c (answer_rows (kept_calls l a.calls) (kept_answers l a.answers))
      ↔ Memᴰ c (answer_rows (kept_calls l' a'.calls) (kept_answers l' a'.answers))

-- or by words kept.
abbrev pub SameRows : List ℕ → Panel → List ℕ → Panel → Type 0
SameRows kept a kept' a' = SameIn (ledger_of kept) a (ledger_of kept') a'

-- ---- the words kept

entered_same : (l : Ledger) (p : Party) (a : Account) (n m n' m' : ℕ) → SameAccounts (entered l p a n m) (entered l p a n' m')
unfolding account_of entered
entered_same l first a n m n' m' first = refl
entered_same l first a n m n' m' second = refl
entered_same l second a n m n' m' first = refl
entered_same l second a n m n' m' second = refl

entered_counts : (l : Ledger) (p : Party) (a : Account) (n m : ℕ) → ((entered l p a n m).calls ≡ n) × ((entered l p a n m).answers ≡ m)
unfolding entered
entered_counts l first a n m = (refl, refl)
entered_counts l second a n m = (refl, refl)

module _ (p : Party) (q : Asked) (words : List ℕ) {b a a' : Panel} {x : Account} {kept kept' : List ℕ} (proper : ProperAccount x) (E : Entered p q words b a x kept) (E' : Entered p q words b a' x kept') where
  abbrev now : Ledger
  now = entered (ledger_of words) p x E.calls E.answers

  abbrev now' : Ledger
  now' = entered (ledger_of words) p x E'.calls E'.answers

  held : Balanced q.rules now a.calls a.answers
  held = subst (λ (l : Ledger). Balanced q.rules l a.calls a.answers) (entered_ledger E proper) E.stands.balanced

  held' : Balanced q.rules now' a'.calls a'.answers
  held' = subst (λ (l : Ledger). Balanced q.rules l a'.calls a'.answers) (entered_ledger E' proper) E'.stands.balanced

  rows_entered : SameRows kept a kept' a'
  rows_entered = subst (λ (l : Ledger). SameIn l a (ledger_of kept') a') (sym (entered_ledger E proper))
      (subst (λ (l : Ledger). SameIn now a l a') (sym (entered_ledger E' proper))
      (let same = entered_same (ledger_of words) p x E.calls E.answers E'.calls E'.answers in
      record { calls = calls_same q.rules now now' same held held'; answers = answers_same q.rules now now' same held held' }))

  kept_once : kept ≡ kept'
  kept_once =
      let (n, m) = counts_once q.rules now now' (entered_same (ledger_of words) p x E.calls E.answers E'.calls E'.answers) held held' in
      let (c, d) = entered_counts (ledger_of words) p x E.calls E.answers in
      let (c', d') = entered_counts (ledger_of words) p x E'.calls E'.answers in
      E.kept_words ∙ ap₂ (λ (n m : ℕ). ledger_words (entered (ledger_of words) p x n m)) (sym c ∙ n ∙ c') (sym d ∙ m ∙ d') ∙ sym E'.kept_words

-- ---- a run

module _ (p : Party) (q : Asked) (words : List ℕ) (b : Panel) where
  -- what becomes of the party's account, and when
  data Fate (a : Panel) (kept : List ℕ) : Type 0 where
    stays : (book_refusal q ≢ 0) ⊎ (¬ AsKeptUnder q words b) → kept ≡ handed_back words → a ≡ b → Fate a kept
    goes : (refused_with q ≢ 0) ⊎ Exceeds (run_asked q) (account p q words) → Entered p q words b a (gives_up (account p q words)) kept → Fate a kept
    comes : refused_with q ≡ 0 → ¬ Exceeds (run_asked q) (account p q words) → Entered p q words b a (takes_up (account p q words) q) kept → Fate a kept

  fate : {a : Panel} {r : Reply} → Shared p q words b a r → Fate a r.kept
  fate (refused_book n z s) = stays (inl n) (ap (λ (r : Reply). r.kept) z) s
  fate (refused_kept k n z s) = stays (inr n) (ap (λ (r : Reply). r.kept) z) s
  fate (refused_goal n E z s) = goes (inl n) E
  fate (refused_full k x E z s) = goes (inr x) E
  fate (refused_list t E z l s) = comes t.accepted t.fits E
  fate (listed t E z l up s) = comes t.accepted t.fits E

  not_stays : {a : Panel} {x : Account} {kept : List ℕ} → Entered p q words b a x kept → (book_refusal q ≢ 0) ⊎ (¬ AsKeptUnder q words b) → ⊥
  not_stays E (inl n) = n E.accepted_book
  not_stays E (inr n) = n E.stood

  not_both : refused_with q ≡ 0 → ¬ Exceeds (run_asked q) (account p q words) → (refused_with q ≢ 0) ⊎ Exceeds (run_asked q) (account p q words) → ⊥
  not_both e f (inl n) = n e
  not_both e f (inr x) = f x

  fate_once : {a a' : Panel} {kept kept' : List ℕ} → Fate a kept → Fate a' kept' → kept ≡ kept'
  fate_once (stays h e s) (stays h' e' s') = e ∙ sym e'
  fate_once (stays h e s) (goes h' E') = absurd (not_stays E' h)
  fate_once (stays h e s) (comes k f E') = absurd (not_stays E' h)
  fate_once (goes h E) (stays h' e' s') = absurd (not_stays E h')
  fate_once (goes h E) (goes h' E') = kept_once p q words (gives_up_proper (account p q words)) E E'
  fate_once (goes h E) (comes k f E') = absurd (not_both k f h)
  fate_once (comes k f E) (stays h' e' s') = absurd (not_stays E h')
  fate_once (comes k f E) (goes h' E') = absurd (not_both k f h')
  fate_once (comes k f E) (comes k' f' E') = kept_once p q words (takes_up_proper (account p q words) q k) E E'

  rows_by : {a a' : Panel} {kept kept' : List ℕ} → Fate a kept → Fate a' kept' → SameRows kept a kept' a'
  rows_by (stays h e s) (stays h' e' s') = rw (e, e', s, s') (record { calls = λ c. (λ m. m, λ m. m); answers = λ c. (λ m. m, λ m. m) })
  rows_by (stays h e s) (goes h' E') = absurd (not_stays E' h)
  rows_by (stays h e s) (comes k f E') = absurd (not_stays E' h)
  rows_by (goes h E) (stays h' e' s') = absurd (not_stays E h')
  rows_by (goes h E) (goes h' E') = rows_entered p q words (gives_up_proper (account p q words)) E E'
  rows_by (goes h E) (comes k f E') = absurd (not_both k f h)
  rows_by (comes k f E) (stays h' e' s') = absurd (not_stays E h')
  rows_by (comes k f E) (goes h' E') = absurd (not_both k f h')
  rows_by (comes k f E) (comes k' f' E') = rows_entered p q words (takes_up_proper (account p q words) q k) E E'

  -- The rows of the tables after a run are determined,
  pub rows_determined : {a a' : Panel} {r r' : Reply} → Shared p q words b a r → Shared p q words b a' r' → SameRows r.kept a r'.kept a'
  rows_determined S T = rows_by (fate S) (fate T)

  -- and so are the words kept then.
  pub kept_determined : {a a' : Panel} {r r' : Reply} → Shared p q words b a r → Shared p q words b a' r' → r.kept ≡ r'.kept
  kept_determined S T = fate_once (fate S) (fate T)

  -- Tables as kept are not refused with 91.
  pub not_91 : {a : Panel} {r : Reply} → AsKeptUnder q words b → Shared p q words b a r → r.refusal ≢ sharing_refusals.not_as_kept
  not_91 K (refused_book n z s) e = omega (
    arith,
    e,
    ap (λ (r : Reply). r.refusal) z,
    refused_with_any q.fluents q.actions q.rules q.goal q.start n,
    refusal_few q.fluents q.actions q.rules q.goal q.start,
  )
  not_91 K (refused_kept k n z s) e = n K
  not_91 K (refused_goal n t z s) e = omega (arith, e, ap (λ (r : Reply). r.refusal) z, refusal_few q.fluents q.actions q.rules q.goal q.start)
  not_91 K (refused_full k x t z s) e = omega (arith, e, ap (λ (r : Reply). r.refusal) z)
  not_91 K (refused_list t u z l s) e = omega (arith, e, z)
  not_91 K (listed t u z l up s) e = omega (arith, e, z)

  abbrev ends_by : {a a' : Panel} → a ≡ b → a' ≡ b → a.ends ≡ a'.ends
  ends_by s s' = ap (λ (l : Panel). l.ends) s ∙ sym (ap (λ (l : Panel). l.ends) s')

  -- Two runs of one request over the same words and buffers give the same, keep the same words and leave the same list.
  pub shared_once : {a a' : Panel} {r r' : Reply} → Shared p q words b a r → Shared p q words b a' r' → (r ≡ r') × (a.ends ≡ a'.ends)
  shared_once {a} {a'} {r} {r'} S T = by S T
    where
      same : AsKeptUnder q words b → (r ≡ r') × (a.ends ≡ a'.ends)
      same K =
          let (s, e) = whatever_other p p q words words S T (not_91 K S) (not_91 K T) refl refl refl in
          ((λ k. record { refusal = s.refusal k; ends = s.ends k; calls = s.calls k; answers = s.answers k; kept = kept_determined S T k }), e)

      by : Shared p q words b a r → Shared p q words b a' r' → (r ≡ r') × (a.ends ≡ a'.ends)
      by (refused_book n z s) (refused_book n' z' s') = (z ∙ sym z', ends_by s s')
      by (refused_book n z s) (refused_kept k' n' z' s') = absurd (n k')
      by (refused_book n z s) (refused_goal n' E z' s') = absurd (n E.accepted_book)
      by (refused_book n z s) (refused_full k x E z' s') = absurd (n E.accepted_book)
      by (refused_book n z s) (refused_list t E z' l s') = absurd (n E.accepted_book)
      by (refused_book n z s) (listed t E z' l up s') = absurd (n E.accepted_book)
      by (refused_kept k n z s) (refused_book n' z' s') = absurd (n' k)
      by (refused_kept k n z s) (refused_kept k' n' z' s') = (z ∙ sym z', ends_by s s')
      by (refused_kept k n z s) (refused_goal n' E z' s') = absurd (n E.stood)
      by (refused_kept k n z s) (refused_full k' x E z' s') = absurd (n E.stood)
      by (refused_kept k n z s) (refused_list t E z' l s') = absurd (n E.stood)
      by (refused_kept k n z s) (listed t E z' l up s') = absurd (n E.stood)
      by (refused_goal n E z s) T' = same E.stood
      by (refused_full k x E z s) T' = same E.stood
      by (refused_list t E z l s) T' = same E.stood
      by (listed t E z l up s) T' = same E.stood
