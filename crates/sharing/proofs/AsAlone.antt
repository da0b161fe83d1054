-- "A party's ends, counts and refusals are the same as if it ran alone in tables of its limits, whatever the other's goal, start, limits, order of
-- runs or refusals." Assumes nothing.
use Prim.Native.Nat.{ℕ, ◌<◌, ◌≤◌}
use native.Mathlib.Omega.{arith}
use mathlib.Core.Path.{◌≡◌, refl, sym, ap, ap₂, ◌∙◌}
use mathlib.Core.List.{List, [], ◌++◌}
use mathlib.Core.Logic.{◌≢◌}
use lib.ListN.{length, drop}
use Rattle.refusals.specs.Run.{run_refusals}
use Rattle.refusals.specs.Sharing.{sharing_refusals}
use Rattle.steps.specs.Run.{End}
use Rattle.steps.specs.Counting.{Exactly, Rising}
use Rattle.steps.proofs.Counting.{exactly_long, rising_unique}
use Rattle.steps.proofs.Rows.{rows_length}
use Rattle.records.specs.Records.{room, call_width, answer_width}
use Rattle.evaluator.specs.Evaluated.{CallListShort, Asked, Lent, Told, refused_with, run_asked, Tabled, Evaluated}
use Rattle.evaluator.specs.Evaluated as evaluator
use Rattle.sharing.specs.Parties.{Party, vacant, account_of, ledger_of}
use Rattle.sharing.specs.Charged.{Exceeds}
use Rattle.sharing.specs.Shared.{Panel, Reply, Alone, account, Shared, refused_book, refused_kept, refused_goal, refused_full, refused_list, listed}
use Rattle.sharing.proofs.Refusals.{refused_with_any}

-- The counts that are 0 with all refusals but 31.
pub record NoCounts (r : Reply) : Type 0 where
  pub ends : r.ends ≡ 0
  pub calls : r.calls ≡ 0
  pub answers : r.answers ≡ 0

-- What a run alone in tables with room for so many calls and answers tells over a list, and the list then.
pub data Tells (q : Asked) (calls answers : ℕ) (list : List ℕ) (r : Reply) (list' : List ℕ) : Type 0 where
  bad : refused_with q ≢ 0 → r.refusal ≡ refused_with q → NoCounts r → list' ≡ list → Tells q calls answers list r list'
  full : refused_with q ≡ 0 → Exceeds (run_asked q) (vacant calls answers) → r.refusal ≡ run_refusals.tables_full → NoCounts r → list' ≡ list
      → Tells q calls answers list r list'
  short : Alone q (vacant calls answers) r → r.refusal ≡ run_refusals.list_short → length list < r.ends → list' ≡ list → Tells q calls answers list r list'
  all : (t : Alone q (vacant calls answers) r) → r.refusal ≡ 0 → r.ends ≤ length list → Rising t.ends → list' ≡ t.ends ++ drop r.ends list
      → Tells q calls answers list r list'

-- Two replies that say the same of the party's run.
pub record Same (r s : Reply) : Type 0 where
  pub refusal : r.refusal ≡ s.refusal
  pub ends : r.ends ≡ s.ends
  pub calls : r.calls ≡ s.calls
  pub answers : r.answers ≡ s.answers

none_same : {r s : Reply} → r.refusal ≡ s.refusal → NoCounts r → NoCounts s → Same r s
none_same e a b = record { refusal = e; ends = a.ends ∙ sym b.ends; calls = a.calls ∙ sym b.calls; answers = a.answers ∙ sym b.answers }

module _ {q : Asked} {calls answers : ℕ} {r s : Reply} where
  same_ends : Alone q (vacant calls answers) r → Alone q (vacant calls answers) s → r.ends ≡ s.ends
  same_ends t u = t.ends_many ∙ exactly_long t.ends_all u.ends_all ∙ sym u.ends_many

  alone_same : r.refusal ≡ s.refusal → Alone q (vacant calls answers) r → Alone q (vacant calls answers) s → Same r s
  alone_same e t u = record {
    refusal = e;
    ends = same_ends t u;
    calls = t.calls_many ∙ exactly_long t.calls_all u.calls_all ∙ sym u.calls_many;
    answers = t.answers_many ∙ exactly_long t.answers_all u.answers_all ∙ sym u.answers_many;
  }

  -- It tells one thing.
  pub tells_once : {list l m : List ℕ} → Tells q calls answers list r l → Tells q calls answers list s m → Same r s × (l ≡ m)
  tells_once (bad n e z w) (bad n' e' z' w') = (none_same (e ∙ sym e') z z', w ∙ sym w')
  tells_once (bad n e z w) (full a x e' z' w') = absurd (n a)
  tells_once (bad n e z w) (short t e' l w') = absurd (n t.accepted)
  tells_once (bad n e z w) (all t e' l up w') = absurd (n t.accepted)
  tells_once (full a x e z w) (bad n e' z' w') = absurd (n a)
  tells_once (full a x e z w) (full a' x' e' z' w') = (none_same (e ∙ sym e') z z', w ∙ sym w')
  tells_once (full a x e z w) (short t e' l w') = absurd (t.fits x)
  tells_once (full a x e z w) (all t e' l up w') = absurd (t.fits x)
  tells_once (short t e l w) (bad n e' z' w') = absurd (n t.accepted)
  tells_once (short t e l w) (full a x e' z' w') = absurd (t.fits x)
  tells_once (short t e l w) (short t' e' l' w') = (alone_same (e ∙ sym e') t t', w ∙ sym w')
  tells_once (short t e l w) (all t' e' l' up w') = absurd (omega (arith, same_ends t t'))
  tells_once (all t e l up w) (bad n e' z' w') = absurd (n t.accepted)
  tells_once (all t e l up w) (full a x e' z' w') = absurd (t.fits x)
  tells_once (all t e l up w) (short t' e' l' w') = absurd (omega (arith, same_ends t t'))
  tells_once {list} (all t e l up w) (all t' e' l' up' w') =
      let x = t.ends_all.members in
      let y = t'.ends_all.members in (
        alone_same (e ∙ sym e') t t',
        w ∙ ap₂ (λ (es : List ℕ) (n : ℕ). es ++ drop n list) (rising_unique up up' (λ D m. (y D).1 ((x D).0 m)) (λ D m. (x D).1 ((y D).0 m))) (same_ends t t') ∙ sym w',
      )

-- What an evaluation tells.
abbrev pub reply_of : Told → Reply
reply_of e = record { refusal = e.refusal; ends = e.ends; calls = e.calls; answers = e.answers; kept = [] }

module _ (q : Asked) (b a : Lent) (e : Told) where
  abbrev rooms : ℕ × ℕ
  rooms = (room call_width (length b.calls), room answer_width (length b.answers))

  -- an accepted evaluation within its rooms
  pub tabled_alone : Tabled q b a e → Alone q (vacant rooms.0 rooms.1) (reply_of e)
  tabled_alone t = record {
    accepted = t.accepted;
    fits = t.fits;
    calls = _;
    calls_all = t.finished.calls_held;
    calls_many = sym (rows_length _ e.calls);
    answers = _;
    answers_all = t.finished.answers_held;
    answers_many = sym (rows_length _ e.answers);
    ends = t.ends;
    ends_all = t.exactly;
    ends_many = sym t.counted;
  }

  told_none : (refusal : ℕ) → e ≡ evaluator.told refusal 0 0 0 0 → (e.refusal ≡ refusal) × NoCounts (reply_of e)
  told_none refusal z = (ap (λ (e : Told). e.refusal) z, record { ends = ap (λ (e : Told). e.ends) z; calls = ap (λ (e : Told). e.calls) z; answers = ap (λ (e : Told). e.answers) z })

  -- An evaluation whose list of calls is not too short tells that of its rooms.
  pub evaluated_tells : ¬ CallListShort b → Evaluated q b a e → Tells q rooms.0 rooms.1 b.ends (reply_of e) a.ends
  unfolding tabled_alone
  evaluated_tells long (evaluator.not_accepted n z s) = let (r, c) = told_none (refused_with q) z in bad n r c (ap (λ (l : Lent). l.ends) s)
  evaluated_tells long (evaluator.list_of_calls_short k h z s) = absurd (long h)
  evaluated_tells long (evaluator.outgrown k h f z s) = let (r, c) = told_none run_refusals.tables_full z in full k f r c (ap (λ (l : Lent). l.ends) s)
  evaluated_tells long (evaluator.short_list z t l s) = short (tabled_alone t) z l (ap (λ (l : Lent). l.ends) s)
  evaluated_tells long (evaluator.ends_listed z t l up s) = all (tabled_alone t) z l up (ap (λ (l : Lent). l.ends) s)

module _ (p : Party) (q : Asked) (words : List ℕ) (b a : Panel) (r : Reply) where
  reply_none : (refusal : ℕ) (kept : List ℕ) → r ≡ record { refusal = refusal; ends = 0; calls = 0; answers = 0; kept = kept } → (r.refusal ≡ refusal) × NoCounts r
  reply_none refusal kept z = (ap (λ (r : Reply). r.refusal) z, record { ends = ap (λ (r : Reply). r.ends) z; calls = ap (λ (r : Reply). r.calls) z; answers = ap (λ (r : Reply). r.answers) z })

  alone_limits : Alone q (account p q words) r → Alone q (vacant (account p q words).call_limit (account p q words).answer_limit) r
  alone_limits t = record {
    accepted = t.accepted;
    fits = t.fits;
    calls = t.calls;
    calls_all = t.calls_all;
    calls_many = t.calls_many;
    answers = t.answers;
    answers_all = t.answers_all;
    answers_many = t.answers_many;
    ends = t.ends;
    ends_all = t.ends_all;
    ends_many = t.ends_many;
  }

  -- A party's run that 91 does not refuse tells that of its limits.
  pub shared_tells : Shared p q words b a r → r.refusal ≢ sharing_refusals.not_as_kept
      → Tells q (account p q words).call_limit (account p q words).answer_limit b.ends r a.ends
  unfolding alone_limits
  shared_tells (refused_book n z s) h =
      let (f, c) = reply_none _ _ z in
      let w = refused_with_any q.fluents q.actions q.rules q.goal q.start n in
      bad (λ e. n (sym w ∙ e)) (f ∙ sym w) c (ap (λ (l : Panel). l.ends) s)
  shared_tells (refused_kept k n z s) h = absurd (h (ap (λ (r : Reply). r.refusal) z))
  shared_tells (refused_goal n t z s) h = let (f, c) = reply_none _ _ z in bad n f c s
  shared_tells (refused_full k x t z s) h = let (f, c) = reply_none _ _ z in full k x f c s
  shared_tells (refused_list t u z l s) h = short (alone_limits t) z l s
  shared_tells (listed t u z l up s) h = all (alone_limits t) z l up s

-- A party's ends, counts and refusals are those of an evaluation alone in tables of its limits, with the same list of ends (and a list of calls
-- that is not too short: there is none here).
pub as_alone : (p : Party) (q : Asked) (words : List ℕ) {b a : Panel} {r : Reply} → Shared p q words b a r → r.refusal ≢ sharing_refusals.not_as_kept
    → {b' a' : Lent} {e : Told} → Evaluated q b' a' e → ¬ CallListShort b' → b'.ends ≡ b.ends → room call_width (length b'.calls) ≡ (account p q words).call_limit
    → room answer_width (length b'.answers) ≡ (account p q words).answer_limit → Same r (reply_of e) × (a.ends ≡ a'.ends)
as_alone p q words {b} {a} {r} S n {b'} {a'} {e} E long list calls answers =
    let t : Tells q (account p q words).call_limit (account p q words).answer_limit b.ends (reply_of e) a'.ends =
    rw (calls, answers, list) at (evaluated_tells q b' a' e long E) in
    tells_once (shared_tells p q words b a r S n) t

-- They are the same whatever the other's goal, start, limits, order of runs or refusals, and for either party.
pub whatever_other : (p p' : Party) (q : Asked) (words words' : List ℕ) {b a b' a' : Panel} {r r' : Reply} → Shared p q words b a r → Shared p' q words' b' a' r'
    → r.refusal ≢ sharing_refusals.not_as_kept → r'.refusal ≢ sharing_refusals.not_as_kept → b'.ends ≡ b.ends
    → (account p' q words').call_limit ≡ (account p q words).call_limit → (account p' q words').answer_limit ≡ (account p q words).answer_limit
    → Same r r' × (a.ends ≡ a'.ends)
whatever_other p p' q words words' {b} {a} {b'} {a'} {r} {r'} S T n m list calls answers =
    let t : Tells q (account p q words).call_limit (account p q words).answer_limit b.ends r' a'.ends =
    rw (calls, answers, list) at (shared_tells p' q words' b' a' r' T m) in
    tells_once (shared_tells p q words b a r S n) t
