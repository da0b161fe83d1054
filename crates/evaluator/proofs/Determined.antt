-- What a request, the rooms and the list of ends determine of an evaluation, whatever the tables held: what it tells, and every buffer.
-- Assumes nothing.
use Prim.Native.Nat.{ℕ, ◌/◌, ◌≤◌, zero-le}
use native.Mathlib.Omega.{arith}
use native.Mathlib.Decide.{dec_lt}
use mathlib.Core.Path.{◌≡◌, refl, sym, ap, ap₂, subst, ◌∙◌}
use mathlib.Core.List.{List, map, ◌++◌, Memᴰ}
use mathlib.Core.Logic.{◌≢◌, inl, inr}
use lib.ListN.{length, drop, replicate, length-append, length-drop, length-map, length-replicate}
use Rattle.refusals.specs.Run.{run_refusals}
use Rattle.steps.specs.State.{State}
use Rattle.steps.specs.Run.{Goal, Answer, End}
use Rattle.steps.specs.Counting.{Exactly, Outnumbers, Rising, rows}
use Rattle.steps.proofs.Counting.{pigeonhole, exactly_long, rising_unique}
use Rattle.steps.specs.Widths.{rule_width}
use Rattle.steps.proofs.AcceptanceLaws.{start_accepted}
use Rattle.canonical.specs.Rows.{call_words, answer_words, filled}
use Rattle.canonical.specs.CallList.{call_list}
use Rattle.canonical.proofs.AfterRounds.{settled_once}
use Rattle.steps.proofs.Rows.{rows_length, rows_many, rows_outnumber}
use Rattle.records.specs.Records.{room, call_width, answer_width}
use Rattle.records.specs.Full.{Full}
use Rattle.evaluator.specs.Evaluated.{Asked, Lent, Told, lent, told, refused_with, run_asked, CallListShort, rows_asked, buffers_after, Tabled, Evaluated, not_accepted, list_of_calls_short, outgrown, short_list, ends_listed}

-- ---- what is told

module _ (q : Asked) {b₁ b₂ a₁ a₂ : Lent} {r₁ r₂ : Told} (t₁ : Tabled q b₁ a₁ r₁) (t₂ : Tabled q b₂ a₂ r₂) where
  few : length q.rules / rule_width ≤ 256
  few = (start_accepted q.fluents q.actions q.rules q.goal q.start t₁.accepted).0.few_rules

  same_ends : r₁.ends ≡ r₂.ends
  same_ends = sym t₁.counted ∙ exactly_long t₁.exactly t₂.exactly ∙ t₂.counted

  same_counts : r₁.refusal ≡ r₂.refusal → r₁ ≡ r₂
  same_counts e k = told (e k) (same_ends k)
      (rows_many _ _ t₁.finished.calls_held _ _ t₂.finished.calls_held k)
      (rows_many _ _ t₁.finished.answers_held _ _ t₂.finished.answers_held k)
      (settled_once q.rules q.goal few q.start t₁.settled t₂.settled k)

module _ (q : Asked) (b₁ b₂ : Lent) (calls : length b₁.calls ≡ length b₂.calls) (answers : length b₁.answers ≡ length b₂.answers)
    (ends : length b₁.ends ≡ length b₂.ends) (list : length b₁.list ≡ length b₂.list) where
  abbrev FullIn : Lent → Type 0
  FullIn b = Full (run_asked q) (length b.calls) (length b.answers)

  full_too : FullIn b₁ → FullIn b₂
  full_too f = rw (calls, answers) at f

  full_back : FullIn b₂ → FullIn b₁
  full_back f = rw (← calls, ← answers) at f

  short_too : CallListShort b₁ → CallListShort b₂
  short_too h = rw (calls, list) at h

  pub short_back : CallListShort b₂ → CallListShort b₁
  short_back h = rw (← calls, ← list) at h

  -- Two evaluations of one request in tables and lists of equal lengths tell the same, whatever the buffers held.
  pub one_result : {a₁ a₂ : Lent} {r₁ r₂ : Told} → Evaluated q b₁ a₁ r₁ → Evaluated q b₂ a₂ r₂ → r₁ ≡ r₂
  one_result (not_accepted n z s) (not_accepted n' z' s') = z ∙ sym z'
  one_result (not_accepted n z s) (list_of_calls_short a' h' z' s') = absurd (n a')
  one_result (not_accepted n z s) (outgrown a' k' f' z' s') = absurd (n a')
  one_result (not_accepted n z s) (short_list z' t' l' s') = absurd (n t'.accepted)
  one_result (not_accepted n z s) (ends_listed z' t' l' up' s') = absurd (n t'.accepted)
  one_result (list_of_calls_short a h z s) (not_accepted n' z' s') = absurd (n' a)
  one_result (list_of_calls_short a h z s) (list_of_calls_short a' h' z' s') = z ∙ sym z'
  one_result (list_of_calls_short a h z s) (outgrown a' k' f' z' s') = absurd (k' (short_too h))
  one_result (list_of_calls_short a h z s) (short_list z' t' l' s') = absurd (t'.listed (short_too h))
  one_result (list_of_calls_short a h z s) (ends_listed z' t' l' up' s') = absurd (t'.listed (short_too h))
  one_result (outgrown a k f z s) (not_accepted n' z' s') = absurd (n' a)
  one_result (outgrown a k f z s) (list_of_calls_short a' h' z' s') = absurd (k (short_back h'))
  one_result (outgrown a k f z s) (outgrown a' k' f' z' s') = z ∙ sym z'
  one_result (outgrown a k f z s) (short_list z' t' l' s') = absurd (t'.fits (full_too f))
  one_result (outgrown a k f z s) (ends_listed z' t' l' up' s') = absurd (t'.fits (full_too f))
  one_result (short_list z t l s) (not_accepted n' z' s') = absurd (n' t.accepted)
  one_result (short_list z t l s) (list_of_calls_short a' h' z' s') = absurd (t.listed (short_back h'))
  one_result (short_list z t l s) (outgrown a' k' f' z' s') = absurd (t.fits (full_back f'))
  one_result (short_list z t l s) (short_list z' t' l' s') = same_counts q t t' (z ∙ sym z')
  one_result (short_list z t l s) (ends_listed z' t' l' up' s') = absurd (omega (arith, same_ends q t t'))
  one_result (ends_listed z t l up s) (not_accepted n' z' s') = absurd (n' t.accepted)
  one_result (ends_listed z t l up s) (list_of_calls_short a' h' z' s') = absurd (t.listed (short_back h'))
  one_result (ends_listed z t l up s) (outgrown a' k' f' z' s') = absurd (t.fits (full_back f'))
  one_result (ends_listed z t l up s) (short_list z' t' l' s') = absurd (omega (arith, same_ends q t t'))
  one_result (ends_listed z t l up s) (ends_listed z' t' l' up' s') = same_counts q t t' (z ∙ sym z')

-- ---- the list of ends

-- The list of ends by the refusal: unchanged, or the ends that are counted and past them what it held.
pub data Listing (q : Asked) (before after : Lent) (r : Told) : Type 0 where
  as_it_was : r.refusal ≢ 0 → after.ends ≡ before.ends → Listing q before after r
  with_ends : r.refusal ≡ 0 → (t : Tabled q before after r) → r.ends ≤ length before.ends → Rising t.ends
      → after.ends ≡ t.ends ++ drop r.ends before.ends → Listing q before after r

as_lent : {before after : Lent} → after ≡ before
    → (length after.calls ≡ length before.calls) × (length after.answers ≡ length before.answers) × (length after.list ≡ length before.list)
as_lent s = (ap (λ (l : Lent). length l.calls) s, ap (λ (l : Lent). length l.answers) s, ap (λ (l : Lent). length l.list) s)

module _ {q : Asked} {before after : Lent} {r : Told} where
  pub listing : Evaluated q before after r → Listing q before after r
  listing (not_accepted n z s) = as_it_was (λ e. n (sym (ap (λ (r : Told). r.refusal) z) ∙ e)) (ap (λ (l : Lent). l.ends) s)
  listing (list_of_calls_short a h z s) = as_it_was (λ e. omega (arith, ap (λ (r : Told). r.refusal) z)) (ap (λ (l : Lent). l.ends) s)
  listing (outgrown a h f z s) = as_it_was (λ e. omega (arith, ap (λ (r : Told). r.refusal) z)) (ap (λ (l : Lent). l.ends) s)
  listing (short_list z t l s) = as_it_was (λ e. omega (arith, z)) (ap (λ (l : Lent). l.ends) s)
  listing (ends_listed z t l up s) = with_ends z t l up (ap (λ (l : Lent). l.ends) s)

  -- An evaluation that is not refused left finished tables.
  pub unrefused_tabled : Evaluated q before after r → r.refusal ≡ 0 → Tabled q before after r
  unrefused_tabled E e = go (listing E)
    where
      go : Listing q before after r → Tabled q before after r
      go (as_it_was n s) = absurd (n e)
      go (with_ends z t l up s) = t

  -- ---- lengths

  pub list_kept : Evaluated q before after r → length after.ends ≡ length before.ends
  list_kept E = go (listing E)
    where
      go : Listing q before after r → length after.ends ≡ length before.ends
      go (as_it_was n s) = ap length s
      go (with_ends z t l up s) = ap length s ∙ simp (length-append, length-drop) (omega (arith, t.counted))

  -- The tables and the list of calls keep their lengths.
  pub tables_kept : Evaluated q before after r
      → (length after.calls ≡ length before.calls) × (length after.answers ≡ length before.answers) × (length after.list ≡ length before.list)
  tables_kept (not_accepted n z s) = as_lent s
  tables_kept (list_of_calls_short a h z s) = as_lent s
  tables_kept (outgrown a h f z s) = (
    ap (λ (l : Lent). length l.calls) s ∙ length-replicate {A = ℕ} (length before.calls) 0,
    ap (λ (l : Lent). length l.answers) s ∙ length-replicate {A = ℕ} (length before.answers) 0,
    ap (λ (l : Lent). length l.list) s ∙ length-replicate {A = ℕ} (length before.list) 0,
  )
  tables_kept (short_list z t l s) = (t.calls_long, t.answers_long, t.list_long)
  tables_kept (ends_listed z t l up s) = (t.calls_long, t.answers_long, t.list_long)

-- Two evaluations of one request, in tables and lists of calls of equal lengths and one list of ends, leave the same list of ends, whatever the
-- other buffers held.
module _ (q : Asked) (b₁ b₂ : Lent) (calls : length b₁.calls ≡ length b₂.calls) (answers : length b₁.answers ≡ length b₂.answers)
    (ends : b₁.ends ≡ b₂.ends) (list : length b₁.list ≡ length b₂.list) {a₁ a₂ : Lent} {r₁ r₂ : Told} where
  pub same_list : Evaluated q b₁ a₁ r₁ → Evaluated q b₂ a₂ r₂ → a₁.ends ≡ a₂.ends
  same_list E F = go (one_result q b₁ b₂ calls answers (ap length ends) list E F) (listing E) (listing F)
    where
      go : r₁ ≡ r₂ → Listing q b₁ a₁ r₁ → Listing q b₂ a₂ r₂ → a₁.ends ≡ a₂.ends
      go e (as_it_was n s) (as_it_was n' s') = s ∙ ends ∙ sym s'
      go e (as_it_was n s) (with_ends z t l up s') = absurd (n (ap (λ (r : Told). r.refusal) e ∙ z))
      go e (with_ends z t l up s) (as_it_was n s') = absurd (n (sym (ap (λ (r : Told). r.refusal) e) ∙ z))
      go e (with_ends z t l up s) (with_ends z' t' l' up' s') =
          let x = t.exactly.members in
          let y = t'.exactly.members in
          s ∙ ap₂ ◌++◌ (rising_unique up up' (λ D m. (y D).1 ((x D).0 m)) (λ D m. (x D).1 ((y D).0 m))) (ap₂ drop (ap (λ (r : Told). r.ends) e) ends) ∙ sym s'

-- ---- the tables and the list of calls

-- Two evaluations of one accepted request in buffers of equal lengths, of which the list of calls is not short, leave equal tables and equal lists of
-- calls, word for word, whatever the buffers held.
module _ (q : Asked) (b₁ b₂ : Lent) (calls : length b₁.calls ≡ length b₂.calls) (answers : length b₁.answers ≡ length b₂.answers)
    (ends : length b₁.ends ≡ length b₂.ends) (list : length b₁.list ≡ length b₂.list) (ok : refused_with q ≡ 0) (long : ¬ CallListShort b₁) where
  -- what an evaluation leaves, by what it tells
  data Left (b a : Lent) (r : Told) : Type 0 where
    cleared : r.refusal ≡ run_refusals.tables_full → (ends : List ℕ)
        → a ≡ lent (replicate (length b.calls) 0) (replicate (length b.answers) 0) ends (replicate (length b.list) 0) → Left b a r
    filled_in : r.refusal ≢ run_refusals.tables_full → (ends : List ℕ) → a ≡ buffers_after q r.rounds b ends → Left b a r

  left : {b a : Lent} {r : Told} → ¬ CallListShort b → Evaluated q b a r → Left b a r
  left k (not_accepted n z s) = absurd (n ok)
  left k (list_of_calls_short a h z s) = absurd (k h)
  left k (outgrown a h f z s) = cleared (ap (λ (r : Told). r.refusal) z) _ s
  left k (short_list z t l s) = filled_in (λ e. omega (arith, z, e)) _ s
  left k (ends_listed z t l up s) = filled_in (λ e. omega (arith, z, e)) _ s

  abbrev Same : Lent → Lent → Type 0
  Same a₁ a₂ = (a₁.calls ≡ a₂.calls) × (a₁.answers ≡ a₂.answers) × (a₁.list ≡ a₂.list)

  pub one_table : {a₁ a₂ : Lent} {r₁ r₂ : Told} → Evaluated q b₁ a₁ r₁ → Evaluated q b₂ a₂ r₂ → Same a₁ a₂
  one_table {a₁} {a₂} {r₁} {r₂} E F = go (one_result q b₁ b₂ calls answers ends list E F) (left long E) (left (λ h. long (short_back q b₁ b₂ calls answers ends list h)) F)
    where
      go : r₁ ≡ r₂ → Left b₁ a₁ r₁ → Left b₂ a₂ r₂ → Same a₁ a₂
      go e (cleared z x s) (cleared z' x' s') = (
        ap (λ (k : Lent). k.calls) s ∙ ap (λ (n : ℕ). replicate n 0) calls ∙ sym (ap (λ (k : Lent). k.calls) s'),
        ap (λ (k : Lent). k.answers) s ∙ ap (λ (n : ℕ). replicate n 0) answers ∙ sym (ap (λ (k : Lent). k.answers) s'),
        ap (λ (k : Lent). k.list) s ∙ ap (λ (n : ℕ). replicate n 0) list ∙ sym (ap (λ (k : Lent). k.list) s'),
      )
      go e (cleared z x s) (filled_in n y s') = absurd (n (sym (ap (λ (r : Told). r.refusal) e) ∙ z))
      go e (filled_in n x s) (cleared z y s') = absurd (n (ap (λ (r : Told). r.refusal) e ∙ z))
      go e (filled_in n x s) (filled_in n' x' s') = let rounds = ap (λ (r : Told). r.rounds) e in (
        ap (λ (k : Lent). k.calls) s ∙ ap₂ (λ (k m : ℕ). filled k (call_words (rows_asked q m).calls)) calls rounds ∙ sym (ap (λ (k : Lent). k.calls) s'),
        ap (λ (k : Lent). k.answers) s ∙ ap₂ (λ (k m : ℕ). filled k (answer_words (rows_asked q m).answers)) answers rounds ∙ sym (ap (λ (k : Lent). k.answers) s'),
        ap (λ (k : Lent). k.list) s ∙ ap₂ (λ (k m : ℕ). filled k (call_list (rows_asked q m).calls)) list rounds ∙ sym (ap (λ (k : Lent). k.list) s'),
      )

-- ---- the counts

-- The counts are within the rooms, and no more are ends than answers.
pub record InRooms (before : Lent) (r : Told) : Type 0 where
  pub calls : r.calls ≤ room call_width (length before.calls)
  pub answers : r.answers ≤ room answer_width (length before.answers)
  pub ends : r.ends ≤ r.answers

within : {X : Type 0} {P : X → Type 0} (row : ℕ → X) (n k : ℕ) → Exactly P (rows row n) → ¬ Outnumbers P k → n ≤ k
within row n k e f = elim (dec_lt k n) [ yes o ↦ absurd (f ((rows_outnumber row n e k).1 o)) | no o ↦ omega arith ]

mem_map : {A B : Type 0} (f : A → B) {a : A} {xs : List A} → Memᴰ a xs → Memᴰ (f a) (map f xs)
mem_map f (Memᴰ.head e) = Memᴰ.head (ap f e)
mem_map f (Memᴰ.tail m) = Memᴰ.tail (mem_map f m)

abbrev final : ℕ × State × State → State
final c = c.2

-- each end is of an answer of its own, that of the goal at its start
ends_answers : (q : Asked) {xs : List State} {ys : List (ℕ × State × State)} → Exactly (End (run_asked q)) xs → Exactly (Answer (run_asked q)) ys → length xs ≤ length ys
ends_answers q {ys = ys} e f =
    omega (arith, length-map ys final, pigeonhole e.once (λ D k. mem_map final ((f.members (Goal, q.start, D)).1 (inl (refl, refl), (e.members D).0 k))))

nothing : (before : Lent) (refusal : ℕ) → InRooms before (told refusal 0 0 0 0)
nothing before refusal = record { calls = zero-le; answers = zero-le; ends = zero-le }

module _ (q : Asked) {before after : Lent} {r : Told} where
  pub tabled_rooms : Tabled q before after r → InRooms before r
  tabled_rooms t = record {
    calls = within _ _ _ t.finished.calls_held (λ o. t.fits (inl o));
    answers = within _ _ _ t.finished.answers_held (λ o. t.fits (inr o));
    ends = rw (t.counted, rows_length) at (ends_answers q t.exactly t.finished.answers_held);
  }

  -- The counts of every evaluation are within the rooms of the tables lent: so no count is over 65,536.
  pub in_rooms : Evaluated q before after r → InRooms before r
  in_rooms (not_accepted n z s) = subst (InRooms before) (sym z) (nothing before (refused_with q))
  in_rooms (list_of_calls_short a h z s) = subst (InRooms before) (sym z) (nothing before run_refusals.call_list_short)
  in_rooms (outgrown a h f z s) = subst (InRooms before) (sym z) (nothing before run_refusals.tables_full)
  in_rooms (short_list z t l s) = tabled_rooms t
  in_rooms (ends_listed z t l up s) = tabled_rooms t
