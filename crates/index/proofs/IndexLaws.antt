-- Laws of the two indexes in the words lent: what the quarters put make of heads, links and queues. Assumes nothing.
use Prim.Native.Nat.{ℕ, ◌+◌, ◌-◌, ◌*◌, ◌/◌, ◌%◌, ◌^◌, ◌<◌, ◌≤◌}
use native.Mathlib.Omega.{arith}
use native.Mathlib.Decide.{ℕ_discrete, dec_lt}
use native.Mathlib.Nat.{div-one, one-mul, mod-lt, mod-eq_of_lt, lt_of_lt_of_le}
use mathlib.Core.Path.{◌≡◌, refl, sym, ap, ◌∙◌}
use mathlib.Core.List.{List, ◌++◌}
use mathlib.Core.Logic.{◌≢◌}
use lib.ListN.{length, get_or, get_or-append, length-append}
use lib.Seq.{get_or-append-add}
use lib.Count.{count_leading_zeros, leading_top}
use lib.Pow.{pow_pos, pow_mono, pow-lt}
use Rattle.steps.specs.State.{State}
use Rattle.quarters.specs.Quarters.{quarter, QuarterPut}
use Rattle.records.specs.Records.{Calls, room, call_width}
use Rattle.records.specs.Storage.{CallAt, CallAdded, NextAnswer}
use Rattle.desk.specs.Desk.{open_calls, packed_width, packed_answers}
use Rattle.index.specs.Index.{buckets, bucket, Covers, Queued, Reaches, Sought, Keyed, CallIndex, AnswerIndex, AnswersKeyed, heads_in, links_in, lasts_in, nexts_in, firsts_in}
use Rattle.index.specs.Index.{answer_notes, keys_in, Rechained, Noted, Forgotten, Chained, LastOf, Joined, AnswerNoted}
use Rattle.index.proofs.Chains.{covers_none, covers_more, covers_less, covers_same, queued_none, queued_same, queued_behind, queued_alone}

-- There are no more buckets than records.
buckets_few : (most : ℕ) → 0 < most → buckets most ≤ most
unfolding buckets
buckets_few most some = elim (dec_lt most (2 ^ 64)) [
  | yes h ↦ (let (j, e, low, high) = leading_top 64 most some h in let z : 63 - count_leading_zeros 64 most ≡ j = omega (arith, e) in rw z low)
  | no k ↦ (let l = pow_mono {i = 63 - count_leading_zeros 64 most} {j = 63} (omega arith) in omega (arith, l, k))
]

pub bucket_small : (most a s : ℕ) → 0 < most → bucket most a s < most
unfolding bucket buckets
bucket_small most a s some = lt_of_lt_of_le (mod-lt (s % 65521 + a % 65536 * 1021) (pow_pos (63 - count_leading_zeros 64 most))) (buckets_few most some)

-- A shift by less than 64 places is the power of two.
pub buckets_shl : (most : ℕ) → 1 * 2 ^ (63 - count_leading_zeros 64 most) % 2 ^ 64 ≡ buckets most
unfolding buckets
buckets_shl most = ap (λ (x : ℕ). x % 2 ^ 64) (one-mul _) ∙ mod-eq_of_lt (pow-lt {i = 63 - count_leading_zeros 64 most} {j = 64} (omega arith))

pub buckets_some : (most : ℕ) → 0 < buckets most
unfolding buckets
buckets_some most = pow_pos (63 - count_leading_zeros 64 most)

pub some_bucket : {n most : ℕ} → n ≢ 0 → n ≤ most → 0 < most
some_bucket d l = omega arith

-- The bucket of record i.
abbrev pub key_in : ℕ → ℕ → ℕ → List ℕ → ℕ → ℕ
key_in most unit width words i = bucket most (get_or words (width * i) 0 / unit) (get_or words (width * i + 1) 0)

-- ---- a quarter put: the other quarters of all words, and all quarters of the other words
module _ {words words' : List ℕ} {i j v : ℕ} (p : QuarterPut words i j v words') where
  pub put_beside : (k q : ℕ) → q < 4 → q ≢ j → quarter (get_or words' k 0) q ≡ quarter (get_or words k 0) q
  put_beside k q l d = by (ℕ_discrete k i)
    where
      by : Dec (k ≡ i) → quarter (get_or words' k 0) q ≡ quarter (get_or words k 0) q
      by (yes z) = rw z (p.changed.beside q l d)
      by (no n) = ap (λ (w : ℕ). quarter w q) (p.other k n)

  pub put_elsewhere : (k q : ℕ) → k ≢ i → quarter (get_or words' k 0) q ≡ quarter (get_or words k 0) q
  put_elsewhere k q n = ap (λ (w : ℕ). quarter w q) (p.other k n)

-- ---- heads and links
module _ {words words₁ words' : List ℕ} {base k n v : ℕ} where
  pub noted_by : v ≡ heads_in words base k → QuarterPut words (base + n) 2 v words₁ → QuarterPut words₁ (base + k) 3 n words'
      → Noted words base k n words'
  noted_by e p q = record {
    rechained = record {
      long = q.long ∙ p.long;
      below = λ x l. q.other x (omega arith) ∙ p.other x (omega arith);
      rest = λ x j l. put_beside q x j (omega arith) (omega arith) ∙ put_beside p x j (omega arith) (omega arith);
    };
    head = q.changed.here;
    heads = λ i d. put_elsewhere q (base + i) 3 (omega arith) ∙ put_beside p (base + i) 3 (omega arith) (omega arith);
    link = put_beside q (base + n) 2 (omega arith) (omega arith) ∙ p.changed.here ∙ e;
    links = λ i d. put_beside q (base + i) 2 (omega arith) (omega arith) ∙ put_elsewhere p (base + i) 2 (omega arith);
  }

rechained_on : {base : ℕ} {words words₁ words' : List ℕ} → Rechained base words words₁ → Rechained base words₁ words' → Rechained base words words'
rechained_on p q = record {
  long = q.long ∙ p.long;
  below = λ x l. q.below x l ∙ p.below x l;
  rest = λ x j l. q.rest x j l ∙ p.rest x j l;
}

-- The first records taken out from the latest down and noted from the first up.
module _ {most base : ℕ} {key : ℕ → ℕ} {words₀ : List ℕ} where
  module _ (i : ℕ) {k : ℕ} {words words' : List ℕ} (e : k ≡ key i) where
    pub chained_less : Chained most key (i + 1) base words₀ words → Forgotten words base k i words' → Chained most key i base words₀ words'
    chained_less c p = record {
      rechained = rechained_on c.rechained p.rechained;
      covers = covers_less most key _ _ _ _ i c.covers (rw (← e) p.head) (λ j d. p.heads j (λ y. d (y ∙ e))) p.links;
    }

    pub chained_more : k < most → Chained most key i base words₀ words → Noted words base k i words' → Chained most key (i + 1) base words₀ words'
    chained_more small c p = record {
      rechained = rechained_on c.rechained p.rechained;
      covers = covers_more most key key _ _ _ _ i k c.covers (λ j l. refl) (sym e) small p.head p.heads p.link (λ j l. p.links j (omega arith));
    }

-- ---- finding
module _ (most : ℕ) (calls : Calls) (a : ℕ) (D : State) (words : List ℕ) (base : ℕ) where
  key_of : (j : ℕ) → CallAt calls j a D → bucket most (calls.action j) (calls.state j) ≡ bucket most a D
  key_of j h = rw (h.has_action, h.has_state) refl

  pub sought_head : Keyed most calls words base → 0 < most → (k i : ℕ) → k ≡ bucket most a D → i ≡ heads_in words base k → Sought most calls a D i
  sought_head c some k i e z = rw (z, e) (λ j l h. c.head (bucket most a D) j (bucket_small most a D some) l (key_of j h))

  -- where record i is another, its link goes back and leads to them too
  pub sought_link : Keyed most calls words base → (i : ℕ) → Sought most calls a D i → (CallAt calls i a D → ⊥) → (before : ℕ) → before ≡ links_in words base i
      → (j : ℕ) → j < calls.count → CallAt calls j a D → (before < i) × Reaches most calls a D j before
  sought_link c i s not-here before e j l h =
      let (m, k, b) = s j l h in
      let other : j ≢ i = λ z. not-here (rw z at h) in
      let (x, y, g) = c.link i j m (omega arith) (key_of j h ∙ sym k) in
      rw e (x, (omega arith, y ∙ k, g))

pub answers_keyed : (answers : List ℕ) (m most : ℕ) → AnswersKeyed most answers m → Keyed most (keys_in 1 packed_width answers m) answers (packed_width * most)
answers_keyed answers m most c =
    covers_same c (λ i l. ap (λ (a : ℕ). bucket most a (get_or answers (packed_width * i + 1) 0)) (div-one _)) (λ k. refl) (λ i. refl)

-- Where heads and links alone were written, an answer's bucket is as it was.
pub key_same : {base : ℕ} {words words' : List ℕ} (most i : ℕ) → Rechained base words words' → packed_width * i + 2 ≤ base
    → key_in most 1 packed_width words' i ≡ key_in most 1 packed_width words i
key_same most i r l = rw (r.below (packed_width * i) (omega arith), r.below (packed_width * i + 1) (omega arith)) refl

-- The words of the answer table as two parts: the records, and behind them the notes.
module _ (front back : List ℕ) (most m : ℕ) (long : length front ≡ packed_width * most) (few : m ≤ most) where
  at_notes : (k : ℕ) → get_or (front ++ back) (packed_width * most + k) 0 ≡ get_or back (0 + k) 0
  at_notes k = let e : packed_width * most + k ≡ length front + (0 + k) = omega arith in rw e (get_or-append-add front back (0 + k) 0)

  at_keys : (i : ℕ) → i < m
      → bucket most (get_or (front ++ back) (packed_width * i) 0) (get_or (front ++ back) (packed_width * i + 1) 0) ≡ key_in most 1 packed_width front i
  at_keys i l = rw (get_or-append front back 0 (packed_width * i) (omega arith), get_or-append front back 0 (packed_width * i + 1) (omega arith))
      (ap (λ (a : ℕ). bucket most a (get_or front (packed_width * i + 1) 0)) (sym (div-one _)))

  pub parts_keyed : AnswersKeyed most (front ++ back) m → Keyed most (keys_in 1 packed_width front m) back 0
  parts_keyed c = covers_same c (λ i l. sym (at_keys i l)) (λ k. ap (λ (w : ℕ). quarter w 3) (sym (at_notes k))) (λ k. ap (λ (w : ℕ). quarter w 2) (sym (at_notes k)))

  pub keyed_parts : Keyed most (keys_in 1 packed_width front m) back 0 → AnswersKeyed most (front ++ back) m
  keyed_parts c = covers_same c at_keys (λ k. ap (λ (w : ℕ). quarter w 3) (at_notes k)) (λ k. ap (λ (w : ℕ). quarter w 2) (at_notes k))

pub parts_rechained : {back back' : List ℕ} (front : List ℕ) {b : ℕ} → length front ≡ b → Rechained 0 back back' → Rechained b (front ++ back) (front ++ back')
parts_rechained {back} {back'} front {b} long r = record {
  long = simp length-append (ap (λ (n : ℕ). length front + n) r.long);
  below = λ p l. get_or-append front back' 0 p (omega arith) ∙ sym (get_or-append front back 0 p (omega arith));
  rest = λ p j l. rest p j l (dec_lt p (length front));
}
  where
    rest : (p j : ℕ) → j < 2 → Dec (p < length front) → quarter (get_or (front ++ back') p 0) j ≡ quarter (get_or (front ++ back) p 0) j
    rest p j l (yes h) = ap (λ (w : ℕ). quarter w j) (get_or-append front back' 0 p h ∙ sym (get_or-append front back 0 p h))
    rest p j l (no h) =
        let k : ℕ = p - length front in
        let e : p ≡ length front + k = omega arith in
        rw (e, get_or-append-add front back' k 0, get_or-append-add front back k 0) (r.rest k j l)

-- ---- the index of the calls
-- Any words are an index of a table without records.
pub call_index_none : (calls list : List ℕ) → CallIndex calls list 0
call_index_none calls list = record { covers = covers_none _ _ _ _ _ refl }

-- It rests on the keys, and on heads and links.
pub call_index_same : {calls list calls' list' : List ℕ} {n : ℕ} → CallIndex calls list n → length calls' ≡ length calls
    → ((i : ℕ) → i < n → ((open_calls calls' n).action i ≡ (open_calls calls n).action i) × ((open_calls calls' n).state i ≡ (open_calls calls n).state i))
    → ((p j : ℕ) → j < 4 → 2 ≤ j → quarter (get_or list' p 0) j ≡ quarter (get_or list p 0) j) → CallIndex calls' list' n
call_index_same {calls} {list} {calls'} {list'} {n} c long same notes = record {
  covers = rw long (covers_same c.covers
      (λ i l. let (a, s) = same i l in rw (a, s) refl)
      (λ k. notes (0 + k) 3 (omega arith) (omega arith)) (λ i. notes (0 + i) 2 (omega arith) (omega arith)));
}

pub call_index_more : {calls list calls' list' : List ℕ} {n a k r : ℕ} {D : State} → CallIndex calls list n → length calls' ≡ length calls
    → CallAdded (open_calls calls n) a D r (open_calls calls' (n + 1)) → n < room call_width (length calls)
    → k ≡ bucket (room call_width (length calls)) a D → Noted list 0 k n list' → CallIndex calls' list' (n + 1)
call_index_more {calls} {n = n} {a} {k} {D = D} c long p few e z = record {
  covers = rw long (covers_more _ _ _ _ _ _ _ n k c.covers
      (λ i l. rw (p.action_kept i l, p.state_kept i l) refl)
      (rw (p.new.has_action, p.new.has_state) (sym e))
      (rw e (bucket_small _ a D (omega arith)))
      z.head z.heads z.link (λ i l. z.links i (omega arith)));
}

-- ---- the index of the answers
pub answer_index_none : (most : ℕ) (calls answers : List ℕ) → AnswerIndex most calls answers 0
answer_index_none most calls answers = record { covers = covers_none _ _ _ _ _ refl; queued = queued_none _ _ _ _ _ refl }

-- It rests on the first answers of the call records, the keys, and the words of notes.
pub answer_index_same : {calls answers calls' answers' : List ℕ} {most m : ℕ} → AnswerIndex most calls answers m
    → ((r : ℕ) → firsts_in calls' r ≡ firsts_in calls r)
    → ((x : ℕ) → x < m → ((packed_answers answers' m).call x ≡ (packed_answers answers m).call x) × ((packed_answers answers' m).final x ≡ (packed_answers answers m).final x))
    → ((p j : ℕ) → answer_notes most ≤ p → quarter (get_or answers' p 0) j ≡ quarter (get_or answers p 0) j) → AnswerIndex most calls' answers' m
answer_index_same {calls} {answers} {calls'} {answers'} {most} {m} c firsts same notes =
    let b = answer_notes most in
    record {
      covers = covers_same c.covers
          (λ i l. let (a, s) = same i l in rw (a, s) refl)
          (λ k. notes (b + k) 3 (omega arith)) (λ i. notes (b + i) 2 (omega arith));
      queued = queued_same _ _ _ _ _ _ _ _ m c.queued (λ x l. (same x l).0) firsts
          (λ r. ap (lasts_in answers' b) (firsts r) ∙ notes (b + firsts_in calls r) 1 (omega arith))
          (λ x. notes (b + x) 0 (omega arith));
    }

pub answer_index_calls : {calls calls' answers : List ℕ} {most m : ℕ} → AnswerIndex most calls answers m → ((r : ℕ) → firsts_in calls' r ≡ firsts_in calls r)
    → AnswerIndex most calls' answers m
answer_index_calls c firsts = answer_index_same c firsts (λ x l. (refl, refl)) (λ p j l. refl)

-- Where heads and links were written anew for records of the same call records in other order, the queues are as they were.
pub answer_index_again : {calls answers answers' : List ℕ} {most m : ℕ} → AnswerIndex most calls answers m → AnswersKeyed most answers' m
    → ((x : ℕ) → x < m → (packed_answers answers' m).call x ≡ (packed_answers answers m).call x)
    → ((p j : ℕ) → j < 2 → answer_notes most ≤ p → quarter (get_or answers' p 0) j ≡ quarter (get_or answers p 0) j) → AnswerIndex most calls answers' m
answer_index_again {calls} {answers} {answers'} {most} {m} c keyed same notes =
    let b = answer_notes most in
    record {
      covers = keyed;
      queued = queued_same _ _ _ _ _ _ _ _ m c.queued same (λ r. refl) (λ r. notes (b + firsts_in calls r) 1 (omega arith) (omega arith))
          (λ x. notes (b + x) 0 (omega arith) (omega arith));
    }

-- One answer more of call record `row`, whose first answer is f, or m where it has none.
module _ {calls answers : List ℕ} {most m row f last : ℕ} (c : AnswerIndex most calls answers m) (small : row < 65536)
    (found : NextAnswer (packed_answers answers m) m row 0 f) (l : LastOf answers (answer_notes most) f m last) where
  first_is : f < m → firsts_in calls row ≡ f
  first_is h =
      let (a, b, g) = c.queued.first row f small h (found.found h) in
      let none : firsts_in calls row < f → ⊥ = λ k. found.skipped (firsts_in calls row) (omega arith) k b in
      omega arith

  last_is : f < m → lasts_in answers (answer_notes most) (firsts_in calls row) ≡ last
  last_is h = ap (lasts_in answers (answer_notes most)) (first_is h) ∙ sym (l.held h)

  pub last_inside : last ≤ m
  last_inside = by (dec_lt f m)
    where
      by : Dec (f < m) → last ≤ m
      by (yes h) =
          let (a, b, g) = c.queued.last row f small h (found.found h) in
          let e = last_is h in
          omega arith
      by (no n) = let e = l.none (omega arith) in omega arith

  module _ {k : ℕ} {D : State} {calls' answers₁ answers' : List ℕ} (words : List ℕ) (e : k ≡ bucket most row D) (few : m < most)
      (put : QuarterPut calls (call_width * row + 2) 3 f calls')
      (noted : Noted answers (answer_notes most) k m answers₁) (joined : Joined answers₁ (answer_notes most) f last m answers')
      (kept : (x : ℕ) → x < m → ((packed_answers words m).call x ≡ (packed_answers answers m).call x) × ((packed_answers words m).final x ≡ (packed_answers answers m).final x))
      (new_call : (packed_answers words m).call m ≡ row) (new_final : (packed_answers words m).final m ≡ D)
      (notes : (p : ℕ) → answer_notes most ≤ p → get_or words p 0 ≡ get_or answers' p 0) where
    now_is : (x j : ℕ) → quarter (get_or words (answer_notes most + x) 0) j ≡ quarter (get_or answers' (answer_notes most + x) 0) j
    now_is x j = ap (λ (w : ℕ). quarter w j) (notes (answer_notes most + x) (omega arith))

    covers_one_more : Covers most (λ x. bucket most ((packed_answers words m).call x) ((packed_answers words m).final x)) (m + 1)
        (heads_in words (answer_notes most)) (links_in words (answer_notes most))
    covers_one_more = covers_more _ _ _ _ _ _ _ m k c.covers
        (λ i h. let (x, y) = kept i h in rw (x, y) refl)
        (rw (new_call, new_final) (sym e))
        (rw e (bucket_small _ row D (omega arith)))
        (now_is k 3 ∙ joined.rest _ 3 (omega arith) (omega arith) ∙ noted.head)
        (λ i d. now_is i 3 ∙ joined.rest _ 3 (omega arith) (omega arith) ∙ noted.heads i d)
        (now_is m 2 ∙ joined.rest _ 2 (omega arith) (omega arith) ∙ noted.link)
        (λ i h. now_is i 2 ∙ joined.rest _ 2 (omega arith) (omega arith) ∙ noted.links i (omega arith))

    firsts_kept : (r : ℕ) → r ≢ row → firsts_in calls' r ≡ firsts_in calls r
    firsts_kept r d = put_elsewhere put (call_width * r + 2) 3 (omega arith)

    end_is : lasts_in words (answer_notes most) (firsts_in calls' row) ≡ m
    end_is = ap (lasts_in words (answer_notes most)) put.changed.here ∙ now_is f 1 ∙ joined.end

    lasts_kept : (r y : ℕ) → r < 65536 → y < m → (packed_answers answers m).call y ≡ r → r ≢ row
        → lasts_in words (answer_notes most) (firsts_in calls' r) ≡ lasts_in answers (answer_notes most) (firsts_in calls r)
    lasts_kept r y s h g d =
        let (u, v, w) = c.queued.first r y s h g in
        let other : firsts_in calls r ≢ f = λ z. d (sym v ∙ ap (packed_answers answers m).call z ∙ found.found (omega arith)) in
        ap (lasts_in words (answer_notes most)) (firsts_kept r d) ∙ now_is (firsts_in calls r) 1 ∙ joined.lasts (firsts_in calls r) other
        ∙ noted.rechained.rest _ 1 (omega arith)

    nexts_kept : (x : ℕ) → x ≢ last → nexts_in words (answer_notes most) x ≡ nexts_in answers (answer_notes most) x
    nexts_kept x d = now_is x 0 ∙ joined.nexts x d ∙ noted.rechained.rest _ 0 (omega arith)

    queued_one_more : Queued (packed_answers words m).call (m + 1) (firsts_in calls') (λ r. lasts_in words (answer_notes most) (firsts_in calls' r))
        (nexts_in words (answer_notes most))
    queued_one_more = by (dec_lt f m)
      where
        first_kept : f < m → (r : ℕ) → Dec (r ≡ row) → firsts_in calls' r ≡ firsts_in calls r
        first_kept h r (yes z) = rw z (put.changed.here ∙ sym (first_is h))
        first_kept h r (no d) = firsts_kept r d

        by : Dec (f < m) → Queued (packed_answers words m).call (m + 1) (firsts_in calls') (λ r. lasts_in words (answer_notes most) (firsts_in calls' r))
            (nexts_in words (answer_notes most))
        by (yes h) =
            let (u, v, w) = c.queued.last row f small h (found.found h) in
            let z = last_is h in
            queued_behind _ _ _ _ _ _ _ _ m row c.queued (λ y g. (kept y g).0) new_call small end_is lasts_kept u v
            (λ r s. first_kept h r (ℕ_discrete r row))
            (ap (nexts_in words (answer_notes most)) z ∙ now_is last 0 ∙ joined.next)
            (λ x g d. nexts_kept x (λ y. d (y ∙ sym z)))
        by (no n) =
            let z = l.none (omega arith) in
            let g : f ≡ m = omega (arith, found.high) in
            queued_alone _ _ _ _ _ _ _ _ m row c.queued (λ y g. (kept y g).0) new_call small end_is lasts_kept
            (λ y h. found.skipped y (omega arith) (omega arith))
            (put.changed.here ∙ g)
            (λ r s d. firsts_kept r d)
            (λ x h. nexts_kept x (omega arith))

    pub answer_index_more : AnswerIndex most calls' words (m + 1)
    answer_index_more = record { covers = covers_one_more; queued = queued_one_more }

-- What the code notes of one answer more.
pub answer_noted_by : {calls answers calls' answers₁ answers' : List ℕ} {m row f last k : ℕ} {D : State} (most : ℕ) → AnswerIndex most calls answers m
    → row < 65536 → m < most → k ≡ bucket most row D
    → NextAnswer (packed_answers answers m) m row 0 f → LastOf answers (answer_notes most) f m last → QuarterPut calls (call_width * row + 2) 3 f calls'
    → Noted answers (answer_notes most) k m answers₁ → Joined answers₁ (answer_notes most) f last m answers' → AnswerNoted most calls answers m row D calls' answers'
answer_noted_by most c small few g found l put noted joined = record {
  kept = record {
    long = put.long;
    answers_long = joined.long ∙ noted.rechained.long;
    others = put.other;
    beside = λ j h. put.changed.beside j (omega arith) (omega arith);
  };
  below = λ p h. joined.below p h ∙ noted.rechained.below p h;
  index = λ words long kept new_call new_final notes. answer_index_more c small found l words g few put noted joined kept new_call new_final notes;
}
