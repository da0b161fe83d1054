-- Writing a long path: its states one after another, by a walk down the evidence. Assumes nothing.
use Prim.Native.Nat.{ℕ, suc, ◌+◌, ◌-◌, ◌<◌, ◌≤◌}
use native.Mathlib.Omega.{arith}
use native.Mathlib.Nat.{add-zero}
use mathlib.Core.Path.{◌≡◌, refl, sym, ap, subst, ◌∙◌}
use mathlib.Core.Bool.{Bool, true, false}
use mathlib.Core.List.{List, [], ◌∷◌, ◌++◌, append_assoc, append-nil}
use lib.ListN.{length, get_or, drop, set, length-set, length-append, length-drop}
use lib.Seq.{get_or-set_same, get_or-set_other, get_or-append-add, get_or-drop, ext_get_or}
use lib.Dec.{ltb, eqb}
use borrow.Author.Tests.{ltb-true, ltb-false, eqb-true, eqb-false}
use Rattle.steps.specs.State.{State}
use Rattle.steps.specs.Step.{Step}
use Rattle.steps.specs.Words.{step_of}
use Rattle.steps.specs.Inner.{is_call}
use Rattle.steps.proofs.WordLaws.{call_word}
use Rattle.unfolding.specs.Path.{shown, adds}
use Rattle.unfolding.proofs.Walk.{Lent, Checked, leads_below, adds_call, adds_shown, shown_small, shown_new, words_at, step_at, evidence_at, added_by}
use Rattle.unfolding.proofs.Lies.{Lies, lies_left, lies_right, lies_longer, Agree, agree_keep}
use Rattle.unfolding.proofs.Rests.{state_at, rest, rest_next, goes_at}
use Rattle.unfolding.proofs.Frames.{behind, pending, pending_first}
use Rattle.unfolding.proofs.Leads.{Lead, none, same, Led, CallLead}

-- a call shows nothing itself
call_shown : (w : ℕ) (t : State) → is_call w ≡ true → shown (step_of w) t ≡ []
unfolding shown
call_shown w t k = rw (call_word w k) refl

-- m is l with a part of the wanted list written from k on, and no word that is not wanted.
pub record Put (part : List State) (k : ℕ) (l m : List ℕ) : Type 0 where
  pub long : length m ≡ length l
  pub keeps : (wanted : List ℕ) → Lies part k wanted → (x : ℕ) → Agree wanted l x → Agree wanted m x
  pub fills : (wanted : List ℕ) → Lies part k wanted → (i : ℕ) → i < length part → Agree wanted m (k + i)

pub put_none : (k : ℕ) (l : List ℕ) → Put [] k l l
put_none k l = record { long = refl; keeps = λ d p x a. a; fills = λ d p i h. absurd (omega arith) }

-- what one step shows: nothing, or its new state
pub put_unshown : (x : Step) (t : State) (k : ℕ) (l : List ℕ) → length (shown x t) ≡ 0 → Put (shown x t) k l l
put_unshown x t k l e = record { long = refl; keeps = λ d p y a. a; fills = λ d p i h. absurd (omega arith) }

pub put_shown : (x : Step) (t : State) (k : ℕ) (l : List ℕ) → 0 < length (shown x t) → k < length l → Put (shown x t) k l (set l k t)
put_shown x t k l some room = record {
  long = length-set l k t;
  keeps = λ d p. agree_keep d l k t room (right d p);
  fills = λ d p i h. (let z : i ≡ 0 = omega (arith, shown_small x t) in rw (z, add-zero) (get_or-set_same l k t 0 room ∙ right d p));
}
  where
    right : (d : List ℕ) → Lies (shown x t) k d → t ≡ get_or d k 0
    right d p = let first : get_or d (k + 0) 0 ≡ t = p.same 0 some ∙ shown_new x t some in sym (rw add-zero at first)

-- one part behind another
put_more : (a b : List State) {k : ℕ} {l m o : List ℕ} → Put a k l m → Put b (k + length a) m o → Put (a ++ b) k l o
put_more a b {k} {l} {m} {o} y z = record {
  long = z.long ∙ y.long;
  keeps = λ d p x g. z.keeps d (lies_right a b p) x (y.keeps d (lies_left a b p) x g);
  fills = λ d p i h. by d p i h (ltb i (length a)) refl;
}
  where
    by : (d : List ℕ) → Lies (a ++ b) k d → (i : ℕ) → i < length (a ++ b) → (t : Bool) → ltb i (length a) ≡ t → Agree d o (k + i)
    by d p i h true t = z.keeps d (lies_right a b p) (k + i) (y.fills d (lies_left a b p) i (ltb-true i (length a) t))
    by d p i h false t =
        let ge = ltb-false i (length a) t in
        let e : k + length a + (i - length a) ≡ k + i = omega arith in
        subst (λ (j : ℕ). Agree d o j) e (z.fills d (lies_right a b p) (i - length a) (omega (arith, length-append a b)))

module _ (it : Lent) where
  -- m is l with what the steps p to q of record n add written from k on.
  pub record Ran (n p k q k' : ℕ) (l m : List ℕ) : Type 0 where
    pub part : List State
    pub split : rest it n p ≡ part ++ rest it n q
    pub next : k' ≡ k + length part
    pub put : Put part k l m

  pub ran_none : (n p k : ℕ) (l : List ℕ) → Ran n p k p k l l
  ran_none n p k l = record { part = []; split = refl; next = omega arith; put = put_none k l }

  -- how much room is left
  pub ran_room : {n p k q k' : ℕ} {l m : List ℕ} → Ran n p k q k' l m → k' + length (rest it n q) ≡ k + length (rest it n p)
  ran_room {n} {p} {k} {q} y = omega (arith, y.next, ap length y.split, length-append y.part (rest it n q))

  module _ {count : ℕ} (c : Checked it count) (n : ℕ) (h : n < count) (q : ℕ) (r : q < length (words_at it n))
      {leads : List ℕ} {to : ℕ} (z : Led (added_by it) leads n) (s : CallLead leads (step_at it n q) (evidence_at it n q) to) where
    abbrev w : ℕ
    w = step_at it n q

    abbrev t : State
    t = state_at it n (q + 1)

    abbrev e : ℕ
    e = evidence_at it n q

    -- one that stands for a record is a call, and the record adds the same
    pub lead_stops : (x : ℕ) → to ≡ x + 1 → (is_call w ≡ true) × (x < n) × (added_by it x ≡ added_by it e)
    lead_stops x a = by (is_call w) refl
      where
        by : (b : Bool) → is_call w ≡ b → (is_call w ≡ true) × (x < n) × (added_by it x ≡ added_by it e)
        by true k =
            let below = leads_below k (goes_at it c n h q r) in
            of (z.at e below) below
          where
            of : Lead (added_by it) e (get_or leads e 0) → e < n → (is_call w ≡ true) × (x < n) × (added_by it x ≡ added_by it e)
            of (none g f) below = absurd (omega (arith, s.of_call k))
            of (same y g le f) below =
                let y_is : x ≡ y = omega (arith, s.of_call k) in
                (k, omega arith, ap (added_by it) y_is ∙ f)
        by false k = absurd (omega (arith, s.of_other k))

    -- a step that stands for nothing shows all that it adds
    shows : to ≡ 0 → adds (added_by it) (step_of w) t e ≡ shown (step_of w) t
    shows none-to = by (is_call w) refl
      where
        by : (b : Bool) → is_call w ≡ b → adds (added_by it) (step_of w) t e ≡ shown (step_of w) t
        by true k = adds_call (added_by it) w t e k ∙ of (z.at e (leads_below k (goes_at it c n h q r)))
          where
            of : Lead (added_by it) e (get_or leads e 0) → added_by it e ≡ shown (step_of w) t
            of (none a g) = g ∙ sym (call_shown w t k)
            of (same x a le g) = absurd (omega (arith, s.of_call k))
        by false k = adds_shown (added_by it) w t e k

    split_shown : to ≡ 0 → rest it n q ≡ shown (step_of w) t ++ rest it n (q + 1)
    split_shown none-to = rest_next it c n h q r ∙ ap (λ (a : List State). a ++ rest it n (q + 1)) (shows none-to)

    pub size_room : to ≡ 0 → length (shown (step_of w) t) ≤ length (rest it n q)
    size_room none-to = omega (arith, ap length (split_shown none-to), length-append (shown (step_of w) t) (rest it n (q + 1)))

    pub ran_more : {p k at at' : ℕ} {l m o : List ℕ} → to ≡ 0 → at' ≡ at + length (shown (step_of w) t) → Ran n p k q at l m → Put (shown (step_of w) t) at m o → Ran n p k (q + 1) at' l o
    ran_more {p} {k} {at} none-to g y new = record {
      part = y.part ++ shown (step_of w) t;
      split = y.split ∙ ap (λ (a : List State). y.part ++ a) (split_shown none-to) ∙ sym (append_assoc y.part (shown (step_of w) t) (rest it n (q + 1)));
      next = omega (arith, y.next, length-append y.part (shown (step_of w) t));
      put = put_more y.part (shown (step_of w) t) y.put (rw y.next at new);
    }

  -- ---- the whole walk

  -- The states found stand in the list, and those to come are what is pending.
  pub record Unrolling (asked n q d : ℕ) (frames : List ℕ) (k : ℕ) (l m : List ℕ) : Type 0 where
    pub part : List State
    pub split : added_by it asked ≡ part ++ pending it n q d frames
    pub next : k ≡ 1 + length part
    pub put : Put part 1 l m

  pub unrolling_first : (asked : ℕ) (frames l : List ℕ) → Unrolling asked asked 0 0 frames 1 l l
  unrolling_first asked frames l = record { part = []; split = pending_first it asked frames; next = omega arith; put = put_none 1 l }

  pub unrolling_room : {asked n q d : ℕ} {frames : List ℕ} {k : ℕ} {l m : List ℕ} → Unrolling asked n q d frames k l m
      → k + length (rest it n q) ≤ 1 + length (added_by it asked)
  unrolling_room {asked} {n} {q} {d} {frames} y =
      omega (arith, y.next, ap length y.split, length-append y.part (pending it n q d frames), length-append (rest it n q) (behind it d frames))

  pub unrolling_more : {asked n p d : ℕ} {frames : List ℕ} {k q k' : ℕ} {l m o : List ℕ} → Unrolling asked n p d frames k l m → Ran n p k q k' m o → Unrolling asked n q d frames k' l o
  unrolling_more {asked} {n} {p} {d} {frames} {k} {q} {k'} {l} {m} {o} y r = record {
    part = y.part ++ r.part;
    split = y.split ∙ ap (λ (a : List State). y.part ++ (a ++ behind it d frames)) r.split
        ∙ ap (λ (a : List State). y.part ++ a) (append_assoc r.part (rest it n q) (behind it d frames))
        ∙ sym (append_assoc y.part r.part (pending it n q d frames));
    next = omega (arith, y.next, r.next, length-append y.part r.part);
    put = put_more y.part r.part y.put (rw y.next at r.put);
  }

  pub unrolling_moved : {asked n q d : ℕ} {frames : List ℕ} {n' q' d' : ℕ} {frames' : List ℕ} {k : ℕ} {l m : List ℕ}
      → pending it n q d frames ≡ pending it n' q' d' frames' → Unrolling asked n q d frames k l m → Unrolling asked n' q' d' frames' k l m
  unrolling_moved e y = record { part = y.part; split = y.split ∙ ap (λ (a : List State). y.part ++ a) e; next = y.next; put = y.put }

  pub unrolling_all : {asked n q d : ℕ} {frames : List ℕ} {k : ℕ} {l m : List ℕ} → Unrolling asked n q d frames k l m → pending it n q d frames ≡ []
      → Put (added_by it asked) 1 l m
  unrolling_all {asked} {n} {q} {d} {frames} {k} {l} {m} y e =
      subst (λ (a : List State). Put a 1 l m) (sym (y.split ∙ ap (λ (a : List State). y.part ++ a) e ∙ append-nil y.part)) y.put

-- the whole path: the first state, and what is put behind it
pub unrolled : (s : State) (added : List State) (l m : List ℕ) → length added < length l → Put added 1 (set l 0 s) m → m ≡ (s ∷ added) ++ drop (suc (length added)) l
unrolled s added l m room y = ext_get_or 0 m all same_long (λ i h. by i (eqb i 0) (ltb i (length (s ∷ added))) refl refl)
  where
    all : List State
    all = (s ∷ added) ++ drop (length (s ∷ added)) l

    lies : Lies added 1 all
    lies = lies_longer (s ∷ added) (drop (length (s ∷ added)) l) (record { bound = omega arith; same = λ i h. (let e : 1 + i ≡ suc i = omega arith in rw e refl) })

    same_long : length m ≡ length all
    same_long = y.long ∙ length-set l 0 s ∙ (let d = length-drop (length (s ∷ added)) l in let e = length-append (s ∷ added) (drop (length (s ∷ added)) l) in omega arith)

    tail : (i : ℕ) → length (s ∷ added) ≤ i → get_or all i 0 ≡ get_or l i 0
    tail i h =
        let e : length (s ∷ added) + (i - length (s ∷ added)) ≡ i = omega arith in
        subst (λ (j : ℕ). get_or all j 0 ≡ get_or l j 0) e (get_or-append-add (s ∷ added) (drop (length (s ∷ added)) l) (i - length (s ∷ added)) 0 ∙ get_or-drop (length (s ∷ added)) l (i - length (s ∷ added)) 0)

    by : (i : ℕ) (b d : Bool) → eqb i 0 ≡ b → ltb i (length (s ∷ added)) ≡ d → get_or m i 0 ≡ get_or all i 0
    by i true d z q = rw (eqb-true i 0 z) (y.keeps all lies 0 (get_or-set_same l 0 s 0 (omega arith)))
    by i false true z q =
        let ne : (i ≡ 0 → ⊥) = eqb-false i 0 z in
        let lt : i < length (s ∷ added) = ltb-true i (length (s ∷ added)) q in
        let e : 1 + (i - 1) ≡ i = omega arith in
        subst (λ (j : ℕ). Agree all m j) e (y.fills all lies (i - 1) (omega arith))
    by i false false z q =
        let ne : (i ≡ 0 → ⊥) = eqb-false i 0 z in
        y.keeps all lies i (get_or-set_other l 0 i s 0 ne ∙ sym (tail i (ltb-false i (length (s ∷ added)) q)))
