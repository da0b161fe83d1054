-- The steps still to do as the tail of the body's words, and how the code's turn comes out. Assumes nothing.
use Prim.Native.Nat.{ℕ, ◌+◌, ◌-◌, ◌<◌, ◌≤◌}
use native.Mathlib.Omega.{arith}
use mathlib.Core.Path.{◌≡◌, refl, ap, ◌∙◌}
use mathlib.Core.Bool.{false}
use mathlib.Core.List.{List}
use lib.ListN.{length, get_or, set, take, drop, length-drop}
use lib.Seq.{get_or-drop, get_or-set_same, get_or-set_other, take_all, drop-drop}
use Rattle.steps.specs.State.{State}
use Rattle.steps.specs.Inner.{is_call}
use Rattle.records.specs.Records.{Bodies}
use Rattle.records.specs.Storage.{NextAnswer}
use Rattle.desk.specs.Desk.{open_calls, packed_answers, CallsOpen, AnswersOpen}
use Rattle.uses.specs.Uses.{Uses}
use Rattle.records.proofs.Growth.{Tables, tables}
use Rattle.index.specs.Index.{CallIndex, AnswerIndex}
use Rattle.tabling.proofs.Measure.{left, left_back}
use Rattle.tabling.proofs.Moves.{Node}
use Rattle.invariants.proofs.Cold.{Last}
use Rattle.invariants.proofs.Turn.{Before, Picked, of_all, of_looked, of_new, RetreatRow, Turning, Turned, Over, turned_over, turned_take}

-- Both tables in their words, while the run lasts.
abbrev pub in_words : List ℕ → ℕ → List ℕ → ℕ → Tables
in_words calls n answers m = tables (open_calls calls n) (packed_answers answers m)

pub record Kept (most : ℕ) (calls list : List ℕ) (n : ℕ) (answers : List ℕ) (m : ℕ) : Type 0 where
  pub calls_open : CallsOpen calls list n
  pub answers_open : AnswersOpen most answers m

-- Their indexes are in order.
pub record Indexed (most : ℕ) (calls list : List ℕ) (n : ℕ) (answers : List ℕ) (m : ℕ) : Type 0 where
  pub of_calls : CallIndex calls list n
  pub of_answers : AnswerIndex most calls answers m

-- how many records are counted is of no account to a search among those known
pub next_among : (words : List ℕ) {k known row from r : ℕ} (m : ℕ) → NextAnswer (packed_answers words k) known row from r → NextAnswer (packed_answers words m) known row from r
next_among words m n = record { low = n.low; high = n.high; skipped = n.skipped; found = n.found }

pub picked_among : (words : List ℕ) {uses : Uses} {body chosen : List ℕ} {P : Before} {k known row at r j : ℕ} (m : ℕ) → Picked (packed_answers words k) uses known row P body chosen at r j → Picked (packed_answers words m) uses known row P body chosen at r j
picked_among words m (of_all n) = of_all (next_among words m n)
picked_among words m (of_looked o w e f) = of_looked o w e (record { high = f.high; found = f.found; skipped = f.skipped })
picked_among words m (of_new o w l f) = of_new o w l (record { high = f.high; found = f.found; skipped = f.skipped })

pub retreat_among : (words : List ℕ) {body chosen : List ℕ} {k known at r j : ℕ} (m : ℕ) → RetreatRow body (packed_answers words k) known chosen at r j → RetreatRow body (packed_answers words m) known chosen at r j
retreat_among words m R = record { low = R.low; spent = R.spent; found = λ p e. let (c, l, n) = R.found p e in (c, l, next_among words m n) }

-- What the code leaves where it goes back.
pub record WentBack (body answers : List ℕ) (known : ℕ) (chosen : List ℕ) (at : ℕ) (chosen' : List ℕ) (r : ℕ) (s : Node) : Type 0 where
  pub j : ℕ
  pub row : RetreatRow body (packed_answers answers known) known chosen at r j
  pub taken : (p : ℕ) → r ≡ p + 1 → (chosen' ≡ set chosen p j) × (s ≡ ((packed_answers answers known).final j, j + 1))

-- ---- the tail

module _ (rest body : List ℕ) (at : ℕ) (q : rest ≡ drop at body) where
  pub tail_some : 0 < length rest → at < length body
  tail_some h = omega (arith, ap length q, length-drop at body)

  pub tail_none : length rest ≤ 0 → length body ≤ at
  tail_none h = omega (arith, ap length q, length-drop at body)

  pub tail_word : get_or rest 0 0 ≡ get_or body at 0
  tail_word = ap (λ (l : List ℕ). get_or l 0 0) q ∙ get_or-drop at body 0 0 ∙ ap (λ (i : ℕ). get_or body i 0) (omega arith)

  -- no call comes after the step in front
  pub tail_last : ((p : ℕ) → 0 < p → p < length rest → is_call (get_or rest p 0) ≡ false) → Last body at
  tail_last n p l h =
      let e : get_or rest (p - at) 0 ≡ get_or body p 0 = ap (λ (w : List ℕ). get_or w (p - at) 0) q ∙ get_or-drop at body (p - at) 0 ∙ ap (λ (i : ℕ). get_or body i 0) (omega arith) in
      rw (← e) (n (p - at) (omega arith) (omega (arith, ap length q, length-drop at body)))

whole_tail : (body : List ℕ) (p : ℕ) {rest : List ℕ} → rest ≡ take (length body - p) (drop p body) → rest ≡ drop p body
whole_tail body p e = e ∙ take_all (length body - p) (drop p body) (omega (arith, length-drop p body))

module _ (bodies : Bodies) (Root : ℕ → State → Type 0) (b : Tables) (known rule row walk : ℕ) (P : Before) (body : List ℕ) where
  -- The walk whose steps still to do are `rest`.
  pub record Going (t : Tables) (marks : ℕ → ℕ) (uses : Uses) (chosen rest : List ℕ) (s : Node) : Type 0 where
    pub tail : rest ≡ drop (length body - length rest) body
    pub turning : Turning bodies Root b known rule row walk P body t marks uses chosen (length body - length rest) s

  pub going_start : {t : Tables} {marks : ℕ → ℕ} {uses : Uses} {chosen : List ℕ} {s : Node} → Turning bodies Root b known rule row walk P body t marks uses chosen 0 s → Going t marks uses chosen body s
  going_start T = let z : length body - length body ≡ 0 = omega arith in record { tail = rw z refl; turning = rw z T }

  module _ {t : Tables} {marks : ℕ → ℕ} {uses : Uses} {chosen rest : List ℕ} {s : Node} where
    pub going_fits : Going t marks uses chosen rest s → length rest ≤ length body
    going_fits g = omega (arith, ap length g.tail, length-drop (length body - length rest) body)

    -- the place at which a tail begins
    place_of : (p : ℕ) → Turning bodies Root b known rule row walk P body t marks uses chosen p s → rest ≡ drop p body → length body - length rest ≡ p
    place_of p T e = let i : p ≤ length body = T.walking.inside in omega (arith, ap length e, length-drop p body)

    going_at : (p : ℕ) → Turning bodies Root b known rule row walk P body t marks uses chosen p s → rest ≡ drop p body → Going t marks uses chosen rest s
    going_at p T e = let z = place_of p T e in record { tail = rw z e; turning = rw z T }

    -- `&body[p..]`
    pub going_back : (p : ℕ) → Turning bodies Root b known rule row walk P body t marks uses chosen p s → rest ≡ take (length body - p) (drop p body) → Going t marks uses chosen rest s
    going_back p T e = going_at p T (whole_tail body p e)

    pub back_less : {l : ℕ} (p : ℕ) → Turning bodies Root b known rule row walk P body t marks uses chosen p s → rest ≡ take (length body - p) (drop p body) → left known chosen p < l → left known chosen (length body - length rest) < l
    back_less p T e h = rw (place_of p T (whole_tail body p e)) h

  -- `&rest[1..]`
  module _ {t u : Tables} {marks : ℕ → ℕ} {uses : Uses} {chosen : List ℕ} {marks' : ℕ → ℕ} {uses' : Uses} {chosen' rest rest' : List ℕ} {s s' : Node} (g : Going t marks uses chosen rest s)
      (T : Turning bodies Root b known rule row walk P body u marks' uses' chosen' (length body - length rest + 1) s') (e : rest' ≡ take (length rest - 1) (drop 1 rest)) where
    next_tail : rest' ≡ drop (length body - length rest + 1) body
    next_tail = e ∙ take_all (length rest - 1) (drop 1 rest) (omega (arith, length-drop 1 rest)) ∙ ap (drop 1) g.tail ∙ drop-drop 1 (length body - length rest) body

    pub going_on : Going u marks' uses' chosen' rest' s'
    going_on = going_at (length body - length rest + 1) T next_tail

    pub on_less : {l : ℕ} → left known chosen' (length body - length rest + 1) < l → left known chosen' (length body - length rest') < l
    on_less h = rw (place_of (length body - length rest + 1) T next_tail) h

  -- ---- back
  module _ (calls : List ℕ) (n : ℕ) (answers : List ℕ) (m : ℕ) {marks : ℕ → ℕ} {uses : Uses} {chosen chosen' : List ℕ} {at r : ℕ} {s s' : Node} (T : Turned bodies Root b known rule row walk P body (in_words calls n answers m) marks uses chosen at s)
      (w : WentBack body answers known chosen at chosen' r s') where
    pub went_over : r ≡ 0 → Over bodies Root b known rule row walk P body (in_words calls n answers m) marks uses
    went_over e = turned_over bodies Root b known rule row walk P body T (rw e at (retreat_among answers m w.row))

    pub went_on : (p : ℕ) → r ≡ p + 1 → Turning bodies Root b known rule row walk P body (in_words calls n answers m) marks uses chosen' r s' × (left known chosen' r < left known chosen at)
    went_on p e =
        let (c, f) = w.taken p e in
        let R = retreat_among answers m w.row in
        let R' : RetreatRow body (packed_answers answers m) known chosen at (p + 1) w.j = rw e at R in
        let inside : at ≤ length body = T.turning.walking.inside in
        let (call, i, nx) = R.found p e in
        let low : p < 16 = omega (arith, R.low, T.turning.chosen_long, T.turning.walking.inside, short) in
        let len : p < length chosen = omega (arith, T.turning.chosen_long) in (
          rw (e, c, f) (turned_take bodies Root b known rule row walk P body T p R'),
          rw (e, c) (left_back known chosen (set chosen p w.j) at p (λ q l. get_or-set_other chosen p q w.j 0 (omega arith)) low (omega (arith, R.low))
              (rw (get_or-set_same chosen p w.j 0 len) (omega (arith, nx.low))) (rw (get_or-set_same chosen p w.j 0 len) i)),
        )
      where
        short : length body ≤ 16
        short = rw T.turning.given.words (T.turning.given.proper.short rule _ T.turning.given.fits)
