-- A walk down the evidence by a stack of frames: what is still to be added, how long the walk can last, and one turn of it. A frame is a record and
-- one of its calls, kept as one number. Assumes nothing.
use Prim.Native.Nat.{ℕ, zero, suc, ◌+◌, ◌-◌, ◌*◌, ◌/◌, ◌%◌, ◌<◌, ◌≤◌}
use native.Mathlib.Omega.{arith}
use native.Mathlib.Numerals.{add-one}
use mathlib.Core.Path.{◌≡◌, refl, sym, ap, ◌∙◌}
use mathlib.Core.Bool.{Bool, true, false}
use mathlib.Core.List.{List, [], ◌++◌, append_assoc, append-nil}
use lib.ListN.{length, get_or, set, length-set, length-append}
use lib.Seq.{get_or-set_same, get_or-set_other}
use lib.Dec.{eqb}
use borrow.Author.Tests.{eqb-true, eqb-false}
use Rattle.steps.specs.State.{State}
use Rattle.steps.specs.Words.{step_of}
use Rattle.steps.specs.Inner.{is_call}
use Rattle.unfolding.specs.Path.{shown, adds}
use Rattle.unfolding.proofs.Walk.{Lent, Checked, adds_call, shown_small, words_at, step_at, evidence_at, added_by}
use Rattle.unfolding.proofs.Sizes.{Sized, Turned, size_of, turned_size}
use Rattle.unfolding.proofs.Rests.{state_at, rest, rest_first, rest_end, rest_next, goes_at, Fresh, begins, returns}

-- ---- how long the walk can last

-- k times b
unfoldable pub times : ℕ → ℕ → ℕ
times zero b = 0
times (suc k) b = b + times k b

-- The most turns that a record takes, of at most 16 steps, each of which uses a record below: one for its end, and those of its steps.
unfoldable pub height : ℕ → ℕ
height zero = 1
height (suc n) = suc (height n + times 16 (height n))

times_more : (j k b : ℕ) → j ≤ k → times j b ≤ times k b
unfolding times
times_more zero k b l = omega arith
times_more (suc j) zero b l = absurd (omega arith)
times_more (suc j) (suc k) b l = omega (arith, times_more j k b (omega arith))

times_step : (q b : ℕ) → q < 16 → times (16 - q) b ≡ b + times (16 - (q + 1)) b
unfolding times
times_step q b l = let e : 16 - q ≡ suc (16 - (q + 1)) = omega arith in rw e refl

height_some : (n : ℕ) → 0 < height n
unfolding height
height_some zero = omega arith
height_some (suc n) = omega (arith, height_some n)

height_more : (m n : ℕ) → m < n → height m + times 16 (height m) < height n
unfolding height
height_more m zero l = absurd (omega arith)
height_more m (suc n) l = by (eqb m n) refl (height_more m n)
  where
    by : (b : Bool) → eqb m n ≡ b → (m < n → height m + times 16 (height m) < height n) → height m + times 16 (height m) < suc (height n + times 16 (height n))
    by true z ih = rw (eqb-true m n z) (omega arith)
    by false z ih = let d : (m ≡ n → ⊥) = eqb-false m n z in omega (arith, ih (omega arith))

-- what the frames may still take
unfoldable pub weight : ℕ → List ℕ → ℕ
weight zero frames = 0
weight (suc d) frames = height (get_or frames d 0 % 65536) + times (16 - (get_or frames d 0 / 65536 + 1)) (height (get_or frames d 0 % 65536)) + weight d frames

-- the walk's measure
unfoldable pub turns_left : ℕ → ℕ → ℕ → List ℕ → ℕ
turns_left n q d frames = height n + times (16 - q) (height n) + weight d frames

weight_same : (d : ℕ) (frames frames' : List ℕ) → ((i : ℕ) → i < d → get_or frames' i 0 ≡ get_or frames i 0) → weight d frames' ≡ weight d frames
unfolding weight
weight_same zero frames frames' same = refl
weight_same (suc d) frames frames' same = rw (same d (omega arith), weight_same d frames frames' (λ i l. same i (omega arith))) refl

-- ---- one turn

-- From a call down to a record, with a frame for the way back, or from a record's end up to the step after the last frame's call.
pub data Moved (n q d to : ℕ) (frames : List ℕ) (n' q' d' : ℕ) (frames' : List ℕ) : Type 0 where
  down : to ≡ n' + 1 → q' ≡ 0 → d' ≡ d + 1 → frames' ≡ set frames d (n + 65536 * q) → Moved n q d to frames n' q' d' frames'
  up : to ≡ 0 → d ≡ d' + 1 → n' ≡ get_or frames d' 0 % 65536 → q' ≡ get_or frames d' 0 / 65536 + 1 → frames' ≡ frames → Moved n q d to frames n' q' d' frames'

pub moved_long : {n q d to : ℕ} {frames : List ℕ} {n' q' d' : ℕ} {frames' : List ℕ} → Moved n q d to frames n' q' d' frames' → length frames' ≡ length frames
moved_long {n} {q} {d} {frames = frames} (down t z e f) = ap length f ∙ length-set frames d (n + 65536 * q)
moved_long (up t e m o f) = ap length f

module _ (it : Lent) where
  -- What the frames add after their calls.
  unfoldable pub behind : ℕ → List ℕ → List State
  behind zero frames = []
  behind (suc d) frames = rest it (get_or frames d 0 % 65536) (get_or frames d 0 / 65536 + 1) ++ behind d frames

  -- What is still to be added where the walk stands at step q of record n above d frames.
  abbrev pub pending : ℕ → ℕ → ℕ → List ℕ → List State
  pending n q d frames = rest it n q ++ behind d frames

  behind_same : (d : ℕ) (frames frames' : List ℕ) → ((i : ℕ) → i < d → get_or frames' i 0 ≡ get_or frames i 0) → behind d frames' ≡ behind d frames
  unfolding behind
  behind_same zero frames frames' same = refl
  behind_same (suc d) frames frames' same = rw (same d (omega arith), behind_same d frames frames' (λ i l. same i (omega arith))) refl

  -- at first
  pub pending_first : (n : ℕ) (frames : List ℕ) → added_by it n ≡ pending n 0 0 frames
  unfolding behind
  pending_first n frames = rest_first it n ∙ sym (append-nil (rest it n 0))

  -- at the end of the first record
  pub pending_last : (n q : ℕ) (frames : List ℕ) → length (words_at it n) ≤ q → pending n q 0 frames ≡ []
  unfolding behind
  pending_last n q frames l = rw (rest_end it n q l) refl

  -- A frame that stands at place i of the stack: one of its record's calls.
  pub record Framed (asked i v : ℕ) : Type 0 where
    pub low : v % 65536 + i ≤ asked
    pub inside : v / 65536 < length (words_at it (v % 65536))
    pub called : is_call (step_at it (v % 65536) (v / 65536)) ≡ true

  -- The walk stands at step q of record n above d frames. Each frame is of a smaller record than the one below it, so there are few.
  pub record Sound (asked n q d : ℕ) (frames : List ℕ) : Type 0 where
    pub low : n + d ≤ asked
    pub within : q ≤ length (words_at it n)
    pub fresh : Fresh it n q
    pub each : (i : ℕ) → i < d → Framed asked i (get_or frames i 0)

  pub sound_first : (asked : ℕ) (frames : List ℕ) → Sound asked asked 0 0 frames
  sound_first asked frames = record { low = omega arith; within = omega arith; fresh = begins refl; each = λ i l. absurd (omega arith) }

  -- A run through record n's steps from p on stops at q: at the record's end, or at a call, to go on with a record that adds the same.
  pub record Stopped (n p q to : ℕ) : Type 0 where
    pub further : p ≤ q
    pub within : q ≤ length (words_at it n)
    pub short : q ≤ 16
    pub small : to ≤ n
    pub ends : to ≡ 0 → length (words_at it n) ≤ q
    pub called : (r : ℕ) → to ≡ r + 1 → (q < length (words_at it n)) × (q < 16) × (is_call (step_at it n q) ≡ true)
        × (r < n) × (added_by it r ≡ added_by it (evidence_at it n q))

  module _ {asked : ℕ} (c : Checked it (asked + 1)) (n p q d to : ℕ) (frames : List ℕ) (n' q' d' : ℕ) (frames' : List ℕ)
      (s : Sound asked n p d frames) (stop : Stopped n p q to) (room : asked < length frames) where
    few : asked < 65536
    few = omega (arith, c.readable.most)

    abbrev v : ℕ
    v = n + 65536 * q

    record_is : v % 65536 ≡ n
    record_is = omega (arith, few, s.low)

    step_is : v / 65536 ≡ q
    step_is = omega (arith, few, s.low)

    here : get_or (set frames d v) d 0 ≡ v
    here = get_or-set_same frames d v 0 (omega (arith, s.low))

    there : (i : ℕ) → i < d → get_or (set frames d v) i 0 ≡ get_or frames i 0
    there i l = get_or-set_other frames d i v 0 (λ e. omega arith)

    pub moved_sound : Moved n q d to frames n' q' d' frames' → Sound asked n' q' d' frames'
    moved_sound (down t z e f) =
        let (in_words_lem, in-sixteen, is, below, same) = stop.called n' t in
        rw (z, e, f) (record { low = omega (arith, s.low); within = omega arith; fresh = begins refl; each = all in_words_lem is })
      where
        all : q < length (words_at it n) → is_call (step_at it n q) ≡ true → (i : ℕ) → i < d + 1 → Framed asked i (get_or (set frames d v) i 0)
        all l k i h = by (eqb i d) refl
          where
            by : (b : Bool) → eqb i d ≡ b → Framed asked i (get_or (set frames d v) i 0)
            by true g = rw (eqb-true i d g, here) (record { low = omega (arith, s.low, record_is); inside = rw (record_is, step_is) l; called = rw (record_is, step_is) k })
            by false g = let ne : (i ≡ d → ⊥) = eqb-false i d g in rw (there i (omega arith)) (s.each i (omega arith))
    moved_sound (up t e m o f) =
        let frame = s.each d' (omega arith) in
        rw (m, o, f) (record { low = frame.low; within = omega (arith, frame.inside); fresh = returns _ refl frame.inside frame.called; each = λ i l. s.each i (omega arith) })

    -- nothing of what is to be added is lost
    pub moved_pending : Moved n q d to frames n' q' d' frames' → pending n q d frames ≡ pending n' q' d' frames'
    unfolding behind
    moved_pending (down t z e f) =
        let (in_words_lem, in-sixteen, is, below, same) = stop.called n' t in
        rw (z, e, f, add-one d, here, record_is, step_is, behind_same d frames (set frames d v) there) (by in_words_lem is same)
      where
        by : q < length (words_at it n) → is_call (step_at it n q) ≡ true → added_by it n' ≡ added_by it (evidence_at it n q)
            → rest it n q ++ behind d frames ≡ rest it n' 0 ++ (rest it n (q + 1) ++ behind d frames)
        by l k same =
            rw (rest_next it c n (omega (arith, s.low)) q l, adds_call (added_by it) (step_at it n q) (state_at it n (q + 1)) (evidence_at it n q) k, sym same, rest_first it n')
            (append_assoc (rest it n' 0) (rest it n (q + 1)) (behind d frames))
    moved_pending (up t e m o f) = rw (rest_end it n q (stop.ends t), e, add-one d', m, o, f) refl

    -- the walk comes to its end
    pub moved_less : Moved n q d to frames n' q' d' frames' → turns_left n' q' d' frames' < turns_left n p d frames
    unfolding turns_left weight
    moved_less (down t z e f) =
        let (in_words_lem, in-sixteen, is, below, same) = stop.called n' t in
        rw (z, e, f, add-one d, here, record_is, step_is, weight_same d frames (set frames d v) there)
        (omega (arith, height_more n' n below, height_some n, times_step q (height n) in-sixteen, times_more (16 - q) (16 - p) (height n) (omega (arith, stop.further))))
    moved_less (up t e m o f) =
        rw (e, add-one d', m, o, f) (omega (arith, height_some n))

  -- ---- counting

  -- A run that counted: from p to q of record n's steps.
  pub record Tallied (n p found q found' : ℕ) : Type 0 where
    pub counts : found + length (rest it n p) ≡ found' + length (rest it n q)
    pub small : found' ≤ found + 16777216 * (q - p)

  pub tallied_none : (n p found : ℕ) → Tallied n p found p found
  tallied_none n p found = record { counts = refl; small = omega arith }

  -- the whole stays the same
  pub tallied_pending : {n p found q found' : ℕ} (d : ℕ) (frames : List ℕ) → Tallied n p found q found'
      → found + length (pending n p d frames) ≡ found' + length (pending n q d frames)
  tallied_pending {n} {p} {q = q} d frames y =
      omega (arith, y.counts, length-append (rest it n p) (behind d frames), length-append (rest it n q) (behind d frames))

  module _ {count : ℕ} (c : Checked it count) (n : ℕ) (h : n < count) (q : ℕ) (l : q < length (words_at it n))
      {sizes : List ℕ} {cap size : ℕ} (z : Sized (added_by it) sizes n cap)
      (e : (t : ℕ) → size ≡ size_of sizes (step_at it n q) t (evidence_at it n q)) where
    turned : Turned it.plain it.calls it.answers sizes n (step_at it n q) (state_at it n q) (evidence_at it n q) (state_at it n (q + 1)) size
    turned = record { to = goes_at it c n h q l; sized = e _ }

    -- a step whose size is below the cap
    pub tallied_more : {p found sum : ℕ} → p ≤ q → cap ≤ 16777216 → size < cap → Tallied n p found q sum → Tallied n p found (q + 1) (sum + size)
    tallied_more {p} {found} {sum} le few lt y = record {
      counts = (let k : length (rest it n q) ≡ length (adds (added_by it) (step_of (step_at it n q)) (state_at it n (q + 1)) (evidence_at it n q)) + length (rest it n (q + 1)) =
          ap length (rest_next it c n h q l) ∙ length-append (adds (added_by it) (step_of (step_at it n q)) (state_at it n (q + 1)) (evidence_at it n q)) (rest it n (q + 1)) in
          omega (arith, y.counts, turned_size (added_by it) z turned));
      small = omega (arith, y.small);
    }

    -- one at the cap is a call
    pub large_call : 1 < cap → cap ≤ size → is_call (step_at it n q) ≡ true
    unfolding size_of
    large_call some le = by (is_call (step_at it n q)) refl
      where
        by : (b : Bool) → is_call (step_at it n q) ≡ b → is_call (step_at it n q) ≡ true
        by true k = k
        by false k =
            let s : size ≡ length (shown (step_of (step_at it n q)) 0) = rw k at (e 0) in
            absurd (omega (arith, shown_small (step_of (step_at it n q)) 0))
