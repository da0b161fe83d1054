-- The invariants of the nest of loops that fills the tables, and what it leaves. Each loop's invariant starts from the tables (marked ₀)
-- that stood where that loop began. Assumes nothing.
use Prim.Native.Nat.{ℕ, ◌+◌, ◌-◌, ◌<◌, ◌≤◌}
use native.Mathlib.Omega.{arith}
use mathlib.Core.Path.{◌≡◌, refl, sym, ap, ◌∙◌}
use mathlib.Core.Bool.{Bool, true, false}
use mathlib.Core.List.Memᴰ
use mathlib.Core.List.{List, [], ◌∷◌}
use mathlib.Core.Logic.{inl}
use lib.ListN.{length}
use Rattle.steps.specs.State.{State}
use Rattle.steps.proofs.EachBelow.{true_not_false}
use Rattle.steps.proofs.AcceptanceLaws.{AcceptedWords}
use Rattle.steps.proofs.Deductions.{Does}
use Rattle.steps.proofs.Tables.{Reached}
use Rattle.steps.proofs.Rows.{table_full}
use Rattle.records.specs.Records.{Calls, Answers, Bodies, room, call_width}
use Rattle.desk.specs.Desk.{packed_answers, mark_words, round_top}
use Rattle.records.specs.Storage.{CallAt, CallPut, call_stood, call_added, call_no_room}
use Rattle.records.proofs.Growth.{Tables, tables}
use Rattle.records.proofs.Justification.{Has}
use Rattle.tabling.proofs.Evidence.{Among, Valid}
use Rattle.marks.specs.Marks.{Stamped}
use Rattle.records.specs.Bodies.{number_at}
use Rattle.tabling.proofs.Adding.{Outgrown}
use Rattle.invariants.proofs.Turn.{Begin, begin, Given, before}
use Rattle.tabling.proofs.Moves.{Node}
use Rattle.uses.specs.Uses.{UsesGrew, Spans, Lit, heat, uses_in}
use Rattle.invariants.proofs.Rounds.{Round, Rows, Rules}
use Rattle.tabling.proofs.Closed.{Whole}
use Rattle.tabling.proofs.Found.{Made, Gathered, Rounds, RoundsOver}
use Rattle.invariants.proofs.Going.{Kept, Indexed, Going, in_words}

-- The words lent keep their lengths, the tables and the indexes their order, and no use is forgotten.
pub record Words (most : ℕ) (calls₀ list₀ answers₀ calls list : List ℕ) (n : ℕ) (answers : List ℕ) (m : ℕ) : Type 0 where
  pub calls_long : length calls ≡ length calls₀
  pub list_long : length list ≡ length list₀
  pub answers_long : length answers ≡ length answers₀
  pub kept : Kept most calls list n answers m
  pub indexed : Indexed most calls list n answers m
  pub uses_more : UsesGrew (uses_in calls₀ list₀) (uses_in calls list)

-- The rules with either goal are accepted.
abbrev pub Accepted : List ℕ → List ℕ → List ℕ → Type 0
Accepted rules goal goal' = (fluents : ℕ) × (actions : ℕ) × AcceptedWords fluents actions rules goal × AcceptedWords fluents actions rules goal'

-- Where a round begins: what is known of the tables for some roots.
pub record Standing (bodies : Bodies) (most r first walked seen : ℕ) (calls list : List ℕ) (n : ℕ) (answers : List ℕ) (m walk : ℕ) : Type 0 where
  pub kept : Kept most calls list n answers m
  pub indexed : Indexed most calls list n answers m
  pub stamped : Stamped (mark_words calls) walk
  pub stale : (k : ℕ) → heat (uses_in calls list) k ≤ seen - 1
  pub sooner : (x : ℕ) → x < m → (packed_answers answers m).round x < r
  pub early : r < round_top
  pub roots : List (ℕ × State)
  pub round : Round bodies (Among roots) first walked seen (in_words calls n answers m) (uses_in calls list)

-- What it leaves: where all is closed with the answers that stood then, or there are more calls or answers than places.
pub record Went (bodies : Bodies) (most r first walked seen : ℕ) (calls₀ list₀ : List ℕ) (n₀ : ℕ) (answers₀ : List ℕ) (m₀ : ℕ)
    (full : Bool) (calls list : List ℕ) (n : ℕ) (answers : List ℕ) (m walk : ℕ) : Type 0 where
  pub calls_long : length calls ≡ length calls₀
  pub list_long : length list ≡ length list₀
  pub answers_long : length answers ≡ length answers₀
  pub kept : Kept most calls list n answers m
  pub indexed : Indexed most calls list n answers m
  pub rows_in : full ≡ false → n₀ ≤ n
  pub known_in : full ≡ false → m₀ ≤ m
  pub stamped : full ≡ false → Stamped (mark_words calls) walk
  pub stale : (k : ℕ) → heat (uses_in calls list) k ≤ m₀ - 1
  pub sooner : full ≡ false → (x : ℕ) → x < m → (packed_answers answers m).round x < r + 1
  pub made : full ≡ false → Made bodies r (in_words calls₀ n₀ answers₀ m₀) (in_words calls n answers m)
  pub gathered : full ≡ false → first ≡ 0 → Gathered bodies r (in_words calls₀ n₀ answers₀ m₀) (in_words calls n answers m)
  pub next : full ≡ false → (roots : List (ℕ × State))
      → Round bodies (Among roots) first walked seen (in_words calls₀ n₀ answers₀ m₀) (uses_in calls₀ list₀)
      → Round bodies (Among roots) first n₀ m₀ (in_words calls n answers m) (uses_in calls list)
      × (n + m ≡ n₀ + m₀ → Whole bodies (Among roots) first (in_words calls n answers m))
  pub outgrown : full ≡ true → (roots : List (ℕ × State))
      → Round bodies (Among roots) first walked seen (in_words calls₀ n₀ answers₀ m₀) (uses_in calls₀ list₀)
      → Outgrown bodies (Among roots) (room call_width (length calls₀)) most

module _ (bodies : Bodies) (most first : ℕ) (calls₀ list₀ : List ℕ) (n₀ : ℕ) (answers₀ : List ℕ) (m₀ : ℕ) where
  abbrev t₀ : Tables
  t₀ = in_words calls₀ n₀ answers₀ m₀

  -- the rounds, for roots that held at first
  pub record Rounding (rounds walked seen : ℕ) (calls list : List ℕ) (n : ℕ) (answers : List ℕ) (m walk : ℕ) : Type 0 where
    pub calls_long : length calls ≡ length calls₀
    pub list_long : length list ≡ length list₀
    pub answers_long : length answers ≡ length answers₀
    pub kept : Kept most calls list n answers m
    pub indexed : Indexed most calls list n answers m
    pub stale : (k : ℕ) → heat (uses_in calls list) k ≤ seen - 1
    pub stamped : Stamped (mark_words calls) walk
    pub few : rounds + n₀ + m₀ ≤ n + m
    pub sooner : (x : ℕ) → x < m → (packed_answers answers m).round x < rounds + 1
    pub rounded : first ≡ 0 → Rounds bodies t₀ rounds (in_words calls n answers m)
    pub round : (roots : List (ℕ × State)) → Valid bodies (Among roots) t₀
        → Round bodies (Among roots) first walked seen (in_words calls n answers m) (uses_in calls list)

  -- a round whose answers to look at are noted: nothing is walked yet
  pub record Begins (walked seen low high top old : ℕ) (warm : Bool) (round rows known : ℕ) (calls list : List ℕ) (n : ℕ) (answers : List ℕ) (m walk : ℕ) : Type 0 where
    pub words : Words most calls₀ list₀ answers₀ calls list n answers m
    pub stamped : Stamped (mark_words calls) walk
    pub calls_same : calls ≡ calls₀
    pub answers_same : answers ≡ answers₀
    pub rows_all : n ≡ rows
    pub known_all : m ≡ known
    pub spans : Spans (packed_answers answers m) (uses_in calls list) walked seen m n low high top
    pub closed : (roots : List (ℕ × State)) → Round bodies (Among roots) first walked seen t₀ (uses_in calls₀ list₀)
        → ((r : ℕ) → r < old → (r < walked) × Lit t₀.answers (uses_in calls₀ list₀) seen known warm)
        → Round bodies (Among roots) first walked seen (in_words calls n answers m) (uses_in calls list)
        × ((r : ℕ) → r < old → (r < walked) × Lit (in_words calls n answers m).answers (uses_in calls list) seen m warm)

  -- the call records of a round
  pub record RowsDone (walked seen low high top old : ℕ) (warm : Bool) (round rows known row : ℕ) (calls list : List ℕ) (n : ℕ) (answers : List ℕ) (m walk : ℕ) : Type 0 where
    pub words : Words most calls₀ list₀ answers₀ calls list n answers m
    pub stamped : Stamped (mark_words calls) walk
    pub row_in : row ≤ rows
    pub rows_in : rows ≤ n
    pub known_in : known ≤ m
    pub closed : (roots : List (ℕ × State)) → Round bodies (Among roots) first walked seen t₀ (uses_in calls₀ list₀)
        → ((r : ℕ) → r < old → (r < walked) × Lit t₀.answers (uses_in calls₀ list₀) seen known warm)
        → Rows bodies (Among roots) first walked seen low high top old warm round rows known row (begin t₀ (uses_in calls₀ list₀)) (in_words calls n answers m) (uses_in calls list)

  -- the rules of a call record
  pub record RulesDone (count walked seen low high top old : ℕ) (warm : Bool) (round rows known row rule : ℕ) (calls list : List ℕ) (n : ℕ) (answers : List ℕ) (m walk : ℕ) : Type 0 where
    pub words : Words most calls₀ list₀ answers₀ calls list n answers m
    pub stamped : Stamped (mark_words calls) walk
    pub rule_in : rule ≤ count + 1
    pub rows_in : rows ≤ n
    pub known_in : known ≤ m
    pub closed : (roots : List (ℕ × State)) (begun : Begin)
        → Rows bodies (Among roots) first walked seen low high top old warm round rows known row begun t₀ (uses_in calls₀ list₀)
        → Rules bodies (Among roots) (number_at count) first walked seen low high top old warm round rows known row rule begun (in_words calls n answers m) (uses_in calls list)

  -- the walk of a body
  pub record Walked (known number row walk old seen : ℕ) (warm : Bool) (round : ℕ) (body : List ℕ) (calls list : List ℕ) (n : ℕ) (answers : List ℕ) (m : ℕ) (chosen rest : List ℕ) (s : Node) : Type 0 where
    pub words : Words most calls₀ list₀ answers₀ calls list n answers m
    pub going : (roots : List (ℕ × State)) (begun : Begin) → Given bodies (Among roots) t₀ known number row (before first old seen warm round begun) body → UsesGrew begun.notes (uses_in calls₀ list₀)
        → Going bodies (Among roots) t₀ known number row walk (before first old seen warm round begun) body (in_words calls n answers m) (mark_words calls) (uses_in calls list) chosen rest s

-- Every record from `first` on is closed under all answers, after so many rounds from b₀ on that added something, or there are more calls or answers
-- than places.
pub record Filled (bodies : Bodies) (most : ℕ) (roots : List (ℕ × State)) (first : ℕ) (b₀ : Tables) (calls list answers calls' list' answers' : List ℕ) (full : Bool) (n m rounds : ℕ) : Type 0 where
  pub calls_long : length calls' ≡ length calls
  pub list_long : length list' ≡ length list
  pub answers_long : length answers' ≡ length answers
  pub kept : Kept most calls' list' n answers' m
  pub indexed : Indexed most calls' list' n answers' m
  pub closed : full ≡ false → Whole bodies (Among roots) first (in_words calls' n answers' m)
  pub rounded : full ≡ false → first ≡ 0 → RoundsOver bodies b₀ rounds (in_words calls' n answers' m)
  pub outgrown : full ≡ true → Outgrown bodies (Among roots) (room call_width (length calls)) most

-- ---- the first table: the root's call alone

module _ (bodies : Bodies) (a : ℕ) (D : State) where
  pub first_valid : (places r : ℕ) (calls calls' : Calls) (answers : Answers) (row : ℕ) (full : Bool) → CallPut places calls a D r calls' row full → full ≡ false → calls.count ≡ 0 → answers.count ≡ 0
      → Valid bodies (Among ((a, D) ∷ [])) (tables calls' answers)
  first_valid places r calls calls' answers row full (call_stood f l k z) e n m = absurd (omega arith)
  first_valid places r calls calls' answers row full (call_no_room f i none z) e n m = absurd (true_not_false (sym f ∙ e))
  first_valid places r calls calls' answers row full (call_added f i l none p) e n m =
      let at : CallAt calls' 0 a D = rw n at p.new in
      record {
        roots = λ b E r. (let z = Memᴰ.eq_of_singleton r in
            (0, omega (arith, p.count), record { has_action = at.has_action ∙ sym (ap (λ (c : ℕ × State). c.0) z); has_state = at.has_state ∙ sym (ap (λ (c : ℕ × State). c.1) z) }));
        calls_once = λ i j b E h k x y. omega (arith, p.count);
        answers_once = λ x y row f h k u v. omega arith;
        reached = λ i h. (let z : i ≡ 0 = omega (arith, p.count) in rw (z, at.has_action, at.has_state) (inl (Memᴰ.head refl)));
        justified = λ x h. absurd (omega arith);
      }

  -- no room for it
  pub first_full : (places r : ℕ) (calls calls' : Calls) (row : ℕ) (full : Bool) (answer_places : ℕ) → CallPut places calls a D r calls' row full → full ≡ true → calls.count ≡ 0 → Outgrown bodies (Among ((a, D) ∷ [])) places answer_places
  first_full places r calls calls' row full m (call_stood f l k z) e n = absurd (omega arith)
  first_full places r calls calls' row full m (call_added f i l none p) e n = absurd (true_not_false (sym e ∙ f))
  first_full places r calls calls' row full m (call_no_room f i none z) e n =
      let z : places ≡ 0 = omega arith in
      inl (rw z (table_full (λ (i : ℕ). (a, D)) (λ (c : ℕ × State). Reached Does (Has bodies) (Among ((a, D) ∷ [])) c.0 c.1) 0 (λ i j l k. absurd (omega arith)) (λ i l. absurd (omega arith)) (a, D) (inl (Memᴰ.head refl)) (λ i l. absurd (omega arith))))
