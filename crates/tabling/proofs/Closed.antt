-- Tables in which every body of every record is closed are closed and sound: they hold exactly a run's calls and answers. Assumes nothing.
use Prim.Native.Nat.{ℕ, ◌<◌, ◌≤◌}
use native.Mathlib.Omega.{arith}
use mathlib.Core.Path.{◌≡◌, refl, sym, ap, ◌∙◌}
use mathlib.Core.Bool.{true}
use mathlib.Core.List.{List, [], ◌∷◌, Memᴰ}
use Rattle.steps.specs.State.{State}
use Rattle.steps.specs.Step.{Step, call, Body}
use Rattle.steps.specs.Words.{step_of, body_of}
use Rattle.steps.proofs.WordLaws.{Low, does_elementary, word_call}
use Rattle.steps.proofs.Deductions.{Does}
use Rattle.steps.proofs.Tables.{Walk, stands, walks, takes, Closed, Sound, Exact, exact}
use Rattle.records.specs.Records.{Bodies}
use Rattle.records.specs.Storage.{CallAt}
use Rattle.records.proofs.Growth.{Tables, HeldCall, Held}
use Rattle.records.proofs.Justification.{Has, Proper}
use Rattle.tabling.proofs.Adding.{answer_true}
use Rattle.tabling.proofs.Sweep.{Swept}
use Rattle.tabling.proofs.Graph.{goes, calls, closed_ends, closed_calls}
use Rattle.tabling.proofs.Graph as graph
use Rattle.tabling.proofs.Evidence.{Valid}
use Rattle.tabling.proofs.Moves.{Of, final, move, move_call, move_on, EdgeT, GoodT}

-- ---- a call record and a rule that are closed: nothing more comes of them, with the answers below `known`
abbrev pub ClosedAt : List ℕ → Tables → ℕ → ℕ → Type 0
ClosedAt body t known row = Swept (EdgeT t known body) (GoodT t known body (HeldCall t) (Held t row)) 0 (t.calls.state row)

-- Every record from `first` on is closed under all answers.
pub record Whole (bodies : Bodies) (Root : ℕ → State → Type 0) (first : ℕ) (t : Tables) : Type 0 where
  pub valid : Valid bodies Root t
  pub closed : (r : ℕ) → first ≤ r → r < t.calls.count → (i : ℕ) → bodies.fits i (t.calls.action r) ≡ true → ClosedAt (bodies.words i (t.calls.action r)) t t.answers.count r

-- ---- all records closed: the tables are closed and sound
abbrev pub C : Tables → ℕ → State → Type 0
C t a D = HeldCall t (a, D)

abbrev pub A : Tables → ℕ → State → State → Type 0
A t a D f = (x : ℕ) × Of t t.answers.count (a, D) x × (final t x ≡ f)

abbrev AllLow : Body → Type 0
AllLow xs = (x : Step) → Memᴰ x xs → Low x

low_tail : {x : Step} {xs : Body} → AllLow (x ∷ xs) → AllLow xs
low_tail low y m = low y (Memᴰ.tail m)

-- walks of steps as walks of words
module _ (t : Tables) (body : List ℕ) where
  abbrev Words : State → List ℕ → State → List ℕ → Type 0
  Words = graph.Walk move (Of t t.answers.count) (final t) 0 body

  walk_words : (ws : List ℕ) (xs : Body) {s E : State} {left : Body} → xs ≡ body_of ws → AllLow xs → Walk Does (A t) s xs E left → (ls : List ℕ) × (left ≡ body_of ls) × Words s ws E ls
  walk_words ws xs q low stands = (ws, q, graph.stands)
  walk_words [] xs q low (walks d w) = let z : ◌≡◌ {A = ℕ} 0 1 = cc in absurd (omega arith)
  walk_words (w ∷ ws) xs q low (walks {D = s} {D₁ = u} {s = x} {rest = rest} d k) =
      let p : x ≡ step_of w = cc in
      let r : rest ≡ body_of ws = cc in
      let m : move w s ≡ goes u = move_on w s u (rw p at (does_elementary x s u (low x (Memᴰ.head refl)) d)) in
      let (ls, e, v) = walk_words ws rest r (low_tail low) k in
      (ls, e, graph.walks m v)
  walk_words [] xs q low (takes x w) = let z : ◌≡◌ {A = ℕ} 0 1 = cc in absurd (omega arith)
  walk_words (w ∷ ws) xs {E = E} q low (takes {D = s} {D₁ = u} {b = b} {rest = rest} (x, o, f) k) =
      let p : call b ≡ step_of w = cc in
      let r : rest ≡ body_of ws = cc in
      let (c, z) = word_call w b p in
      let m : move w s ≡ calls (b, s) = move_call w s c ∙ ap (λ (a : ℕ). calls (a, s)) (sym z) in
      let (ls, e, v) = walk_words ws rest r (low_tail low) k in
      let v' : Words (final t x) ws E ls = rw f v in
      (ls, e, graph.takes m o v')

  module _ {row a : ℕ} {D : State} (c : CallAt t.calls row a D) (swept : ClosedAt body t t.answers.count row) where
    swept_at : Swept (EdgeT t t.answers.count body) (GoodT t t.answers.count body (HeldCall t) (Held t row)) 0 D
    swept_at = rw c.has_state at swept

    pub reach : {b : ℕ} {E : State} {rest : Body} (ls : List ℕ) → call b ∷ rest ≡ body_of ls → Words D body E ls → HeldCall t (b, E)
    reach [] q v = let z : ◌≡◌ {A = ℕ} 0 1 = cc in absurd (omega arith)
    reach {b} {E} (w ∷ ls) q v =
        let p : call b ≡ step_of w = cc in
        let (l, z) = word_call w b p in
        let m : move w E ≡ calls (b, E) = move_call w E l ∙ ap (λ (a : ℕ). calls (a, E)) (sym z) in
        closed_calls move (Of t t.answers.count) (final t) 0 body swept_at v m

    pub end : {E : State} (ls : List ℕ) → ◌≡◌ {A = Body} [] (body_of ls) → Words D body E ls → A t a D E
    end (w ∷ ls) q v = let z : ◌≡◌ {A = ℕ} 0 1 = cc in absurd (omega arith)
    end [] q v =
        let (x, h, an) = closed_ends move (Of t t.answers.count) (final t) 0 body swept_at v in
        (x, record { below = h; action = ap t.calls.action an.has_call ∙ c.has_action; state = ap t.calls.state an.has_call ∙ c.has_state }, an.has_final)

module _ (bodies : Bodies) (Root : ℕ → State → Type 0) (proper : Proper bodies) (t : Tables) (R : Whole bodies Root 0 t) where
  closed_of : Closed Does (Has bodies) Root (C t) (A t)
  closed_of = record {
    roots = λ a D r. R.valid.roots a D r;
    reaches = λ a b D E body rest (row, l, c) (i, f, e) w.
        (let (ls, q, v) = walk_words t (bodies.words i a) (bodies.words i a) body e (rw e (proper.low i a f)) w in
        reach t (bodies.words i a) c (rw c.has_action at (R.closed row (omega arith) l i (rw c.has_action f))) ls q v);
    ends = λ a D D' body (row, l, c) (i, f, e) w.
        (let (ls, q, v) = walk_words t (bodies.words i a) (bodies.words i a) body e (rw e (proper.low i a f)) w in
        end t (bodies.words i a) c (rw c.has_action at (R.closed row (omega arith) l i (rw c.has_action f))) ls q v);
  }

  sound_of : Sound Does (Has bodies) Root (C t) (A t)
  sound_of = record {
    calls = λ a D (i, l, c). rw (c.has_action, c.has_state) at (R.valid.reached i l);
    answers = λ a D D' (x, o, e). rw (o.action, o.state, e) at (answer_true R.valid x o.below);
  }

  pub exact_of : Exact Does (Has bodies) Root (C t) (A t)
  exact_of = exact Does (Has bodies) Root closed_of sound_of
