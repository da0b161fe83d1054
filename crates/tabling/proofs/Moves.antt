-- The walk of a body's words as a search: its nodes are places and states, its edges elementary steps and usable answers. Assumes nothing.
use Prim.Native.Nat.{ℕ, ◌+◌, ◌%◌, ◌<◌, ◌≤◌}
use mathlib.Core.Path.{◌≡◌, refl, ap}
use mathlib.Core.Bool.{true, false}
use mathlib.Core.List.{List}
use lib.ListN.{get_or}
use Rattle.steps.specs.State.{State}
use Rattle.steps.specs.Step.{Step, query, insert, delete, call, deny}
use Rattle.steps.specs.Words.{step_of}
use Rattle.steps.specs.Inner.{is_call}
use Rattle.steps.specs.Elementary.{Onward, on, stuck, elementary}
use Rattle.steps.proofs.WordLaws.{call_word, no_call, not_on}
use Rattle.records.proofs.Growth.{Tables}
use Rattle.tabling.proofs.Graph.{Front, goes, calls, numbered, leads_plain, Edge, Good}
use Rattle.tabling.proofs.Graph as graph

-- ---- the step in front
abbrev pub front : Onward → Front State (ℕ × State)
front (on t) = goes t
front stuck = graph.stuck

unfoldable pub move_step : Step → State → Front State (ℕ × State)
move_step (call a) s = calls (a, s)
move_step (query p) s = front (elementary (query p) s)
move_step (insert p) s = front (elementary (insert p) s)
move_step (delete p) s = front (elementary (delete p) s)
move_step (deny p) s = front (elementary (deny p) s)

abbrev pub move : ℕ → State → Front State (ℕ × State)
move w s = move_step (step_of w) s

step_on : (x : Step) (s t : State) → elementary x s ≡ on t → move_step x s ≡ goes t
unfolding move_step elementary
step_on (query p) s t e = rw e refl
step_on (insert p) s t e = rw e refl
step_on (delete p) s t e = ap front e
step_on (deny p) s t e = rw e refl
step_on (call a) s t e = absurd (not_on e)

pub move_call : (w : ℕ) (s : State) → is_call w ≡ true → move w s ≡ calls (w % 256, s)
unfolding move_step
move_call w s l = rw (call_word w l) refl

pub move_on : (w : ℕ) (s t : State) → elementary (step_of w) s ≡ on t → move w s ≡ goes t
move_on w s t e = step_on (step_of w) s t e

step_stuck : (x : Step) (s : State) → ((a : ℕ) → x ≡ call a → ⊥) → elementary x s ≡ stuck → move_step x s ≡ graph.stuck
unfolding move_step
step_stuck (query p) s n e = ap front e
step_stuck (insert p) s n e = ap front e
step_stuck (delete p) s n e = ap front e
step_stuck (deny p) s n e = ap front e
step_stuck (call a) s n e = absurd (n a refl)

pub move_stuck : (w : ℕ) (s : State) → is_call w ≡ false → elementary (step_of w) s ≡ stuck → move w s ≡ graph.stuck
move_stuck w s l e = step_stuck (step_of w) s (no_call w l) e

-- ---- answers by their calls' contents
-- Answer x is below `known` and of the call c.
pub record Of (b : Tables) (known : ℕ) (c : ℕ × State) (x : ℕ) : Type 0 where
  pub below : x < known
  pub action : b.calls.action (b.answers.call x) ≡ c.0
  pub state : b.calls.state (b.answers.call x) ≡ c.1

-- the call of an answer
abbrev pub call_of : Tables → ℕ → ℕ × State
call_of b x = (b.calls.action (b.answers.call x), b.calls.state (b.answers.call x))

abbrev pub final : Tables → ℕ → State
final b x = b.answers.final x

-- no answer of the call is from `from` up to j
abbrev pub NoneIn : Tables → ℕ → ℕ × State → ℕ → ℕ → Type 0
NoneIn b known c from j = (y : ℕ) → from ≤ y → y < j → Of b known c y → ⊥

-- at place q no answer after the chosen one is left
abbrev pub Spent : List ℕ → Tables → ℕ → List ℕ → ℕ → Type 0
Spent body b known chosen q = is_call (get_or body q 0) ≡ true → NoneIn b known (call_of b (get_or chosen q 0)) (get_or chosen q 0 + 1) known

-- The search goes back to the place before r and takes the answer j there; where r is 0 it is over.
pub record Retreat (body : List ℕ) (b : Tables) (known : ℕ) (chosen : List ℕ) (at r j : ℕ) : Type 0 where
  pub low : r ≤ at
  pub spent : (q : ℕ) → r ≤ q → q < at → Spent body b known chosen q
  pub found : (p : ℕ) → r ≡ p + 1
      → (is_call (get_or body p 0) ≡ true) × (get_or chosen p 0 < j) × NoneIn b known (call_of b (get_or chosen p 0)) (get_or chosen p 0 + 1) j × Of b known (call_of b (get_or chosen p 0)) j

-- the answers chosen at places below `at` are answers
abbrev pub Chosen : List ℕ → ℕ → List ℕ → ℕ → Type 0
Chosen body known chosen at = (q : ℕ) → q < at → is_call (get_or body q 0) ≡ true → get_or chosen q 0 < known

abbrev pub EdgeT : Tables → ℕ → List ℕ → ℕ → State → ℕ → State → Type 0
EdgeT b known body = Edge move (Of b known) (final b) 0 body

-- ---- nodes: a state, and one more than the number of the answer taken last on the way to it (0 for none)
abbrev pub Node : Type 0
Node = State × ℕ

abbrev pub step_at : ℕ → Node → Front Node ((ℕ × State) × ℕ)
step_at w s = numbered (move w s.0) s.1

abbrev pub of_at : Tables → ℕ → (ℕ × State) × ℕ → ℕ → Type 0
of_at b known c x = Of b known c.0 x

abbrev pub final_at : Tables → ℕ → Node
final_at b x = (final b x, x + 1)

pub at_call : (w : ℕ) (s : Node) → is_call w ≡ true → step_at w s ≡ calls ((w % 256, s.0), s.1)
at_call w s l = ap (λ (f : Front State (ℕ × State)). numbered f s.1) (move_call w s.0 l)

pub at_on : (w : ℕ) (s : Node) (t : State) → elementary (step_of w) s.0 ≡ on t → step_at w s ≡ goes (t, s.1)
at_on w s t e = ap (λ (f : Front State (ℕ × State)). numbered f s.1) (move_on w s.0 t e)

pub at_stuck : (w : ℕ) (s : Node) → is_call w ≡ false → elementary (step_of w) s.0 ≡ stuck → step_at w s ≡ graph.stuck
at_stuck w s l e = ap (λ (f : Front State (ℕ × State)). numbered f s.1) (move_stuck w s.0 l e)

abbrev pub EdgeN : Tables → ℕ → List ℕ → ℕ → Node → ℕ → Node → Type 0
EdgeN b known body = Edge step_at (of_at b known) (final_at b) 0 body

abbrev pub GoodN : Tables → ℕ → List ℕ → ((ℕ × State) × ℕ → Type 0) → (State → Type 0) → ℕ → Node → Type 0
GoodN b known body C A = Good step_at (of_at b known) (final_at b) 0 body C (λ (s : Node). A s.0)

pub edge_plain : (b : Tables) (known : ℕ) (body : List ℕ) (q : ℕ) (s : Node) (x : ℕ) (t : Node) → EdgeN b known body q s x t → EdgeT b known body q s.0 x t.0
edge_plain b known body q s x t (l, e) = (l, leads_plain (Of b known) (final b) (move (get_or body q 0) s.0) s.1 x t e)

abbrev pub GoodT : Tables → ℕ → List ℕ → (ℕ × State → Type 0) → (State → Type 0) → ℕ → State → Type 0
GoodT b known body C A = Good move (Of b known) (final b) 0 body C A
