-- A written line reads to what it was written from. Assumes nothing.
use Prim.Native.Nat.{ℕ, suc, ◌-◌, ◌%◌, ◌^◌, ◌≤◌, ◌<◌}
use native.Mathlib.Omega.{arith}
use mathlib.Core.Path.{◌≡◌, refl, ap, ◌∙◌}
use mathlib.Core.Bool.{Bool, true, false, not, ◌||◌}
use mathlib.Core.List.{List, [], ◌∷◌, ◌++◌, map}
use lib.ListN.{length, get_or, replicate}
use lib.Seq.{take-append_seam}
use lib.Dec.{ltb, leb}
use borrow.Author.Tests.{lt-leb, le-ltb, ne_eqb}
use Rattle.steps.specs.Acceptance.{good_step}
use Rattle.chars.specs.Bytes.{text, TAB, HASH, begins, is_name}
use Rattle.chars.specs.Pieces.{bare}
use Rattle.chars.specs.Places.{same, among}
use Rattle.fields.specs.Verdict.{Verdict, accept, ◌>>=◌}
use Rattle.fields.specs.Book.{Symbols, rule_words}
use Rattle.fields.specs.Field.{judged, new_name, step_word, step_words}
use Rattle.lines.specs.declared.Word.{Word}
use Rattle.lines.specs.declared.Word.TheVariants.{Fluent, Action, Rule, Start, Goal}
use Rattle.lines.specs.Line.{Reading, word_of, row, overfull, miscounted, line_of, plain_line, line}
use Rattle.lines.specs.Kept.{recorded}
use Rattle.lines.proofs.Readings.{read_fluent, read_action, read_rule, read_start, read_goal}
use Rattle.lines.proofs.LineHeads.{head_passed}
use Rattle.lines.proofs.LineVerdicts.{line_passed, line_plain, fluent_read, action_read, rule_read, start_line_read, goal_read}
use Rattle.sheet.proofs.Valid.{GoodSteps}
use Rattle.writer.specs.Text.{step_text, rule_fields, holding}
use Rattle.writer.proofs.Joining.{fields_line}
use Rattle.writer.proofs.Solid.{solid, Solid, AllSolid, none_solid, more_solid, name_solid, solid_free, all_free, line_bytes, Good, good, line_good, bare_free}
use Rattle.writer.proofs.StepsBack.{Named, used_back, step_back}
use Rattle.writer.proofs.FieldsSolid.{named_solid, held_solid, steps_solid}
use Rattle.writer.proofs.Starts.{start_held}
use Rattle.writer.proofs.TextLines.{fluent_line, action_line, rule_line, start_line, goal_line}

-- a line of a solid word that does not begin with `#`, by its word and fields
plain_back : (b : Reading) (w : List ℕ) (fs : List (List ℕ)) → Solid w → AllSolid fs → plain_line b (line_bytes w fs) ≡ line_of b (word_of w) fs
unfolding plain_line
plain_back b w fs s t = rw (fields_line w fs (solid_free TAB (omega arith) w s) (all_free TAB (omega arith) fs t)) refl

bare_line : (l : List ℕ) → Good l → bare l ≡ l
bare_line l (good a f c) = bare_free l c

pub line_back : (b : Reading) (w : List ℕ) (fs : List (List ℕ)) → begins HASH (line_bytes w fs) ≡ false → Solid w → AllSolid fs → line b (line_bytes w fs) ≡ line_of b (word_of w) fs
line_back b w fs h s t = line_plain b (line_bytes w fs) h ∙ ap (plain_line b) (bare_line (line_bytes w fs) (line_good w fs s t)) ∙ plain_back b w fs s t

-- the five words
word_fluent : word_of (text "fluent") ≡ Fluent
unfolding word_of same
word_fluent = refl

word_action : word_of (text "action") ≡ Action
unfolding word_of same
word_action = refl

word_rule : word_of (text "rule") ≡ Rule
unfolding word_of same
word_rule = refl

word_start : word_of (text "start") ≡ Start
unfolding word_of same
word_start = refl

word_goal : word_of (text "goal") ≡ Goal
unfolding word_of same
word_goal = refl

pub solid_fluent : Solid (text "fluent")
unfolding solid
solid_fluent = refl

pub solid_action : Solid (text "action")
unfolding solid
solid_action = refl

pub solid_rule : Solid (text "rule")
unfolding solid
solid_rule = refl

pub solid_start : Solid (text "start")
unfolding solid
solid_start = refl

pub solid_goal : Solid (text "goal")
unfolding solid
solid_goal = refl

-- a new name
judged_new : (t u : Bool) (x : List ℕ) → t ≡ true → u ≡ false → judged t (not u) true x ≡ accept x
judged_new t u x e f = rw (e, f) refl

pub new_back : (y : Symbols) (x : List ℕ) → is_name x ≡ true → among x (y.fluents ++ y.actions) ≡ false → new_name y x ≡ accept x
unfolding new_name
new_back y x n a = judged_new (is_name x) (among x (y.fluents ++ y.actions)) x n a

-- a line by its word, where its head passes
by_word : (b next : Reading) (w : List ℕ) (v : Word) (fs : List (List ℕ)) → begins HASH (line_bytes w fs) ≡ false → Solid w → AllSolid fs → word_of w ≡ v → (row v ≡ 5 → ⊥) → b.stage ≤ row v → overfull b.book v (length fs) ≡ false → miscounted v (length fs) ≡ false → recorded b v fs ≡ accept next → line b (line_bytes w fs) ≡ accept next
by_word b next w v fs h s t e r o f m q =
    line_back b w fs h s t ∙ ap (λ (x : Word). line_of b x fs) e ∙ line_passed b v fs (head_passed b v (length fs) r o f m) ∙ q

pub fluent_back : (b : Reading) (x : List ℕ) → b.stage ≡ 0 → length b.book.names.fluents < 64 → is_name x ≡ true → among x (b.book.names.fluents ++ b.book.names.actions) ≡ false → line b (fluent_line x) ≡ accept (read_fluent b x)
unfolding overfull
fluent_back b x z l n a =
    by_word b (read_fluent b x) (text "fluent") Fluent (x ∷ []) refl solid_fluent (more_solid (name_solid x n) none_solid) word_fluent (λ e. omega arith) (omega arith)
    (lt-leb 64 (length b.book.names.fluents) l) refl (fluent_read b x (new_back b.book.names x n a))

pub action_back : (b : Reading) (x : List ℕ) → b.stage ≤ 1 → length b.book.names.actions < 64 → is_name x ≡ true → among x (b.book.names.fluents ++ b.book.names.actions) ≡ false → line b (action_line x) ≡ accept (read_action b x)
unfolding overfull
action_back b x z l n a =
    by_word b (read_action b x) (text "action") Action (x ∷ []) refl solid_action (more_solid (name_solid x n) none_solid) word_action (λ e. omega arith) (omega arith)
    (lt-leb 64 (length b.book.names.actions) l) refl (action_read b x (new_back b.book.names x n a))

both_accepted : {A B : Type 0} (v : Verdict A) (u : Verdict B) (a : A) (c : B) {D : Type 0} (f : A → B → D) → v ≡ accept a → u ≡ accept c → (v >>= (λ x. u >>= (λ z. accept (f x z)))) ≡ accept (f a c)
both_accepted v u a c f e g = rw (e, g) refl

module _ (y : Symbols) (fluents : Named y.fluents) (actions : Named y.actions) where
  pub steps_back : (ws : List ℕ) → ((i : ℕ) → i < length ws → good_step (length y.fluents) (length y.actions) (get_or ws i 0) ≡ true) → step_words y (map (step_text y) ws) ≡ accept ws
  unfolding step_words
  steps_back [] h = refl
  steps_back (w ∷ ws) h =
      both_accepted (step_word y (step_text y w)) (step_words y (map (step_text y) ws)) w ws (λ x zs. x ∷ zs)
      (step_back y fluents actions w (h 0 (omega arith))) (steps_back ws (λ i l. h (suc i) (omega arith)))

  map_length : (ws : List ℕ) → length (map (step_text y) ws) ≡ length ws
  map_length [] = refl
  map_length (w ∷ ws) = ap suc (map_length ws)

  pub rule_fields_are : (head : ℕ) (steps : List ℕ) → rule_fields y (rule_words head steps) ≡ get_or y.actions head [] ∷ map (step_text y) steps
  rule_fields_are head steps = ap (λ (ws : List ℕ). get_or y.actions head [] ∷ map (step_text y) ws) (take-append_seam steps (replicate (16 - length steps) 0))

  module _ (b : Reading) (same_names : b.book.names ≡ y) where
    pub rule_back : (head : ℕ) (steps : List ℕ) → b.stage ≤ 2 → length b.book.rules < 256 → head < length y.actions → GoodSteps (length y.fluents) (length y.actions) steps
        → line b (rule_line y (rule_words head steps)) ≡ accept (read_rule b head steps)
    unfolding overfull
    rule_back head steps z l h g =
        let fs = get_or y.actions head [] ∷ map (step_text y) steps in
        let k = map_length steps in
        let few = g.few in
        ap (λ (fs : List (List ℕ)). line b (line_bytes (text "rule") fs)) (rule_fields_are head steps)
        ∙ by_word b (read_rule b head steps) (text "rule") Rule fs refl solid_rule
        (more_solid (name_solid _ (actions.good head h)) (steps_solid y fluents actions steps g.each)) word_rule (λ e. omega arith) (omega arith)
        (either (leb 256 (length b.book.rules)) (ltb 17 (suc (length (map (step_text y) steps)))) (lt-leb 256 (length b.book.rules) l) (le-ltb 17 (suc (length (map (step_text y) steps))) (omega arith)))
        (ne_eqb (suc (length (map (step_text y) steps))) 0 (λ e. omega arith))
        (rule_read b (get_or y.actions head []) (map (step_text y) steps) head (rw same_names (used_back y.actions actions head h)) steps (rw same_names (steps_back steps g.each)))
      where
        either : (t u : Bool) → t ≡ false → u ≡ false → (t || u) ≡ false
        either t u e f = rw (e, f) refl

    pub goal_back : (steps : List ℕ) → b.stage ≤ 4 → GoodSteps (length y.fluents) (length y.actions) steps → line b (goal_line y steps) ≡ accept (read_goal b steps)
    unfolding overfull
    goal_back steps z g =
        let k = map_length steps in
        let few = g.few in
        by_word b (read_goal b steps) (text "goal") Goal (map (step_text y) steps) refl solid_goal (steps_solid y fluents actions steps g.each) word_goal (λ e. omega arith) (omega arith)
        (le-ltb 16 (length (map (step_text y) steps)) (omega arith)) refl
        (goal_read b (map (step_text y) steps) steps (rw same_names (steps_back steps g.each)))

    pub start_back : (s : ℕ) → b.stage ≤ 3 → s < 2 ^ length y.fluents → line b (start_line y s) ≡ accept (read_start b s)
    unfolding overfull
    start_back s z l =
        let e : s % 2 ^ 0 ≡ 0 = omega arith in
        let r = rw e at (start_held y fluents.good fluents.apart (length y.fluents) 0 s (omega arith) l) in
        by_word b (read_start b s) (text "start") Start (holding 0 s y.fluents) refl solid_start (held_solid 0 s y.fluents (named_solid y.fluents fluents)) word_start (λ e. omega arith) (omega arith)
        refl refl (start_line_read b (holding 0 s y.fluents) s (rw same_names r))
