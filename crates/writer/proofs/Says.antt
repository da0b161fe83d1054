-- What an accepted line said: its fields, and what they made of the reading. Assumes nothing.
use Prim.Native.Nat.{ℕ, ◌≤◌, ◌<◌}
use native.Mathlib.Omega.{arith}
use mathlib.Core.Path.{◌≡◌, refl, ap, sym, ◌∙◌}
use mathlib.Core.Bool.{true, false, not}
use mathlib.Core.List.{List, [], ◌∷◌, ◌++◌}
use lib.ListN.{length, get_or, drop}
use lib.Dec.{ltb, leb}
use borrow.Author.Tests.{not-true, leb-true}
use Rattle.steps.proofs.EachBelow.{both}
use Rattle.chars.specs.Bytes.{is_name}
use Rattle.chars.specs.Pieces.{fields}
use Rattle.chars.specs.Places.{among}
use Rattle.fields.specs.Verdict.{accept, ◌>>=◌}
use Rattle.fields.specs.Book.{Symbols, Book, with_rule, with_start, with_goal}
use Rattle.fields.specs.Field.{new_name, used_name, start_names, step_words}
use Rattle.fields.proofs.Verdicts.{followed, same_value}
use Rattle.lines.specs.declared.Word.{Word}
use Rattle.lines.specs.declared.Word.TheVariants.{Fluent, Action, Rule, Start, Goal, Other}
use Rattle.lines.specs.Line.{Reading, after, word_of, row, line_of, record_line, plain_line}
use Rattle.lines.specs.Kept.{line_head, recorded}
use Rattle.lines.proofs.Readings.{read_fluent, read_action, read_rule, read_start, read_goal}
use Rattle.lines.proofs.LineVerdicts.{line_by_head}
use Rattle.lines.proofs.LineHeads.{passed, fluent_room, action_room, rule_room, other_never}
use Rattle.sheet.proofs.AcceptedLines.{judged_accepted}

-- what an accepted line with this word and these fields said: when in the row, of which fields, and the next reading
pub data Says (b next : Reading) (fs : List (List ℕ)) : Word → Type 0 where
  fluent : (x : List ℕ) → b.stage ≤ 0 → fs ≡ x ∷ [] → is_name x ≡ true → among x (b.book.names.fluents ++ b.book.names.actions) ≡ false → next ≡ read_fluent b x → Says b next fs Fluent
  action : (x : List ℕ) → b.stage ≤ 1 → fs ≡ x ∷ [] → is_name x ≡ true → among x (b.book.names.fluents ++ b.book.names.actions) ≡ false → next ≡ read_action b x → Says b next fs Action
  rule : (f : List ℕ) (gs : List (List ℕ)) (head : ℕ) (steps : List ℕ) → b.stage ≤ 2 → fs ≡ f ∷ gs → used_name b.book.names.actions f ≡ accept head → step_words b.book.names gs ≡ accept steps → next ≡ read_rule b head steps → Says b next fs Rule
  start : (state : ℕ) → b.stage ≤ 3 → start_names b.book.names 0 fs ≡ accept state → next ≡ read_start b state → Says b next fs Start
  goal : (steps : List ℕ) → b.stage ≤ 4 → step_words b.book.names fs ≡ accept steps → next ≡ read_goal b steps → Says b next fs Goal

one_field : (fs : List (List ℕ)) → length fs ≡ 1 → fs ≡ get_or fs 0 [] ∷ []
one_field [] e = absurd (omega arith)
one_field (f ∷ []) e = refl
one_field (f ∷ g ∷ gs) e = absurd (omega arith)

some_fields : (fs : List (List ℕ)) → 0 < length fs → fs ≡ get_or fs 0 [] ∷ drop 1 fs
some_fields [] e = absurd (omega arith)
some_fields (f ∷ fs) e = refl

new_told : (y : Symbols) (f name : List ℕ) → new_name y f ≡ accept name → (is_name f ≡ true) × (among f (y.fluents ++ y.actions) ≡ false) × (name ≡ f)
unfolding new_name
new_told y f name e =
    let j = judged_accepted (is_name f) (not (among f (y.fluents ++ y.actions))) true f name e in
    (j.is_formed, not-true (among f (y.fluents ++ y.actions)) j.is_fresh, sym j.value)

module _ (b next : Reading) (fs : List (List ℕ)) where
  timely : (w : Word) → line_head b w (length fs) ≡ accept tt → b.stage ≤ row w
  timely w h = let (i, j) = both (ltb (row w) 5) (leb b.stage (row w)) (passed b w (length fs) h).ordered in leb-true b.stage (row w) j

  -- by the book that the fields made
  by_word : (w : Word) (book : Book) → line_head b w (length fs) ≡ accept tt → record_line b.book w fs ≡ accept book → after b w book ≡ next → Says b next fs w
  unfolding record_line
  by_word Fluent book h r m =
      let (name, q, e) = followed (new_name b.book.names (get_or fs 0 [])) (λ name. accept (read_fluent b name).book) book r in
      let (n, a, i) = new_told b.book.names (get_or fs 0 []) name q in
      let made : next ≡ read_fluent b name = sym m ∙ ap (after b Fluent) (sym (same_value e)) in
      fluent (get_or fs 0 []) (timely Fluent h) (one_field fs (fluent_room b (length fs) h).2) n a (made ∙ ap (read_fluent b) i)
  by_word Action book h r m =
      let (name, q, e) = followed (new_name b.book.names (get_or fs 0 [])) (λ name. accept (read_action b name).book) book r in
      let (n, a, i) = new_told b.book.names (get_or fs 0 []) name q in
      let made : next ≡ read_action b name = sym m ∙ ap (after b Action) (sym (same_value e)) in
      action (get_or fs 0 []) (timely Action h) (one_field fs (action_room b (length fs) h).1) n a (made ∙ ap (read_action b) i)
  by_word Rule book h r m =
      let (head, q, t) = followed (used_name b.book.names.actions (get_or fs 0 [])) (λ head. step_words b.book.names (drop 1 fs) >>= (λ steps. accept (with_rule b.book head steps))) book r in
      let (steps, u, e) = followed (step_words b.book.names (drop 1 fs)) (λ steps. accept (with_rule b.book head steps)) book t in
      rule (get_or fs 0 []) (drop 1 fs) head steps (timely Rule h) (some_fields fs (rule_room b (length fs) h).1) q u (sym m ∙ ap (after b Rule) (sym (same_value e)))
  by_word Start book h r m =
      let (state, q, e) = followed (start_names b.book.names 0 fs) (λ state. accept (with_start b.book state)) book r in
      start state (timely Start h) q (sym m ∙ ap (after b Start) (sym (same_value e)))
  by_word Goal book h r m =
      let (steps, q, e) = followed (step_words b.book.names fs) (λ steps. accept (with_goal b.book steps)) book r in
      goal steps (timely Goal h) q (sym m ∙ ap (after b Goal) (sym (same_value e)))
  by_word Other book h r m = absurd (other_never b (length fs) h)

  pub says : (w : Word) → line_of b w fs ≡ accept next → Says b next fs w
  says w e =
      let (u, h, r) = followed (line_head b w (length fs)) (λ _. recorded b w fs) next (sym (line_by_head b w fs) ∙ e) in
      let (book, q, n) = followed (record_line b.book w fs) (λ k. accept (after b w k)) next r in
      by_word w book h q (same_value n)

-- an accepted record line
pub line_says : (b next : Reading) (l : List ℕ) → plain_line b l ≡ accept next → Says b next (drop 1 (fields l)) (word_of (get_or (fields l) 0 []))
unfolding plain_line
line_says b next l e = says b next (drop 1 (fields l)) (word_of (get_or (fields l) 0 [])) e
