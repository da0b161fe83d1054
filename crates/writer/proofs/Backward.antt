-- The text of an accepted sheet's book is the sheet's own record lines, but for the order of the names of `start`. Assumes nothing.
use Prim.Native.Nat.{ℕ, ◌-◌, ◌≤◌}
use native.Mathlib.Omega.{arith}
use mathlib.Core.Path.{◌≡◌, refl, ap, sym, ◌∙◌}
use mathlib.Core.Bool.{Bool, false, cond}
use mathlib.Core.List.{List, [], ◌∷◌, ◌++◌, map, append-nil, append_assoc}
use lib.ListN.{length, get_or, drop, replicate, length-append}
use lib.Seq.{take-append_seam}
use lib.Dec.{eqb}
use borrow.Author.Tests.{ne_eqb}
use Rattle.chars.specs.Bytes.{text}
use Rattle.chars.specs.Pieces.{lines, fields}
use Rattle.chars.specs.Places.{same}
use Rattle.fields.specs.Verdict.{accept}
use Rattle.fields.specs.Book.{Symbols, Book, rule_words}
use Rattle.lines.specs.declared.Word.{Word}
use Rattle.lines.specs.declared.Word.TheVariants.{Fluent, Action, Rule, Start, Goal}
use Rattle.lines.specs.Line.{Reading, empty, word_of, plain_line}
use Rattle.lines.specs.Reader.{read_sheet, written}
use Rattle.lines.proofs.Readings.{read_fluent, read_action, read_rule, read_start, read_goal, whole}
use Rattle.sheet.proofs.AcceptedLines.{AllRead, done, more, record_lines, accepted_text, sheet_records}
use Rattle.sheet.proofs.LaterLines.{names_kept, none_below}
use Rattle.sheet.proofs.ValidSheets.{ValidSoFar, valid_line, empty_valid}
use Rattle.writer.specs.Text.{tabbed, step_text, rule_fields, holding, text_of}
use Rattle.writer.proofs.Solid.{line_bytes, text_of_lines, size_more}
use Rattle.writer.proofs.TextLines.{fluent_line, action_line, rule_line, start_line, goal_line, lines_of, text_lines}
use Rattle.writer.proofs.Says.{Says, fluent, action, rule, start, goal, line_says}
use Rattle.writer.proofs.ProperSheets.{Staged, empty_staged, staged_line}
use Rattle.writer.proofs.Undoing.{line_from, word_is, used_is, steps_are}
use Rattle.writer.proofs.StartWeight.{weight, start_weight, none_held}

-- a record line as the text has it: the line itself, or for `start` the names in fluent order
unfoldable pub rewritten : Book → List ℕ → List ℕ
unfolding fields same holding
rewritten b l = cond (same (get_or (fields l) 0 []) (text "start")) (start_line b.names b.start) l

-- the lines in five parts, one for each word
abbrev five : List (List ℕ) → List (List ℕ) → List (List ℕ) → List (List ℕ) → List (List ℕ) → List (List ℕ)
five a c r s g = a ++ (c ++ (r ++ (s ++ g)))

module _ (a c r s : List (List ℕ)) (l : List ℕ) where
  five_a : five (a ++ (l ∷ [])) [] [] [] [] ≡ five a [] [] [] [] ++ (l ∷ [])
  five_a = append-nil (a ++ (l ∷ [])) ∙ ap (λ (x : List (List ℕ)). x ++ (l ∷ [])) (sym (append-nil a))

  five_c : five a (c ++ (l ∷ [])) [] [] [] ≡ five a c [] [] [] ++ (l ∷ [])
  five_c = ap (λ (x : List (List ℕ)). a ++ x) (append-nil (c ++ (l ∷ [])) ∙ ap (λ (x : List (List ℕ)). x ++ (l ∷ [])) (sym (append-nil c))) ∙ sym (append_assoc a (c ++ []) (l ∷ []))

  five_r : five a c (r ++ (l ∷ [])) [] [] ≡ five a c r [] [] ++ (l ∷ [])
  five_r = simp (append-nil, append_assoc)

  five_s : five a c r (l ∷ []) [] ≡ five a c r [] [] ++ (l ∷ [])
  five_s = simp (append-nil, append_assoc)

  five_g : five a c r s (l ∷ []) ≡ five a c r s [] ++ (l ∷ [])
  five_g = simp (append-nil, append_assoc)

map_snoc : (f : List ℕ → List ℕ) (xs : List (List ℕ)) (x : List ℕ) → map f (xs ++ (x ∷ [])) ≡ map f xs ++ (f x ∷ [])
map_snoc f [] x = refl
map_snoc f (y ∷ ys) x = ap (λ (l : List (List ℕ)). f y ∷ l) (map_snoc f ys x)

module _ (last : Book) where
  abbrev y : Symbols
  y = last.names

  abbrev start_part : Bool → List (List ℕ)
  start_part t = cond t (start_line y last.start ∷ []) []

  abbrev goal_part : ℕ → List (List ℕ)
  goal_part n = cond (eqb n 5) (goal_line y last.goal ∷ []) []

  -- the text's lines so far
  abbrev so_far : Reading → List (List ℕ)
  so_far b = five (map fluent_line b.book.names.fluents) (map action_line b.book.names.actions) (map (rule_line y) b.book.rules) (start_part b.started) (goal_part b.stage)

  no_goal : (n : ℕ) → n ≤ 4 → goal_part n ≡ []
  no_goal n h = ap (λ (t : Bool). cond t (goal_line y last.goal ∷ []) []) (ne_eqb n 5 (λ e. omega arith))

  record Line (b next : Reading) (l : List ℕ) : Type 0 where
    text : so_far next ≡ so_far b ++ (rewritten last l ∷ [])
    size : length (rewritten last l) ≡ length l

  -- a line whose word is not `start` stays
  stays : (f l : List ℕ) → same f (text "start") ≡ false → get_or (fields l) 0 [] ≡ f → rewritten last l ≡ l
  unfolding rewritten
  stays f l h e = ap (λ (g : List ℕ). cond (same g (text "start")) (start_line y last.start) l) e ∙ ap (λ (t : Bool). cond t (start_line y last.start) l) h

  goes : (l : List ℕ) → get_or (fields l) 0 [] ≡ text "start" → rewritten last l ≡ start_line y last.start
  unfolding rewritten same
  goes l e = ap (λ (g : List ℕ). cond (same g (text "start")) (start_line y last.start) l) e

  not_fluent : same (text "fluent") (text "start") ≡ false
  unfolding same
  not_fluent = refl

  not_action : same (text "action") (text "start") ≡ false
  unfolding same
  not_action = refl

  not_rule : same (text "rule") (text "start") ≡ false
  unfolding same
  not_rule = refl

  not_goal : same (text "goal") (text "start") ≡ false
  unfolding same
  not_goal = refl

  -- a line that stays, and is this line of the text
  as_is : (b next : Reading) (l m f : List ℕ) → same f (text "start") ≡ false → get_or (fields l) 0 [] ≡ f → m ≡ l → so_far next ≡ so_far b ++ (m ∷ []) → Line b next l
  as_is b next l m f h e q t =
      let k = stays f l h e in
      record { text = t ∙ ap (λ (x : List ℕ). so_far b ++ (x ∷ [])) (q ∙ sym k); size = ap length k }

  module _ (b next : Reading) (l : List ℕ) (ls : List (List ℕ)) (v : ValidSoFar b) (d : Staged b) (r : AllRead (whole last) next ls) where
    abbrev first : List ℕ
    first = get_or (fields l) 0 []

    abbrev fs : List (List ℕ)
    fs = drop 1 (fields l)

    -- the line from its word and its fields
    line_is : (w : List ℕ) (gs : List (List ℕ)) → first ≡ w → fs ≡ gs → line_bytes w gs ≡ l
    line_is w gs e q = ap (λ (x : List ℕ). line_bytes x gs) (sym e) ∙ ap (λ (x : List (List ℕ)). line_bytes first x) (sym q) ∙ line_from l

    by_fluent : (x : List ℕ) → first ≡ text "fluent" → b.stage ≤ 0 → fs ≡ x ∷ [] → next ≡ read_fluent b x → Line b next l
    by_fluent x w h q e =
        let fl = map fluent_line b.book.names.fluents in
        let a : map action_line b.book.names.actions ≡ [] = ap (map action_line) (d.no_actions h) in
        let c : map (rule_line y) b.book.rules ≡ [] = ap (map (rule_line y)) (d.no_rules (omega arith)) in
        let s : start_part b.started ≡ [] = ap start_part (d.no_start (omega arith)) in
        let g = no_goal b.stage (omega arith) in
        let before : so_far b ≡ five fl [] [] [] [] = cc in
        let after : so_far (read_fluent b x) ≡ five (fl ++ (fluent_line x ∷ [])) [] [] [] [] =
        let m = map_snoc fluent_line b.book.names.fluents x in cc in
        as_is b next l (fluent_line x) (text "fluent") not_fluent w (line_is (text "fluent") (x ∷ []) w q)
        (ap so_far e ∙ after ∙ five_a fl [] [] [] (fluent_line x) ∙ ap (λ (z : List (List ℕ)). z ++ (fluent_line x ∷ [])) (sym before))

    by_action : (x : List ℕ) → first ≡ text "action" → b.stage ≤ 1 → fs ≡ x ∷ [] → next ≡ read_action b x → Line b next l
    by_action x w h q e =
        let fl = map fluent_line b.book.names.fluents in
        let ac = map action_line b.book.names.actions in
        let c : map (rule_line y) b.book.rules ≡ [] = ap (map (rule_line y)) (d.no_rules h) in
        let s : start_part b.started ≡ [] = ap start_part (d.no_start (omega arith)) in
        let g = no_goal b.stage (omega arith) in
        let before : so_far b ≡ five fl ac [] [] [] = cc in
        let after : so_far (read_action b x) ≡ five fl (ac ++ (action_line x ∷ [])) [] [] [] =
        let m = map_snoc action_line b.book.names.actions x in cc in
        as_is b next l (action_line x) (text "action") not_action w (line_is (text "action") (x ∷ []) w q)
        (ap so_far e ∙ after ∙ five_c fl ac [] [] (action_line x) ∙ ap (λ (z : List (List ℕ)). z ++ (action_line x ∷ [])) (sym before))

    -- below a rule the names stay
    kept : 2 ≤ next.stage → next.book.names ≡ b.book.names → y ≡ b.book.names
    kept h e = names_kept next (whole last) ls h r ∙ e

    by_rule : (f : List ℕ) (gs : List (List ℕ)) (head : ℕ) (steps : List ℕ) → first ≡ text "rule" → b.stage ≤ 2 → fs ≡ f ∷ gs → get_or b.book.names.actions head [] ≡ f → map (step_text b.book.names) steps ≡ gs → next ≡ read_rule b head steps → Line b next l
    by_rule f gs head steps w h q u t e =
        let fl = map fluent_line b.book.names.fluents in
        let ac = map action_line b.book.names.actions in
        let ru = map (rule_line y) b.book.rules in
        let words = rule_words head steps in
        let stage = ap (λ (x : Reading). x.stage) e in
        let k = kept (omega arith) (ap (λ (x : Reading). x.book.names) e) in
        let i : rule_fields y words ≡ f ∷ gs =
        ap (λ (z : Symbols). rule_fields z words) k
        ∙ ap (λ (ws : List ℕ). get_or b.book.names.actions head [] ∷ map (step_text b.book.names) ws) (take-append_seam steps (replicate (16 - length steps) 0))
        ∙ ap (λ (x : List ℕ). x ∷ map (step_text b.book.names) steps) u ∙ ap (λ (x : List (List ℕ)). f ∷ x) t in
        let s : start_part b.started ≡ [] = ap start_part (d.no_start (omega arith)) in
        let g = no_goal b.stage (omega arith) in
        let before : so_far b ≡ five fl ac ru [] [] = cc in
        let after : so_far (read_rule b head steps) ≡ five fl ac (ru ++ (rule_line y words ∷ [])) [] [] =
        let m = map_snoc (rule_line y) b.book.rules words in cc in
        as_is b next l (rule_line y words) (text "rule") not_rule w (line_is (text "rule") (rule_fields y words) w (q ∙ sym i))
        (ap so_far e ∙ after ∙ five_r fl ac ru [] (rule_line y words) ∙ ap (λ (z : List (List ℕ)). z ++ (rule_line y words ∷ [])) (sym before))

    by_start : (state : ℕ) → first ≡ text "start" → b.stage ≤ 3 → last.start ≡ state → weight (holding 0 state b.book.names.fluents) ≡ weight fs → next ≡ read_start b state → Line b next l
    by_start state w h i t e =
        let fl = map fluent_line b.book.names.fluents in
        let ac = map action_line b.book.names.actions in
        let ru = map (rule_line y) b.book.rules in
        let stage = ap (λ (x : Reading). x.stage) e in
        let k = kept (omega arith) (ap (λ (x : Reading). x.book.names) e) in
        let s : start_part b.started ≡ [] = ap start_part (d.no_start h) in
        let g = no_goal b.stage (omega arith) in
        let before : so_far b ≡ five fl ac ru [] [] = cc in
        let S = start_line y last.start in
        let z = goes l w in
        let n : weight (holding 0 last.start y.fluents) ≡ weight (holding 0 state b.book.names.fluents) =
        ap (λ (x : Symbols). weight (holding 0 last.start x.fluents)) k ∙ ap (λ (x : ℕ). weight (holding 0 x b.book.names.fluents)) i in
        let m = length-append (text "start") (tabbed (holding 0 last.start y.fluents)) in
        let o = length-append (text "start") (tabbed fs) in
        let p = ap length (line_is (text "start") fs w refl) in
        record {
          text = ap so_far e ∙ five_s fl ac ru [] S ∙ ap (λ (z : List (List ℕ)). z ++ (S ∷ [])) (sym before) ∙ ap (λ (x : List ℕ). so_far b ++ (x ∷ [])) (sym z);
          size = ap length z ∙ (omega arith);
        }

    by_goal : (steps : List ℕ) → first ≡ text "goal" → b.stage ≤ 4 → map (step_text b.book.names) steps ≡ fs → next ≡ read_goal b steps → Line b next l
    by_goal steps w h t e =
        let fl = map fluent_line b.book.names.fluents in
        let ac = map action_line b.book.names.actions in
        let ru = map (rule_line y) b.book.rules in
        let st = start_part b.started in
        let (none, same_book) = none_below next (whole last) ls (ap (λ (x : Reading). x.stage) e) r in
        let i : last.goal ≡ steps = ap (λ (x : Reading). x.book.goal) (same_book ∙ e) in
        let k : y ≡ b.book.names = ap (λ (x : Reading). x.book.names) (same_book ∙ e) in
        let G = goal_line y last.goal in
        let j : map (step_text y) last.goal ≡ fs = ap (λ (x : Symbols). map (step_text x) last.goal) k ∙ ap (map (step_text b.book.names)) i ∙ t in
        let g = no_goal b.stage h in
        let before : so_far b ≡ five fl ac ru st [] = cc in
        as_is b next l G (text "goal") not_goal w (line_is (text "goal") (map (step_text y) last.goal) w (sym j))
        (ap so_far e ∙ five_g fl ac ru st G ∙ ap (λ (z : List (List ℕ)). z ++ (G ∷ [])) (sym before))

  -- below the `start` it stays
  start_kept : (b : Reading) (ls : List (List ℕ)) → 4 ≤ b.stage → AllRead (whole last) b ls → last.start ≡ b.book.start
  start_kept b [] h (done e) = ap (λ (x : Reading). x.book.start) (sym e)
  start_kept b (l ∷ ls) h (more next t r) = let (i, j) = by (word_of (get_or (fields l) 0 [])) (line_says b next l t) in start_kept next ls i r ∙ j
    where
      by : (w : Word) → Says b next (drop 1 (fields l)) w → (4 ≤ next.stage) × (next.book.start ≡ b.book.start)
      by w (fluent x k e n a q) = absurd (omega arith)
      by w (action x k e n a q) = absurd (omega arith)
      by w (rule f gs head steps k e u t q) = absurd (omega arith)
      by w (start state k e q) = absurd (omega arith)
      by w (goal steps k e q) = let i = ap (λ (x : Reading). x.stage) q in (omega arith, ap (λ (x : Reading). x.book.start) q)

  one_line : (b next : Reading) (l : List ℕ) (ls : List (List ℕ)) → ValidSoFar b → Staged b → plain_line b l ≡ accept next → AllRead (whole last) next ls → Line b next l
  one_line b next l ls v d t r = by (word_of (get_or (fields l) 0 [])) refl (line_says b next l t)
    where
      by : (w : Word) → word_of (get_or (fields l) 0 []) ≡ w → Says b next (drop 1 (fields l)) w → Line b next l
      by w i (fluent x h e n a q) = by_fluent b next l ls v d r x (word_is _ Fluent i (omega arith)) h e q
      by w i (action x h e n a q) = by_action b next l ls v d r x (word_is _ Action i (omega arith)) h e q
      by w i (rule f gs head steps h e u t q) = by_rule b next l ls v d r f gs head steps (word_is _ Rule i (omega arith)) h e (used_is b.book.names.actions f head u) (steps_are b.book.names v.few_fluents v.few_actions gs steps t) q
      by w i (start state h e q) =
          let stage = ap (λ (x : Reading). x.stage) q in
          let s = start_kept next ls (omega arith) r ∙ ap (λ (x : Reading). x.book.start) q in
          let n = start_weight b.book.names (drop 1 (fields l)) 0 state e in
          let z = ap weight (none_held 0 b.book.names.fluents) in
          by_start b next l ls v d r state (word_is _ Start i (omega arith)) h s (omega arith) q
      by w i (goal steps h e q) = by_goal b next l ls v d r steps (word_is _ Goal i (omega arith)) h (steps_are b.book.names v.few_fluents v.few_actions (drop 1 (fields l)) steps e) q

  -- all record lines
  pub text_from : (b : Reading) (ls : List (List ℕ)) → ValidSoFar b → Staged b → AllRead (whole last) b ls → (so_far (whole last) ≡ so_far b ++ map (rewritten last) ls) × (length (text_of_lines (map (rewritten last) ls)) ≡ length (text_of_lines ls))
  text_from b [] v d (done e) = (ap so_far (sym e) ∙ sym (append-nil (so_far b)), refl)
  text_from b (l ∷ ls) v d (more next t r) =
      let w = word_of (get_or (fields l) 0 []) in
      let k = one_line b next l ls v d t r in
      let (i, j) = text_from next ls (valid_line b v next w (drop 1 (fields l)) (accepted_text b next l t)) (staged_line b d next w (drop 1 (fields l)) (line_says b next l t)) r in
      let m = size_more (rewritten last l) (map (rewritten last) ls) in
      let n = size_more l ls in
      let z = k.size in
      (i ∙ ap (λ (x : List (List ℕ)). x ++ map (rewritten last) ls) k.text ∙ append_assoc (so_far b) (rewritten last l ∷ []) (map (rewritten last) ls), omega arith)

-- the text's lines, where all is read
all_lines : (b : Book) → so_far b (whole b) ≡ lines_of b
all_lines b = refl

module _ (s : List ℕ) (b : Book) (e : read_sheet s ≡ written b) where
  told : (so_far b (whole b) ≡ map (rewritten b) (record_lines (lines s))) × (length (text_of_lines (map (rewritten b) (record_lines (lines s)))) ≡ length (text_of_lines (record_lines (lines s))))
  told = text_from b empty (record_lines (lines s)) empty_valid empty_staged (sheet_records s b e)

  -- The lines of the text are the sheet's record lines, `start` rewritten.
  pub lines_are : lines_of b ≡ map (rewritten b) (record_lines (lines s))
  lines_are = sym (all_lines b) ∙ told.0

  pub text_is : text_of b ≡ text_of_lines (map (rewritten b) (record_lines (lines s)))
  text_is = text_lines b ∙ ap text_of_lines lines_are

  pub text_length : length (text_of b) ≡ length (text_of_lines (record_lines (lines s)))
  text_length = ap length text_is ∙ told.1
