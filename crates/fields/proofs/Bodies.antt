-- The words of bodies as the code writes them. Assumes nothing.
use mathlib.Core.Path.{◌≡◌, refl, ap, sym, ◌∙◌}
use mathlib.Core.List.{List, [], ◌∷◌, ◌++◌, append_assoc, append-nil}
use Prim.Native.Nat.{◌≤◌, ℕ}
use native.Mathlib.Omega.{arith}
use lib.ListN.{length, take, take-append-drop}
use lib.Seq.{length-take-le}
use Rattle.fields.specs.Verdict.{Verdict, refuse, accept}
use Rattle.fields.specs.Book.{Symbols, padded, rule_words}
use Rattle.fields.specs.Field.{step_word, step_words}
use Rattle.fields.specs.declared.book.Body.{Body}
use Rattle.fields.specs.Held.{steps_of}

-- the words ws before those of a verdict
abbrev pub prefix : List ℕ → Verdict (List ℕ) → Verdict (List ℕ)
prefix ws (refuse k) = refuse k
prefix ws (accept us) = accept (ws ++ us)

module _ (y : Symbols) (ws : List ℕ) (f : List ℕ) (fs : List (List ℕ)) where
  pub steps_stop : (k : ℕ) → step_word y f ≡ refuse k → prefix ws (step_words y (f ∷ fs)) ≡ refuse k
  unfolding step_words
  steps_stop k e = rw e

  after : (v : ℕ) (t : Verdict (List ℕ)) → step_words y fs ≡ t → step_word y f ≡ accept v → prefix ws (step_words y (f ∷ fs)) ≡ prefix (ws ++ (v ∷ [])) t
  unfolding step_words
  after v (refuse k) e h = rw (h, e)
  after v (accept us) e h = rw (h, e, append_assoc)

  pub steps_go : (v : ℕ) → step_word y f ≡ accept v → prefix ws (step_words y (f ∷ fs)) ≡ prefix (ws ++ (v ∷ [])) (step_words y fs)
  steps_go v h = after v (step_words y fs) refl h

pub steps_end : (y : Symbols) (ws : List ℕ) → prefix ws (step_words y []) ≡ accept ws
unfolding step_words
steps_end y ws = ap (λ (l : List ℕ). accept l) (append-nil ws)

pub steps_begin : (t : Verdict (List ℕ)) → t ≡ prefix [] t
steps_begin (refuse k) = refl
steps_begin (accept ws) = refl

-- a body's words, with the unused ones
pub body_padded : (b : Body) → padded (steps_of b) ≡ b.words
body_padded b =
    let l = length-take-le b.len b.words (let h : length b.words ≡ 16 = b.size in let f : b.len ≤ 16 = b.few in omega arith) in
    rw l (ap (λ (z : List ℕ). take b.len b.words ++ z) (sym b.zeros) ∙ take-append-drop b.len b.words)

-- a rule's words as the code has them
pub body_rule : (head : ℕ) (b : Body) → head ∷ b.len ∷ b.words ≡ rule_words head (steps_of b)
body_rule head b =
    let l = length-take-le b.len b.words (let h : length b.words ≡ 16 = b.size in let f : b.len ≤ 16 = b.few in omega arith) in
    ap (λ (k : ℕ). head ∷ k ∷ b.words) (sym l) ∙ ap (λ (w : List ℕ). head ∷ length (take b.len b.words) ∷ w) (sym (body_padded b))

-- how many steps a body has
pub body_length : (b : Body) → length (steps_of b) ≡ b.len
body_length b = length-take-le b.len b.words (let h : length b.words ≡ 16 = b.size in let f : b.len ≤ 16 = b.few in omega arith)
