-- What the starts of a class are told: the same as by single evaluations, whatever the buffers held. Assumes nothing.
use Prim.Native.Nat.{ℕ, zero, suc, ◌+◌, ◌*◌, ◌-◌, ◌<◌}
use native.Mathlib.Omega.{arith}
use mathlib.Core.Path.{◌≡◌, refl, sym, ap, ap₂, ◌∙◌}
use mathlib.Core.List.{List, [], ◌∷◌, ◌++◌}
use lib.ListN.{length, get_or, take, drop, length-drop}
use lib.Seq.{drop-drop, take-append-le, drop-append-le}
use Rattle.steps.specs.State.{State}
use Rattle.evaluator.specs.Evaluated.{Asked, Lent, Told, told, Evaluated}
use Rattle.evaluator.proofs.Determined.{one_result, list_kept, tables_kept}
use Rattle.class.specs.Class.{four, places, written, result_words, handed_on, Turns, over, turn}
use Rattle.class.specs.Shown.{SameRoom}
use Rattle.class.proofs.Running.{words_long}

-- what two starts of the same room hand on has the same room
pub handed_room : {q₁ q₂ : Asked} {b₁ b₂ l₁ l₂ : Lent} {r₁ r₂ : Told} → r₁ ≡ r₂ → SameRoom b₁ b₂ → Evaluated q₁ b₁ l₁ r₁ → Evaluated q₂ b₂ l₂ r₂
    → SameRoom (handed_on (places r₁) l₁) (handed_on (places r₂) l₂)
handed_room {l₁ = l₁} {l₂ = l₂} {r₁ = r₁} {r₂ = r₂} e s E F = record {
  calls = (tables_kept E).0 ∙ s.calls ∙ sym (tables_kept F).0;
  answers = (tables_kept E).1 ∙ s.answers ∙ sym (tables_kept F).1;
  ends = length-drop (places r₁) l₁.ends ∙ ap₂ (λ (n p : ℕ). n - p) (list_kept E ∙ s.ends ∙ sym (list_kept F)) (ap places e) ∙ sym (length-drop (places r₂) l₂.ends);
  list = (tables_kept E).2 ∙ s.list ∙ sym (tables_kept F).2;
}

module _ {ask : State → Asked} where
  -- What the starts are told does not depend on what the buffers held.
  pub turns_unique : {starts : List State} {b₁ b₂ l₁ l₂ : Lent} {rs₁ rs₂ : List Told} → SameRoom b₁ b₂ → Turns ask starts b₁ l₁ rs₁ → Turns ask starts b₂ l₂ rs₂ → rs₁ ≡ rs₂
  turns_unique s over over = refl
  turns_unique {b₁ = b₁} {b₂ = b₂} s (turn {start = start} E T) (turn F U) =
      let e = one_result (ask start) b₁ b₂ s.calls s.answers s.ends s.list E F in
      ap₂ ◌∷◌ e (turns_unique (handed_room e s E F) T U)

  -- Start i is told what any single evaluation of it tells, in tables of these lengths and a list of the places left.
  pub start_single : {starts : List State} {before last b a : Lent} {rs : List Told} {r : Told} (i : ℕ) → i < length starts → Turns ask starts before last rs
      → SameRoom b (handed_on (written (take i rs)) before) → Evaluated (ask (get_or starts i 0)) b a r → get_or rs i (told 0 0 0 0 0) ≡ r
  unfolding written
  start_single i l over s E = absurd (omega arith)
  start_single {before = before} {b = b} zero l (turn {start = start} F T) s E = sym (one_result (ask start) b before s.calls s.answers s.ends s.list E F)
  start_single {before = before} {b = b} (suc i) l (turn {left = left} {r = r} {rs = rs} F T) s E =
      start_single i (omega arith) T (record {
        calls = s.calls ∙ sym (tables_kept F).0;
        answers = s.answers ∙ sym (tables_kept F).1;
        ends = s.ends ∙ length-drop (places r + written (take i rs)) before.ends ∙ ap (λ (n : ℕ). n - (places r + written (take i rs))) (sym (list_kept F))
            ∙ sym (length-drop (places r + written (take i rs)) left.ends) ∙ ap length (sym (drop-drop (written (take i rs)) (places r) left.ends));
        list = s.list ∙ sym (tables_kept F).2;
      }) E

-- ---- result words

-- the four words of start i
words_at : (rs : List Told) (i : ℕ) → i < length rs → take 4 (drop (4 * i) (result_words rs)) ≡ four (get_or rs i (told 0 0 0 0 0))
unfolding result_words
words_at [] i l = absurd (omega arith)
words_at (r ∷ rs) zero l = refl
words_at (r ∷ rs) (suc i) l =
    let e : 4 * suc i ≡ 4 + 4 * i = omega arith in
    ap (λ (n : ℕ). take 4 (drop n (four r ++ result_words rs))) e
    ∙ ap (λ (ws : List ℕ). take 4 ws) (sym (drop-drop (4 * i) 4 (four r ++ result_words rs)))
    ∙ words_at rs i (omega arith)

-- also where other words follow
pub words_of_start : (rs : List Told) (more : List ℕ) (i : ℕ) → i < length rs → take 4 (drop (4 * i) (result_words rs ++ more)) ≡ four (get_or rs i (told 0 0 0 0 0))
words_of_start rs more i l =
    ap (take 4) (drop-append-le (4 * i) (result_words rs) more (omega (arith, words_long rs)))
    ∙ take-append-le 4 (drop (4 * i) (result_words rs)) more (omega (arith, words_long rs, length-drop (4 * i) (result_words rs)))
    ∙ words_at rs i l
