-- The parts of words in a list, one word after the other. Assumes nothing.
use Prim.Native.Nat.{ℕ, ◌-◌, ◌≤◌}
use native.Mathlib.Omega.{arith}
use mathlib.Core.Path.{◌≡◌, refl, ap, sym, ◌∙◌}
use mathlib.Core.Bool.{Bool, true, false, cond}
use mathlib.Core.List.{List, [], ◌∷◌, ◌++◌, append-nil, append_assoc}
use lib.ListN.{length, length-append}
use Rattle.chars.specs.Bytes.{text}
use Rattle.chars.specs.Pieces.{lines}
use Rattle.chars.specs.Places.{among}
use Rattle.parts.specs.Parts.{Inside, Grows, parts_from, section, fresh, news}
use Rattle.parts.proofs.PartLists.{grows_as, grows_then, grows_range}
use Rattle.parts.proofs.Turns.{fresh_size}
use Rattle.parts.specs.declared.Word.{Word}
use Rattle.merge.specs.Joined.{together}
use Rattle.merge.specs.Inner.{Holds, Adds, Few, Laid}

module _ (xs : List (List ℕ)) (y : List ℕ) where
  fresh_behind : xs ++ fresh xs y ≡ cond (among y xs) xs (xs ++ (y ∷ []))
  unfolding fresh
  fresh_behind = by (among y xs)
    where
      by : (v : Bool) → xs ++ cond v [] (y ∷ []) ≡ cond v xs (xs ++ (y ∷ []))
      by true = append-nil xs
      by false = refl

-- the two lists together are the first and what is new
pub together_news : (xs ys : List (List ℕ)) → together xs ys ≡ xs ++ news xs ys
unfolding together news
together_news xs [] = sym (append-nil xs)
together_news xs (y ∷ ys) =
    ap (λ (z : List (List ℕ)). together z ys) (sym (fresh_behind xs y)) ∙ together_news (xs ++ fresh xs y) ys ∙ append_assoc xs (fresh xs y) (news (xs ++ fresh xs y) ys)

news_size : (xs ys : List (List ℕ)) → length (news xs ys) ≤ length ys
unfolding news
news_size xs [] = omega arith
news_size xs (y ∷ ys) =
    let a = length-append (fresh xs y) (news (xs ++ fresh xs y) ys) in
    let b = fresh_size xs y in
    let c = news_size (xs ++ fresh xs y) ys in
    omega arith

module _ (cut : ℕ) (u : List ℕ) where
  -- parts stay where the list grows
  pub holds_kept : (l l' : List ℕ) (n r : ℕ) (more : List (List ℕ)) (w : Word) (A B : List (List ℕ)) → w.end ≤ n → Grows cut u l n l' r more → Holds u l w A B → Holds u l' w A B
  holds_kept l l' n r more w A B e g h =
      let (i, j, k) = h.order in
      record {
        order = h.order;
        second = g.kept w.lo (w.own - w.lo) (omega arith) ∙ h.second;
        first = g.kept w.own (w.new - w.own) (omega arith) ∙ h.first;
        both = g.kept w.own (w.end - w.own) (omega arith) ∙ h.both;
      }

  module _ (l l₁ l₂ l₃ : List ℕ) (w : Word) (A B : List (List ℕ)) (G₁ : Grows cut u l w.lo l₁ w.own B) (G₂ : Grows cut u l₁ w.own l₂ w.new A) where
    pub their_parts : parts_from u l₂ w.lo (w.own - w.lo) ≡ B
    their_parts =
        let a = G₁.longer in
        let e : w.own - w.lo ≡ length B = omega arith in
        ap (parts_from u l₂ w.lo) e ∙ G₂.kept w.lo (length B) (omega arith) ∙ G₁.new

    pub our_parts : parts_from u l₂ w.own (w.new - w.own) ≡ A
    our_parts =
        let a = G₂.longer in
        let e : w.new - w.own ≡ length A = omega arith in
        ap (parts_from u l₂ w.own) e ∙ G₂.new

    pub laid_word : Grows cut u l₂ w.new l₃ w.end (news (parts_from u l₂ w.own (w.new - w.own)) (parts_from u l₂ w.lo (w.own - w.lo))) → Adds cut u l w.lo l₃ w A B
    laid_word G =
        let G₃ = grows_as cut u l₂ l₃ w.new w.end _ _ (ap (λ (x : List (List ℕ)). news x (parts_from u l₂ w.lo (w.own - w.lo))) our_parts ∙ ap (news A) their_parts) G in
        let a = G₁.longer in
        let b = G₂.longer in
        let c = G₃.longer in
        let n = length-append B (A ++ news A B) in
        let m = length-append A (news A B) in
        let k = news_size A B in
        record {
          from = refl;
          holds = record {
            order = (omega arith, omega arith, omega arith);
            second = G₃.kept w.lo (w.own - w.lo) (omega arith) ∙ their_parts;
            first = G₃.kept w.own (w.new - w.own) (omega arith) ∙ our_parts;
            both = grows_range cut u l₂ l₃ w.new w.end w.own (news A B) (omega arith) G₃ ∙ ap (λ (x : List (List ℕ)). x ++ news A B) our_parts ∙ sym (together_news A B);
          };
          more = B ++ (A ++ news A B);
          grows = grows_then cut u l l₁ l₃ w.lo w.own w.end B (A ++ news A B) G₁ (grows_then cut u l₁ l₂ l₃ w.own w.new w.end A (news A B) G₂ G₃);
          size = omega arith;
        }

module _ (s t l₀ l₁ l₂ l₃ l₄ : List ℕ) (f c r : Word) (end : ℕ) where
  abbrev u : List ℕ
  u = s ++ t

  abbrev S : List ℕ → List (List ℕ)
  S w = section w (lines s)

  abbrev T : List ℕ → List (List ℕ)
  T w = section w (lines t)

  pub laid : Inside (length s) u l₀ 0 → Few s → Few t → Adds (length s) u l₀ 0 l₁ f (S (text "fluent")) (T (text "fluent")) → Adds (length s) u l₁ f.end l₂ c (S (text "action")) (T (text "action"))
      → Adds (length s) u l₂ c.end l₃ r (S (text "rule")) (T (text "rule")) → Grows (length s) u l₃ r.end l₄ end (S (text "goal"))
      → Laid s t l₄ (record { fluents = f; actions = c; rules = r; end = end })
  laid i p q F C R G =
      let a = F.grows.longer in
      let b = C.grows.longer in
      let d = R.grows.longer in
      let e = G.longer in
      let fs = F.size in
      let cs = C.size in
      let rs = R.size in
      let p₁ = p.fluents in
      let p₂ = p.actions in
      let p₃ = p.rules in
      let p₄ = p.goal in
      let q₁ = q.fluents in
      let q₂ = q.actions in
      let q₃ = q.rules in
      let g : end - r.end ≡ length (S (text "goal")) = omega arith in
      let k = length s in
      record {
        fluents = holds_kept k u l₃ l₄ r.end end _ f _ _ (omega arith) G (holds_kept k u l₂ l₃ c.end r.end _ f _ _ (omega arith) R.grows (holds_kept k u l₁ l₂ f.end c.end _ f _ _ (omega arith) C.grows F.holds));
        actions = holds_kept k u l₃ l₄ r.end end _ c _ _ (omega arith) G (holds_kept k u l₂ l₃ c.end r.end _ c _ _ (omega arith) R.grows C.holds);
        rules = holds_kept k u l₃ l₄ r.end end _ r _ _ (omega arith) G R.holds;
        goal = ap (parts_from u l₄ r.end) g ∙ G.new;
        inside = G.inside (R.grows.inside (C.grows.inside (F.grows.inside i)));
        order = (omega arith, omega arith, omega arith, omega arith);
      }
