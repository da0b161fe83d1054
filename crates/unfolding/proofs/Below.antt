-- What a record adds does not hang on how many records are counted or taken. Assumes nothing.
use Prim.Native.Nat.{ℕ, zero, suc, ◌<◌}
use native.Mathlib.Omega.{arith}
use mathlib.Core.Path.{◌≡◌, refl, sym, ap, subst, ◌∙◌}
use mathlib.Core.Bool.{Bool, true, false, cond, ◌&&◌}
use mathlib.Core.List.{List, [], ◌∷◌, ◌++◌}
use lib.Dec.{eqb}
use borrow.Author.Tests.{eq-eqb, ne_eqb, eqb-true, eqb-false}
use Rattle.steps.specs.State.{State}
use Rattle.steps.specs.Step.{Step, query, insert, delete, call, deny, Body}
use Rattle.steps.specs.Words.{body_of}
use Rattle.steps.specs.Elementary.{Onward, on, stuck}
use Rattle.steps.proofs.EachBelow.{both}
use Rattle.steps.proofs.WordLaws.{not_on, on_same}
use Rattle.records.specs.Records.{Calls, Answers, Bodies, earlier, follow, follows}
use Rattle.records.specs.Storage.{calls_in, answers_in}
use Rattle.checks.proofs.FollowLaws.{earlier_below}
use Rattle.unfolding.specs.Path.{adds, walked, below, states_added, path_of}

-- a call goes on only by a record of smaller number
pub call_below : (calls : Calls) (answers : Answers) (n a : ℕ) (s t : State) (e : ℕ) → follow calls answers n (call a) s e ≡ on t → e < n
unfolding follow
call_below calls answers n a s t e h =
    by (earlier calls answers n e && (eqb (calls.action (answers.call e)) a && eqb (calls.state (answers.call e)) s)) refl h
  where
    by : (b : Bool) → (earlier calls answers n e && (eqb (calls.action (answers.call e)) a && eqb (calls.state (answers.call e)) s)) ≡ b → cond b (on (answers.final e)) stuck ≡ on t → e < n
    by true z k = earlier_below calls answers n e (both (earlier calls answers n e) _ z).0
    by false z k = absurd (not_on k)

-- and leads to that record's final state
pub call_final : (calls : Calls) (answers : Answers) (n a : ℕ) (s t : State) (e : ℕ) → follow calls answers n (call a) s e ≡ on t → t ≡ answers.final e
unfolding follow
call_final calls answers n a s t e h = by (earlier calls answers n e && (eqb (calls.action (answers.call e)) a && eqb (calls.state (answers.call e)) s)) h
  where
    by : (b : Bool) → cond b (on (answers.final e)) stuck ≡ on t → t ≡ answers.final e
    by true k = sym (on_same k)
    by false k = absurd (not_on k)

module _ (calls : Calls) (answers : Answers) (n : ℕ) (f g : ℕ → List State) (same : (e : ℕ) → e < n → f e ≡ g e) where
  adds_same : (x : Step) (s t : State) (e : ℕ) → follow calls answers n x s e ≡ on t → adds f x t e ≡ adds g x t e
  unfolding adds
  adds_same (query p) s t e h = refl
  adds_same (insert p) s t e h = refl
  adds_same (delete p) s t e h = refl
  adds_same (deny p) s t e h = refl
  adds_same (call a) s t e h = same e (call_below calls answers n a s t e h)

  -- only what the records below add counts
  pub walked_same : (xs : Body) (q : ℕ) (s : State) → walked calls answers n f xs q s ≡ walked calls answers n g xs q s
  unfolding walked
  walked_same [] q s = refl
  walked_same (x ∷ rest) q s = by (follow calls answers n x s (answers.evidence n q)) refl (walked_same rest (suc q))
    where
      by : (o : Onward) → follow calls answers n x s (answers.evidence n q) ≡ o
          → ((t : State) → walked calls answers n f rest (suc q) t ≡ walked calls answers n g rest (suc q) t)
          → ◌≡◌ {A = List State}
          (elim o [ on t ↦ adds f x t (answers.evidence n q) ++ walked calls answers n f rest (suc q) t | stuck ↦ [] ])
          (elim o [ on t ↦ adds g x t (answers.evidence n q) ++ walked calls answers n g rest (suc q) t | stuck ↦ [] ])
      by (on t) e later = rw (adds_same x s t (answers.evidence n q) e, later t) refl
      by stuck e later = refl

module _ (calls : Calls) (answers : Answers) (bodies : Bodies) where
  below_other : (n x : ℕ) → (x ≡ n → ⊥) → below calls answers bodies (suc n) x ≡ below calls answers bodies n x
  unfolding below
  below_other n x h = rw (ne_eqb x n h) refl

  -- what record x adds is the same among any records that it is one of
  pub below_added : (n x : ℕ) → x < n → below calls answers bodies n x ≡ states_added calls answers bodies x
  below_added zero x h = absurd (omega arith)
  below_added (suc n) x h = by (below_added n x) (eqb x n) refl
    where
      by : (x < n → below calls answers bodies n x ≡ states_added calls answers bodies x) → (b : Bool) → eqb x n ≡ b → below calls answers bodies (suc n) x ≡ states_added calls answers bodies x
      by ih true e = ap (λ (k : ℕ). below calls answers bodies (suc k) x) (sym (eqb-true x n e))
      by ih false e = let d : (x ≡ n → ⊥) = eqb-false x n e in below_other n x d ∙ ih (omega arith)

  below_same : (n : ℕ) → states_added calls answers bodies n
      ≡ walked calls answers n (below calls answers bodies n) (body_of (bodies.words (answers.rule n) (calls.action (answers.call n)))) 0 (calls.state (answers.call n))
  unfolding below
  below_same n = rw (eq-eqb n n refl) refl

  -- what record n adds is what walking its body adds
  pub added_walk : (n : ℕ) → states_added calls answers bodies n
      ≡ walked calls answers n (states_added calls answers bodies) (body_of (bodies.words (answers.rule n) (calls.action (answers.call n)))) 0 (calls.state (answers.call n))
  added_walk n = below_same n ∙ walked_same calls answers n (below calls answers bodies n) (states_added calls answers bodies) (below_added n) _ 0 _

-- ---- however many records are counted

module _ (w v : ℕ) (calls answers : List ℕ) (k m k' m' : ℕ) where
  -- the two views, by the widths of records
  abbrev C : Calls
  C = calls_in w calls k

  abbrev C' : Calls
  C' = calls_in w calls k'

  abbrev A : Answers
  A = answers_in v answers m

  abbrev A' : Answers
  A' = answers_in v answers m'

  follow_uncounted : (n : ℕ) (x : Step) (s : State) (e : ℕ) → follow C A n x s e ≡ follow C' A' n x s e
  unfolding follow
  follow_uncounted n (query p) s e = refl
  follow_uncounted n (insert p) s e = refl
  follow_uncounted n (delete p) s e = refl
  follow_uncounted n (deny p) s e = refl
  follow_uncounted n (call a) s e = refl

  pub follows_uncounted : (n : ℕ) (xs : Body) (q : ℕ) (s : State) → follows C A n xs q s ≡ follows C' A' n xs q s
  unfolding follows
  follows_uncounted n [] q s = refl
  follows_uncounted n (x ∷ rest) q s =
      subst (λ (o : Onward). ◌≡◌ {A = Bool} (follows C A n (x ∷ rest) q s) (elim o [ on t ↦ follows C' A' n rest (suc q) t | stuck ↦ false ]))
      (follow_uncounted n x s (A.evidence n q)) (by (follow C A n x s (A.evidence n q)) (follows_uncounted n rest (suc q)))
    where
      by : (o : Onward) → ((t : State) → follows C A n rest (suc q) t ≡ follows C' A' n rest (suc q) t)
          → ◌≡◌ {A = Bool} (elim o [ on t ↦ follows C A n rest (suc q) t | stuck ↦ false ]) (elim o [ on t ↦ follows C' A' n rest (suc q) t | stuck ↦ false ])
      by (on t) later = later t
      by stuck later = refl

  walked_uncounted : (n : ℕ) (f : ℕ → List State) (xs : Body) (q : ℕ) (s : State) → walked C A n f xs q s ≡ walked C' A' n f xs q s
  unfolding walked
  walked_uncounted n f [] q s = refl
  walked_uncounted n f (x ∷ rest) q s =
      subst (λ (o : Onward). ◌≡◌ {A = List State} (walked C A n f (x ∷ rest) q s) (elim o [ on t ↦ adds f x t (A.evidence n q) ++ walked C' A' n f rest (suc q) t | stuck ↦ [] ]))
      (follow_uncounted n x s (A.evidence n q)) (by (follow C A n x s (A.evidence n q)) (walked_uncounted n f rest (suc q)))
    where
      by : (o : Onward) → ((t : State) → walked C A n f rest (suc q) t ≡ walked C' A' n f rest (suc q) t)
          → ◌≡◌ {A = List State} (elim o [ on t ↦ adds f x t (A.evidence n q) ++ walked C A n f rest (suc q) t | stuck ↦ [] ])
          (elim o [ on t ↦ adds f x t (A.evidence n q) ++ walked C' A' n f rest (suc q) t | stuck ↦ [] ])
      by (on t) later = rw (later t) refl
      by stuck later = refl

  -- the same for bodies that have the same words
  module _ (bodies bodies' : Bodies) (same : (i a : ℕ) → bodies.words i a ≡ bodies'.words i a) where
    below_uncounted : (n x : ℕ) → below C A bodies n x ≡ below C' A' bodies' n x
    unfolding below
    below_uncounted zero x = refl
    below_uncounted (suc n) x = rw (← same (A.rule n) (C.action (A.call n))) (by (eqb x n) (below_uncounted n))
      where
        words : Body
        words = body_of (bodies.words (A.rule n) (C.action (A.call n)))

        by : (b : Bool) → ((e : ℕ) → below C A bodies n e ≡ below C' A' bodies' n e)
            → cond b (walked C A n (below C A bodies n) words 0 (C.state (A.call n))) (below C A bodies n x)
            ≡ cond b (walked C' A' n (below C' A' bodies' n) words 0 (C.state (A.call n))) (below C' A' bodies' n x)
        by true e = walked_uncounted n (below C A bodies n) words 0 _ ∙ walked_same C' A' n (below C A bodies n) (below C' A' bodies' n) (λ y l. e y) words 0 _
        by false e = e x

    pub path_uncounted : (x : ℕ) → path_of C A bodies x ≡ path_of C' A' bodies' x
    unfolding path_of
    path_uncounted x = ap (λ (l : List State). C.state (A.call x) ∷ l) (below_uncounted (suc x) x)
