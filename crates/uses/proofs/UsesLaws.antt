-- What a run notes of its call records, five numbers of 16 bits for each: from which records its walks are come from (`least`, `greatest`: every
-- record whose walks have come to it lies between them), after which answer walks come to it (`via`), from which of its own answers on a round
-- has to look at it again (`start`), and for which new answer (`heat`). A record whose callees gained no answer since it was walked has
-- nothing new to give. Assumes nothing.
use Prim.Native.Nat.{ℕ, ◌+◌, ◌<◌, ◌≤◌, min, max}
use native.Mathlib.Omega.{arith}
use native.Mathlib.Decide.{ℕ_discrete, dec_lt}
use mathlib.Core.Path.{◌≡◌, refl, sym, ◌∙◌}
use mathlib.Core.Bool.{Bool, true, false, cond}
use mathlib.Core.Logic.{◌⊎◌, inl, inr}
use lib.Dec.{eqb}
use borrow.Author.Tests.{eqb-true}
use Rattle.steps.specs.State.{State}
use Rattle.records.specs.Records.{Answers}
use Rattle.records.proofs.Growth.{Tables, HeldCall, Grew, call_up}
use Rattle.uses.specs.Uses.{Uses, least, greatest, Used, via, heat, Came, SameBefore, UseAdded, ViaNoted, UsesKept, UsesGrew, after_both}
use Rattle.uses.specs.Uses.{Noted, HeldUsed, Quiet, Passed, Between, Spans, Hot, Newest, Up, Warm, Lit}

pub kept_of : {uses uses' : Uses} → UsesGrew uses uses' → UsesKept uses uses'
kept_of g = record { more = g.more; came = g.came }

-- callers and answers before are the same
pub before_refl : (uses : Uses) → SameBefore uses uses
before_refl uses = record { leasts = λ k. refl; greatests = λ k. refl; vias = λ k. refl }

pub before_trans : {uses uses' uses'' : Uses} → SameBefore uses uses' → SameBefore uses' uses'' → SameBefore uses uses''
before_trans a b = record { leasts = λ k. b.leasts k ∙ a.leasts k; greatests = λ k. b.greatests k ∙ a.greatests k; vias = λ k. b.vias k ∙ a.vias k }

pub kept_same : {uses uses' : Uses} → SameBefore uses uses' → UsesKept uses uses'
kept_same same = record { more = λ row i (l, a, b). (l, omega (arith, same.leasts i), omega (arith, same.greatests i)); came = λ last k l c. rw (same.vias k) c }

pub uses_refl : (uses : Uses) → UsesGrew uses uses
uses_refl uses = record { more = λ row i u. u; came = λ last k l c. c; starts = λ k. refl; heats = λ k. refl }

pub uses_trans : {uses uses' uses'' : Uses} → UsesGrew uses uses' → UsesGrew uses' uses'' → UsesGrew uses uses''
uses_trans g h = record {
  more = λ row i u. h.more row i (g.more row i u);
  came = λ last k l c. h.came last k l (g.came last k l c);
  starts = λ k. h.starts k ∙ g.starts k;
  heats = λ k. h.heats k ∙ g.heats k;
}

module _ {uses uses' : Uses} {row i : ℕ} (A : UseAdded uses row i uses') (small : i < 65536) where
  pub use_new : Used uses' row i
  use_new = (small, omega (arith, A.lowest), omega (arith, A.highest))

  pub use_grew : UsesGrew uses uses'
  use_grew = record {
    more = λ r k u. more r k u (ℕ_discrete k i);
    came = λ last k l c. rw (A.vias k) c;
    starts = A.looks.starts;
    heats = A.looks.heats;
  }
    where
      more : (r k : ℕ) → Used uses r k → Dec (k ≡ i) → Used uses' r k
      more r k (l, a, b) (no n) = (l, omega (arith, A.leasts k n), omega (arith, A.greatests k n))
      more r k u (yes e) =
          let (z, a, b) : Used uses r i = rw e at u in
          rw e (small, omega (arith, A.lowest), omega (arith, A.highest))

both_last : (was last : ℕ) → (after_both was last ≡ last) ⊎ (after_both was last ≡ 65535)
unfolding after_both
both_last was last = by (eqb was 0) (eqb was last)
  where
    least_of : Dec (last < 65535) → (min last 65535 ≡ last) ⊎ (min last 65535 ≡ 65535)
    least_of (yes l) = inl (omega arith)
    least_of (no n) = inr (omega arith)

    by : (a b : Bool) → (cond a (min last 65535) (cond b last 65535) ≡ last) ⊎ (cond a (min last 65535) (cond b last 65535) ≡ 65535)
    by true b = least_of (dec_lt last 65535)
    by false true = inl refl
    by false false = inr refl

pub both_most : (was last : ℕ) → was ≤ 65535 → after_both was last ≤ 65535
unfolding after_both
both_most was last l = by (eqb was 0) (eqb was last) refl
  where
    by : (a b : Bool) → eqb was last ≡ b → cond a (min last 65535) (cond b last 65535) ≤ 65535
    by true b e = omega arith
    by false true e = let z = eqb-true was last e in omega arith
    by false false e = omega arith

both_was : (was last : ℕ) → (was ≡ 0) ⊎ ((after_both was last ≡ was) ⊎ (after_both was last ≡ 65535))
unfolding after_both
both_was was last = by (eqb was 0) (eqb was last) refl refl
  where
    by : (a b : Bool) → eqb was 0 ≡ a → eqb was last ≡ b → (was ≡ 0) ⊎ ((cond a (min last 65535) (cond b last 65535) ≡ was) ⊎ (cond a (min last 65535) (cond b last 65535) ≡ 65535))
    by true b e f = inl (eqb-true was 0 e)
    by false true e f = inr (inl (sym (eqb-true was last f)))
    by false false e f = inr (inr refl)

module _ {uses uses' : Uses} {last i : ℕ} (A : ViaNoted uses last i uses') where
  pub via_new : Came uses' last i
  via_new = inr (rw A.here (both_last (via uses i) last))

  pub via_grew : UsesGrew uses uses'
  via_grew = record {
    more = λ r k (l, a, b). (l, omega (arith, A.leasts k), omega (arith, A.greatests k));
    came = λ v k l c. came v k c (ℕ_discrete k i);
    starts = A.looks.starts;
    heats = A.looks.heats;
  }
    where
      at : (v : ℕ) → Came uses v i → (via uses i ≡ 0) ⊎ ((after_both (via uses i) last ≡ via uses i) ⊎ (after_both (via uses i) last ≡ 65535)) → Came uses' v i
      at v (inl z) b = inl z
      at v (inr (inl z)) (inl e) = inl (sym z ∙ e)
      at v (inr (inl z)) (inr (inl e)) = inr (inl (A.here ∙ e ∙ z))
      at v (inr (inl z)) (inr (inr e)) = inr (inr (A.here ∙ e))
      at v (inr (inr z)) (inl e) = absurd (omega arith)
      at v (inr (inr z)) (inr (inl e)) = inr (inr (A.here ∙ e ∙ z))
      at v (inr (inr z)) (inr (inr e)) = inr (inr (A.here ∙ e))

      came : (v k : ℕ) → Came uses v k → Dec (k ≡ i) → Came uses' v k
      came v k c (no n) = rw (A.vias k n) c
      came v k c (yes e) = rw e (at v (rw e at c) (both_was (via uses i) last))

pub noted_both : {uses uses' uses'' : Uses} {row last i : ℕ} → UseAdded uses row i uses' → ViaNoted uses' last i uses'' → i < 65536 → Noted uses uses'' row last i
noted_both {uses} {uses'} {uses''} {row} {last} {i} A B small =
    let g = use_grew A small in
    let h = via_grew B in
    record { grew = uses_trans g h; used = h.more row i (use_new A small); after = via_new B }

pub noted_none : {uses uses' : Uses} {row i : ℕ} → UseAdded uses row i uses' → i < 65536 → Noted uses uses' row 0 i
noted_none A small = record { grew = use_grew A small; used = use_new A small; after = inl refl }

pub held_used : (t : Tables) (uses : Uses) (row : ℕ) (c : (ℕ × State) × ℕ) → HeldUsed t uses row c → HeldCall t c.0
held_used t uses row c (i, l, k, u, v) = (i, l, k)

pub held_used_up : {t u : Tables} {uses uses' : Uses} → Grew t u → UsesKept uses uses' → (row : ℕ) (c : (ℕ × State) × ℕ) → HeldUsed t uses row c → HeldUsed u uses' row c
held_used_up g w row c (i, l, k, v, a) = (i, omega (arith, g.calls_more), call_up g l k, w.more row i v, w.came c.1 i v.0 a)

-- with one answer more before them
pub between_more : (answers : Answers) (uses : Uses) (low high x known l g : ℕ) → Between answers uses low high (x + 1) known → l ≡ least uses (answers.call x) → g ≡ greatest uses (answers.call x)
    → Between answers uses (min low l) (max high (g + 1)) x known
between_more answers uses low high x known l g B e f y i h k = by (ℕ_discrete y x)
  where
    by : Dec (y ≡ x) → (min low l ≤ least uses (answers.call y)) × (greatest uses (answers.call y) < max high (g + 1))
    by (yes z) = rw (z, ← e, ← f) (omega arith, omega arith)
    by (no n) = let (a, b) = B y (omega arith) h k in (omega arith, omega arith)

module _ (answers : Answers) (uses : Uses) (walked seen known rows low high top : ℕ) (g : Between answers uses low high seen known) (before : low ≤ walked) where
  below : (r : ℕ) → r < low → Quiet answers uses walked seen known r
  below r h = record { old = omega arith; none = λ x l k (i, a, b). (let (c, d) = g x l k i in omega arith) }

  above : (r : ℕ) → high ≤ r → r < walked → Quiet answers uses walked seen known r
  above r h o = record { old = o; none = λ x l k (i, a, b). (let (c, d) = g x l k i in omega arith) }

  -- where there are new records, all up to the last are looked at; else those up to `high`
  pub spans : walked ≤ rows → ((walked < rows) × (top ≡ rows)) ⊎ ((rows ≤ walked) × (top ≡ min high rows)) → Spans answers uses walked seen known rows low high top
  spans in_rows by = record { low_in = omega arith; top_in = inside by; quiet = λ r l p. calm r l p by }
    where
      inside : ((walked < rows) × (top ≡ rows)) ⊎ ((rows ≤ walked) × (top ≡ min high rows)) → top ≤ rows
      inside (inl (a, e)) = omega arith
      inside (inr (a, e)) = omega arith

      calm : (r : ℕ) → r < rows → Passed low high top walked r → ((walked < rows) × (top ≡ rows)) ⊎ ((rows ≤ walked) × (top ≡ min high rows)) → Quiet answers uses walked seen known r
      calm r l (inl h) c = below r h
      calm r l (inr (inl (h, o))) c = above r h o
      calm r l (inr (inr h)) (inl (a, e)) = absurd (omega arith)
      calm r l (inr (inr h)) (inr (a, e)) = above r (omega arith) (omega arith)

-- with other numbers for what a round looks at
pub spans_same : {answers : Answers} {uses uses' : Uses} {walked seen known rows low high top : ℕ} → SameBefore uses uses' → Spans answers uses walked seen known rows low high top → Spans answers uses' walked seen known rows low high top
spans_same {answers} {uses} {uses'} {walked} {seen} {known} same S = record { low_in = S.low_in; top_in = S.top_in; quiet = λ r l p. (let q = S.quiet r l p in record { old = q.old; none = λ x i h u. q.none x i h (back r (answers.call x) u) }) }
  where
    back : (r i : ℕ) → Used uses' r i → Used uses r i
    back r i (l, a, b) = (l, omega (arith, same.leasts i), omega (arith, same.greatests i))

-- no answer is looked at of a record to which walks come after one that is not
pub cold : (answers : Answers) (uses : Uses) (seen known y k : ℕ) → Warm answers uses seen known → k < 65536 → Came uses (y + 1) k → (Hot answers uses seen y → ⊥) → seen ≤ heat uses k → ⊥
cold answers uses seen known y k W l c n e = by c (W.up k l e)
  where
    by : Came uses (y + 1) k → Up answers uses seen known k → ⊥
    by (inl z) u = omega arith
    by (inr (inl z)) (inl v) = omega arith
    by (inr (inl z)) (inr (x, v, i, h)) = let w : x ≡ y = omega arith in n (rw w at h)
    by (inr (inr z)) (inl v) = omega arith
    by (inr (inr z)) (inr (x, v, i, h)) = omega arith

-- in grown tables
pub lit_up : {b u : Tables} {uses : Uses} {seen known : ℕ} {warm : Bool} → Grew b u → known ≤ b.answers.count → Lit b.answers uses seen known warm → Lit u.answers uses seen known warm
lit_up {b} {u} {uses} {seen} {known} {warm} g enough L = record { newest = λ y l h. newest y h (L.newest y l h); looked = λ e. (let W = L.looked e in record { new = λ x l h. hot x h (W.new x l h); up = λ k l e. up k (W.up k l e) }) }
  where
    newest : (y : ℕ) → y < known → Newest b.answers uses seen y → Newest u.answers uses seen y
    newest y h (l, a, c, d) =
        let e : u.answers.call y ≡ b.answers.call y = g.call_same {x = y} (omega arith) in
        let f : u.answers.call (heat uses (b.answers.call y)) ≡ b.answers.call (heat uses (b.answers.call y)) = g.call_same {x = heat uses (b.answers.call y)} (omega arith) in
        rw (e, f) (l, a, c, d)

    hot : (x : ℕ) → x < known → Hot b.answers uses seen x → Hot u.answers uses seen x
    hot x h k = rw (g.call_same {x = x} (omega arith)) k

    up : (k : ℕ) → Up b.answers uses seen known k → Up u.answers uses seen known k
    up k (inl z) = inl z
    up k (inr (y, z, l, h)) = inr (y, z, l, hot y (omega arith) h)
