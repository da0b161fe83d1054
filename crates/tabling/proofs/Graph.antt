-- A body's steps as a layered graph: the search's moves there, and what a swept body is closed under. Assumes nothing.
use Prim.Native.Nat.{ℕ, suc, ◌+◌, ◌<◌, ◌≤◌}
use native.Mathlib.Omega.{arith}
use mathlib.Core.Path.{◌≡◌, refl, sym, ap, subst, ◌∙◌}
use mathlib.Core.List.{List, [], ◌∷◌}
use lib.ListN.{length, get_or, drop, length-drop}
use lib.Seq.{drop-cons}
use Rattle.tabling.proofs.Sweep.{Reach, here, more, Swept, Upto, Link, upto_suc, finish, passed}

-- What a step does in a state: nothing, an elementary step, or a call.
pub data Front (St Call : Type 0) : Type 0 where
  stuck : Front St Call
  goes : St → Front St Call
  calls : Call → Front St Call

module _ {St Call : Type 0} where
  -- the step leads to t with the evidence x
  abbrev pub Leads : (Call → ℕ → Type 0) → (ℕ → St) → Front St Call → ℕ → St → Type 0
  Leads of final stuck x t = ⊥
  Leads of final (goes u) x t = (x ≡ 0) × (u ≡ t)
  Leads of final (calls c) x t = of c x × (final x ≡ t)

  -- the call that it comes to is known
  abbrev pub Known : (Call → Type 0) → Front St Call → Type 0
  Known C stuck = Unit {0}
  Known C (goes t) = Unit {0}
  Known C (calls c) = C c

  leads_once : (of : Call → ℕ → Type 0) (final : ℕ → St) (f : Front St Call) (x : ℕ) {t t' : St} → Leads of final f x t → Leads of final f x t' → t ≡ t'
  leads_once of final stuck x l l' = absurd l
  leads_once of final (goes u) x l l' = sym l.1 ∙ l'.1
  leads_once of final (calls c) x l l' = sym l.1 ∙ l'.1

module _ {St Call : Type 0} where
  -- the same in a state with a number, which an elementary step keeps
  abbrev pub numbered : Front St Call → ℕ → Front (St × ℕ) (Call × ℕ)
  numbered stuck l = stuck
  numbered (goes t) l = goes (t, l)
  numbered (calls c) l = calls (c, l)

module _ {St Call : Type 0} where
  pub leads_plain : (of : Call → ℕ → Type 0) (final : ℕ → St) (f : Front St Call) (l x : ℕ) (u : St × ℕ) → Leads (λ (c : Call × ℕ) (y : ℕ). of c.0 y) (λ (y : ℕ). (final y, y + 1)) (numbered f l) x u → Leads of final f x u.0
  leads_plain of final stuck l x u e = e
  leads_plain of final (goes t) l x u (z, e) = (z, ap (λ (v : St × ℕ). v.0) e)
  leads_plain of final (calls c) l x u (o, e) = (o, ap (λ (v : St × ℕ). v.0) e)

  pub leads_numbered : (of : Call → ℕ → Type 0) (final : ℕ → St) (f : Front St Call) (l x : ℕ) (t : St) → Leads of final f x t → (k : ℕ) × Leads (λ (c : Call × ℕ) (y : ℕ). of c.0 y) (λ (y : ℕ). (final y, y + 1)) (numbered f l) x (t, k)
  leads_numbered of final stuck l x t e = (0, e)
  leads_numbered of final (goes u) l x t (z, e) = (l, (z, λ i. (e i, l)))
  leads_numbered of final (calls c) l x t (o, e) = (x + 1, (o, λ i. (e i, x + 1)))

  pub known_plain : (C : Call → Type 0) (C' : Call × ℕ → Type 0) → ((c : Call × ℕ) → C' c → C c.0) → (f : Front St Call) (l : ℕ) → Known C' (numbered f l) → Known C f
  known_plain C C' up stuck l k = k
  known_plain C C' up (goes t) l k = k
  known_plain C C' up (calls c) l k = up (c, l) k

-- `of c x`: the answer x is of the call c and may be used; `final x` is its state.
module _ {Step St Call : Type 0} (front : Step → St → Front St Call) (of : Call → ℕ → Type 0) (final : ℕ → St) (d : Step) (body : List Step) where
  abbrev pub at_place : ℕ → St → Front St Call
  at_place q s = front (get_or body q d) s

  abbrev pub Edge : ℕ → St → ℕ → St → Type 0
  Edge q s x t = (q < length body) × Leads of final (at_place q s) x t

  pub record Good (C : Call → Type 0) (A : St → Type 0) (q : ℕ) (s : St) : Type 0 where
    pub ends : q ≡ length body → A s
    pub called : q < length body → Known C (at_place q s)

  pub leads : (q : ℕ) (s : St) (x : ℕ) (t t' : St) → Edge q s x t → Edge q s x t' → t ≡ t'
  leads q s x t t' e e' = leads_once of final (at_place q s) x e.1 e'.1

  module _ {C : Call → Type 0} {A : St → Type 0} {q : ℕ} {s : St} where
    good_at : q < length body → Known C (at_place q s) → Good C A q s
    good_at h k = record { ends = λ e. absurd (omega arith); called = λ _. k }

    -- an elementary step
    pub forward : {t : St} → q < length body → at_place q s ≡ goes t → Link Edge (Good C A) q s 0 t
    forward h e = record { edge = (h, rw e (refl, refl)); good = good_at h (rw e tt); upto = λ x t l _. absurd (omega arith) }

    pub stops : q < length body → at_place q s ≡ stuck → Swept Edge (Good C A) q s
    stops h e = finish Edge (Good C A) {i = 0} (good_at h (rw e tt)) (λ x t l _. absurd (omega arith)) (λ x t k. absurd (rw e at k.1))

    -- the body's end
    pub ended : q ≡ length body → A s → Swept Edge (Good C A) q s
    ended e a = finish Edge (Good C A) {i = 0} (record { ends = λ _. a; called = λ h. absurd (omega arith) }) (λ x t l _. absurd (omega arith)) (λ x t k. absurd (omega arith))

    -- a call: its answers in turn
    module _ {c : Call} (h : q < length body) (e : at_place q s ≡ calls c) where
      pub first : Upto Edge (Good C A) q s 0
      first x t l _ = absurd (omega arith)

      pub skip : {i : ℕ} → Upto Edge (Good C A) q s i → (of c i → Swept Edge (Good C A) (suc q) (final i)) → Upto Edge (Good C A) q s (suc i)
      skip {i} u k = upto_suc Edge (Good C A) u (λ t l. let m : Leads of final (calls c) i t = rw e at l.1 in subst (Swept Edge (Good C A) (suc q)) m.1 (k m.0))

      pub take : {i : ℕ} → C c → of c i → Upto Edge (Good C A) q s i → Link Edge (Good C A) q s i (final i)
      take k o u = record { edge = (h, rw e (o, refl)); good = good_at h (rw e k); upto = u }

      pub none_left : {i : ℕ} → C c → Upto Edge (Good C A) q s i → ((x : ℕ) → of c x → x < i) → Swept Edge (Good C A) q s
      none_left {i} k u all = finish Edge (Good C A) (good_at h (rw e k)) u (λ x t l. let m : Leads of final (calls c) x t = rw e at l.1 in all x m.0)

    -- back over an elementary step
    pub backward : {x : ℕ} {t u : St} → Link Edge (Good C A) q s x t → at_place q s ≡ goes u → Swept Edge (Good C A) (suc q) t → Swept Edge (Good C A) q s
    backward {x} l e k = finish Edge (Good C A) l.good (passed Edge leads l k) (λ y v m. let n : Leads of final (goes _) y v = rw e at m.1 in omega arith)

  -- ---- walks of the body as a list
  pub data Walk : St → List Step → St → List Step → Type 0 where
    stands : {s : St} {xs : List Step} → Walk s xs s xs
    walks : {s t u : St} {a : Step} {xs left : List Step} → front a s ≡ goes t → Walk t xs u left → Walk s (a ∷ xs) u left
    takes : {s u : St} {a : Step} {xs left : List Step} {c : Call} {x : ℕ} → front a s ≡ calls c → of c x → Walk (final x) xs u left → Walk s (a ∷ xs) u left

  peel : {a : Step} {xs : List Step} (q : ℕ) → a ∷ xs ≡ drop q body → (q < length body) × (get_or body q d ≡ a) × (xs ≡ drop (suc q) body)
  peel {a} {xs} q e =
      let h : q < length body = omega (arith, ap length e, length-drop q body) in
      let f : a ∷ xs ≡ get_or body q d ∷ drop (suc q) body = e ∙ drop-cons body q d h in
      (h, cc, cc)

  walk_reach : {s t : St} {xs left : List Step} (q : ℕ) → q ≤ length body → xs ≡ drop q body → Walk s xs t left → (p : ℕ) × Reach Edge q s p t × (p ≤ length body) × (left ≡ drop p body)
  walk_reach q h e stands = (q, here, h, e)
  walk_reach q h e (walks {s = s} {t = v} f w) =
      let (l, g, r) = peel q e in
      let (p, k, b, z) = walk_reach (suc q) l r w in
      let one : Edge q s 0 v = (l, rw (g, f) (refl, refl)) in
      (p, more one k, b, z)
  walk_reach q h e (takes {s = s} {x = x} f o w) =
      let (l, g, r) = peel q e in
      let (p, k, b, z) = walk_reach (suc q) l r w in
      let one : Edge q s x (final x) = (l, rw (g, f) (o, refl)) in
      (p, more one k, b, z)

  -- A swept body is closed: a walk that gets to its end has its final state in A, one that comes to a call has it in C.
  pub closed_ends : {C : Call → Type 0} {A : St → Type 0} {s t : St} → Swept Edge (Good C A) 0 s → Walk s body t [] → A t
  closed_ends {t = t} k w =
      let (p, r, b, z) = walk_reach 0 (omega arith) refl w in
      (k p t r).ends (omega (arith, ap length z, length-drop p body))

  pub closed_calls : {C : Call → Type 0} {A : St → Type 0} {s t : St} {a : Step} {xs : List Step} {c : Call} → Swept Edge (Good C A) 0 s → Walk s body t (a ∷ xs) → front a t ≡ calls c → C c
  closed_calls {C} {t = t} k w e =
      let (p, r, b, z) = walk_reach 0 (omega arith) refl w in
      let (l, g, y) = peel p z in
      let m : Known C (front (get_or body p d) t) = (k p t r).called l in rw (g, e) at m
