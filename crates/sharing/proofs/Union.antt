-- Things of two kinds that outnumber two numbers together: those of one kind outnumber theirs. Assumes nothing.
use Prim.Native.Nat.{ℕ, ◌+◌, ◌-◌, ◌≤◌, ◌<◌}
use native.Mathlib.Omega.{arith}
use native.Mathlib.Decide.{dec_lt}
use mathlib.Core.Path.{◌≡◌, refl}
use mathlib.Core.List.Memᴰ
use mathlib.Core.List.{List, [], ◌∷◌, ◌++◌, Memᴰ}
use mathlib.Core.Logic.{◌⊎◌, inl, inr, ⊎_elim}
use lib.ListN.{length, length-append}
use Rattle.steps.specs.Counting.{Distinct, none, more, Exactly, Outnumbers}
use Rattle.steps.proofs.Counting.{pigeonhole, exactly_outnumbers}

-- What outnumbers a number outnumbers every lesser one.
pub outnumbers_less : {A : Type 0} {P : A → Type 0} {k n : ℕ} → k ≤ n → Outnumbers P n → Outnumbers P k
outnumbers_less {k = k} l (xs, d, all, long) =
    let (ys, e, f, m) = (exactly_outnumbers {P = λ x. Memᴰ x xs} k (record { once = d; members = λ x. (λ h. h, λ h. h) })).1 (omega (arith, long)) in
    (ys, e, (λ x h. all x (f x h)), m)

module _ {A : Type 0} (P Q : A → Type 0) where
  -- A union of two exact lists has at most as many members as both together.
  pub union_few : {xs ys zs : List A} → Exactly P xs → Exactly Q ys → Exactly (λ x. P x ⊎ Q x) zs → length zs ≤ length xs + length ys
  union_few {xs} {ys} {zs} p q e = omega (
    arith,
    length-append xs ys,
    pigeonhole e.once
        (λ x m. ⊎_elim (λ h. Memᴰ.append_left ys ((p.members x).1 h)) (λ h. Memᴰ.append_right xs ((q.members x).1 h)) ((e.members x).0 m)),
  )

  -- a list without repeats, parted by the kind that each member is of
  record Parted (zs : List A) : Type 0 where
    pub of_p : List A
    pub of_q : List A
    pub p_once : Distinct of_p
    pub q_once : Distinct of_q
    pub p_all : (x : A) → Memᴰ x of_p → P x
    pub q_all : (x : A) → Memᴰ x of_q → Q x
    pub p_in : (x : A) → Memᴰ x of_p → Memᴰ x zs
    pub q_in : (x : A) → Memᴰ x of_q → Memᴰ x zs
    pub both : length of_p + length of_q ≡ length zs

  parted : {zs : List A} → Distinct zs → ((x : A) → Memᴰ x zs → P x ⊎ Q x) → Parted zs
  parted none all = record {
    of_p = [];
    of_q = [];
    p_once = none;
    q_once = none;
    p_all = λ x m. absurd (Memᴰ.not-nil m);
    q_all = λ x m. absurd (Memᴰ.not-nil m);
    p_in = λ x m. m;
    q_in = λ x m. m;
    both = refl;
  }
  parted (more {x = z} {xs = zs} new d) all = by (parted d (λ x m. all x (Memᴰ.tail m))) (all z (Memᴰ.head refl))
    where
      each : {R : A → Type 0} {xs : List A} → R z → ((x : A) → Memᴰ x xs → R x) → (x : A) → Memᴰ x (z ∷ xs) → R x
      each h f x m = ⊎_elim (λ e. rw e h) (λ k. f x k) (Memᴰ.cases_cons m)

      by : Parted zs → P z ⊎ Q z → Parted (z ∷ zs)
      by r (inl h) = record {
        of_p = z ∷ r.of_p;
        of_q = r.of_q;
        p_once = more (λ y m. new y (r.p_in y m)) r.p_once;
        q_once = r.q_once;
        p_all = each {R = P} h r.p_all;
        q_all = r.q_all;
        p_in = each {R = λ x. Memᴰ x (z ∷ zs)} (Memᴰ.head refl) (λ x m. Memᴰ.tail (r.p_in x m));
        q_in = λ x m. Memᴰ.tail (r.q_in x m);
        both = omega (arith, r.both);
      }
      by r (inr h) = record {
        of_p = r.of_p;
        of_q = z ∷ r.of_q;
        p_once = r.p_once;
        q_once = more (λ y m. new y (r.q_in y m)) r.q_once;
        p_all = r.p_all;
        q_all = each {R = Q} h r.q_all;
        p_in = λ x m. Memᴰ.tail (r.p_in x m);
        q_in = each {R = λ x. Memᴰ x (z ∷ zs)} (Memᴰ.head refl) (λ x m. Memᴰ.tail (r.q_in x m));
        both = omega (arith, r.both);
      }

  -- Where both together outnumber j + k, one of them outnumbers its own.
  pub union_outnumbered : (j k : ℕ) → Outnumbers (λ x. P x ⊎ Q x) (j + k) → Outnumbers P j ⊎ Outnumbers Q k
  union_outnumbered j k (zs, d, all, long) = by (parted d all)
    where
      over : {R : A → Type 0} {xs : List A} (n : ℕ) → Distinct xs → ((x : A) → Memᴰ x xs → R x) → n < length xs → Outnumbers R n
      over {R} {xs} n d f l = outnumbers_less {n = length xs - 1} (omega arith) (xs, d, f, omega arith)

      by : Parted zs → Outnumbers P j ⊎ Outnumbers Q k
      by r = go (dec_lt j (length r.of_p))
        where
          go : Dec (j < length r.of_p) → Outnumbers P j ⊎ Outnumbers Q k
          go (yes l) = inl (over {R = P} j r.p_once r.p_all l)
          go (no n) = inr (over {R = Q} k r.q_once r.q_all (omega (arith, r.both, long)))
