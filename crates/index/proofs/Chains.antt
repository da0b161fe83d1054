-- Chains and queues of records as functions: from a bucket the latest record of it and from each record the one before it of the same bucket;
-- from a call record its first and its last answer and from each answer the next of the same call record. What they say is checked against the
-- records where it is used, so they say nothing of a bucket or a call record without any. Assumes nothing.
use Prim.Native.Nat.{ℕ, ◌+◌, ◌<◌, ◌≤◌}
use native.Mathlib.Omega.{arith}
use native.Mathlib.Decide.{ℕ_discrete}
use mathlib.Core.Path.{◌≡◌, sym, ap, ◌∙◌}
use mathlib.Core.Logic.{◌≢◌}
use Rattle.index.specs.Index.{Latest, Covers, Queued}

-- A record more of key k is the latest of it.
module _ (most : ℕ) (key key' latest latest' : ℕ → ℕ) (n k : ℕ) where
  latest_more : Latest most key n latest → ((i : ℕ) → i < n → key' i ≡ key i) → key' n ≡ k → latest' k ≡ n
      → ((i j : ℕ) → i < most → j < n → key j ≡ i → i ≢ k → latest' i ≡ latest i)
      → Latest most key' (n + 1) latest'
  latest_more c kept new top latest-kept h j s l e = by (ℕ_discrete h k)
    where
      by : Dec (h ≡ k) → (latest' h < n + 1) × (key' (latest' h) ≡ h) × (j ≤ latest' h)
      by (yes z) =
          let t : latest' h ≡ n = rw z top in
          rw t (omega arith, new ∙ sym z, omega arith)
      by (no d) =
          let other : j ≢ n = λ z. d (sym e ∙ rw z new) in
          let m : j < n = omega arith in
          let t = latest-kept h j s m (sym (kept j m) ∙ e) d in
          let (a, b, g) = c h j s m (sym (kept j m) ∙ e) in
          (omega arith, ap key' t ∙ kept (latest h) a ∙ b, omega arith)

pub covers_none : (most : ℕ) (key : ℕ → ℕ) (n : ℕ) (heads links : ℕ → ℕ) → n ≡ 0 → Covers most key n heads links
covers_none most key n heads links e = record { head = λ k j s l. absurd (omega arith); link = λ i j l. absurd (omega arith) }

-- A record more of key k: it is k's head, and its link is the head that k had.
module _ (most : ℕ) (key key' heads heads' links links' : ℕ → ℕ) (n k : ℕ) where
  pub covers_more : Covers most key n heads links → ((i : ℕ) → i < n → key' i ≡ key i) → key' n ≡ k → k < most
      → heads' k ≡ n → ((i : ℕ) → i ≢ k → heads' i ≡ heads i)
      → links' n ≡ heads k → ((i : ℕ) → i < n → links' i ≡ links i) → Covers most key' (n + 1) heads' links'
  covers_more c kept new small top heads-kept before links-kept = record {
    head = latest_more most key key' heads heads' n k c.head kept new top (λ i j s l e d. heads-kept i d);
    link = λ i j l b e. by_link i j l b e (ℕ_discrete i n);
  }
    where
      by_link : (i j : ℕ) → i < n + 1 → j < i → key' j ≡ key' i → Dec (i ≡ n) → (links' i < i) × (key' (links' i) ≡ key' i) × (j ≤ links' i)
      by_link i j l b e (yes z) =
          let t : links' i ≡ heads k = rw z before in
          let f : key' i ≡ k = rw z new in
          let m : j < n = omega arith in
          let (x, y, g) = c.head k j small m (sym (kept j m) ∙ e ∙ f) in
          (omega arith, ap key' t ∙ kept (heads k) x ∙ y ∙ sym f, omega arith)
      by_link i j l b e (no d) =
          let m : i < n = omega arith in
          let t = links-kept i m in
          let (x, y, g) = c.link i j m b (sym (kept j (omega arith)) ∙ e ∙ kept i m) in
          (omega arith, ap key' t ∙ kept (links i) (omega arith) ∙ y ∙ sym (kept i m), omega arith)

-- The latest record taken back: the head of its key is again the one before it.
module _ (most : ℕ) (key heads heads' links links' : ℕ → ℕ) (n : ℕ) where
  pub covers_less : Covers most key (n + 1) heads links → heads' (key n) ≡ links n → ((i : ℕ) → i ≢ key n → heads' i ≡ heads i)
      → ((i : ℕ) → links' i ≡ links i) → Covers most key n heads' links'
  covers_less c top kept links-kept = record { head = λ h j s l e. by_head h j s l e (ℕ_discrete h (key n)); link = by_link }
    where
      by_head : (h j : ℕ) → h < most → j < n → key j ≡ h → Dec (h ≡ key n) → (heads' h < n) × (key (heads' h) ≡ h) × (j ≤ heads' h)
      by_head h j s l e (yes z) =
          let t : heads' h ≡ links n = rw z top in
          let (a, b, g) = c.link n j (omega arith) l (e ∙ z) in
          (omega arith, ap key t ∙ b ∙ sym z, omega arith)
      by_head h j s l e (no d) =
          let t = kept h d in
          let (a, b, g) = c.head h j s (omega arith) e in
          let other : heads h ≢ n = λ z. d (sym b ∙ ap key z) in
          (omega arith, ap key t ∙ b, omega arith)

      by_link : (i j : ℕ) → i < n → j < i → key j ≡ key i → (links' i < i) × (key (links' i) ≡ key i) × (j ≤ links' i)
      by_link i j l b e =
          let t = links-kept i in
          let (x, y, g) = c.link i j (omega arith) b e in
          (omega arith, ap key t ∙ y, omega arith)

-- Other words with the same keys, heads and links are covered as well.
module _ {most : ℕ} {key key' heads heads' links links' : ℕ → ℕ} {n : ℕ} where
  pub covers_same : Covers most key n heads links → ((i : ℕ) → i < n → key' i ≡ key i) → ((k : ℕ) → heads' k ≡ heads k)
      → ((i : ℕ) → links' i ≡ links i) → Covers most key' n heads' links'
  covers_same c same h t = record {
    head = λ k j s l e. let (a, b, g) = c.head k j s l (sym (same j l) ∙ e) in rw (h k) (a, same (heads k) a ∙ b, g);
    link = λ i j l b e. let (x, y, g) = c.link i j l b (sym (same j (omega arith)) ∙ e ∙ same i l) in
        rw (t i) (x, same (links i) (omega arith) ∙ y ∙ sym (same i l), g);
  }

-- Answers with the same call records are queued by the same words.
pub queued_same : (call call' firsts firsts' lasts lasts' nexts nexts' : ℕ → ℕ) (m : ℕ) → Queued call m firsts lasts nexts
    → ((x : ℕ) → x < m → call' x ≡ call x) → ((r : ℕ) → firsts' r ≡ firsts r) → ((r : ℕ) → lasts' r ≡ lasts r) → ((x : ℕ) → nexts' x ≡ nexts x)
    → Queued call' m firsts' lasts' nexts'
queued_same call call' firsts firsts' lasts lasts' nexts nexts' m q same f g h = record {
  first = λ r y s l e. let (a, b, d) = q.first r y s l (sym (same y l) ∙ e) in rw (f r) (a, same (firsts r) a ∙ b, d);
  last = λ r y s l e. let (a, b, d) = q.last r y s l (sym (same y l) ∙ e) in rw (g r) (a, same (lasts r) a ∙ b, d);
  next = λ x y b l e. let (u, v, w, d) = q.next x y b l (sym (same y l) ∙ e ∙ same x (omega arith)) in
      rw (h x) (u, v, same (nexts x) v ∙ w ∙ sym (same x (omega arith)), d);
}

pub queued_none : (call : ℕ → ℕ) (m : ℕ) (firsts lasts nexts : ℕ → ℕ) → m ≡ 0 → Queued call m firsts lasts nexts
queued_none call m firsts lasts nexts e = record { first = λ r y s l. absurd (omega arith); last = λ r y s l. absurd (omega arith); next = λ x y b l. absurd (omega arith) }

-- An answer more, of call record `row`: it is the last, and it is the next of the last that was or else the first.
module _ (call call' firsts firsts' lasts lasts' nexts nexts' : ℕ → ℕ) (m row : ℕ) (q : Queued call m firsts lasts nexts)
    (kept : (y : ℕ) → y < m → call' y ≡ call y) (new : call' m ≡ row) (small : row < 65536)
    (end : lasts' row ≡ m) (lasts_kept : (r y : ℕ) → r < 65536 → y < m → call y ≡ r → r ≢ row → lasts' r ≡ lasts r) where
  last_more : Latest 65536 call' (m + 1) lasts'
  last_more = latest_more 65536 call call' lasts lasts' m row q.last kept new end lasts_kept

  module _ (held : lasts row < m) (of_row : call (lasts row) ≡ row) (firsts_kept : (r : ℕ) → r < 65536 → firsts' r ≡ firsts r)
      (joined : nexts' (lasts row) ≡ m) (nexts_kept : (x : ℕ) → x < m → x ≢ lasts row → nexts' x ≡ nexts x) where
    first_behind : (r y : ℕ) → r < 65536 → y < m + 1 → call' y ≡ r → Dec (y ≡ m) → (firsts' r < m + 1) × (call' (firsts' r) ≡ r) × (firsts' r ≤ y)
    first_behind r y s l e (yes z) =
        let f : row ≡ r = sym new ∙ rw z at e in
        let t = firsts_kept r s in
        let (a, b, g) = q.first r (lasts row) s held (of_row ∙ f) in
        (omega arith, ap call' t ∙ kept (firsts r) a ∙ b, omega arith)
    first_behind r y s l e (no d) =
        let b : y < m = omega arith in
        let t = firsts_kept r s in
        let (a, f, g) = q.first r y s b (sym (kept y b) ∙ e) in
        (omega arith, ap call' t ∙ kept (firsts r) a ∙ f, omega arith)

    pub queued_behind : Queued call' (m + 1) firsts' lasts' nexts'
    queued_behind = record {
      first = λ r y s l e. first_behind r y s l e (ℕ_discrete y m);
      last = last_more;
      next = λ x y b l e. next_behind x y b l e (ℕ_discrete y m) (ℕ_discrete x (lasts row));
    }
      where
        next_behind : (x y : ℕ) → x < y → y < m + 1 → call' y ≡ call' x → Dec (y ≡ m) → Dec (x ≡ lasts row) → (x < nexts' x) × (nexts' x < m + 1) × (call' (nexts' x) ≡ call' x) × (nexts' x ≤ y)
        next_behind x y b l e (yes z) (yes w) =
            let t : nexts' x ≡ m = rw w joined in
            rw t (omega arith, omega arith, rw z at e, omega arith)
        next_behind x y b l e (yes z) (no d) =
            let u : x < m = omega arith in
            let t = nexts_kept x u d in
            let f : call x ≡ row = sym (kept x u) ∙ sym e ∙ rw z new in
            let (i, j, k) = q.last row x small u f in
            let (g, h, v, w) = q.next x (lasts row) (omega arith) held (of_row ∙ sym f) in
            (omega arith, omega arith, ap call' t ∙ kept (nexts x) h ∙ v ∙ sym (kept x u), omega arith)
        next_behind x y b l e (no n) (yes w) =
            let a : y < m = omega arith in
            let f : call x ≡ row = rw w of_row in
            let (i, j, k) = q.last row y small a (sym (kept y a) ∙ e ∙ kept x (omega arith) ∙ f) in
            absurd (omega arith)
        next_behind x y b l e (no n) (no d) =
            let a : y < m = omega arith in
            let u : x < m = omega arith in
            let t = nexts_kept x u d in
            let (g, h, v, w) = q.next x y b a (sym (kept y a) ∙ e ∙ kept x u) in
            (omega arith, omega arith, ap call' t ∙ kept (nexts x) h ∙ v ∙ sym (kept x u), omega arith)

  module _ (none_held : (y : ℕ) → y < m → call y ≡ row → ⊥) (begin : firsts' row ≡ m)
      (firsts_kept : (r : ℕ) → r < 65536 → r ≢ row → firsts' r ≡ firsts r) (nexts_kept : (x : ℕ) → x < m → nexts' x ≡ nexts x) where
    first_alone : (r y : ℕ) → r < 65536 → y < m + 1 → call' y ≡ r → Dec (r ≡ row) → (firsts' r < m + 1) × (call' (firsts' r) ≡ r) × (firsts' r ≤ y)
    first_alone r y s l e (yes z) =
        let t : firsts' r ≡ m = rw z begin in
        let old : y < m → ⊥ = λ b. none_held y b (sym (kept y b) ∙ e ∙ z) in
        rw t (omega arith, new ∙ sym z, at_end old)
      where
        at_end : (y < m → ⊥) → m ≤ y
        at_end old = omega arith
    first_alone r y s l e (no d) =
        let other : y ≢ m = λ z. d (sym e ∙ rw z new) in
        let b : y < m = omega arith in
        let t = firsts_kept r s d in
        let (a, f, g) = q.first r y s b (sym (kept y b) ∙ e) in
        (omega arith, ap call' t ∙ kept (firsts r) a ∙ f, omega arith)

    pub queued_alone : Queued call' (m + 1) firsts' lasts' nexts'
    queued_alone = record {
      first = λ r y s l e. first_alone r y s l e (ℕ_discrete r row);
      last = last_more;
      next = λ x y b l e. next_alone x y b l e (ℕ_discrete y m);
    }
      where
        next_alone : (x y : ℕ) → x < y → y < m + 1 → call' y ≡ call' x → Dec (y ≡ m) → (x < nexts' x) × (nexts' x < m + 1) × (call' (nexts' x) ≡ call' x) × (nexts' x ≤ y)
        next_alone x y b l e (yes z) = let u : x < m = omega arith in absurd (none_held x u (sym (kept x u) ∙ sym e ∙ rw z new))
        next_alone x y b l e (no n) =
            let a : y < m = omega arith in
            let u : x < m = omega arith in
            let t = nexts_kept x u in
            let (g, h, v, w) = q.next x y b a (sym (kept y a) ∙ e ∙ kept x u) in
            (omega arith, omega arith, ap call' t ∙ kept (nexts x) h ∙ v ∙ sym (kept x u), omega arith)
