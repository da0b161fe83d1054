-- Which tables and which list of calls a class run leaves, and that they do not depend on what the buffers held. Assumes nothing.
use Prim.Native.Nat.{◌<◌}
use native.Mathlib.Omega.{arith}
use native.Mathlib.Decide.{dec_lt}
use mathlib.Core.Path.{◌≡◌, refl, sym, ap, ◌∙◌}
use mathlib.Core.List.Memᴰ
use mathlib.Core.List.{List, [], ◌∷◌, Memᴰ}
use mathlib.Core.Logic.{◌≢◌, ◌⊎◌, inl, inr, ⊎_elim}
use Rattle.steps.specs.State.{State}
use Rattle.evaluator.specs.Evaluated.{Asked, Lent, Told, refused_with, CallListShort, Evaluated, not_accepted, list_of_calls_short, outgrown, short_list, ends_listed}
use Rattle.evaluator.proofs.Determined.{tables_kept, one_result, one_table}
use Rattle.class.specs.Class.{places, handed_on, together, Turns, over, turn}
use Rattle.class.specs.Shown.{SameRoom, SameTables, NoneAccepted, TablesLeft, untouched, of_last}
use Rattle.class.proofs.Single.{handed_room}

module _ (ask : State → Asked) where
  pub tables_left : {starts : List State} {before last : Lent} {rs : List Told} → Turns ask starts before last rs → TablesLeft ask starts before last
  tables_left over = untouched (inl (λ s m. absurd (Memᴰ.not-nil m))) refl refl refl
  tables_left (turn {start = start} {later = later} {before = before} {left = left} {last = last} {r = r} {rs = rs} E T) = go (tables_left T) E
    where
      -- a start refused with 20 to 24 before such starts
      all : refused_with (ask start) ≢ 0 → NoneAccepted ask later → NoneAccepted ask (start ∷ later)
      all n rest s m = ⊎_elim (λ e. rw e n) (rest s) (Memᴰ.cases_cons m)

      -- the list of calls is as short after a start as before it
      short_before : CallListShort left → CallListShort before
      short_before h = rw ((tables_kept E).0, (tables_kept E).2) at h

      short_after : CallListShort before → CallListShort left
      short_after h = rw (← (tables_kept E).0, ← (tables_kept E).2) at h

      -- a start refused with 20 to 24 or 34
      same : left ≡ before → NoneAccepted ask (start ∷ later) ⊎ CallListShort before → last.calls ≡ left.calls → last.answers ≡ left.answers → last.list ≡ left.list
          → TablesLeft ask (start ∷ later) before (together (places r) left last)
      same s why c a l = untouched why (c ∙ ap (λ (b : Lent). b.calls) s) (a ∙ ap (λ (b : Lent). b.answers) s) (l ∙ ap (λ (b : Lent). b.list) s)

      -- any other, where no later one is accepted
      last_one : refused_with (ask start) ≡ 0 → ¬ CallListShort before → NoneAccepted ask later ⊎ CallListShort left → last.calls ≡ left.calls → last.answers ≡ left.answers
          → last.list ≡ left.list → TablesLeft ask (start ∷ later) before (together (places r) left last)
      last_one ok n (inl rest) c a l = of_last [] refl ok rest n refl refl refl E c a l
      last_one ok n (inr h) c a l = absurd (n (short_before h))

      go : TablesLeft ask later (handed_on (places r) left) last → Evaluated (ask start) before left r → TablesLeft ask (start ∷ later) before (together (places r) left last)
      go (of_last earlier e ok rest n c a l F d f g) E =
          of_last (start ∷ earlier) (ap (λ (xs : List State). start ∷ xs) e) ok rest (λ h. n (short_after h))
          (c ∙ (tables_kept E).0) (a ∙ (tables_kept E).1) (l ∙ (tables_kept E).2) F d f g
      go (untouched why c a l) (not_accepted n z s) = same s (⊎_elim (λ rest. inl (all n rest)) (λ h. inr (short_before h)) why) c a l
      go (untouched why c a l) (list_of_calls_short ok h z s) = same s (inr h) c a l
      go (untouched why c a l) (outgrown ok n f z s) = last_one ok n why c a l
      go (untouched why c a l) (short_list z t m s) = last_one t.accepted t.listed why c a l
      go (untouched why c a l) (ends_listed z t m up s) = last_one t.accepted t.listed why c a l

  -- ---- whatever the buffers held

  -- A start that is refused with none of 20 to 24.
  abbrev Some : List State → Type 0
  Some starts = (start : State) × Memᴰ start starts × (refused_with (ask start) ≡ 0)

  none_or_some : (starts : List State) → NoneAccepted ask starts ⊎ Some starts
  none_or_some [] = inl (λ s m. absurd (Memᴰ.not-nil m))
  none_or_some (start ∷ later) = by (dec_lt 0 (refused_with (ask start))) (none_or_some later)
    where
      by : Dec (0 < refused_with (ask start)) → NoneAccepted ask later ⊎ Some later → NoneAccepted ask (start ∷ later) ⊎ Some (start ∷ later)
      by (no n) rest = inr (start, Memᴰ.head refl, omega arith)
      by (yes l) (inr (s, m, e)) = inr (s, Memᴰ.tail m, e)
      by (yes l) (inl rest) = inl (λ s m. ⊎_elim (λ e z. omega (arith, ap (λ (t : State). refused_with (ask t)) e)) (rest s) (Memᴰ.cases_cons m))

  -- Starts refused with 20 to 24 leave what they are lent.
  unchanged : {starts : List State} {before last : Lent} {rs : List Told} → NoneAccepted ask starts → Turns ask starts before last rs → SameTables last before
  unchanged none over = record { calls = refl; answers = refl; list = refl }
  unchanged none (turn {start = start} {later = later} {before = before} {left = left} {r = r} E T) =
      let k = unchanged (λ s m. none s (Memᴰ.tail m)) T in
      let s = first E in
      record { calls = k.calls ∙ ap (λ (b : Lent). b.calls) s; answers = k.answers ∙ ap (λ (b : Lent). b.answers) s; list = k.list ∙ ap (λ (b : Lent). b.list) s }
    where
      never : refused_with (ask start) ≡ 0 → left ≡ before
      never ok = absurd (none start (Memᴰ.head refl) ok)

      first : Evaluated (ask start) before left r → left ≡ before
      first (not_accepted n z s) = s
      first (list_of_calls_short ok h z s) = never ok
      first (outgrown ok h f z s) = never ok
      first (short_list z t l s) = never t.accepted
      first (ends_listed z t l up s) = never t.accepted

  -- Where some start is refused with none of 20 to 24 and 34 is not met, the tables and the list of calls left do not depend on what the buffers held.
  pub tables_same : {starts : List State} {b₁ b₂ l₁ l₂ : Lent} {rs₁ rs₂ : List Told} → SameRoom b₁ b₂ → ¬ CallListShort b₁ → Turns ask starts b₁ l₁ rs₁ → Turns ask starts b₂ l₂ rs₂
      → Some starts → SameTables l₁ l₂
  tables_same s n over over (t, m, e) = absurd (Memᴰ.not-nil m)
  tables_same {b₁ = b₁} {b₂ = b₂} {l₁ = l₁} {l₂ = l₂} s n (turn {start = start} {later = later} {left = left₁} E T) (turn {left = left₂} F U) some =
      by (none_or_some later) (λ rest.
      let k = tables_same (handed_room (one_result (ask start) b₁ b₂ s.calls s.answers s.ends s.list E F) s E F) (λ h. n (short h)) T U rest in
      record { calls = k.calls; answers = k.answers; list = k.list })
    where
      ok : NoneAccepted ask later → Some (start ∷ later) → refused_with (ask start) ≡ 0
      ok none (t, m, e) = ⊎_elim (λ z. ap (λ (x : State). refused_with (ask x)) (sym z) ∙ e) (λ k. absurd (none t k e)) (Memᴰ.cases_cons m)

      short : CallListShort left₁ → CallListShort b₁
      short h = rw ((tables_kept E).0, (tables_kept E).2) at h

      by : NoneAccepted ask later ⊎ Some later → (Some later → SameTables l₁ l₂) → SameTables l₁ l₂
      by (inr rest) go = go rest
      by (inl none) go =
          let (c, a, l) = one_table (ask start) b₁ b₂ s.calls s.answers s.ends s.list (ok none some) n E F in
          let t = unchanged none T in
          let u = unchanged none U in
          record { calls = t.calls ∙ c ∙ sym u.calls; answers = t.answers ∙ a ∙ sym u.answers; list = t.list ∙ l ∙ sym u.list }
