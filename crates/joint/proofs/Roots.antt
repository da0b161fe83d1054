-- What holds of tables throughout an evaluation holds with one more root that stands in them; how a root's call that is put in comes out. Assumes
-- nothing.
use Prim.Native.Nat.{ℕ, ◌+◌, ◌<◌}
use native.Mathlib.Omega.{arith}
use mathlib.Core.Path.{◌≡◌, refl, sym, ap, ◌∙◌}
use mathlib.Core.Bool.{Bool, true, false}
use mathlib.Core.List.Memᴰ
use mathlib.Core.List.{List, [], ◌∷◌, ◌++◌, append-nil}
use mathlib.Core.Logic.{◌⊎◌, inl, inr, ⊎_elim}
use Rattle.steps.specs.State.{State}
use Rattle.steps.specs.Counting.{Outnumbers}
use Rattle.steps.proofs.EachBelow.{true_not_false}
use Rattle.steps.proofs.Counting.{outnumbers_map}
use Rattle.steps.proofs.Deductions.{Does}
use Rattle.steps.proofs.Tables.{Reached, reached_map}
use Rattle.steps.proofs.Rows.{table_full}
use Rattle.records.specs.Records.{Calls, Answers, Bodies}
use Rattle.records.specs.Storage.{CallAt, NoCall, CallAdded, CallPut, call_stood, call_added, call_no_room}
use Rattle.records.proofs.Growth.{Tables, tables, HeldCall, Grew, grew_call, held_call_up, call_down}
use Rattle.records.proofs.Justification.{Has, Proper, justified_up}
use Rattle.tabling.proofs.Evidence.{Among, Valid, inside_of}
use Rattle.tabling.proofs.Adding.{Outgrown, last_one, call_row, calls_apart}
use Rattle.joint.specs.Joint.{root_if, RootPut}

module _ {bodies : Bodies} {Root Root' : ℕ → State → Type 0} {t : Tables} (v : Valid bodies Root t) (a : ℕ) (D : State) (old : (b : ℕ) (E : State) → Root b E → Root' b E)
    (only : (b : ℕ) (E : State) → Root' b E → Root b E ⊎ ((b ≡ a) × (E ≡ D))) where
  reached_more : {b : ℕ} {E : State} → Reached Does (Has bodies) Root b E → Reached Does (Has bodies) Root' b E
  reached_more r = reached_map (λ a body h. h) old r

  -- It stood already.
  pub root_stood : HeldCall t (a, D) → Valid bodies Root' t
  root_stood h = record {
    roots = λ b E r. ⊎_elim (λ k. v.roots b E k) (λ (e, f). rw (e, f) h) (only b E r);
    calls_once = v.calls_once;
    answers_once = v.answers_once;
    reached = λ i l. reached_more (v.reached i l);
    justified = v.justified;
  }

  -- It is added.
  pub root_added : Root' a D → Proper bodies → {r : ℕ} {calls' : Calls} → CallAdded t.calls a D r calls' → NoCall t.calls a D → Valid bodies Root' (tables calls' t.answers)
  root_added root proper {calls' = calls'} p none = record {
    roots = λ b E r. ⊎_elim (λ k. held_call_up g (b, E) (v.roots b E k)) (λ (e, f). rw (e, f) (t.calls.count, omega (arith, p.count), p.new)) (only b E r);
    calls_once = λ i j b E l h x y. ⊎_elim (λ (k : j < t.calls.count). v.calls_once i j b E l k (call_down g (omega arith) x) (call_down g k y))
        (λ (z : j ≡ t.calls.count). fresh i b E (omega arith) x (rw z at y)) (last_one (rw p.count at h));
    answers_once = v.answers_once;
    reached = λ i h. ⊎_elim (λ (k : i < t.calls.count). rw (g.action_same k, g.state_same k) (reached_more (v.reached i k)))
        (λ (z : i ≡ t.calls.count). rw (z, p.new.has_action, p.new.has_state) (inl root)) (last_one (rw p.count at h));
    justified = λ x h. justified_up g (inside_of v) h proper (v.justified x h);
  }
    where
      g : Grew t (tables calls' t.answers)
      g = grew_call t p

      fresh : (i b : ℕ) (E : State) → i < t.calls.count → CallAt calls' i b E → CallAt calls' t.calls.count b E → ⊥
      fresh i b E l x y = none i l (call_down g l (record { has_action = x.has_action ∙ sym y.has_action ∙ p.new.has_action; has_state = x.has_state ∙ sym y.has_state ∙ p.new.has_state }))

  -- There is no room for it: more calls than there are.
  pub root_over : Root' a D → NoCall t.calls a D → Outnumbers (λ (c : ℕ × State). Reached Does (Has bodies) Root' c.0 c.1) t.calls.count
  root_over root none =
      table_full (call_row v) (λ (c : ℕ × State). Reached Does (Has bodies) Root' c.0 c.1) t.calls.count (calls_apart v) (λ i l. reached_more (v.reached i l)) (a, D) (inl root)
      (λ i l e. none i l (record { has_action = ap (λ (c : ℕ × State). c.0) e; has_state = ap (λ (c : ℕ × State). c.1) e }))

-- Tables without a record, where there is no root.
pub none_valid : (bodies : Bodies) (calls : Calls) (answers : Answers) → calls.count ≡ 0 → answers.count ≡ 0 → Valid bodies (Among []) (tables calls answers)
none_valid bodies calls answers n m = record {
  roots = λ b E r. absurd (Memᴰ.not-nil r);
  calls_once = λ i j b E l h x y. omega arith;
  answers_once = λ x y row f l h u v. omega arith;
  reached = λ i h. absurd (omega arith);
  justified = λ x h. absurd (omega arith);
}

-- With more roots there are no fewer calls and answers.
pub outgrown_more : (bodies : Bodies) {Root Root' : ℕ → State → Type 0} (n m : ℕ) → ((b : ℕ) (E : State) → Root b E → Root' b E) → Outgrown bodies Root n m → Outgrown bodies Root' n m
outgrown_more bodies n m up (inl o) = inl (outnumbers_map n (λ c r. reached_map (λ a body h. h) up r) o)
outgrown_more bodies n m up (inr o) = inr (outnumbers_map m (λ c (r, e). (reached_map (λ a body h. h) up r, e)) o)

-- ---- a root's call that is put in, if its goal stands

-- The same call by other names.
pub root_as : {stands : Bool} {places : ℕ} {calls : Calls} {a b : ℕ} {D E : State} {calls' : Calls} {row : ℕ} {full : Bool} → b ≡ a → E ≡ D → RootPut stands places calls b E calls' row full → RootPut stands places calls a D calls' row full
root_as e f p = rw (← e, ← f) p

module _ (roots : List (ℕ × State)) (a : ℕ) (D : State) where
  before : (b : ℕ) (E : State) → Among roots b E → Among (roots ++ ((a, D) ∷ [])) b E
  before b E m = Memᴰ.append_left ((a, D) ∷ []) m

  behind : Among (roots ++ ((a, D) ∷ [])) a D
  behind = Memᴰ.append_right roots (Memᴰ.head refl)

  either : (b : ℕ) (E : State) → Among (roots ++ ((a, D) ∷ [])) b E → Among roots b E ⊎ ((b ≡ a) × (E ≡ D))
  either b E m = ⊎_elim (λ k. inl k) (λ k. let z = Memᴰ.eq_of_singleton k in inr (ap (λ (c : ℕ × State). c.0) z, ap (λ (c : ℕ × State). c.1) z)) (Memᴰ.append_cases roots m)

module _ {bodies : Bodies} (proper : Proper bodies) {roots : List (ℕ × State)} {calls : Calls} {answers : Answers} (v : Valid bodies (Among roots) (tables calls answers)) {a : ℕ} {D : State} {places : ℕ} {calls' : Calls} {row : ℕ} {full : Bool} where
  call_put : CallPut places calls a D 0 calls' row full → full ≡ false → Valid bodies (Among (roots ++ ((a, D) ∷ []))) (tables calls' answers)
  call_put (call_stood f l k z) e = rw z (root_stood v a D (before roots a D) (either roots a D) (row, l, k))
  call_put (call_added f i l none p) e = root_added v a D (before roots a D) (either roots a D) (behind roots a D) proper p none
  call_put (call_no_room f i none z) e = absurd (true_not_false (sym f ∙ e))

  call_over : (m : ℕ) → CallPut places calls a D 0 calls' row full → full ≡ true → Outgrown bodies (Among (roots ++ ((a, D) ∷ []))) places m
  call_over m (call_stood f l k z) e = absurd (true_not_false (sym e ∙ f))
  call_over m (call_added f i l none p) e = absurd (true_not_false (sym e ∙ f))
  call_over m (call_no_room f i none z) e = inl (rw i at (root_over v a D (before roots a D) (either roots a D) (behind roots a D) none))

  -- Where there is room the tables hold as before, with this root too.
  pub root_put : (stands : Bool) → RootPut stands places calls a D calls' row full → full ≡ false → Valid bodies (Among (roots ++ root_if stands a D)) (tables calls' answers)
  root_put true p e = call_put (p.put refl) e
  root_put false p e = rw (append-nil roots, (p.spared refl).1) v

  -- Where there is none there are more calls than places.
  pub root_full : (stands : Bool) (m : ℕ) → RootPut stands places calls a D calls' row full → full ≡ true → Outgrown bodies (Among (roots ++ root_if stands a D)) places m
  root_full true m p e = call_over m (p.put refl) e
  root_full false m p e = absurd (true_not_false (sym e ∙ (p.spared refl).0))

-- Where the first root alone is put in, no other call has a record.
module _ {places : ℕ} {calls : Calls} (none : calls.count ≡ 0) {a : ℕ} {D : State} {calls' : Calls} {row : ℕ} {full : Bool} (b : ℕ) (E : State) (other : b ≡ a → ⊥) where
  call_alone : CallPut places calls a D 0 calls' row full → NoCall calls' b E
  call_alone (call_stood f l k z) = absurd (omega (arith, l, none))
  call_alone (call_added f i l n p) = λ x h k. (let z : x ≡ calls.count = omega (arith, h, p.count, none) in other (sym k.has_action ∙ rw z p.new.has_action))
  call_alone (call_no_room f i n z) = rw z (λ x h k. absurd (omega (arith, h, none)))

  pub root_alone : (stands : Bool) → RootPut stands places calls a D calls' row full → NoCall calls' b E
  root_alone true p = call_alone (p.put refl)
  root_alone false p = rw (p.spared refl).1 (λ x h k. absurd (omega (arith, h, none)))
