-- Turns of a pass, passes at a place and places in turn: what the loops over rules, passes and places go by. Assumes nothing.
use Prim.Native.Nat.{ℕ, ◌+◌, ◌-◌, ◌*◌, ◌/◌, ◌^◌, ◌<◌, ◌≤◌}
use native.Mathlib.Omega.{arith}
use native.Mathlib.Decide.{ℕ_discrete}
use mathlib.Core.Path.{◌≡◌, refl, sym, subst, ◌∙◌}
use mathlib.Core.Bool.{Bool, true, false, cond}
use mathlib.Core.List.{List}
use mathlib.Core.Logic.{◌≢◌}
use lib.Bits.{bit_or, or_zero_r}
use lib.Dec.{eqb}
use lib.ListN.{length}
use borrow.Author.Count.{below_more}
use borrow.Author.Tests.{eq-eqb, ne_eqb}
use Rattle.steps.specs.State.{bit}
use Rattle.steps.specs.Step.{Body}
use Rattle.steps.specs.Words.{body_of, head_of, words_of}
use Rattle.steps.specs.Widths.{rule_width}
use Rattle.steps.proofs.StateLaws.{no_bit}
use Rattle.steps.proofs.Tables.{Walk, stands, walks, takes}
use Rattle.masks.specs.Masks.{Carried, carries, Held, WalkTo, Guide, Wide, total, Grown, Walkable, NoCall, SoundMarks, ClosedRule, Fresh, Widened, Turned, Passed, Settled, AllSettled}
use Rattle.masks.proofs.Walking.{bit_of_or, or_right, one_bit}
use Rattle.gains.proofs.Widening.{runs_up, total_most, grown_none, grown_then, no_call_left, added_back, added_kept, added_grown, added_same, added_more, widened_found, widened_sound}

module _ (rules steps : List ℕ) (runs i : ℕ) (walkable : Walkable rules) (place : i ≤ runs) where
  -- ---- the turns of a pass

  pub turned_none : (gained : ℕ) (table : List ℕ) → (gained ≢ 0 → Fresh rules steps runs i gained table) → Turned rules steps runs i gained 0 table table 0
  turned_none gained table fresh = record {
    grown = grown_none i table;
    sound = λ s. s;
    early = λ k l. absurd (omega arith);
    late = λ ne k l h none. fresh ne k h (subst (λ (m : ℕ). NoCall m (words_of rules k)) (or_zero_r gained) none);
    gains = λ ne. absurd (ne refl);
  }

  module _ {gained r more : ℕ} {before table : List ℕ} (count : r < length rules / rule_width) (t : Turned rules steps runs i gained r before table more) where
    -- a rule that calls nothing that has gained
    pub turned_skip : gained ≢ 0 → NoCall (bit_or gained more) (words_of rules r) → Turned rules steps runs i gained (r + 1) before table more
    turned_skip ne none = record {
      grown = t.grown;
      sound = t.sound;
      early = below_more _ r t.early (λ h. t.late ne r (omega arith) count none);
      late = λ ne k l. t.late ne k (omega arith);
      gains = t.gains;
    }

    module _ {after : List ℕ} {b : Bool} (guide : Guide steps runs table) (w : Widened rules steps runs i r table after b) where
      -- a rule walked to no gain
      pub turned_same : b ≡ false → Turned rules steps runs i gained (r + 1) before after more
      turned_same e =
          let z : after ≡ table = added_same rules steps runs i walkable place r count guide w.added e in
          let found : (j : ℕ) → WalkTo steps runs table i (words_of rules r) j → Held after (head_of rules r) i j = widened_found rules steps runs i walkable place r count guide w in
          subst (λ (l : List ℕ). Turned rules steps runs i gained (r + 1) before l more) (sym z) (record {
            grown = t.grown;
            sound = t.sound;
            early = below_more _ r t.early (λ h j walk. subst (λ (l : List ℕ). Held l (head_of rules r) i j) z (found j walk));
            late = λ ne k l. t.late ne k (omega arith);
            gains = t.gains;
          })

      -- a rule walked to some gain of its head
      pub turned_more : b ≡ true → Turned rules steps runs i gained (r + 1) before after (bit_or more (2 ^ head_of rules r))
      turned_more e = record {
        grown = grown_then t.grown grown;
        sound = λ s. widened_sound rules steps runs i walkable place r count guide w (t.sound s);
        early = below_more _ r (λ k l none. kept (bit_or more (2 ^ head_of rules r)) k one none (t.early k l (no_call_left more (2 ^ head_of rules r) (words_of rules k) none))) this;
        late = λ ne k l h none. kept (bit_or gained (bit_or more (2 ^ head_of rules r))) k (or_right gained (bit_or more (2 ^ head_of rules r)) (head_of rules r) one) none (t.late ne k (omega arith) h (fewer k none));
        gains = λ ne. omega (arith, t.grown.up, added_more rules steps runs i walkable place r count guide w.added e);
      }
        where
          grown : Grown i table after
          grown = added_grown rules steps runs i walkable place r count guide w.added

          kept : (m k : ℕ) → bit m (head_of rules r) ≡ 1 → NoCall m (words_of rules k) → ClosedRule rules steps runs i table k → ClosedRule rules steps runs i after k
          kept = added_kept rules steps runs i walkable place r count guide w.added

          one : bit (bit_or more (2 ^ head_of rules r)) (head_of rules r) ≡ 1
          one = or_right more (2 ^ head_of rules r) (head_of rules r) (one_bit (head_of rules r))

          fewer : (k : ℕ) → NoCall (bit_or gained (bit_or more (2 ^ head_of rules r))) (words_of rules k) → NoCall (bit_or gained more) (words_of rules k)
          fewer k none b h = omega (arith, none b h, bit_of_or gained (bit_or more (2 ^ head_of rules r)) b, bit_of_or more (2 ^ head_of rules r) b, bit_of_or gained more b)

          this : NoCall (bit_or more (2 ^ head_of rules r)) (words_of rules r) → ClosedRule rules steps runs i after r
          this none j walk =
              widened_found rules steps runs i walkable place r count guide w j (added_back rules steps runs i walkable place r count guide w.added (bit_or more (2 ^ head_of rules r)) r one none j walk)

  pub turned_all : {gained r more : ℕ} {before table : List ℕ} → length rules / rule_width ≤ r → Turned rules steps runs i gained r before table more → Passed rules steps runs i before table more
  turned_all {r = r} l t = record { grown = t.grown; sound = t.sound; fresh = λ k h. t.early k (omega arith); gains = t.gains }

  -- ---- passes at the place

  -- after a pass in which nothing gained no rule adds anything
  pub settled_last : {before mid : List ℕ} {more : ℕ} (table : List ℕ) (gained : ℕ) → gained ≡ 0 → Passed rules steps runs i before mid more
      → Grown i mid table → (SoundMarks rules steps runs mid → SoundMarks rules steps runs table) → Fresh rules steps runs i gained table → Settled rules steps runs i before table
  settled_last table gained e p grown sound fresh = record {
    grown = grown_then p.grown grown;
    sound = λ s. sound (p.sound s);
    closed = λ r l. fresh r l (λ b h. rw e (no_bit b));
  }

  -- the loop's measure: what the table can still gain, and whether a pass is still to come
  abbrev pub still : List ℕ → ℕ → ℕ
  still table gained = length table * 2 ^ 64 - total table + cond (eqb gained 0) 0 1

  pub still_less : (table after : List ℕ) (gained more : ℕ) → gained ≢ 0 → Wide table → Passed rules steps runs i table after more → still after more < still table gained
  still_less table after gained more ne wide p = by (ℕ_discrete more 0)
    where
      most : total after ≤ length after * 2 ^ 64
      most = total_most after (p.grown.wide wide)

      by : Dec (more ≡ 0) → length after * 2 ^ 64 - total after + cond (eqb more 0) 0 1 < length table * 2 ^ 64 - total table + cond (eqb gained 0) 0 1
      by (yes z) = rw (eq-eqb more 0 z, ne_eqb gained 0 ne) (omega (arith, p.grown.size, p.grown.up))
      by (no n) = rw (ne_eqb more 0 n, ne_eqb gained 0 ne) (omega (arith, p.grown.size, p.gains n, most))

-- ---- places in turn

module _ (rules steps : List ℕ) (runs : ℕ) where
  pub all_none : (table : List ℕ) → SoundMarks rules steps runs table → AllSettled rules steps runs (runs + 1) table table
  all_none table sound = record { size = refl; past = λ n l. refl; sound = sound; closed = λ i l m. absurd (omega arith) }

  module _ {left next : ℕ} {before table after : List ℕ} (e : next ≡ left + 1) (all : AllSettled rules steps runs next before table)
      (settled : Settled rules steps runs left table after) where
    sound : SoundMarks rules steps runs after
    sound = settled.sound all.sound

    -- a walk from a later place reads no word of this one
    walk_above : {i j : ℕ} {xs rest : Body} → Walk (Carried (body_of steps) runs) (Held after) i xs j rest → left < i → Walk (Carried (body_of steps) runs) (Held table) i xs j rest
    unfolding sound
    walk_above stands l = stands
    walk_above (walks (carries h e) w) l = walks (carries h e) (walk_above w (omega arith))
    walk_above (takes {D = p} {D₁ = q} {b = b} h w) l =
        let (la, lp, lq, e) = h in
        let (m, (body, o, run)) = sound.each b p q h in
        let same = settled.grown.elsewhere b p lp (λ z. omega arith) in
        takes (la, lp, lq, subst (λ (n : ℕ). bit n q ≡ 1) same e) (walk_above w (omega (arith, (runs_up run m).0)))

    pub all_more : AllSettled rules steps runs left before after
    unfolding sound
    all_more = record {
      size = settled.grown.size ∙ all.size;
      past = λ n l. settled.grown.past n l ∙ all.past n l;
      sound = sound;
      closed = λ i l m. closed i l m (ℕ_discrete i left);
    }
      where
        closed : (i : ℕ) → left ≤ i → i ≤ runs → Dec (i ≡ left) → (r : ℕ) → r < length rules / rule_width → ClosedRule rules steps runs i after r
        closed i l m (yes z) r h = subst (λ (i : ℕ). ClosedRule rules steps runs i after r) (sym z) (settled.closed r h)
        closed i l m (no n) r h = λ j w.
            let (la, li, lj, e) = all.closed i (omega arith) m r h j (walk_above w (omega arith)) in
            (la, li, lj, subst (λ (n : ℕ). bit n j ≡ 1) (sym (settled.grown.elsewhere (head_of rules r) i li (λ z. n z))) e)
