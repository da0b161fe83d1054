-- Rows that begin with other rows; the rows seen as tables. Assumes nothing.
use Prim.Native.Nat.{ℕ, zero, suc, ◌+◌, ◌-◌, ◌<◌, ◌≤◌}
use native.Mathlib.Omega.{arith}
use native.Mathlib.Decide.{dec_lt}
use mathlib.Core.Path.{◌≡◌, refl, sym, ap, subst, ◌∙◌}
use mathlib.Core.List.{List, [], ◌++◌, append_assoc, append-nil, Memᴰ}
use mathlib.Core.Logic.{◌⊎◌, inl, inr}
use lib.ListN.{get_or, length, length-append, get_or-append}
use lib.Seq.{get_or-append-add}
use Rattle.steps.proofs.Lists.{at_member}
use Rattle.records.proofs.Growth.{Tables, tables, Grew}
use Rattle.canonical.specs.Rows.{CallRow, AnswerRow, Rows, call_at, no_call}
use Rattle.canonical.proofs.Ordered.{Ordered, none, more}
use Rattle.canonical.proofs.Onward.{answer_at, no_answer, Shows}

module _ {A : Type 0} (d : A) where
  -- a place of two lists together lies in the first, or holds a member of the second
  pub place_of : (xs ys : List A) (i : ℕ) → i < length (xs ++ ys) → ((i < length xs) × (get_or (xs ++ ys) i d ≡ get_or xs i d)) ⊎ ((length xs ≤ i) × Memᴰ (get_or (xs ++ ys) i d) ys)
  place_of xs ys i l = by (dec_lt i (length xs))
    where
      by : Dec (i < length xs) → ((i < length xs) × (get_or (xs ++ ys) i d ≡ get_or xs i d)) ⊎ ((length xs ≤ i) × Memᴰ (get_or (xs ++ ys) i d) ys)
      by (yes h) = inl (h, get_or-append xs ys d i h)
      by (no n) =
          let z : length xs + (i - length xs) ≡ i = omega arith in
          let e : get_or (xs ++ ys) i d ≡ get_or ys (i - length xs) d = subst (λ (j : ℕ). get_or (xs ++ ys) j d ≡ get_or ys (i - length xs) d) z (get_or-append-add xs ys (i - length xs) d) in
          inr (omega arith, subst (λ (x : A). Memᴰ x ys) (sym e) (at_member ys (i - length xs) d (omega (arith, length-append xs ys))))

  -- two places of an ordered list
  pub ordered_at : {R : A → A → Type 0} {xs : List A} → Ordered R xs → (i j : ℕ) → i < j → j < length xs → R (get_or xs i d) (get_or xs j d)
  ordered_at none i j h l = absurd (omega arith)
  ordered_at (more {x} {xs} low o) zero zero h l = absurd (omega arith)
  ordered_at (more {x} {xs} low o) zero (suc j) h l = low (get_or xs j d) (at_member xs j d (omega arith))
  ordered_at (more {x} {xs} low o) (suc i) zero h l = absurd (omega arith)
  ordered_at (more {x} {xs} low o) (suc i) (suc j) h l = ordered_at o i j (omega arith) (omega arith)

pub record Prefix (t u : Rows) : Type 0 where
  pub calls_more : List CallRow
  pub answers_more : List AnswerRow
  pub calls_are : u.calls ≡ t.calls ++ calls_more
  pub answers_are : u.answers ≡ t.answers ++ answers_more

pub prefix_refl : (t : Rows) → Prefix t t
prefix_refl t = record { calls_more = []; answers_more = []; calls_are = sym (append-nil t.calls); answers_are = sym (append-nil t.answers) }

pub prefix_trans : {t u v : Rows} → Prefix t u → Prefix u v → Prefix t v
prefix_trans {t} p q = record {
  calls_more = p.calls_more ++ q.calls_more;
  answers_more = p.answers_more ++ q.answers_more;
  calls_are = q.calls_are ∙ ap (λ (l : List CallRow). l ++ q.calls_more) p.calls_are ∙ append_assoc t.calls p.calls_more q.calls_more;
  answers_are = q.answers_are ∙ ap (λ (l : List AnswerRow). l ++ q.answers_more) p.answers_are ∙ append_assoc t.answers p.answers_more q.answers_more;
}

module _ {t u : Rows} (p : Prefix t u) where
  pub prefix_calls : length t.calls ≤ length u.calls
  prefix_calls = omega (arith, ap length p.calls_are, length-append t.calls p.calls_more)

  pub prefix_answers : length t.answers ≤ length u.answers
  prefix_answers = omega (arith, ap length p.answers_are, length-append t.answers p.answers_more)

  pub prefix_call : (i : ℕ) → i < length t.calls → call_at u.calls i ≡ call_at t.calls i
  prefix_call i h = ap (λ (l : List CallRow). call_at l i) p.calls_are ∙ get_or-append t.calls p.calls_more no_call i h

  pub prefix_answer : (x : ℕ) → x < length t.answers → answer_at u.answers x ≡ answer_at t.answers x
  prefix_answer x h = ap (λ (l : List AnswerRow). answer_at l x) p.answers_are ∙ get_or-append t.answers p.answers_more no_answer x h

-- The rows as tables.
abbrev pub view : Rows → Tables
view t = tables
    (record { count = length t.calls; action = λ i. (call_at t.calls i).action; state = λ i. (call_at t.calls i).state; round = λ i. (call_at t.calls i).round })
    (record {
      count = length t.answers;
      call = λ x. (answer_at t.answers x).call;
      final = λ x. (answer_at t.answers x).final;
      rule = λ x. (answer_at t.answers x).rule;
      evidence = λ x q. get_or (answer_at t.answers x).evidence q 0;
      round = λ x. (answer_at t.answers x).round;
    })

pub view_shows : (t : Rows) → Shows t (view t) (length t.answers)
view_shows t = record { count = refl; of_call = λ x l. refl; to_final = λ x l. refl }

pub prefix_grew : {t u : Rows} → Prefix t u → Grew (view t) (view u)
prefix_grew p = record {
  calls_more = prefix_calls p;
  answers_more = prefix_answers p;
  action_same = λ {i} l. ap (λ (c : CallRow). c.action) (prefix_call p i l);
  state_same = λ {i} l. ap (λ (c : CallRow). c.state) (prefix_call p i l);
  call_round = λ {i} l. ap (λ (c : CallRow). c.round) (prefix_call p i l);
  call_same = λ {x} l. ap (λ (a : AnswerRow). a.call) (prefix_answer p x l);
  final_same = λ {x} l. ap (λ (a : AnswerRow). a.final) (prefix_answer p x l);
  rule_same = λ {x} l. ap (λ (a : AnswerRow). a.rule) (prefix_answer p x l);
  evidence_same = λ {x} q l h. ap (λ (a : AnswerRow). get_or a.evidence q 0) (prefix_answer p x l);
  answer_round = λ {x} l. ap (λ (a : AnswerRow). a.round) (prefix_answer p x l);
}
