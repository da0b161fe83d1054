-- After an evaluation a lookup by its list of calls finds what a walk of its call table finds (request R-10). Assumes nothing.
use Prim.Native.Nat.{ℕ, ◌-◌, ◌≤◌}
use native.Mathlib.Omega.{arith}
use mathlib.Core.Path.{◌≡◌, sym, ap, subst, ◌∙◌}
use mathlib.Core.List.{List}
use lib.ListN.{length, replicate}
use Rattle.steps.proofs.AcceptanceLaws.{start_accepted}
use Rattle.records.specs.Records.{call_table}
use Rattle.canonical.specs.CallList.{call_list}
use Rattle.canonical.proofs.AfterRounds.{calls_once}
use Rattle.lookup.specs.Lookup.{looked_up}
use Rattle.lookup.specs.Walked.{walked}
use Rattle.lookup.proofs.Walking.{looked_up_walks}
use Rattle.lookup.proofs.Listed.{call_list_looked_up}
use Rattle.evaluator.specs.Evaluated.{Evaluated, Asked, Lent, Told, rows_asked, buffers_after, Tabled, not_accepted, list_of_calls_short, outgrown, short_list, ends_listed}
use Rattle.evaluator.proofs.Determined.{tabled_rooms}

-- A lookup in these buffers, with this count of calls, finds what a walk finds, and is not refused.
abbrev pub Agrees : ℕ → ℕ → Lent → ℕ → Type 0
Agrees action state b n = looked_up b.calls n b.list action state ≡ walked (call_table b.calls n) (action, state)

module _ (action state : ℕ) where
  -- no call is counted
  none : (b : Lent) {n : ℕ} → n ≡ 0 → Agrees action state b n
  none b e = subst (Agrees action state b) (sym e) (looked_up_walks b.calls 0 b.list action state (omega arith) (omega arith)
      (record { numbers = λ p l. absurd (omega arith); every = λ i l. absurd (omega arith); rising = λ p q l m. absurd (omega arith) }))

  finished : {q : Asked} {before after : Lent} {r : Told} (ends : List ℕ) → Tabled q before after r → after ≡ buffers_after q r.rounds before ends
      → Agrees action state after r.calls
  finished {q} {before} {r = r} ends t s =
      let few = (start_accepted q.fluents q.actions q.rules q.goal q.start t.accepted).0.few_rules in
      let rows = (rows_asked q r.rounds).calls in
      let small : length rows ≤ 65536 = omega (arith, t.calls_many, (tabled_rooms q t).calls) in
      let found = call_list_looked_up rows (calls_once q.rules q.goal few q.start r.rounds) (length before.calls)
      (replicate (length before.list - length (call_list rows)) 0) small action state in
      subst (λ (b : Lent). Agrees action state b r.calls) (sym s)
      (subst (Agrees action state (buffers_after q r.rounds before ends)) (sym t.calls_many) found)

  -- After whatever evaluation, with the table, the list and the count of calls that it left.
  pub evaluated_looked_up : {q : Asked} {before after : Lent} {r : Told} → Evaluated q before after r → Agrees action state after r.calls
  evaluated_looked_up {after = after} (not_accepted n z s) = none after (ap (λ (r : Told). r.calls) z)
  evaluated_looked_up {after = after} (list_of_calls_short a h z s) = none after (ap (λ (r : Told). r.calls) z)
  evaluated_looked_up {after = after} (outgrown a h f z s) = none after (ap (λ (r : Told). r.calls) z)
  evaluated_looked_up (short_list z t l s) = finished _ t s
  evaluated_looked_up (ends_listed z t l up s) = finished _ t s
