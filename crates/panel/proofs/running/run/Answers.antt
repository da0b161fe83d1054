-- `run` meets its contract: 91 changes nothing, and what judges it leaves both tables as they were. Assumes nothing.
use Prim.Native.Nat.{ℕ, ◌*◌}
use mathlib.Core.Path.{◌≡◌, sym, ap, subst, ◌∙◌}
use mathlib.Core.Bool.{Bool, true, false}
use mathlib.Core.List.{List}
use lib.ListN.{length}
use Rattle.records.specs.Records.{room, call_width}
use Rattle.matching.specs.Flags.{Whether}
use Rattle.evaluator.specs.Evaluated.{Asked}
use Rattle.sharing.specs.Parties.{Party}
use Rattle.sharing.specs.Charged.{plain_call_width, AsKept}
use Rattle.sharing.specs.Shared.{Panel, Reply, Shared, refused_kept}
use Rattle.panel.specs.Reply.{panel}
use Rattle.panel.proofs.running.run.Goals as goal

-- tables that are as they were
kept_on : {f a : ℕ} {rules kept c c' d d' : List ℕ} → c' ≡ c → d' ≡ d → AsKept f a rules kept c d → AsKept f a rules kept c' d'
kept_on e g k = rw (e, g) k

ran_on : {p : Party} {q : Asked} {kept c c' d d' ends : List ℕ} {after : Panel} {r : Reply} → c' ≡ c → d' ≡ d → Shared p q kept (panel c' d' ends) after r
    → Shared p q kept (panel c d ends) after r
ran_on {p} {q} {kept} {ends = ends} {after} {r} e g h = subst (λ (b : Panel). Shared p q kept b after r) (λ k. panel (e k) (g k) ends) h

pub run_kept-requires : goal.run_kept-requires
run_kept-requires c = record { rules_value = (c.requires.rules_value, kept_on c.as_kept.ensures.calls_unchanged.0 c.as_kept.ensures.calls_unchanged.1 ((let stood : c.as_kept.result ≡ true → (AsKept c.args.fluents c.args.actions c.args.rules.now c.args.kept.now c.args.calls.now c.args.answers.now) = (λ e. subst (λ (b : Bool). Whether (AsKept c.args.fluents c.args.actions c.args.rules.now c.args.kept.now c.args.calls.now c.args.answers.now) b) e c.as_kept.ensures.whether) in stood) c.if-as_kept.true)); rows_len = (let rows_long : length c.as_kept.new.rows ≡ call_width * room plain_call_width (length c.as_kept.new.calls) = c.as_kept.ensures.rows_len_unchanged.0 ∙ c.requires.rows_len.0 ∙ ap (λ (ws : List ℕ). call_width * room plain_call_width (length ws)) (sym c.as_kept.ensures.calls_unchanged.0) in rows_long) }

pub returns-then-as_kept : goal.returns-then-as_kept
returns-then-as_kept c = ran_on c.as_kept.ensures.calls_unchanged.0 c.as_kept.ensures.calls_unchanged.1 c.run_kept.ensures

pub returns : goal.returns
returns c = refused_kept c.requires.rules_value ((let fell : c.as_kept.result ≡ false → ¬ (AsKept c.args.fluents c.args.actions c.args.rules.now c.args.kept.now c.args.calls.now c.args.answers.now) = (λ e. subst (λ (b : Bool). Whether (AsKept c.args.fluents c.args.actions c.args.rules.now c.args.kept.now c.args.calls.now c.args.answers.now) b) e c.as_kept.ensures.whether) in fell) c.if-as_kept.false) c.unchanged.ensures (λ k. panel (c.as_kept.ensures.calls_unchanged.0 k) (c.as_kept.ensures.calls_unchanged.1 k) c.args.ends.now)
