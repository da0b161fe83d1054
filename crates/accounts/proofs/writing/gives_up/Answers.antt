-- `gives_up` meets its contract. Assumes nothing.
use native.Mathlib.Omega.{arith}
use Prim.Native.Nat.{ℕ}
use mathlib.Core.Path.{◌≡◌, sym, ap, ◌∙◌}
use Rattle.sharing.specs.Parties.{Account, account_of, account_words, account_at, ledger_of, party_of}
use Rattle.sharing.specs.Parties.{vacant}
use Rattle.accounts.proofs.KeptWords.{account_placed, place_inside}
use Rattle.accounts.proofs.writing.gives_up.Goals as goal

pub limits_of-own-requires : goal.limits_of-own-requires
limits_of-own-requires c = omega (arith, place_inside c.args.second, c.place.ensures, c.requires.long)

pub returns : goal.returns
returns c =
    let a = c.args in
    let own : account_at a.kept.now c.place.result ≡ account_of (ledger_of a.kept.now) (party_of a.second) =
    ap (λ (i : ℕ). account_at a.kept.now i) c.place.ensures ∙ sym (account_placed a.kept.now c.requires.long (party_of a.second)) in
    let l = c.limits_of-own.ensures in
    c.entered.ensures _ (c.vacant.ensures ∙ rw (l.calls_value, l.answers_value) (ap (λ (x : Account). account_words (vacant x.call_limit x.answer_limit)) own))
