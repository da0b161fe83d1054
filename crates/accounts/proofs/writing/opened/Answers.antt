-- `opened` meets its contract. Assumes nothing.
use mathlib.Core.Path.{ap₂, ◌∙◌}
use Prim.Native.Nat.{ℕ}
use mathlib.Core.List.{List, [], ◌∷◌, ◌++◌}
use Rattle.sharing.specs.Parties.{ledger_words}
use Rattle.accounts.proofs.writing.opened.Goals as goal

pub returns : goal.returns
unfolding ledger_words
returns c = c.ledger.ensures ∙ ap₂ (λ (x y : List ℕ). x ++ (y ++ (0 ∷ 0 ∷ []))) c.vacant.ensures c.vacant-2.ensures
