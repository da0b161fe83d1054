-- A verdict: what was asked for, or the number of the first refusal met. Assumes nothing.
use Rattle.std.specs.Prelude.{ℕ, Bool, true, false}

pub data Verdict (A : Type 0) : Type 0 where
  refuse : ℕ → Verdict A
  accept : A → Verdict A

-- What follows is asked only where nothing was refused: the order of the tests is the order of the table.
infixl 10 ◌>>=◌
abbrev pub ◌>>=◌ : {A B : Type 0} → Verdict A → (A → Verdict B) → Verdict B
◌>>=◌ (refuse n) f = refuse n
◌>>=◌ (accept a) f = f a

-- Refuses with the number unless the test holds.
abbrev pub require : Bool → ℕ → Verdict (Unit {0})
require true n = accept tt
require false n = refuse n
