-- What the contracts of private functions speak of: the record to go down to, as one number. Assumes nothing.
use Rattle.std.specs.Prelude.{ℕ, ◌+◌, Option, None, Some}

-- One more than the record to go down to, or 0 where there is none.
abbrev pub down_to : Option ℕ → ℕ
down_to None = 0
down_to (Some r) = r + 1
