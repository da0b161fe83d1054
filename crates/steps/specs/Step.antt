-- Steps, bodies, rules and books of rules (document 01, "What the logic says"). Assumes nothing.
use Rattle.std.specs.Prelude.{ℕ, List}

-- "A step is a query, an insert, a delete or a call", or (request R-2) a denial: the call of an action, the others of a fluent.
pub data Step : Type 0 where
  query insert delete call deny : ℕ → Step

-- "A body is 0 to 16 steps": that it has at most 16 is what acceptance gives.
abbrev pub Body : Type 0
Body = List Step

-- A rule: its head, an action, and its body.
abbrev pub Rule : Type 0
Rule = record { head : ℕ; body : Body }

-- The rules, in order.
abbrev pub Book : Type 0
Book = List Rule
