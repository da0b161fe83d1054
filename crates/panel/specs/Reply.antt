-- A run's buffers and what it gives, in the words of `Shared` (request R-14). Assumes nothing.
use Rattle.std.specs.Prelude.{ℕ, Bool, List}
use Rattle.evaluator.specs.Evaluated.{Asked}
use Rattle.sharing.specs.Shared.{Panel, Reply, Shared}
use Rattle.sharing.specs.Parties.{party_of}

abbrev pub panel : List ℕ → List ℕ → List ℕ → Panel
panel calls answers ends = record { calls = calls; answers = answers; ends = ends }

abbrev pub reply : ℕ → ℕ → ℕ → ℕ → List ℕ → Reply
reply refusal ends calls answers kept = record { refusal = refusal; ends = ends; calls = calls; answers = answers; kept = kept }

-- The run of the second party, or else of the first, over the words handed over as kept.
abbrev pub RunOf : Bool → Asked → List ℕ → Panel → Panel → Reply → Type 0
RunOf second q words before after r = Shared (party_of second) q words before after r
