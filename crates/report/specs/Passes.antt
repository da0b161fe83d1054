-- What the two passes, over the results and over the ends, give to `report`, whose reader need not read this. Assumes nothing.
use Rattle.std.specs.Prelude.{ℕ, ◌<◌, ◌≡◌, true, false, List, get_or, Result, Ok, Err}
use Rattle.refusals.specs.declared.Refusal.{Refusal}
use Rattle.refusals.specs.declared.Refusal.TheVariants.{BadResults}
use Rattle.steps.specs.State.{State}
use Rattle.report.specs.Figures.{runs, holding, all_held}
use Rattle.report.specs.Report.{bad_starts, bad_ends}

-- The pass over the results: a refusal if they are bad, else how many starts are unrefused.
abbrev pub Started : (results : List ℕ) (lent : ℕ) → Result ℕ Refusal → Type 0
Started results lent (Ok n) = (bad_starts results lent ≡ false) × (n ≡ runs results)
Started results lent (Err refusal) = (bad_starts results lent ≡ true) × (refusal ≡ BadResults)

-- The pass over the ends: a refusal if one is bad, else how many fluents hold in them all, and in how many each fluent holds.
abbrev pub Tallied : (fluents : ℕ) (ends : List State) → Result ℕ Refusal → (counts : List ℕ) → Type 0
Tallied fluents ends (Ok sum) counts =
    (bad_ends fluents ends ≡ false) × (sum ≡ all_held ends) × ((k : ℕ) → k < fluents → get_or counts k 0 ≡ holding ends k)
Tallied fluents ends (Err refusal) counts = (bad_ends fluents ends ≡ true) × (refusal ≡ BadResults)
