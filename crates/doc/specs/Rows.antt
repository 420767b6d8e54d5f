-- What a row of at most so many items takes. Assumes nothing: this is a definition.
use Rattle.std.specs.Prelude.{◌≡◌, ℕ, ◌<◌, List, ◌++◌, length, Result, MatchResult}
use Rattle.doc.specs.declared.reserved.Full.{Full}

-- the items stand behind the others; or they are too many, and the row is as it was
abbrev pub TakesMore : {A : Type 0} → (most : ℕ) → (old more new : List A) → Result (Unit {0}) Full → Type 0
TakesMore most old more new r = MatchResult r (λ _. new ≡ old ++ more) (λ _. (most < length (old ++ more)) × (new ≡ old))
