-- What the program's input is answered by. Assumes nothing: these are definitions.
use Rattle.std.specs.Prelude.{◌≡◌, ℕ, List, [], ◌∷◌, length, Err, Result}
use Rattle.layout.specs.Entry.{refusal, LaysOut}
use Rattle.layout.specs.declared.laid.Laid.{Laid}
use Rattle.layout.specs.declared.refusal.Refusal.{Refusal}
use Rattle.layout.specs.declared.refusal.Refusal.TheVariants.{NotDocument}

-- no input is no document; otherwise the first byte is the width, and the rest the document
abbrev pub InputSays : (input out : List ℕ) → Result Laid Refusal → (out₁ : List ℕ) → Type 0
InputSays [] out r out₁ = (r ≡ Err NotDocument) × (out₁ ≡ out)
InputSays (width ∷ spelled) out r out₁ = LaysOut spelled width out (refusal spelled width (length out)) r out₁
