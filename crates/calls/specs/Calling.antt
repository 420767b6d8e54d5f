-- What laying out a call answers, and what it leaves in the output buffer. Assumes nothing: these are definitions.
use Rattle.std.specs.Prelude.{◌≡◌, ℕ, ◌≤◌, true, false, List, length, Ok, Err, Result}
use Rattle.doc.specs.Laws.{encode}
use Rattle.cost.specs.Best.{best}
use Rattle.layout.specs.Entry.{refusal, the_best, LaysOut}
use Rattle.layout.specs.declared.laid.Laid.{Laid}
use Rattle.layout.specs.declared.refusal.Refusal.{Refusal}
use Rattle.calls.specs.Values.{Values, unambiguous, well_formed, ReadsAs, value_doc}
use Rattle.calls.specs.Parsing.{faulty, parse}
use Rattle.calls.specs.Checking.{fault_of}
use Rattle.calls.specs.Emitting.{value_bytes}
use Rattle.calls.specs.declared.rule.Rule.{Rule}
use Rattle.calls.specs.declared.error.CallError.{CallError}
use Rattle.calls.specs.declared.error.CallError.TheVariants.{Ambiguous, Faulty, NoMemory, Refused}

-- the source is a value, and its document is laid out, or refused
pub record LaidOut (rs : List Rule) (source : List ℕ) (width : ℕ) (out : List ℕ) (r : Result Laid Refusal) (out₁ : List ℕ) : Type 0 where
  pub what : Values
  pub reads : ReadsAs rs source what
  pub says : LaysOut (encode (value_doc what)) width out (refusal (encode (value_doc what)) width (length out)) r out₁

-- the layout of the value's document, or what is wrong, and then the buffer is as it was
abbrev pub CallSays : List Rule → (source : List ℕ) → (width : ℕ) → (out : List ℕ) → Result Laid CallError → (out₁ : List ℕ) → Type 0
CallSays rs source width out (Ok laid) out₁ = (unambiguous rs ≡ true) × LaidOut rs source width out (Ok laid) out₁
CallSays rs source width out (Err (Refused e)) out₁ = (unambiguous rs ≡ true) × LaidOut rs source width out (Err e) out₁
CallSays rs source width out (Err Ambiguous) out₁ = (unambiguous rs ≡ false) × (out₁ ≡ out)
CallSays rs source width out (Err (Faulty f)) out₁ =
    (unambiguous rs ≡ true) × (parse rs source ≡ faulty (fault_of f)) × ((v : Values) → ReadsAs rs source v → ⊥) × (out₁ ≡ out)
CallSays rs source width out (Err NoMemory) out₁ = out₁ ≡ out

-- the document that is laid out is the value's: what is best for its encoding is the best of its own layouts
abbrev pub LaysOutValue : Type 0
LaysOutValue =
    (rs : List Rule) (v : Values) (w : ℕ) → unambiguous rs ≡ true → well_formed rs v ≡ true → value_bytes v ≡ true → length (encode (value_doc v)) ≤ 65536 →
    the_best (encode (value_doc v)) w ≡ best w (value_doc v)
