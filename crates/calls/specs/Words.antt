-- What is wrong with a call, in words. Assumes nothing: these are definitions.
use Rattle.std.specs.Prelude.{ℕ, List, ◌++◌, codes, decimal}
use Rattle.layout.specs.Entry.{refusal_text}
use Rattle.calls.specs.declared.error.CallError.{CallError}
use Rattle.calls.specs.declared.error.CallError.TheVariants.{Ambiguous, Faulty, NoMemory, Refused}
use Rattle.calls.specs.declared.error.FaultKind.{FaultKind}
use Rattle.calls.specs.declared.error.FaultKind.TheVariants.{ClosesNothing, LeftOpen, NoValue, Behind}

-- what is wrong with a source
abbrev pub fault_words : FaultKind → List ℕ
fault_words ClosesNothing = codes "this bracket closes nothing, or another one than is open"
fault_words LeftOpen = codes "this bracket is left open"
fault_words NoValue = codes "a value is missing here"
fault_words Behind = codes "something stands behind the value"

-- why a call is not laid out
abbrev pub error_words : CallError → List ℕ
error_words Ambiguous = codes "ambiguous rules"
error_words (Faulty fault) = codes "byte " ++ (decimal fault.at ++ (codes ": " ++ fault_words fault.kind))
error_words NoMemory = codes "no memory"
error_words (Refused refusal) = refusal_text refusal
