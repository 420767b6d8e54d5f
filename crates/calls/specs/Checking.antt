-- The check's faults, brackets and steps as those that tokens are read by. Assumes nothing: these are definitions.
use Rattle.std.specs.Prelude.{◌≡◌, ℕ, List, [], ◌∷◌, length, Some, None, Ok, Err, Option, Result, MatchOption, ⊤}
use Rattle.calls.specs.Tokens.{tokens}
use Rattle.calls.specs.Parsing as parsing
use Rattle.calls.specs.Machine as machine
use Rattle.calls.specs.declared.error.CallError.{CallError}
use Rattle.calls.specs.declared.error.CallError.TheVariants.{Ambiguous, Faulty, NoMemory, Refused}
use Rattle.calls.specs.declared.error.Fault.{Fault}
use Rattle.calls.specs.declared.error.FaultKind.{FaultKind}
use Rattle.calls.specs.declared.error.FaultKind.TheVariants.{ClosesNothing, LeftOpen, NoValue, Behind}
use Rattle.calls.specs.declared.reader.Expects.{Expects}
use Rattle.calls.specs.declared.reader.Expects.TheVariants.{Value, ValueOrClose, BehindWord, BehindValue}
use Rattle.calls.specs.declared.reader.Frame.{Frame}
use Rattle.calls.specs.declared.rule.Rule.{Rule}

-- what is wrong at a position
abbrev pub fault_by : FaultKind → ℕ → parsing.Fault
fault_by ClosesNothing p = parsing.closes_nothing p
fault_by LeftOpen p = parsing.left_open p
fault_by NoValue p = parsing.no_value p
fault_by Behind p = parsing.behind p

-- what is wrong, and where
abbrev pub fault_of : Fault → parsing.Fault
fault_of f = fault_by f.kind f.at

-- what may come next
abbrev pub expects_of : Expects → machine.Expects
expects_of Value = machine.a_value
expects_of ValueOrClose = machine.a_value_or_close
expects_of BehindWord = machine.behind_word
expects_of BehindValue = machine.behind_value

-- an open bracket
abbrev pub frame_of : Frame → machine.Frame
frame_of f = record { rule = f.rule; opened = f.opened }

-- open brackets on top of others, the last one first
abbrev pub stacked : List Frame → List machine.Frame → List machine.Frame
stacked [] under = under
stacked (f ∷ fs) under = stacked fs (frame_of f ∷ under)

-- open brackets, the last one first
abbrev pub frames_of : List Frame → List machine.Frame
frames_of fs = stacked fs []

-- what a step answers, by the stack after it: what may come next, or what is wrong; without memory it says nothing
abbrev pub StepSays : machine.Step → (after : List machine.Frame) → Result Expects CallError → Type 0
StepSays s after (Ok e) = s ≡ machine.goes after (expects_of e)
StepSays s after (Err (Faulty f)) = s ≡ machine.stops (fault_of f)
StepSays s after (Err NoMemory) = ⊤
StepSays s after (Err Ambiguous) = ⊥
StepSays s after (Err (Refused e)) = ⊥

-- the innermost open bracket, where there is one
abbrev pub Innermost : List machine.Frame → Option Frame → Type 0
Innermost fs r = MatchOption r (fs ≡ []) (λ f. fs ≡ frame_of f ∷ machine.popped fs)

-- what is told of a source: nothing is wrong, or what is wrong; without memory it says nothing
abbrev pub Told : Option parsing.Fault → Result ⊤ CallError → Type 0
Told o (Ok x) = o ≡ None
Told o (Err (Faulty f)) = o ≡ Some (fault_of f)
Told o (Err NoMemory) = ⊤
Told o (Err Ambiguous) = ⊥
Told o (Err (Refused e)) = ⊥

-- what the check of a source tells
abbrev pub Tells : List Rule → (source : List ℕ) → Result ⊤ CallError → Type 0
Tells rs source r = Told (machine.machine rs (length source) [] machine.a_value (tokens rs 0 source)) r
