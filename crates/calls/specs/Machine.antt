-- Reading tokens from the left with a stack of open brackets, as the code does. Assumes nothing: these are definitions.
use Rattle.std.specs.Prelude.{◌≡◌, ℕ, Bool, false, cond, List, [], ◌∷◌, length, Some, None, Option, ◌==◌}
use Rattle.calls.specs.Tokens.{Token, word, mark, Placed, tokens}
use Rattle.calls.specs.Parsing.{Fault, closes_nothing, left_open, no_value, behind, Parsed, faulty, read, opened_by, closes, not_value, parse}
use Rattle.calls.specs.declared.rule.Rule.{Rule}

-- a bracket that is open: its rule, and its position
pub record Frame : Type 0 where
  pub rule : Rule
  pub opened : ℕ

-- what may come next: a value; a value or the bracket that closes; what may stand behind a word; what may stand behind a value
pub data Expects : Type 0 where
  a_value : Expects
  a_value_or_close : Expects
  behind_word : Expects
  behind_value : Expects

-- a byte closes the innermost open bracket
abbrev pub own_close : List Frame → ℕ → Bool
own_close [] c = false
own_close (f ∷ fs) c = c == f.rule.close

-- a byte separates the values in the innermost open bracket
abbrev pub own_separator : List Frame → ℕ → Bool
own_separator [] c = false
own_separator (f ∷ fs) c = c == f.rule.separator

-- the stack without the innermost bracket
abbrev pub popped : List Frame → List Frame
popped [] = []
popped (f ∷ fs) = fs

-- what is wrong at the source's end, if anything is
abbrev pub at_end : (end : ℕ) → List Frame → Expects → Option Fault
at_end end (f ∷ fs) e = Some (left_open f.opened)
at_end end [] a_value = Some (no_value end)
at_end end [] a_value_or_close = Some (no_value end)
at_end end [] behind_word = None
at_end end [] behind_value = None

-- what one token makes of the stack and of what may come next, or what is wrong with it
pub data Step : Type 0 where
  goes : List Frame → Expects → Step
  stops : Fault → Step

-- a bracket that opens a list, or something else
abbrev pub opens_or : List Frame → ℕ → Option Rule → Step → Step
opens_or stack p (Some r) other = goes (record { rule = r; opened = p } ∷ stack) a_value_or_close
opens_or stack p None other = other

-- a token behind a value
abbrev pub step_behind : List Rule → List Frame → ℕ → Token → Step
step_behind rs stack p (word w) = stops (behind p)
step_behind rs stack p (mark c) =
    cond (own_separator stack c) (goes stack a_value)
    (cond (own_close stack c) (goes (popped stack) behind_value) (stops (cond (closes rs c) (closes_nothing p) (behind p))))

-- a token where a value should begin
abbrev pub step_value : List Rule → List Frame → ℕ → Token → Step
step_value rs stack p (word w) = goes stack behind_word
step_value rs stack p (mark c) = opens_or stack p (opened_by rs c) (stops (not_value rs (own_close stack c) p c))

abbrev pub step : List Rule → List Frame → Expects → ℕ → Token → Step
step rs stack a_value p t = step_value rs stack p t
step rs stack a_value_or_close p (word w) = step_value rs stack p (word w)
step rs stack a_value_or_close p (mark c) = cond (own_close stack c) (goes (popped stack) behind_value) (step_value rs stack p (mark c))
step rs stack behind_word p (word w) = step_behind rs stack p (word w)
step rs stack behind_word p (mark c) = opens_or stack p (opened_by rs c) (step_behind rs stack p (mark c))
step rs stack behind_value p t = step_behind rs stack p t

-- a step is gone on from, unless it stops
abbrev pub then_go : Step → (List Frame → Expects → Option Fault) → Option Fault
then_go (goes stack e) k = k stack e
then_go (stops f) k = Some f

-- what is wrong with the tokens that are left, if anything is
unfoldable pub machine : List Rule → (end : ℕ) → List Frame → Expects → List Placed → Option Fault
machine rs end stack e [] = at_end end stack e
machine rs end stack e (t ∷ ts) = then_go (step rs stack e t.at t.token) (λ stack₁ e₁. machine rs end stack₁ e₁ ts)

-- what the reader of tokens tells
abbrev pub verdict : Parsed → Option Fault
verdict (faulty f) = Some f
verdict (read v ts) = None

-- with a stack the same is told as by recursion
abbrev pub MachineTells : Type 0
MachineTells = (rs : List Rule) (source : List ℕ) → machine rs (length source) [] a_value (tokens rs 0 source) ≡ verdict (parse rs source)
