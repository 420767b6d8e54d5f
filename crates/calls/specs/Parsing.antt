-- A reader of tokens that tells what is wrong, and where. Assumes nothing: these are definitions.
use Rattle.std.specs.Prelude.{◌≡◌, ℕ, zero, suc, Bool, true, false, cond, not, ◌&&◌, List, [], ◌∷◌, length, Some, None, Option, ◌==◌, nat_eq}
use Rattle.std.specs.List.{find, list_any}
use Rattle.calls.specs.Tokens.{Token, word, mark, Placed, tokens}
use Rattle.calls.specs.Values.{Values, none, plain, list, unambiguous, ReadsAs}
use Rattle.calls.specs.declared.rule.Rule.{Rule}

-- what is wrong, and at which position: a bracket that closes nothing, or not the one that is open; a bracket that is left open; something else, or the source's end, where a value should begin; something behind a value
pub data Fault : Type 0 where
  closes_nothing : ℕ → Fault
  left_open : ℕ → Fault
  no_value : ℕ → Fault
  behind : ℕ → Fault

-- what is read: a fault, or values and the tokens behind them
pub data Parsed : Type 0 where
  faulty : Fault → Parsed
  read : Values → List Placed → Parsed

-- what is read goes on behind values, if there was no fault
abbrev pub then_parsed : Parsed → (Values → List Placed → Parsed) → Parsed
then_parsed (faulty f) k = faulty f
then_parsed (read vs ts) k = k vs ts

-- the first rule whose opening bracket a byte is
abbrev pub opened_by : List Rule → ℕ → Option Rule
opened_by rs c = find (λ r. c == r.open) rs

-- a byte is the closing bracket of some rule
abbrev pub closes : List Rule → ℕ → Bool
closes rs c = list_any (λ r. c == r.close) rs

-- the rule that a token opens
abbrev pub opening : List Rule → Token → Option Rule
opening rs (word w) = None
opening rs (mark c) = opened_by rs c

-- a token is some rule's closing bracket
abbrev pub closing : List Rule → Token → Bool
closing rs (word w) = false
closing rs (mark c) = closes rs c

-- a token is this mark
abbrev pub is_mark : ℕ → Token → Bool
is_mark m (word w) = false
is_mark m (mark c) = c == m

-- values behind one that has none behind it
abbrev pub with_next : Values → Values → Values
with_next none vs = vs
with_next (plain w us) vs = plain w vs
with_next (list name r items us) vs = list name r items vs

-- how the values of a list are read, by its rule and the position of its opening bracket, up to its closing bracket and with it
abbrev pub Reader : Type 0
Reader = Rule → ℕ → List Placed → Parsed

-- what stands in brackets: nothing, or values
abbrev pub inside : Reader → Reader
inside items r opened [] = faulty (left_open opened)
inside items r opened (t ∷ ts) = cond (is_mark r.close t.token) (read none ts) (items r opened (t ∷ ts))

-- a list with a name, if a bracket opens one, and something else if not
abbrev pub list_or : Reader → List ℕ → Option Rule → (opened : ℕ) → List Placed → Parsed → Parsed
list_or items name None opened ts other = other
list_or items name (Some r) opened ts other = then_parsed (inside items r opened ts) (λ vs rest. read (list name r vs none) rest)

-- a word is the name of a list if a bracket opens behind it, and else a value
abbrev pub after_word : List Rule → Reader → List ℕ → List Placed → Parsed
after_word rs items w [] = read (plain w none) []
after_word rs items w (t ∷ ts) = list_or items w (opening rs t.token) t.at ts (read (plain w none) (t ∷ ts))

-- a mark that begins no value: it closes nothing, but where it closes the list that is read
abbrev pub not_value : List Rule → (own : Bool) → (p c : ℕ) → Fault
not_value rs own p c = cond (closes rs c && not own) (closes_nothing p) (no_value p)

-- one value, by its first token
abbrev pub value_by : List Rule → Reader → (own : ℕ → Bool) → ℕ → Token → List Placed → Parsed
value_by rs items own p (word w) ts = after_word rs items w ts
value_by rs items own p (mark c) ts = list_or items [] (opened_by rs c) p ts (faulty (not_value rs (own c) p c))

-- one value; `own` are the brackets that close the list that is read, and `ended` is what is wrong at the source's end
abbrev pub value : List Rule → Reader → (own : ℕ → Bool) → (ended : Fault) → List Placed → Parsed
value rs items own ended [] = faulty ended
value rs items own ended (t ∷ ts) = value_by rs items own t.at t.token ts

-- a token that may not stand behind a value
abbrev pub extra : List Rule → Placed → Fault
extra rs t = cond (closing rs t.token) (closes_nothing t.at) (behind t.at)

-- behind a value of a list: a separator and more values, or the closing bracket
abbrev pub more : List Rule → Reader → Rule → (opened : ℕ) → Values → List Placed → Parsed
more rs items r opened v [] = faulty (left_open opened)
more rs items r opened v (t ∷ ts) =
    cond (is_mark r.separator t.token) (then_parsed (items r opened ts) (λ vs rest. read (with_next v vs) rest))
    (cond (is_mark r.close t.token) (read v ts) (faulty (extra rs t)))

-- the values of a list, where one should begin; n falls, and is enough if it is more than the tokens
unfoldable pub items : List Rule → (n : ℕ) → Reader
items rs zero r opened ts = faulty (left_open opened)
items rs (suc n) r opened ts =
    then_parsed (value rs (items rs n) (λ c. nat_eq c r.close) (left_open opened) ts) (more rs (items rs n) r opened)

-- behind the value that a source is: nothing
abbrev pub last : List Rule → Values → List Placed → Parsed
last rs v [] = read v []
last rs v (t ∷ ts) = faulty (extra rs t)

-- one value, and then the source's end
abbrev pub whole : List Rule → (end : ℕ) → List Placed → Parsed
whole rs end ts = then_parsed (value rs (items rs (suc (length ts))) (λ c. false) (no_value end) ts) (last rs)

-- the value that a source is, with no tokens behind it, or what is wrong
unfoldable pub parse : List Rule → List ℕ → Parsed
parse rs source = whole rs (length source) (tokens rs 0 source)

-- what is read is what the source is
abbrev pub ParseSound : Type 0
ParseSound = (rs : List Rule) (source : List ℕ) (v : Values) → parse rs source ≡ read v [] → ReadsAs rs source v

-- what the source is is read, where the rules are not ambiguous
abbrev pub ParseComplete : Type 0
ParseComplete = (rs : List Rule) (source : List ℕ) (v : Values) → unambiguous rs ≡ true → ReadsAs rs source v → parse rs source ≡ read v []
