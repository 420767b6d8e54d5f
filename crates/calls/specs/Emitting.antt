-- The encoding of a value's document, token by token. Assumes nothing: these are definitions.
use Rattle.std.specs.Prelude.{◌≡◌, ℕ, Bool, true, false, cond, ◌&&◌, List, [], ◌∷◌, ◌++◌, Some, None, Option, ◌==◌, nat_le}
use Rattle.doc.specs.Laws.{encode, bytes, encodable}
use Rattle.calls.specs.Tokens.{Token, word, mark}
use Rattle.calls.specs.Values.{Values, none, plain, list, spelled, well_formed, single, unambiguous, word_doc, value_doc}
use Rattle.calls.specs.Parsing.{opened_by, closes}
use Rattle.calls.specs.declared.rule.Rule.{Rule}

-- a word that waits for what stands behind it, or nothing
abbrev pub held : List ℕ → List ℕ
held [] = []
held (b ∷ bs) = encode (word_doc (b ∷ bs))

-- what begins a value in a list: a cat, a line, and a cat
abbrev pub before_item : List ℕ
before_item = 2 ∷ 4 ∷ 2 ∷ []

-- a bracket opens: at once closed again it is part of a word, and otherwise a group begins, with its first value
abbrev pub opening_bytes : (name : List ℕ) → Rule → List ℕ
opening_bytes name r = 5 ∷ 2 ∷ (encode (word_doc (name ++ (r.open ∷ []))) ++ (2 ∷ 3 ∷ r.indent ∷ before_item))

-- a bracket closes: no further value, a line and the bracket
abbrev pub closing_bytes : ℕ → List ℕ
closing_bytes c = 0 ∷ 2 ∷ 4 ∷ 1 ∷ 1 ∷ c ∷ []

-- a separator, and then the next value begins
abbrev pub separating_bytes : ℕ → List ℕ
separating_bytes c = 2 ∷ 1 ∷ 1 ∷ c ∷ before_item

-- the next token is this mark
abbrev pub next_is : ℕ → List Token → Bool
next_is m [] = false
next_is m (word w ∷ ts) = false
next_is m (mark c ∷ ts) = c == m

-- a token opens a list that the next token closes
abbrev pub empty_list : Option Rule → List Token → Bool
empty_list None ts = false
empty_list (Some r) ts = next_is r.close ts

-- the bytes of a bracket or separator, with the word that waits before it
abbrev pub mark_bytes : List Rule → (waiting : List ℕ) → ℕ → Option Rule → (empty : Bool) → List ℕ
mark_bytes rs waiting c (Some r) true = encode (word_doc (waiting ++ (r.open ∷ r.close ∷ [])))
mark_bytes rs waiting c (Some r) false = opening_bytes waiting r
mark_bytes rs waiting c None empty = held waiting ++ cond (closes rs c) (closing_bytes c) (separating_bytes c)

-- the bytes for tokens, with the word that waits; the first token is skipped where it closes an empty list, whose bytes are there already
unfoldable pub emit : List Rule → (waiting : List ℕ) → (skip : Bool) → List Token → List ℕ
emit rs waiting skip [] = held waiting
emit rs waiting skip (word w ∷ ts) = cond skip (emit rs [] false ts) (held waiting ++ emit rs w false ts)
emit rs waiting skip (mark c ∷ ts) =
    cond skip (emit rs [] false ts)
    (mark_bytes rs waiting c (opened_by rs c) (empty_list (opened_by rs c) ts) ++ emit rs [] (empty_list (opened_by rs c) ts) ts)

-- a value's tokens make the encoding of its document
abbrev pub EmitsValue : Type 0
EmitsValue =
    (rs : List Rule) (v : Values) → unambiguous rs ≡ true → well_formed rs v ≡ true → single v ≡ true → emit rs [] false (spelled 0 v) ≡ encode (value_doc v)

-- a rule's brackets, separator and indent fit in bytes
abbrev pub rule_bytes : Rule → Bool
rule_bytes r = nat_le r.open 255 && (nat_le r.close 255 && (nat_le r.separator 255 && nat_le r.indent 255))

-- words and rules of values fit in bytes
unfoldable pub value_bytes : Values → Bool
value_bytes none = true
value_bytes (plain w vs) = bytes w && value_bytes vs
value_bytes (list name r items vs) = (bytes name && rule_bytes r) && (value_bytes items && value_bytes vs)

-- a value's document can be encoded
abbrev pub ValueEncodable : Type 0
ValueEncodable =
    (rs : List Rule) (v : Values) → unambiguous rs ≡ true → well_formed rs v ≡ true → value_bytes v ≡ true → encodable (value_doc v) ≡ true
