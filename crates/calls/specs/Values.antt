-- Values: words, and lists of values in brackets; their tokens, and their documents. Assumes nothing: these are definitions.
use Rattle.std.specs.Prelude.{◌≡◌, ℕ, zero, suc, Bool, true, false, cond, not, ◌&&◌, ◌||◌, List, [], ◌∷◌, ◌++◌, length, take, drop, ◌==◌, nat_le}
use Rattle.std.specs.List.{list_all}
use Rattle.doc.specs.Doc.{Doc, nil, text, cat, nest, line, group}
use Rattle.calls.specs.Tokens.{Token, word, mark, Placed, blank, in_word, tokens}
use Rattle.calls.specs.declared.rule.Rule.{Rule}

-- values one behind the other: none; a word, and the rest; a list, by the word in front of it (of no bytes where there is none), its rule and its values, and the rest
pub data Values : Type 0 where
  none : Values
  plain : List ℕ → Values → Values
  list : List ℕ → Rule → Values → Values → Values

-- there is no value
abbrev pub is_none : Values → Bool
is_none none = true
is_none (plain w vs) = false
is_none (list name r items vs) = false

-- the word in front of a bracket, if there is one
abbrev pub named : List ℕ → List Token → List Token
named [] ts = ts
named (b ∷ bs) ts = word (b ∷ bs) ∷ ts

-- the tokens of values with a separator between each two
unfoldable pub spelled : ℕ → Values → List Token
spelled c none = []
spelled c (plain w vs) = word w ∷ cond (is_none vs) [] (mark c ∷ spelled c vs)
spelled c (list name r items vs) =
    named name (mark r.open ∷ (spelled r.separator items ++ (mark r.close ∷ cond (is_none vs) [] (mark c ∷ spelled c vs))))

-- all bytes are those of words
abbrev pub all_in_word : List Rule → List ℕ → Bool
all_in_word rs [] = true
all_in_word rs (c ∷ cs) = in_word rs c && all_in_word rs cs

-- two rules are the same
abbrev pub same_rule : Rule → Rule → Bool
same_rule q r = q.open == r.open && (q.close == r.close && (q.separator == r.separator && q.indent == r.indent))

-- a rule is among others
abbrev pub has_rule : List Rule → Rule → Bool
has_rule [] r = false
has_rule (q ∷ rs) r = same_rule q r || has_rule rs r

-- there is no byte
abbrev pub empty : List ℕ → Bool
empty [] = true
empty (c ∷ cs) = false

-- words are not empty and made of their bytes alone, and lists are by the rules
unfoldable pub well_formed : List Rule → Values → Bool
well_formed rs none = true
well_formed rs (plain w vs) = (not (empty w) && all_in_word rs w) && well_formed rs vs
well_formed rs (list name r items vs) = (all_in_word rs name && has_rule rs r) && (well_formed rs items && well_formed rs vs)

-- one value, with nothing behind it
abbrev pub single : Values → Bool
single none = false
single (plain w vs) = is_none vs
single (list name r items vs) = is_none vs

-- two rules are told apart: no byte opens both, opens one and closes the other, or is a bracket of one and the separator of the other
abbrev pub apart : Rule → Rule → Bool
apart q r =
    not (q.open == r.open) && (not (q.open == r.close) && (not (q.close == r.open) && (not (q.open == r.separator) && (not (q.close == r.separator) && (not (q.separator == r.open) && not (q.separator == r.close))))))

-- a rule is told apart from each of some others
unfoldable pub fresh : List Rule → Rule → Bool
fresh rs r = list_all (λ q. apart q r) rs

-- the brackets and the separator of one rule differ, and none is a blank
abbrev pub sound_rule : Rule → Bool
sound_rule r =
    (not (blank r.open) && (not (blank r.close) && not (blank r.separator)))
    && (not (r.open == r.close) && (not (r.open == r.separator) && not (r.close == r.separator)))

-- of no two rules is a byte taken for another
unfoldable pub unambiguous : List Rule → Bool
unambiguous [] = true
unambiguous (r ∷ rs) = sound_rule r && (fresh rs r && unambiguous rs)

-- the tokens without their positions
abbrev pub bare : List Placed → List Token
bare [] = []
bare (t ∷ ts) = t.token ∷ bare ts

-- a source is a value: its tokens are the value's
pub record ReadsAs (rs : List Rule) (source : List ℕ) (v : Values) : Type 0 where
  pub one : single v ≡ true
  pub formed : well_formed rs v ≡ true
  pub same : bare (tokens rs 0 source) ≡ spelled 0 v

-- there is only one value that a source is, where the rules are not ambiguous
abbrev pub OneValue : Type 0
OneValue =
    (rs : List Rule) (source : List ℕ) (u v : Values) → unambiguous rs ≡ true → ReadsAs rs source u → ReadsAs rs source v → u ≡ v

-- a word, in texts of at most 255 bytes each
unfoldable pub texts : ℕ → List ℕ → Doc
texts zero w = text w
texts (suc n) w = cond (nat_le (length w) 255) (text w) (cat (text (take 255 w)) (texts n (drop 255 w)))

-- a word's document
abbrev pub word_doc : List ℕ → Doc
word_doc w = texts (length w) w

-- a list: on one line, or each value on a line of its own, and the closing bracket, too; an empty one is a word
abbrev pub list_doc : List ℕ → Rule → (empty : Bool) → (items : Doc) → Doc
list_doc name r true items = word_doc (name ++ (r.open ∷ r.close ∷ []))
list_doc name r false items = group (cat (word_doc (name ++ (r.open ∷ []))) (cat (nest r.indent items) (cat line (text (r.close ∷ [])))))

-- for each value a line, the value, and the separator after each but the last
unfoldable pub items_doc : ℕ → Values → Doc
items_doc c none = nil
items_doc c (plain w vs) = cat line (cat (word_doc w) (cond (is_none vs) nil (cat (text (c ∷ [])) (items_doc c vs))))
items_doc c (list name r items vs) =
    cat line (cat (list_doc name r (is_none items) (items_doc r.separator items)) (cond (is_none vs) nil (cat (text (c ∷ [])) (items_doc c vs))))

-- a value's document
abbrev pub value_doc : Values → Doc
value_doc none = nil
value_doc (plain w vs) = word_doc w
value_doc (list name r items vs) = list_doc name r (is_none items) (items_doc r.separator items)
