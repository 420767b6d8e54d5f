-- The tokens of a source. Assumes nothing: these are definitions.
use Rattle.std.specs.Prelude.{ℕ, suc, Bool, false, cond, not, ◌&&◌, ◌||◌, List, [], ◌∷◌, ◌==◌}
use Rattle.std.specs.List.{list_any}
use Rattle.calls.specs.declared.rule.Rule.{Rule}

-- a blank, a tab, the end of a line: these mean nothing, but that a word ends
abbrev pub blank : ℕ → Bool
blank c = c == 32 || (c == 9 || (c == 10 || c == 13))

-- a byte is a bracket or the separator of a rule
abbrev pub own : Rule → ℕ → Bool
own r c = c == r.open || (c == r.close || c == r.separator)

-- a bracket or a separator of some rule
unfoldable pub marks : List Rule → ℕ → Bool
marks rs c = list_any (λ r. own r c) rs

-- any other byte is part of a word
abbrev pub in_word : List Rule → ℕ → Bool
in_word rs c = not (blank c) && not (marks rs c)

-- a word, or a bracket or separator
pub data Token : Type 0 where
  word : List ℕ → Token
  mark : ℕ → Token

-- a token, and the position of its first byte
pub record Placed : Type 0 where
  pub at : ℕ
  pub token : Token

-- a token at a position
abbrev pub place : ℕ → Token → Placed
place p t = record { at = p; token = t }

-- the source goes on with a word's byte
abbrev pub word_next : List Rule → List ℕ → Bool
word_next rs [] = false
word_next rs (c ∷ cs) = in_word rs c

-- a byte before the word that comes first
abbrev pub longer : ℕ → Token → Token
longer c (word w) = word (c ∷ w)
longer c (mark m) = mark m

-- a byte at a position, before the word that comes first
abbrev pub lengthen : (p c : ℕ) → List Placed → List Placed
lengthen p c [] = []
lengthen p c (t ∷ ts) = place p (longer c t.token) ∷ ts

-- the tokens of a source whose first byte stands at a position
unfoldable pub tokens : List Rule → ℕ → List ℕ → List Placed
tokens rs p [] = []
tokens rs p (c ∷ cs) =
    cond (blank c) (tokens rs (suc p) cs)
    (cond (marks rs c) (place p (mark c) ∷ tokens rs (suc p) cs)
    (cond (word_next rs cs) (lengthen p c (tokens rs (suc p) cs)) (place p (word (c ∷ [])) ∷ tokens rs (suc p) cs)))
