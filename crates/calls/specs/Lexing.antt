-- What each step of reading tokens answers. Assumes nothing: these are definitions.
use Rattle.std.specs.Prelude.{◌≡◌, ◌-◌, false, true, List, [], ◌∷◌, length, None, Some, Option}
use Rattle.calls.specs.Tokens.{Token, word, mark, Placed, place, marks, tokens}
use Rattle.calls.specs.Values.{all_in_word, empty}
use Rattle.calls.specs.declared.lexer.Lexeme.{Lexeme}
use Rattle.calls.specs.declared.lexer.Lexemes.{Lexemes}
use Rattle.calls.specs.declared.lexer.Token as code
use Rattle.calls.specs.declared.lexer.Token.TheVariants.{Word, Mark}
use Rattle.calls.specs.declared.rule.Rule.{Rule}

-- a token
abbrev pub token_of : code.Token → Token
token_of (Word w) = word w.now
token_of (Mark m) = mark m

-- the tokens that are left, with their positions
unfoldable pub tokens_left : Lexemes → List Placed
tokens_left s = tokens s.source.rules.now (length s.source.bytes.now - length s.rest.now) s.rest.now

-- a word is not empty and made of words' bytes, and a mark is a byte of the rules
abbrev pub Formed : List Rule → Token → Type 0
Formed rs (word w) = (empty w ≡ false) × (all_in_word rs w ≡ true)
Formed rs (mark m) = marks rs m ≡ true

-- the first token that was left, and the others that are left now
pub record Lexed (s : Lexemes) (x : Lexeme) (t : Lexemes) : Type 0 where
  pub read : tokens_left s ≡ place x.at (token_of x.token) ∷ tokens_left t
  pub formed : Formed s.source.rules.now (token_of x.token)

-- the next token, or none is left now or later
abbrev pub GivesLexeme : Lexemes → Option Lexeme → Lexemes → Type 0
GivesLexeme s None t = (tokens_left s ≡ []) × (tokens_left t ≡ [])
GivesLexeme s (Some x) t = Lexed s x t
