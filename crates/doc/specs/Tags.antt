-- The byte that stands for each tag. Assumes nothing: these are definitions.
use Rattle.std.specs.Prelude.{◌≡◌, ℕ, ◌<◌, Result, MatchResult}
use Rattle.doc.specs.declared.tag.Tag.{Tag}
use Rattle.doc.specs.declared.tag.Tag.TheVariants.{Nil, Text, Cat, Nest, Line, Group}
use Rattle.doc.specs.declared.tag.NoTag.{NoTag}

-- a tag's byte
abbrev pub byte_of : Tag → ℕ
byte_of Nil = 0
byte_of Text = 1
byte_of Cat = 2
byte_of Nest = 3
byte_of Line = 4
byte_of Group = 5

-- a byte is a tag's, or it is above all of them
abbrev pub Tells : ℕ → Result Tag NoTag → Type 0
Tells b r = MatchResult r (λ t. byte_of t ≡ b) (λ _. 5 < b)
