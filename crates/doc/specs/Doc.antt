-- Documents. Assumes nothing: these are definitions.
use Rattle.std.specs.Prelude.{ℕ, List}

-- nothing; text, by its bytes; one document and another behind it; one nested by k; a line; a group around one
pub data Doc : Type 0 where
  nil : Doc
  text : List ℕ → Doc
  cat : Doc → Doc → Doc
  nest : ℕ → Doc → Doc
  line : Doc
  group : Doc → Doc
