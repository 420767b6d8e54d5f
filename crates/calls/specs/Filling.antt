-- What an encoder adds to the bytes that it holds. Assumes nothing: these are definitions.
use Rattle.std.specs.Prelude.{◌≡◌, ℕ, ◌<◌, List, ◌++◌, length, Ok, Err, Result, ⊤}
use Rattle.doc.specs.declared.reserved.Full.{Full}

-- behind the bytes before there are these now; or all of them are too many
abbrev pub Adds : (before after more : List ℕ) → Result ⊤ Full → Type 0
Adds before after more (Ok x) = after ≡ before ++ more
Adds before after more (Err e) = 65536 < length (before ++ more)
