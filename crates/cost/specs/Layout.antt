-- All layouts of a document, in their order. Assumes nothing: these are definitions.
use Rattle.std.specs.Prelude.{ℕ, suc, ◌+◌, ◌-◌, List, [], ◌∷◌, ◌++◌, length, replicate}
use Rattle.doc.specs.Doc.{Doc, nil, text, cat, nest, line, group}
use Rattle.cost.specs.declared.price.Mode.{Mode}
use Rattle.cost.specs.declared.price.Mode.TheVariants.{Flat, Broken}

-- a layout so far: its bytes, the column where its last line is, the bytes beyond the width in the lines that have ended, and how many have
pub record Layout : Type 0 where
  pub out : List ℕ
  pub column : ℕ
  pub over : ℕ
  pub lines : ℕ

-- before anything is laid out
abbrev pub empty : Layout
empty = record { out = []; column = 0; over = 0; lines = 0 }

-- text set at the column
abbrev pub with_text : List ℕ → Layout → Layout
with_text t s = record { out = s.out ++ t; column = s.column + length t; over = s.over; lines = s.lines }

-- a line ended, and the next begun with i blanks
abbrev pub with_line : (w i : ℕ) → Layout → Layout
with_line w i s = record { out = s.out ++ (10 ∷ replicate i 32); column = i; over = s.over + (s.column - w); lines = suc s.lines }

-- a line in a mode: a blank, or the end of a line
abbrev pub line_layouts : (w i : ℕ) → Mode → Layout → List Layout
line_layouts w i Flat s = with_text (32 ∷ []) s ∷ []
line_layouts w i Broken s = with_line w i s ∷ []

-- a group in a mode, from its flat layouts and its broken ones: within a flat group it is flat, otherwise it may be both, flat first
abbrev pub group_layouts : Mode → (flat broken : List Layout) → List Layout
group_layouts Flat flat broken = flat
group_layouts Broken flat broken = flat ++ broken

-- each layout of a list gone on with
unfoldable pub through : (Layout → List Layout) → List Layout → List Layout
through f [] = []
through f (s ∷ ss) = f s ++ through f ss

-- all layouts of a document behind s, at an indentation, in a mode
unfoldable pub layouts : ℕ → Doc → ℕ → Mode → Layout → List Layout
layouts w nil i m s = s ∷ []
layouts w (text t) i m s = with_text t s ∷ []
layouts w (cat a b) i m s = through (layouts w b i m) (layouts w a i m s)
layouts w (nest k a) i m s = layouts w a (k + i) m s
layouts w line i m s = line_layouts w i m s
layouts w (group a) i m s = group_layouts m (layouts w a i Flat s) (layouts w a i Broken s)

-- a line in no group ends a line, so the whole document is laid out as if in a broken one
abbrev pub all_layouts : ℕ → Doc → List Layout
all_layouts w d = layouts w d 0 Broken empty
