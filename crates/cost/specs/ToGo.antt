-- The best layout of what is left of a document, by the column where it begins. Assumes nothing: these are definitions.
use Rattle.std.specs.Prelude.{◌≡◌, ℕ, suc, ◌+◌, ◌-◌, List, [], ◌∷◌, ◌++◌, length, replicate}
use Rattle.doc.specs.Doc.{Doc, nil, text, cat, nest, line, group}
use Rattle.cost.specs.Layout.{Layout}
use Rattle.cost.specs.Best.{best, first_of}
use Rattle.cost.specs.declared.price.Mode.{Mode}
use Rattle.cost.specs.declared.price.Mode.TheVariants.{Flat, Broken}

-- at the end of a document nothing is left
abbrev pub stop : ℕ → Layout
stop c = record { out = []; column = c; over = 0; lines = 0 }

-- text, and then the rest from the column behind it
abbrev pub then_text : List ℕ → (ℕ → Layout) → ℕ → Layout
then_text t k c =
    record { out = t ++ (k (c + length t)).out; column = (k (c + length t)).column; over = (k (c + length t)).over; lines = (k (c + length t)).lines }

-- the end of a line, and then the rest from the indentation
abbrev pub then_line : (w i : ℕ) → (ℕ → Layout) → ℕ → Layout
then_line w i k c = record { out = 10 ∷ (replicate i 32 ++ (k i).out); column = (k i).column; over = (c - w) + (k i).over; lines = suc (k i).lines }

-- a line in a mode, and then the rest
abbrev pub line_to_go : (w i : ℕ) → Mode → (ℕ → Layout) → ℕ → Layout
line_to_go w i Flat k c = then_text (32 ∷ []) k c
line_to_go w i Broken k c = then_line w i k c

-- a group in a mode, from the best of its flat layouts and of its broken ones
abbrev pub group_to_go : ℕ → Mode → (flat broken : Layout) → Layout
group_to_go w Flat flat broken = flat
group_to_go w Broken flat broken = first_of w flat broken

-- the best of a document at an indentation, in a mode, with k behind it, from a column on
unfoldable pub to_go : ℕ → Doc → ℕ → Mode → (ℕ → Layout) → ℕ → Layout
to_go w nil i m k c = k c
to_go w (text t) i m k c = then_text t k c
to_go w (cat a b) i m k c = to_go w a i m (to_go w b i m k) c
to_go w (nest j a) i m k c = to_go w a (j + i) m k c
to_go w line i m k c = line_to_go w i m k c
to_go w (group a) i m k c = group_to_go w m (to_go w a i Flat k c) (to_go w a i Broken k c)

-- what was laid out, and the rest behind it
abbrev pub extend : Layout → Layout → Layout
extend s t = record { out = s.out ++ t.out; column = t.column; over = s.over + t.over; lines = s.lines + t.lines }

-- the best of all layouts is the best to go from the beginning
abbrev pub BestToGo : Type 0
BestToGo = (w : ℕ) (d : Doc) → best w d ≡ to_go w d 0 Broken stop 0
