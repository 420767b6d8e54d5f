-- What is counted of a layout, and which layout is the best. Assumes nothing: these are definitions.
use Rattle.std.specs.Prelude.{ℕ, ◌+◌, ◌-◌, Bool, cond, ◌&&◌, ◌||◌, List, [], ◌∷◌, ◌==◌, nat_lt}
use Rattle.doc.specs.Doc.{Doc}
use Rattle.cost.specs.Layout.{Layout, empty, all_layouts}

-- bytes beyond the width, of all lines together, the last one among them
abbrev pub beyond : ℕ → Layout → ℕ
beyond w s = s.over + (s.column - w)

-- fewer beyond, or as many and fewer lines; by the numbers alone
unfoldable pub wins : (beyond₁ lines₁ beyond₂ lines₂ : ℕ) → Bool
wins b l c m = nat_lt b c || (b == c && nat_lt l m)

-- one layout is better than another
abbrev pub better : ℕ → Layout → Layout → Bool
better w s t = wins (beyond w s) s.lines (beyond w t) t.lines

-- of two the better, and of equals the first
abbrev pub first_of : ℕ → Layout → Layout → Layout
first_of w s t = cond (better w t s) t s

-- the best of a layout and those behind it
unfoldable pub best_of : ℕ → Layout → List Layout → Layout
best_of w s [] = s
best_of w s (t ∷ ts) = best_of w (first_of w s t) ts

-- the first of those than which none is better
unfoldable pub first_best : ℕ → List Layout → Layout
first_best w [] = empty
first_best w (s ∷ ss) = best_of w s ss

-- the best layout of a document at a width
abbrev pub best : ℕ → Doc → Layout
best w d = first_best w (all_layouts w d)
