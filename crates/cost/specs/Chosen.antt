-- The decisions that the search notes, and the layout that they make. Assumes nothing: these are definitions.
use Rattle.std.specs.Prelude.{◌≡◌, ℕ, zero, suc, ◌+◌, ◌<◌, ◌≤◌, min, Bool, cond, List, [], ◌∷◌, ◌++◌, length}
use Rattle.doc.specs.Doc.{Doc, nil, text, cat, nest, line, group}
use Rattle.doc.specs.Nodes.{size}
use Rattle.cost.specs.Layout.{Layout, empty, with_text, with_line}
use Rattle.cost.specs.Best.{beyond, best}
use Rattle.cost.specs.Price.{beats, limit, price}
use Rattle.cost.specs.ToGo.{stop, to_go}
use Rattle.cost.specs.declared.price.Mode.{Mode}
use Rattle.cost.specs.declared.price.Mode.TheVariants.{Flat, Broken}

-- a group is broken where that costs less
abbrev pub breaks : ℕ → (flat broken : Layout) → Bool
breaks w flat broken = beats (price w broken) (price w flat)

-- f at each number below n
unfoldable pub below : {A : Type 0} → (ℕ → A) → ℕ → List A
below f zero = []
below f (suc n) = below f n ++ (f n ∷ [])

-- for each group, the last one first, whether it is broken at each column up to the width
unfoldable pub notes : ℕ → Doc → ℕ → (ℕ → Layout) → List Bool
notes w nil i k = []
notes w (text t) i k = []
notes w (cat a b) i k = notes w b i k ++ notes w a i (to_go w b i Broken k)
notes w (nest j a) i k = notes w a (j + i) k
notes w line i k = []
notes w (group a) i k = notes w a i k ++ below (λ c. breaks w (to_go w a i Flat k c) (to_go w a i Broken k c)) (suc w)

-- the mode that a group's parts are laid out in
abbrev pub decided : Mode → Bool → Mode
decided Flat b = Flat
decided Broken b = cond b Broken Flat

-- a line in a mode
abbrev pub line_chosen : (w i : ℕ) → Mode → Layout → Layout
line_chosen w i Flat s = with_text (32 ∷ []) s
line_chosen w i Broken s = with_line w i s

-- the layout behind s that these decisions make, with k behind the document; past the width all columns are alike
unfoldable pub chosen : ℕ → Doc → ℕ → Mode → (ℕ → Layout) → Layout → Layout
chosen w nil i m k s = s
chosen w (text t) i m k s = with_text t s
chosen w (cat a b) i m k s = chosen w b i m k (chosen w a i m (to_go w b i m k) s)
chosen w (nest j a) i m k s = chosen w a (j + i) m k s
chosen w line i m k s = line_chosen w i m s
chosen w (group a) i m k s =
    chosen w a i (decided m (breaks w (to_go w a i Flat k (min s.column w)) (to_go w a i Broken k (min s.column w)))) k s

-- the decisions make the best layout, or both are too long
abbrev pub ChosenBest : Type 0
ChosenBest =
    (w : ℕ) (d : Doc) → size d ≤ 65536 →
    (beyond w (best w d) < limit → chosen w d 0 Broken stop empty ≡ best w d)
    × (limit ≤ beyond w (best w d) → limit ≤ length (chosen w d 0 Broken stop empty).out)
