-- What may be relied on, said of all documents and widths. Each is a statement, whose proof a function of `laws` asks for. Assumes nothing.
use Rattle.std.specs.Prelude.{◌≡◌, ℕ, suc, ◌+◌, ◌≤◌, true, false, cond, ◌||◌, List, [], ◌∷◌, ◌++◌, length, ◌==◌, nat_lt}
use Rattle.std.specs.List.{AllByRecursion}
use Rattle.doc.specs.Doc.{Doc, nil, text, cat, nest, line, group}
use Rattle.doc.specs.Laws.{plain}
use Rattle.cost.specs.Layout.{Layout, all_layouts}
use Rattle.cost.specs.Best.{beyond, wins, better, best}

-- no layout is better than the best; it is one of the layouts, and it is better than each before it
pub record FirstBest (w : ℕ) (d : Doc) : Type 0 where
  pub before : List Layout
  pub after : List Layout
  pub is_one : all_layouts w d ≡ before ++ (best w d ∷ after)
  pub none_better : AllByRecursion (λ s. better w s (best w d) ≡ false) (all_layouts w d)
  pub first : AllByRecursion (λ s. better w (best w d) s ≡ true) before

-- the best layout is the first of those than which none is better
abbrev pub BestIsFirst : Type 0
BestIsFirst = (w : ℕ) (d : Doc) → FirstBest w d

-- the bytes but for blanks and ends of lines
abbrev pub signs : List ℕ → List ℕ
signs [] = []
signs (c ∷ cs) = cond (c == 32 || c == 10) (signs cs) (c ∷ signs cs)

-- all layouts have the same bytes, but for blanks and ends of lines
abbrev pub SameSigns : Type 0
SameSigns = (w : ℕ) (d : Doc) → AllByRecursion (λ s. signs s.out ≡ signs (best w d).out) (all_layouts w d)

-- how many lines end in some bytes
abbrev pub ends : List ℕ → ℕ
ends [] = 0
ends (c ∷ cs) = cond (c == 10) 1 0 + ends cs

-- how many bytes stand beyond the width, if the first stands at a column
abbrev pub bytes_beyond : (w column : ℕ) → List ℕ → ℕ
bytes_beyond w column [] = 0
bytes_beyond w column (c ∷ cs) = cond (c == 10) (bytes_beyond w 0 cs) (cond (nat_lt column w) 0 1 + bytes_beyond w (suc column) cs)

-- what is counted is what there is in the bytes, where no text has the end of a line in it
abbrev pub CountedRight : Type 0
CountedRight =
    (w : ℕ) (d : Doc) → plain d ≡ true →
    AllByRecursion (λ s. (ends s.out ≡ s.lines) × (bytes_beyond w 0 s.out ≡ beyond w s)) (all_layouts w d)

-- a document on one line
unfoldable pub flat_text : Doc → List ℕ
flat_text nil = []
flat_text (text t) = t
flat_text (cat a b) = flat_text a ++ flat_text b
flat_text (nest k a) = flat_text a
flat_text line = 32 ∷ []
flat_text (group a) = flat_text a

-- a document that is one group, and fits on one line, is set on one
abbrev pub FitsOnOne : Type 0
FitsOnOne = (w : ℕ) (d : Doc) → length (flat_text d) ≤ w → ((best w (group d)).out ≡ flat_text d) × ((best w (group d)).lines ≡ 0)

-- a wider line is never worse
abbrev pub WiderNoWorse : Type 0
WiderNoWorse = (w v : ℕ) (d : Doc) → w ≤ v → wins (beyond w (best w d)) (best w d).lines (beyond v (best v d)) (best v d).lines ≡ false

-- how three documents behind each other are bracketed does not matter, and nothing changes nothing
pub record Bracketing (w : ℕ) (a b c : Doc) : Type 0 where
  pub layouts_alike : all_layouts w (cat (cat a b) c) ≡ all_layouts w (cat a (cat b c))
  pub best_alike : best w (cat (cat a b) c) ≡ best w (cat a (cat b c))
  pub nothing_before : all_layouts w (cat nil a) ≡ all_layouts w a
  pub nothing_after : all_layouts w (cat a nil) ≡ all_layouts w a

-- how documents behind each other are bracketed does not matter
abbrev pub BracketsAlike : Type 0
BracketsAlike = (w : ℕ) (a b c : Doc) → Bracketing w a b c

-- a text, a group and a text before a line in no group are set on one line if they fit there, whatever comes behind
abbrev pub NotNeedlesslyBroken : Type 0
NotNeedlesslyBroken =
    (w : ℕ) (t u : List ℕ) (g d : Doc) → length t + length (flat_text g) + length u ≤ w →
    (rest : List ℕ) × ((best w (cat (text t) (cat (group g) (cat (text u) (cat line d))))).out ≡ t ++ (flat_text g ++ (u ++ (10 ∷ rest))))
