-- Worked examples: the best layouts of two documents. Assumes nothing.
use Rattle.std.specs.Prelude.{◌≡◌, ℕ, List, [], ◌∷◌, ◌++◌, codes}
use Rattle.doc.specs.Doc.{Doc, nil, text, cat, nest, line, group}
use Rattle.cost.specs.Best.{beyond, best}

-- documents behind each other
unfoldable pub cats : List Doc → Doc
cats [] = nil
cats (d ∷ ds) = cat d (cats ds)

-- for each value a line and the value, with a comma after each but the last
unfoldable pub values : List Doc → Doc
values [] = nil
values (v ∷ []) = cat line v
values (v ∷ u ∷ vs) = cats (line ∷ v ∷ text (codes ",") ∷ values (u ∷ vs) ∷ [])

-- a call: its name and a bracket, its values nested by 2, a line and a bracket
unfoldable pub call : List ℕ → List Doc → Doc
call name vs = group (cats (text (name ++ codes "(") ∷ nest 2 (values vs) ∷ line ∷ text (codes ")") ∷ []))

-- a line that is given a name, with a call in a call
unfoldable pub worked_call : Doc
worked_call =
    cats
    (
    text (codes "let x = ")
    ∷ call (codes "put") (text (codes "bread") ∷ call (codes "slice") (text (codes "cheese") ∷ text (codes "thin") ∷ []) ∷ text (codes "salt") ∷ [])
    ∷ line ∷ text (codes "in x") ∷ []
    )

-- flat it fits up to the b, and not with what stands behind it
unfoldable pub worked_tail : Doc
worked_tail = cats (text (codes "aaaa") ∷ group (cat line (text (codes "b"))) ∷ text (codes "cccc") ∷ [])

-- texts with the end of a line between each two
unfoldable pub on_lines : List (List ℕ) → List ℕ
on_lines [] = []
on_lines (t ∷ []) = t
on_lines (t ∷ u ∷ ts) = t ++ (10 ∷ on_lines (u ∷ ts))

-- the best layout of a document at a width, by its lines, its bytes beyond the width, and the lines that end
unfoldable pub BestIs : ℕ → Doc → List (List ℕ) → (over lines : ℕ) → Type 0
BestIs w d ts over lines = ((best w d).out ≡ on_lines ts) × (beyond w (best w d) ≡ over) × ((best w d).lines ≡ lines)

-- its layout with the inner call flat
unfoldable pub slice_flat : List (List ℕ)
slice_flat = codes "let x = put(" ∷ codes "  bread," ∷ codes "  slice( cheese, thin )," ∷ codes "  salt" ∷ codes ")" ∷ codes "in x" ∷ []

-- its layout with both calls broken
unfoldable pub all_broken : List (List ℕ)
all_broken =
    codes "let x = put(" ∷ codes "  bread," ∷ codes "  slice(" ∷ codes "    cheese," ∷ codes "    thin" ∷ codes "  )," ∷ codes "  salt" ∷ codes ")"
    ∷ codes "in x" ∷ []

-- the best layouts at some widths
abbrev pub WorkedLayouts : Type 0
WorkedLayouts =
    BestIs 60 worked_call (codes "let x = put( bread, slice( cheese, thin ), salt )" ∷ codes "in x" ∷ []) 0 1
    × BestIs 40 worked_call slice_flat 0 5
    × BestIs 30 worked_call slice_flat 0 5
    × BestIs 10 worked_call all_broken 3 8
    × BestIs 8 worked_tail (codes "aaaa" ∷ codes "bcccc" ∷ []) 0 1
