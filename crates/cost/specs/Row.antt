-- Rows of costs: what the rest of a document costs, by the column where it begins. Assumes nothing: these are definitions.
use Rattle.std.specs.Prelude.{◌≡◌, ℕ, suc, ◌+◌, ◌-◌, ◌≤◌, cond, List, length, nat_le, slice_index_or}
use Rattle.doc.specs.Doc.{Doc, nil, text, cat, nest, line, group}
use Rattle.cost.specs.Layout.{Layout}
use Rattle.cost.specs.Best.{beyond}
use Rattle.cost.specs.Price.{price, further}
use Rattle.cost.specs.declared.price.Cost.{Cost}

-- what nothing costs
abbrev pub no_cost : Cost
no_cost = record { beyond = 0; lines = 0 }

-- the cost at a column; past the row's end each column is one byte more beyond the width
unfoldable pub along : List Cost → ℕ → Cost
along row c = cond (nat_le c (length row - 1)) (slice_index_or row c no_cost) (further (slice_index_or row (length row - 1) no_cost) (c - (length row - 1)))

-- how long a document is on one line
unfoldable pub flat_length : Doc → ℕ
flat_length nil = 0
flat_length (text t) = length t
flat_length (cat a b) = flat_length a + flat_length b
flat_length (nest k a) = flat_length a
flat_length line = 1
flat_length (group a) = flat_length a

-- a row tells what each column costs, if it is read so much further on
pub record Tells (w : ℕ) (row : List Cost) (offset : ℕ) (k : ℕ → Layout) : Type 0 where
  pub long : length row ≡ suc w
  pub costs : (c : ℕ) → along row (c + offset) ≡ price w (k c)

-- from the width on, k has a byte more beyond it for each column, and as many lines
pub record Level (w : ℕ) (k : ℕ → Layout) : Type 0 where
  pub further : (c : ℕ) → w ≤ c → beyond w (k c) ≡ beyond w (k w) + (c - w)
  pub as_many : (c : ℕ) → w ≤ c → (k c).lines ≡ (k w).lines
