-- What the search is given and what it finds. Assumes nothing: these are definitions.
use Rattle.std.specs.Prelude.{◌≡◌, ℕ, suc, ◌+◌, ◌*◌, ◌≤◌, List, [], ◌++◌, length, replicate}
use Rattle.doc.specs.Doc.{Doc}
use Rattle.doc.specs.Nodes.{size}
use Rattle.doc.specs.Standing.{Stands}
use Rattle.doc.specs.declared.node.Node.{Node}
use Rattle.cost.specs.Layout.{Layout}
use Rattle.cost.specs.ToGo.{to_go}
use Rattle.cost.specs.Chosen.{notes, below}
use Rattle.cost.specs.Price.{beats, cheaper}
use Rattle.cost.specs.Row.{no_cost, along, Tells, Level, flat_length}
use Rattle.cost.specs.declared.price.Cost.{Cost}
use Rattle.cost.specs.declared.price.Mode.TheVariants.{Broken}
use Rattle.layout.specs.declared.search.Search.{Search}

-- behind a document nothing is left, at any column, and nothing is kept or noted yet
pub record Begun (w : ℕ) (v : Search) : Type 0 where
  pub width_is : v.width ≡ w
  pub row_is : v.row ≡ replicate (suc w) no_cost
  pub offset_is : v.offset ≡ 0
  pub flat_is : v.flat ≡ 0
  pub none_saved : v.saved ≡ []
  pub none_noted : v.notes ≡ []

-- a document stands in the nodes, and there is room for what the search notes of it
pub record Quest (ns : List Node) (at indent : ℕ) (v : Search) : Type 0 where
  pub what : Doc
  pub from : ℕ
  pub stands : Stands ns what from at
  pub few : length ns ≤ 65536
  pub shallow : indent ≤ 255 * at
  pub short : v.flat + 255 * (at + size what) ≤ 16711680
  pub deep : length v.saved ≤ 256 * at
  pub many : length v.notes + 256 * (at + size what) ≤ 16777216

-- a document was gone through: what is behind it and what begins at it are told by the rows before and after, and its decisions are noted
pub record Found (d : Doc) (indent : ℕ) (v u : Search) : Type 0 where
  pub same_width : u.width ≡ v.width
  pub same_saved : u.saved ≡ v.saved
  pub longer : u.flat ≡ v.flat + flat_length d
  pub more : length u.notes ≤ length v.notes + 256 * size d
  pub tells : (k : ℕ → Layout) → Level v.width k → Tells v.width v.row v.offset k → Tells v.width u.row u.offset (to_go v.width d indent Broken k)
  pub noted : (k : ℕ → Layout) → Level v.width k → Tells v.width v.row v.offset k → u.notes ≡ v.notes ++ notes v.width d indent k

-- the row was kept
pub record Saved (v u : Search) : Type 0 where
  pub same_width : u.width ≡ v.width
  pub same_row : u.row ≡ v.row
  pub same_offset : u.offset ≡ v.offset
  pub same_flat : u.flat ≡ v.flat
  pub saved_is : u.saved ≡ v.saved ++ v.row
  pub same_notes : u.notes ≡ v.notes

-- a group's rows were merged: the last row that was kept, read so much further on, is that of its flat layout
pub record Merged (under kept : List Cost) (v : Search) (reach : ℕ) (u : Search) : Type 0 where
  pub same_width : u.width ≡ v.width
  pub same_flat : u.flat ≡ v.flat
  pub begins : u.offset ≡ 0
  pub saved_is : u.saved ≡ under
  pub row_is : u.row ≡ below (λ c. cheaper (along kept (c + reach)) (along v.row (c + v.offset))) (suc v.width)
  pub notes_are : u.notes ≡ v.notes ++ below (λ c. beats (along v.row (c + v.offset)) (along kept (c + reach))) (suc v.width)

-- the same, for whatever lies under the last row
abbrev pub Merges : Search → ℕ → Search → Type 0
Merges v reach u = (under kept : List Cost) → v.saved ≡ under ++ kept → length kept ≡ v.width + 1 → Merged under kept v reach u
