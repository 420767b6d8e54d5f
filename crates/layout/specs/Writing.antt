-- What the writer holds and is given. Assumes nothing: these are definitions.
use Rattle.std.specs.Prelude.{◌≡◌, ℕ, ◌*◌, ◌<◌, ◌≤◌, Bool, List, ◌++◌, length, take, Result, MatchResult}
use Rattle.doc.specs.Doc.{Doc}
use Rattle.doc.specs.Nodes.{Spelled}
use Rattle.doc.specs.Standing.{Stands}
use Rattle.cost.specs.Layout.{Layout}
use Rattle.cost.specs.Chosen.{chosen, notes}
use Rattle.cost.specs.declared.price.Mode.{Mode}
use Rattle.layout.specs.declared.plan.Plan.{Plan}
use Rattle.doc.specs.declared.reserved.Full.{Full}
use Rattle.layout.specs.declared.writer.Writer.{Writer}

-- what a writer holds: a layout's bytes, column and lines, with so many notes left
pub record Holds (v : Writer) (l : Layout) (n : ℕ) : Type 0 where
  pub out_is : v.out ≡ l.out
  pub column_is : v.column ≡ l.column
  pub lines_are : v.lines ≡ l.lines
  pub left_are : v.left ≡ n

-- what writing answers: the writer holds this layout, or it is too long
abbrev pub Wrote : Writer → Layout → ℕ → Result (Unit {0}) Full → Type 0
Wrote u l n r = MatchResult r (λ _. Holds u l n) (λ _. 131072 < length l.out)

-- a note was used, and nothing else has changed
pub record SameButLeft (v u : Writer) (left : ℕ) : Type 0 where
  pub same_out : u.out ≡ v.out
  pub same_column : u.column ≡ v.column
  pub same_lines : u.lines ≡ v.lines
  pub left_is : u.left ≡ left

-- a document to write: it stands in the nodes, its texts in the source, and its decisions are the last of those that are left
pub record Task (plan : Plan) (at indent left : ℕ) : Type 0 where
  pub what : Doc
  pub from : ℕ
  pub rest : ℕ → Layout
  pub before : List Bool
  pub stands : Stands plan.nodes.now what from at
  pub spelled : Spelled plan.source.now what from
  pub decisions : take left plan.notes.now ≡ before ++ notes plan.width what indent rest
  pub within : left ≤ length plan.notes.now
  pub shallow : indent ≤ 255 * at
  pub few : length plan.nodes.now ≤ 65536

-- what is written of the document at a node is what its decisions choose, behind any layout that the writer held
abbrev pub Writes : Plan → (at indent : ℕ) → Mode → (v u : Writer) → Result (Unit {0}) Full → Type 0
Writes plan at indent m v u r =
    (t : Task plan at indent v.left) (l : Layout) → Holds v l v.left →
    Wrote u (chosen plan.width t.what indent m t.rest l) (length t.before) r
