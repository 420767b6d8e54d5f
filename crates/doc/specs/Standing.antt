-- A document that stands in a row of nodes, for going through it node by node. Assumes nothing: these are definitions.
use Rattle.std.specs.Prelude.{◌≡◌, ℕ, ◌+◌, ◌<◌, ◌≤◌, List, length, slice_index_or}
use Rattle.doc.specs.Doc.{Doc, nil, text, cat, nest, line, group}
use Rattle.doc.specs.Nodes.{size, spells, node}
use Rattle.doc.specs.Reading.{no_node}
use Rattle.doc.specs.declared.node.Kind.{Kind}
use Rattle.doc.specs.declared.node.Kind.TheVariants.{Nil, Text, Cat, Nest, Line, Group}
use Rattle.doc.specs.declared.node.Node.{Node}

-- a node stands at an index
abbrev pub Is : List Node → ℕ → Kind → ℕ → Type 0
Is ns x k e = (x < length ns) × (slice_index_or ns x no_node ≡ node k e)

-- a document whose encoding begins at byte p stands in a row from index x on
unfoldable pub Stands : List Node → Doc → (p x : ℕ) → Type 0
Stands ns nil p x = Is ns x Nil (x + 1)
Stands ns (text t) p x = Is ns x (Text (p + 2) (length t)) (x + 1) × (length t ≤ 255)
Stands ns (cat a b) p x = Is ns x Cat (x + size (cat a b)) × Stands ns a (p + 1) (x + 1) × Stands ns b (p + 1 + spells a) (x + 1 + size a)
Stands ns (nest k a) p x = Is ns x (Nest k) (x + size (nest k a)) × (k ≤ 255) × Stands ns a (p + 2) (x + 1)
Stands ns line p x = Is ns x Line (x + 1)
Stands ns (group a) p x = Is ns x Group (x + size (group a)) × Stands ns a (p + 1) (x + 1)
