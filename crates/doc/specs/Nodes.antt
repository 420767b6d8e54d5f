-- The row of nodes that a document lays down. Assumes nothing: these are definitions.
use Rattle.std.specs.Prelude.{◌≡◌, ℕ, suc, ◌+◌, ◌≤◌, false, List, [], ◌∷◌, ◌++◌, length, take, drop, Some}
use Rattle.doc.specs.Doc.{Doc, nil, text, cat, nest, line, group}
use Rattle.doc.specs.Encoding.{has_newline, decode}
use Rattle.doc.specs.declared.node.Kind.{Kind}
use Rattle.doc.specs.declared.node.Kind.TheVariants.{Nil, Text, Cat, Nest, Line, Group}
use Rattle.doc.specs.declared.node.Node.{Node}
use Rattle.doc.specs.declared.node.ReadError.{ReadError}
use Rattle.doc.specs.declared.node.ReadError.TheVariants.{NotDocument}

-- how many nodes a document has
unfoldable pub size : Doc → ℕ
size nil = 1
size (text t) = 1
size (cat a b) = suc (size a + size b)
size (nest k a) = suc (size a)
size line = 1
size (group a) = suc (size a)

-- how many bytes its encoding has
unfoldable pub spells : Doc → ℕ
spells nil = 1
spells (text t) = 2 + length t
spells (cat a b) = 1 + (spells a + spells b)
spells (nest k a) = 2 + spells a
spells line = 1
spells (group a) = 1 + spells a

-- a node of a kind, and where it ends
abbrev pub node : Kind → ℕ → Node
node k e = record { kind = k; end = e }

-- the nodes of a document whose encoding begins at byte p, from index x on
unfoldable pub laid : Doc → (p x : ℕ) → List Node
laid nil p x = node Nil (x + 1) ∷ []
laid (text t) p x = node (Text (p + 2) (length t)) (x + 1) ∷ []
laid (cat a b) p x = node Cat (x + size (cat a b)) ∷ (laid a (p + 1) (x + 1) ++ laid b (p + 1 + spells a) (x + 1 + size a))
laid (nest k a) p x = node (Nest k) (x + size (nest k a)) ∷ laid a (p + 2) (x + 1)
laid line p x = node Line (x + 1) ∷ []
laid (group a) p x = node Group (x + size (group a)) ∷ laid a (p + 1) (x + 1)

-- the texts of a document whose encoding begins at byte p stand in s, with none too long, and no nest is too large
unfoldable pub Spelled : List ℕ → Doc → ℕ → Type 0
Spelled s nil p = Unit {0}
Spelled s (text t) p = (take (length t) (drop (p + 2) s) ≡ t) × (p + 2 + length t ≤ length s) × (length t ≤ 255) × (has_newline t ≡ false)
Spelled s (cat a b) p = Spelled s a (p + 1) × Spelled s b (p + 1 + spells a)
Spelled s (nest k a) p = (k ≤ 255) × Spelled s a (p + 2)
Spelled s line p = Unit {0}
Spelled s (group a) p = Spelled s a (p + 1)

-- the bytes s are a document, and the row is what it lays down
pub record RowOf (s : List ℕ) (row : List Node) : Type 0 where
  pub what : Doc
  pub decoded : decode s ≡ Some what
  pub row_is : row ≡ laid what 0 0
  pub spelled : Spelled s what 0
  pub few : size what ≤ 65536

-- the number of a refusal to read
abbrev pub refusal_number : ReadError → ℕ
refusal_number NotDocument = 1
