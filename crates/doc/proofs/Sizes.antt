-- How many nodes and bytes a document has. Assumes nothing.
use Rattle.std.proofs.Common.{◌≡◌, ℕ, suc, ◌+◌, ◌<◌, ◌≤◌, length, refl, ap, ◌∙◌, arith, length-append}
use Rattle.doc.specs.Doc.{Doc, nil, text, cat, nest, line, group}
use Rattle.doc.specs.Nodes.{size, spells, laid}

pub length_laid : (d : Doc) (p x : ℕ) → length (laid d p x) ≡ size d
unfolding laid size
length_laid nil p x = refl
length_laid (text t) p x = refl
length_laid (cat a b) p x =
    ap suc (length-append (laid a (p + 1) (x + 1)) _ ∙ (λ i. length_laid a (p + 1) (x + 1) i + length_laid b (p + 1 + spells a) (x + 1 + size a) i))
length_laid (nest k a) p x = ap suc (length_laid a (p + 2) (x + 1))
length_laid line p x = refl
length_laid (group a) p x = ap suc (length_laid a (p + 1) (x + 1))

-- each node takes a byte at least
pub size_spells : (d : Doc) → size d ≤ spells d
unfolding spells size
size_spells nil = omega arith
size_spells (text t) = omega arith
size_spells (cat a b) = omega (arith, size_spells a, size_spells b)
size_spells (nest k a) = omega (arith, size_spells a)
size_spells line = omega arith
size_spells (group a) = omega (arith, size_spells a)

pub some_node : (d : Doc) → 0 < size d
unfolding size
some_node nil = omega arith
some_node (text t) = omega arith
some_node (cat a b) = omega arith
some_node (nest k a) = omega arith
some_node line = omega arith
some_node (group a) = omega arith
