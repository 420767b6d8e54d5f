-- A document adds at most as many lines as it has nodes. Assumes nothing.
use Rattle.std.proofs.Common.{ℕ, suc, ◌+◌, ◌≤◌, length, arith}
use Rattle.std.proofs.lemmas.Bool.{cond_both}
use Rattle.doc.specs.Doc.{Doc, nil, text, cat, nest, line, group}
use Rattle.doc.specs.Nodes.{size}
use Rattle.cost.specs.Layout.{Layout}
use Rattle.cost.specs.ToGo.{line_to_go, group_to_go, to_go}
use Rattle.cost.specs.declared.price.Mode.{Mode}
use Rattle.cost.specs.declared.price.Mode.TheVariants.{Flat, Broken}

-- k has at most n lines, from each column on
abbrev pub Few : ℕ → (ℕ → Layout) → Type 0
Few n k = (c : ℕ) → (k c).lines ≤ n

few_line : (w i : ℕ) (m : Mode) (n : ℕ) (k : ℕ → Layout) → Few n k → Few (suc n) (line_to_go w i m k)
few_line w i Flat n k f c = omega (arith, f (c + 1))
few_line w i Broken n k f c = omega (arith, f i)

few_group : (w : ℕ) (m : Mode) (n : ℕ) (f g : ℕ → Layout) → Few n f → Few n g → Few n (λ c. group_to_go w m (f c) (g c))
few_group w Flat n f g p q c = p c
few_group w Broken n f g p q c = cond_both _ _ _ (λ (t : Layout). t.lines ≤ n) (λ _. q c) (λ _. p c)

pub few_to_go : (w : ℕ) (d : Doc) (i : ℕ) (m : Mode) (n : ℕ) (k : ℕ → Layout) → Few n k → Few (size d + n) (to_go w d i m k)
unfolding to_go size
few_to_go w nil i m n k f c = omega (arith, f c)
few_to_go w (text t) i m n k f c = omega (arith, f (c + length t))
few_to_go w (cat a b) i m n k f c = omega (arith, few_to_go w a i m (size b + n) (to_go w b i m k) (few_to_go w b i m n k f) c)
few_to_go w (nest j a) i m n k f c = omega (arith, few_to_go w a (j + i) m n k f c)
few_to_go w line i m n k f c = omega (arith, few_line w i m n k f c)
few_to_go w (group a) i m n k f c =
    omega (arith, few_group w m (size a + n) (to_go w a i Flat k) (to_go w a i Broken k) (few_to_go w a i Flat n k f) (few_to_go w a i Broken n k f) c)
