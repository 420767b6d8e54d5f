-- A layout has at least as many bytes as it has beyond the width. Assumes nothing.
use Rattle.std.proofs.Common.{ℕ, ◌+◌, ◌≤◌, List, [], ◌∷◌, length, sym, subst, arith, length-append}
use lib.ListN.{length-replicate}
use Rattle.std.proofs.lemmas.Bool.{cond_both}
use Rattle.doc.specs.Doc.{Doc, nil, text, cat, nest, line, group}
use Rattle.cost.specs.Layout.{Layout}
use Rattle.cost.specs.Best.{beyond, best}
use Rattle.cost.specs.ToGo.{stop, then_text, line_to_go, group_to_go, to_go}
use Rattle.cost.specs.declared.price.Mode.{Mode}
use Rattle.cost.specs.declared.price.Mode.TheVariants.{Flat, Broken}
use Rattle.cost.proofs.ToGo.{best_to_go}

-- what is beyond and the last line are within the bytes, and the column where they begin
Within : (ℕ → Layout) → Type 0
Within k = (c : ℕ) → (k c).over + (k c).column ≤ c + length (k c).out

text_within : (t : List ℕ) (k : ℕ → Layout) → Within k → Within (then_text t k)
unfolding Within
text_within t k h c = simp length-append (omega (arith, h (c + length t)))

line_within : (w i : ℕ) (m : Mode) (k : ℕ → Layout) → Within k → Within (line_to_go w i m k)
unfolding Within
line_within w i Flat k h c = text_within (32 ∷ []) k h c
line_within w i Broken k h c = simp (length-append, length-replicate) (omega (arith, h i))

group_within : (w : ℕ) (m : Mode) (f b : ℕ → Layout) → Within f → Within b → Within (λ c. group_to_go w m (f c) (b c))
unfolding Within
group_within w Flat f b hf hb c = hf c
group_within w Broken f b hf hb c = cond_both _ _ _ (λ (s : Layout). s.over + s.column ≤ c + length s.out) (λ _. hb c) (λ _. hf c)

within_to_go : (w : ℕ) (d : Doc) (i : ℕ) (m : Mode) (k : ℕ → Layout) → Within k → Within (to_go w d i m k)
unfolding to_go
within_to_go w nil i m k h = h
within_to_go w (text t) i m k h = text_within t k h
within_to_go w (cat a b) i m k h = within_to_go w a i m (to_go w b i m k) (within_to_go w b i m k h)
within_to_go w (nest j a) i m k h = within_to_go w a (j + i) m k h
within_to_go w line i m k h = line_within w i m k h
within_to_go w (group a) i m k h =
    group_within w m (to_go w a i Flat k) (to_go w a i Broken k) (within_to_go w a i Flat k h) (within_to_go w a i Broken k h)

pub best_counted : (w : ℕ) (d : Doc) → beyond w (best w d) ≤ length (best w d).out
unfolding Within
best_counted w d =
    subst (λ s. beyond w s ≤ length s.out) (sym (best_to_go w d)) (omega (arith, within_to_go w d 0 Broken stop (λ c. omega arith) 0))
