-- A wider line is never worse. Assumes nothing.
use Rattle.std.proofs.Common.{◌≡◌, ℕ, suc, ◌+◌, ◌-◌, ◌≤◌, true, false, length, add_assoc, arith}
use Rattle.std.proofs.lemmas.Bool.{cond_both}
use Rattle.std.proofs.lemmas.Bool.Decides.{nat_tests}
use Rattle.doc.specs.Doc.{Doc, nil, text, cat, nest, line, group}
use Rattle.cost.specs.Layout.{Layout}
use Rattle.cost.specs.Best.{beyond, wins, first_of}
use Rattle.cost.specs.ToGo.{stop, line_to_go, group_to_go, to_go}
use Rattle.cost.specs.Laws.{WiderNoWorse}
use Rattle.cost.specs.declared.price.Mode.{Mode}
use Rattle.cost.specs.declared.price.Mode.TheVariants.{Flat, Broken}
use Rattle.cost.proofs.Choosing.{wins_not_trans}
use Rattle.cost.proofs.OneLine.{not_less}
use Rattle.cost.proofs.ToGo.{best_to_go}

wins_not_back : (a l b m : ℕ) → wins a l b m ≡ true → wins b m a l ≡ false
unfolding wins
wins_not_back a l b m h = grind (arith, nat_tests)

-- with more beyond, and a line more on both sides
wins_not_line : (o p a l b m : ℕ) → p ≤ o → wins a l b m ≡ false → wins (o + a) (suc l) (p + b) (suc m) ≡ false
unfolding wins
wins_not_line o p a l b m h k = grind (arith, nat_tests)

module _ (w v : ℕ) where
  -- at the width w the one is no better than the other is at v
  abbrev Worse : Layout → Layout → Type 0
  Worse s t = wins (beyond w s) s.lines (beyond v t) t.lines ≡ false

  -- nor is the better of two than the better of two others
  worse_first : (s t s' t' : Layout) → Worse s s' → Worse t t' → Worse (first_of w s t) (first_of v s' t')
  worse_first s t s' t' p q =
      cond_both _ _ _ (λ x. Worse x (first_of v s' t'))
      (λ _. cond_both _ _ _ (Worse t) (λ _. q) (λ e. wins_not_trans _ _ _ _ _ _ q e))
      (λ _. cond_both _ _ _ (Worse s) (λ e. wins_not_trans _ _ _ _ _ _ p (wins_not_back _ _ _ _ e)) (λ _. p))

  worse_group : (m : Mode) (s t s' t' : Layout) → Worse s s' → Worse t t' → Worse (group_to_go w m s t) (group_to_go v m s' t')
  worse_group Flat s t s' t' p q = p
  worse_group Broken s t s' t' p q = worse_first s t s' t' p q

  module _ (wider : w ≤ v) where
    worse_line : (i : ℕ) (m : Mode) (k l : ℕ → Layout) → ((c : ℕ) → Worse (k c) (l c)) → (c : ℕ) → Worse (line_to_go w i m k c) (line_to_go v i m l c)
    worse_line i Flat k l h c = h (c + 1)
    worse_line i Broken k l h c = simp add_assoc (wins_not_line (c - w) (c - v) _ _ _ _ (omega arith) (h i))

    worse_to_go : (d : Doc) (i : ℕ) (m : Mode) (k l : ℕ → Layout) → ((c : ℕ) → Worse (k c) (l c)) → (c : ℕ) → Worse (to_go w d i m k c) (to_go v d i m l c)
    unfolding to_go
    worse_to_go nil i m k l h c = h c
    worse_to_go (text t) i m k l h c = h (c + length t)
    worse_to_go (cat a b) i m k l h c = worse_to_go a i m _ _ (worse_to_go b i m k l h) c
    worse_to_go (nest j a) i m k l h c = worse_to_go a (j + i) m k l h c
    worse_to_go line i m k l h c = worse_line i m k l h c
    worse_to_go (group a) i m k l h c = worse_group m _ _ _ _ (worse_to_go a i Flat k l h c) (worse_to_go a i Broken k l h c)

pub wider_no_worse : WiderNoWorse
wider_no_worse w v d h =
    rw (best_to_go w d, best_to_go v d) (worse_to_go w v h d 0 Broken stop stop (λ c. not_less _ _ _ _ (omega arith) (omega arith)) 0)
