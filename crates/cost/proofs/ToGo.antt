-- The best of all layouts of a document is the best to go.
use Rattle.std.proofs.Common.{◌≡◌, ℕ, ◌+◌, ◌<◌, Bool, true, false, cond, List, [], ◌∷◌, ◌++◌, length, sym, refl, ap, ◌∙◌, append_assoc, append-nil, add-zero, add_assoc, add-suc, suc-add, zero-add, arith, length-append}
use Rattle.doc.specs.Doc.{Doc, nil, text, cat, nest, line, group}
use Rattle.cost.specs.Layout.{Layout, empty, with_text, with_line, line_layouts, group_layouts, through, layouts}
use Rattle.cost.specs.Best.{better, first_of, best_of, first_best}
use Rattle.cost.specs.ToGo.{stop, then_text, then_line, line_to_go, group_to_go, to_go, extend, BestToGo}
use Rattle.cost.specs.declared.price.Mode.{Mode}
use Rattle.cost.specs.declared.price.Mode.TheVariants.{Flat, Broken}
use Rattle.cost.proofs.Choosing.{wins_shift, first_best_append, through_append, through_through, through_one, through_alone}

-- k is, from each column on, the best of what K goes on with, behind any layout
pub record Met (w : ℕ) (K : Layout → List Layout) (k : ℕ → Layout) : Type 0 where
  pub some : (s : Layout) → 0 < length (K s)
  pub is : (s : Layout) → first_best w (K s) ≡ extend s (k s.column)

-- what two have in common does not decide
extend_better : (w : ℕ) (s t u : Layout) → better w (extend s t) (extend s u) ≡ better w t u
extend_better w s t u = simp add_assoc (wins_shift _ _ _ _ _ _)

extend_first : (w : ℕ) (s t u : Layout) → first_of w (extend s t) (extend s u) ≡ extend s (first_of w t u)
extend_first w s t u = go (better w u t) (extend_better w s u t)
  where
    go : (b : Bool) → better w (extend s u) (extend s t) ≡ b → first_of w (extend s t) (extend s u) ≡ extend s (cond b u t)
    go true e = cc
    go false e = cc

module _ (w : ℕ) {K : Layout → List Layout} {k : ℕ → Layout} (h : Met w K k) where
  -- one layout made longer by f, and the rest behind it
  step : (f : Layout → Layout) (g : ℕ → Layout) → ((s : Layout) → extend (f s) (k (f s).column) ≡ extend s (g s.column)) → Met w (λ s. through K (f s ∷ [])) g
  step f g e = record {
    some = λ s. rw through_one (h.some (f s));
    is = λ s. ap (first_best w) (through_one K (f s)) ∙ h.is (f s) ∙ e s;
  }

  text_met : (t : List ℕ) → Met w (λ s. through K (with_text t s ∷ [])) (then_text t k)
  text_met t = step (with_text t) (then_text t k) (λ s. simp append_assoc)

  line_met : (i : ℕ) (m : Mode) → Met w (λ s. through K (line_layouts w i m s)) (line_to_go w i m k)
  line_met i Flat = text_met (32 ∷ [])
  line_met i Broken = step (with_line w i) (then_line w i k) (λ s. simp (append_assoc, add_assoc, suc-add, add-suc))

-- what F goes on with and what G does, in this order
either_met : (w : ℕ) (F G : Layout → List Layout) (f g : ℕ → Layout) → Met w F f → Met w G g → Met w (λ s. F s ++ G s) (λ c. first_of w (f c) (g c))
either_met w F G f g h k = record {
  some = λ s. simp length-append (omega (arith, h.some s));
  is = λ s. first_best_append w (F s) (G s) (h.some s) (k.some s) ∙ (λ i. first_of w (h.is s i) (k.is s i)) ∙ extend_first w s (f s.column) (g s.column);
}

-- a group in a mode, from its flat layouts and its broken ones, with K behind both
group_met :
    (w : ℕ) (K F G : Layout → List Layout) (f g : ℕ → Layout) (m : Mode) →
    Met w (λ s. through K (F s)) f → Met w (λ s. through K (G s)) g →
    Met w (λ s. through K (group_layouts m (F s) (G s))) (λ c. group_to_go w m (f c) (g c))
group_met w K F G f g Flat h k = h
group_met w K F G f g Broken h k = simp through_append (either_met w (λ s. through K (F s)) (λ s. through K (G s)) f g h k)

-- by the document, with anything behind it
pub met : (w : ℕ) (d : Doc) (i : ℕ) (m : Mode) (K : Layout → List Layout) (k : ℕ → Layout) → Met w K k → Met w (λ s. through K (layouts w d i m s)) (to_go w d i m k)
unfolding layouts to_go
met w nil i m K k h = step w h (λ s. s) k (λ s. refl)
met w (text t) i m K k h = text_met w h t
met w (cat a b) i m K k h = simp through_through (met w a i m _ _ (met w b i m K k h))
met w (nest j a) i m K k h = met w a (j + i) m K k h
met w line i m K k h = line_met w h i m
met w (group a) i m K k h = group_met w K _ _ _ _ m (met w a i Flat K k h) (met w a i Broken K k h)

-- at the end of a document nothing is behind it
pub stop_met : (w : ℕ) → Met w (λ s. s ∷ []) stop
unfolding first_best best_of
stop_met w = record { some = λ s. omega arith; is = λ s. simp (append-nil, add-zero) }

pub best_to_go : BestToGo
best_to_go w d = ap (first_best w) (sym (through_alone (layouts w d 0 Broken empty))) ∙ (met w d 0 Broken _ _ (stop_met w)).is empty ∙ simp zero-add
