-- A group is set on one line where what is behind it costs the least then. Assumes nothing.
use Rattle.std.proofs.Common.{◌≡◌, ℕ, ◌+◌, ◌≤◌, false, ◌++◌, length, refl, ap, ◌∙◌, append_assoc, append-nil, add-zero, add_assoc, arith, length-append}
use Rattle.std.proofs.lemmas.Bool.{cond_both, cond-false}
use Rattle.std.proofs.lemmas.Bool.Decides.{nat_tests}
use Rattle.doc.specs.Doc.{Doc, nil, text, cat, nest, line, group}
use Rattle.cost.specs.Layout.{Layout}
use Rattle.cost.specs.Best.{beyond, wins, best}
use Rattle.cost.specs.ToGo.{stop, then_text, then_line, line_to_go, group_to_go, to_go}
use Rattle.cost.specs.Laws.{flat_text, FitsOnOne, NotNeedlesslyBroken}
use Rattle.cost.specs.declared.price.Mode.{Mode}
use Rattle.cost.specs.declared.price.Mode.TheVariants.{Flat, Broken}
use Rattle.cost.proofs.ToGo.{best_to_go}

-- flat, a document is its text on one line
flat_to_go : (w : ℕ) (d : Doc) (i : ℕ) (k : ℕ → Layout) (c : ℕ) → to_go w d i Flat k c ≡ then_text (flat_text d) k c
unfolding to_go flat_text
flat_to_go w nil i k c = rw add-zero
flat_to_go w (text t) i k c = refl
flat_to_go w (cat a b) i k c =
    flat_to_go w a i (to_go w b i Flat k) c
    ∙ (λ j. then_text (flat_text a) (λ e. flat_to_go w b i k e j) c)
    ∙ simp (append_assoc, length-append, add_assoc)
flat_to_go w (nest j a) i k c = flat_to_go w a (j + i) k c
flat_to_go w line i k c = refl
flat_to_go w (group a) i k c = flat_to_go w a i k c

-- from each column on, at least so many are beyond the width, and at least so many lines end
abbrev Least : (w b l : ℕ) → (ℕ → Layout) → Type 0
Least w b l k = (c : ℕ) → (b ≤ beyond w (k c)) × (l ≤ (k c).lines)

module _ (w b l : ℕ) where
  least_line : (i : ℕ) (m : Mode) (k : ℕ → Layout) → Least w b l k → Least w b l (line_to_go w i m k)
  least_line i Flat k h c = h (c + 1)
  least_line i Broken k h c = (omega (arith, h i), omega (arith, h i))

  least_group : (m : Mode) (f g : ℕ → Layout) → Least w b l f → Least w b l g → Least w b l (λ c. group_to_go w m (f c) (g c))
  least_group Flat f g p q c = p c
  least_group Broken f g p q c = cond_both _ _ _ (λ (s : Layout). (b ≤ beyond w s) × (l ≤ s.lines)) (λ _. q c) (λ _. p c)

  -- what is the least behind a document is the least with it
  least_to_go : (d : Doc) (i : ℕ) (m : Mode) (k : ℕ → Layout) → Least w b l k → Least w b l (to_go w d i m k)
  unfolding to_go
  least_to_go nil i m k h = h
  least_to_go (text t) i m k h = λ c. h (c + length t)
  least_to_go (cat a b) i m k h = least_to_go a i m (to_go w b i m k) (least_to_go b i m k h)
  least_to_go (nest j a) i m k h = least_to_go a (j + i) m k h
  least_to_go line i m k h = least_line i m k h
  least_to_go (group a) i m k h = least_group m (to_go w a i Flat k) (to_go w a i Broken k) (least_to_go a i Flat k h) (least_to_go a i Broken k h)

-- what has no less of both is not better
pub not_less : (b l c m : ℕ) → c ≤ b → m ≤ l → wins b l c m ≡ false
unfolding wins
not_less b l c m h k = grind (arith, nat_tests)

-- a group is flat where what is behind it costs the least then
group_flat :
    (w : ℕ) (d : Doc) (i : ℕ) (k : ℕ → Layout) (c : ℕ) →
    Least w (beyond w (k (c + length (flat_text d)))) (k (c + length (flat_text d))).lines k →
    to_go w (group d) i Broken k c ≡ then_text (flat_text d) k c
unfolding to_go
group_flat w d i k c h =
    let least = least_to_go w _ _ d i Broken k h c in
    rw (flat_to_go w d i k c) (cond-false _ _ _ (not_less _ _ _ _ least.0 least.1))

pub fits_on_one : FitsOnOne
fits_on_one w d h =
    let e : best w (group d) ≡ then_text (flat_text d) stop 0 =
    best_to_go w (group d) ∙ group_flat w d 0 stop 0 (λ c. (omega arith, omega arith)) in
    (ap (λ s. s.out) e ∙ append-nil (flat_text d), ap (λ s. s.lines) e)

pub not_needlessly_broken : NotNeedlesslyBroken
unfolding to_go
not_needlessly_broken w t u g d h =
    let e = group_flat w g 0 (then_text u (then_line w 0 (to_go w d 0 Broken stop))) (0 + length t) (λ c. (omega arith, omega arith)) in
    ((to_go w d 0 Broken stop 0).out, ap (λ s. s.out) (best_to_go w _) ∙ ap (λ s. t ++ s.out) e)
