-- All layouts have the same bytes, but for blanks and ends of lines.
use Rattle.std.proofs.Common.{◌≡◌, ℕ, zero, suc, ◌+◌, Bool, true, false, cond, ◌||◌, eqb, List, [], ◌∷◌, ◌++◌, replicate, sym, refl, ◌∙◌, subst, append_assoc, append-nil}
use Rattle.std.specs.List.{AllByRecursion}
use Rattle.std.proofs.ByRecursion.{All-weaker}
use Rattle.doc.specs.Doc.{Doc, nil, text, cat, nest, line, group}
use Rattle.cost.specs.Layout.{Layout, empty, layouts, all_layouts}
use Rattle.cost.specs.Laws.{signs, flat_text, SameSigns}
use Rattle.cost.specs.declared.price.Mode.{Mode}
use Rattle.cost.specs.declared.price.Mode.TheVariants.{Flat, Broken}
use Rattle.cost.proofs.Each.{each_through, each_line, each_group}
use Rattle.cost.proofs.First.{best_is_first}

signs_append : (t u : List ℕ) → signs (t ++ u) ≡ signs t ++ signs u
signs_append [] u = refl
signs_append (c ∷ t) u = go (eqb c 32 || eqb c 10) (signs_append t u)
  where
    go : (b : Bool) → signs (t ++ u) ≡ signs t ++ signs u → cond b (signs (t ++ u)) (c ∷ signs (t ++ u)) ≡ cond b (signs t) (c ∷ signs t) ++ signs u
    go true e = e
    go false e = cc

signs_blanks : (n : ℕ) → signs (replicate n 32) ≡ []
signs_blanks zero = refl
signs_blanks (suc n) = signs_blanks n

-- where signs are alike, so they are with more behind them
signs_more : (t u v x : List ℕ) → signs t ≡ signs u → signs v ≡ signs x → signs (t ++ v) ≡ signs (u ++ x)
signs_more t u v x h k = cc (signs_append t v, signs_append u x)

-- behind what has the signs of x, each layout has those of x and of the document on one line
signs_flat :
    (w : ℕ) (d : Doc) (i : ℕ) (m : Mode) (s : Layout) (x : List ℕ) → signs s.out ≡ signs x →
    AllByRecursion (λ t. signs t.out ≡ signs (x ++ flat_text d)) (layouts w d i m s)
unfolding layouts flat_text
signs_flat w nil i m s x h = (rw append-nil h, tt)
signs_flat w (text t) i m s x h = (signs_more s.out x t t h refl, tt)
signs_flat w (cat a b) i m s x h =
    simp (← append_assoc) (each_through _ _ _ (λ t. signs_flat w b i m t (x ++ flat_text a)) (layouts w a i m s) (signs_flat w a i m s x h))
signs_flat w (nest k a) i m s x h = signs_flat w a (k + i) m s x h
signs_flat w line i m s x h =
    each_line _ w i m s (signs_more s.out x _ _ h refl) (signs_more s.out x (10 ∷ replicate i 32) (32 ∷ []) h (signs_blanks i))
signs_flat w (group a) i m s x h = each_group _ m _ _ (signs_flat w a i Flat s x h) (signs_flat w a i Broken s x h)

-- what holds of each of a list holds of one in it
every_one : (P : Layout → Type 0) (ss : List Layout) (s : Layout) (ts : List Layout) → AllByRecursion P (ss ++ (s ∷ ts)) → P s
every_one P [] s ts h = h.0
every_one P (t ∷ ss) s ts h = every_one P ss s ts h.1

pub same_signs : SameSigns
same_signs w d =
    let P : Layout → Type 0 = λ s. signs s.out ≡ signs (flat_text d) in
    let each : AllByRecursion P (all_layouts w d) = signs_flat w d 0 Broken empty [] refl in
    let one = every_one P _ _ _ (subst (AllByRecursion P) (best_is_first w d).is_one each) in
    All-weaker P _ (λ s h. h ∙ sym one) (all_layouts w d) each
