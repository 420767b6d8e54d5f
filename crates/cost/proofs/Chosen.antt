-- The decisions make the best layout, or both are too long. Assumes nothing.
use Rattle.std.proofs.Common.{◌≡◌, ℕ, ◌+◌, ◌<◌, ◌≤◌, min, Bool, true, false, cond, ◌⊎◌, List, [], ◌∷◌, length, sym, ◌∙◌, ⊎_elim, append_assoc, append-nil, add-zero, add_assoc, add-suc, suc-add, zero-add, arith, length-append}
use lib.ListN.{length-replicate}
use Rattle.std.proofs.lemmas.Bool.Decides.{nat_tests}
use Rattle.std.proofs.lemmas.Bool.{cases_lt, cond_both}
use Rattle.doc.specs.Doc.{Doc, nil, text, cat, nest, line, group}
use Rattle.doc.specs.Nodes.{size}
use Rattle.cost.specs.Layout.{Layout, empty, with_text, with_line}
use Rattle.cost.specs.Best.{beyond, wins, better, first_of}
use Rattle.cost.specs.Price.{beats, limit, most_lines, capped}
use Rattle.cost.specs.Row.{Level}
use Rattle.cost.specs.ToGo.{stop, then_text, line_to_go, group_to_go, to_go, extend}
use Rattle.cost.specs.Chosen.{breaks, decided, line_chosen, chosen, ChosenBest}
use Rattle.cost.specs.declared.price.Mode.{Mode}
use Rattle.cost.specs.declared.price.Mode.TheVariants.{Flat, Broken}
use Rattle.cost.proofs.Few.{Few, few_to_go}
use Rattle.cost.proofs.Level.{level_stop, level_better, level_to_go}
use Rattle.cost.proofs.ToGo.{best_to_go}

-- r is t behind s, unless both are too long
pub record Behind (w : ℕ) (r s t : Layout) : Type 0 where
  pub same : beyond w t < limit → r ≡ extend s t
  pub long : limit ≤ beyond w t → limit ≤ beyond w r

-- R writes behind each layout what k is from its column on, unless both are too long
abbrev pub Follows : ℕ → (Layout → Layout) → (ℕ → Layout) → Type 0
Follows w R k = (s : Layout) → Behind w (R s) s (k s.column)

follows_stop : (w : ℕ) → Follows w (λ s. s) stop
follows_stop w s = record {
  same = λ h i. record { out = sym (append-nil s.out) i; column = s.column; over = sym (add-zero s.over) i; lines = sym (add-zero s.lines) i };
  long = λ h. omega arith;
}

follows_text : (w : ℕ) (t : List ℕ) (R : Layout → Layout) (k : ℕ → Layout) → Follows w R k → Follows w (λ s. R (with_text t s)) (then_text t k)
follows_text w t R k f s = record {
  same = λ h. (f (with_text t s)).same h ∙ simp append_assoc;
  long = λ h. (f (with_text t s)).long h;
}

follows_line : (w i : ℕ) (m : Mode) (R : Layout → Layout) (k : ℕ → Layout) → Follows w R k → Follows w (λ s. R (line_chosen w i m s)) (line_to_go w i m k)
follows_line w i Flat R k f s = follows_text w (32 ∷ []) R k f s
follows_line w i Broken R k f s = record {
  same = λ h. (f (with_line w i s)).same (omega arith) ∙ simp (append_assoc, add_assoc, suc-add, add-suc);
  long = λ h. ⊎_elim (λ below. rw ((f (with_line w i s)).same below) (omega arith)) (f (with_line w i s)).long (cases_lt (beyond w (k i)) limit);
}

-- costs tell which of two is better, unless both are too long: then neither costs less
costs_tell : (b l c m : ℕ) → l ≤ most_lines → m ≤ most_lines →
    (beats (capped b l) (capped c m) ≡ wins b l c m) ⊎ ((beats (capped b l) (capped c m) ≡ false) × (limit ≤ b) × (limit ≤ c))
unfolding wins
costs_tell b l c m p q = grind (arith, nat_tests)

-- a column past the width is looked up at the width
looked_up : (c w : ℕ) → (min c w ≡ c) ⊎ ((min c w ≡ w) × (w ≤ c))
looked_up c w = grind arith

-- what is too long where it is looked up is too long
no_shorter : (w : ℕ) (k : ℕ → Layout) → Level w k → (c : ℕ) → beyond w (k (min c w)) ≤ beyond w (k c)
no_shorter w k l c = ⊎_elim (λ e. rw e (omega arith)) (λ e. rw e.0 (omega (arith, l.further c e.1))) (looked_up c w)

looked_up_better : (w : ℕ) (f g : ℕ → Layout) → Level w f → Level w g → (c : ℕ) → better w (f (min c w)) (g (min c w)) ≡ better w (f c) (g c)
looked_up_better w f g p q c = ⊎_elim (λ e. rw e) (λ e. rw e.0 (sym (level_better w f g p q c e.1))) (looked_up c w)

-- X and k are a group's parts in each mode
follows_group : (w : ℕ) (m : Mode) (X : Mode → Layout → Layout) (k : Mode → ℕ → Layout) →
    ((m : Mode) → Level w (k m)) → ((m : Mode) → Few most_lines (k m)) → ((m : Mode) → Follows w (X m) (k m)) →
    Follows w (λ s. X (decided m (breaks w (k Flat (min s.column w)) (k Broken (min s.column w)))) s) (λ c. group_to_go w m (k Flat c) (k Broken c))
follows_group w Flat X k l p f s = f Flat s
follows_group w Broken X k l p f s =
    let flat = k Flat (min s.column w) in
    let broken = k Broken (min s.column w) in
    ⊎_elim
    (λ e.
    let told : breaks w flat broken ≡ better w (k Broken s.column) (k Flat s.column) = e ∙ looked_up_better w (k Broken) (k Flat) (l Broken) (l Flat) s.column in
    rw told (taken (better w (k Broken s.column) (k Flat s.column))))
    (λ e.
    let untold : breaks w flat broken ≡ false = e.0 in
    let long-flat : limit ≤ beyond w (k Flat s.column) = omega (arith, e.2, no_shorter w (k Flat) (l Flat) s.column) in
    let long-broken : limit ≤ beyond w (k Broken s.column) = omega (arith, e.1, no_shorter w (k Broken) (l Broken) s.column) in
    let long : limit ≤ beyond w (first_of w (k Flat s.column) (k Broken s.column)) = cond_both _ _ _ (λ t. limit ≤ beyond w t) (λ _. long-broken) (λ _. long-flat) in
    rw untold (record { same = λ h. absurd (omega arith); long = λ h. (f Flat s).long long-flat }))
    (costs_tell (beyond w broken) broken.lines (beyond w flat) flat.lines (p Broken _) (p Flat _))
  where
    taken : (b : Bool) → Behind w (X (cond b Broken Flat) s) s (cond b (k Broken s.column) (k Flat s.column))
    taken true = f Broken s
    taken false = f Flat s

pub follows : (w : ℕ) (d : Doc) (i : ℕ) (m : Mode) (R : Layout → Layout) (k : ℕ → Layout) (n : ℕ) →
    Level w k → Few n k → size d + n ≤ most_lines → Follows w R k → Follows w (λ s. R (chosen w d i m k s)) (to_go w d i m k)
unfolding chosen to_go size
follows w nil i m R k n l p h f = f
follows w (text t) i m R k n l p h f = follows_text w t R k f
follows w (cat a b) i m R k n l p h f =
    follows w a i m (λ s. R (chosen w b i m k s)) (to_go w b i m k) (size b + n) (level_to_go w b i m k l) (few_to_go w b i m n k p) (omega arith)
    (follows w b i m R k n l p (omega arith) f)
follows w (nest j a) i m R k n l p h f = follows w a (j + i) m R k n l p (omega arith) f
follows w line i m R k n l p h f = follows_line w i m R k f
follows w (group a) i m R k n l p h f =
    follows_group w m (λ m s. R (chosen w a i m k s)) (λ m. to_go w a i m k) (λ m. level_to_go w a i m k l)
    (λ m c. omega (arith, few_to_go w a i m n k p c)) (λ m. follows w a i m R k n l p (omega arith) f)

-- a layout has at least the bytes that its columns and overflow count
abbrev pub Counted : Layout → Type 0
Counted s = s.over + s.column ≤ length s.out

counted_text : (t : List ℕ) (s : Layout) → Counted s → Counted (with_text t s)
counted_text t s h = simp length-append (omega arith)

counted_line : (w i : ℕ) (m : Mode) (s : Layout) → Counted s → Counted (line_chosen w i m s)
counted_line w i Flat s h = counted_text (32 ∷ []) s h
counted_line w i Broken s h = simp (length-append, length-replicate) (omega arith)

pub counted : (w : ℕ) (d : Doc) (i : ℕ) (m : Mode) (k : ℕ → Layout) (s : Layout) → Counted s → Counted (chosen w d i m k s)
unfolding chosen
counted w nil i m k s h = h
counted w (text t) i m k s h = counted_text t s h
counted w (cat a b) i m k s h = counted w b i m k _ (counted w a i m (to_go w b i m k) s h)
counted w (nest j a) i m k s h = counted w a (j + i) m k s h
counted w line i m k s h = counted_line w i m s h
counted w (group a) i m k s h = counted w a i _ k s h

pub chosen_best : ChosenBest
chosen_best w d small =
    let all : Behind w (chosen w d 0 Broken stop empty) empty (to_go w d 0 Broken stop 0) =
    follows w d 0 Broken (λ s. s) stop 0 (level_stop w) (λ c. omega arith) (omega arith) (follows_stop w) empty in
    rw (best_to_go w d) (
      λ h. all.same h ∙ simp zero-add,
      λ h. omega (arith, all.long h, counted w d 0 Broken stop empty (omega arith)),
    )
