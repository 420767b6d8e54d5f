-- Past the width all columns are alike, but for the bytes beyond it. Assumes nothing.
use Rattle.std.proofs.Common.{◌≡◌, ℕ, ◌+◌, ◌-◌, ◌≤◌, Bool, true, false, cond, List, [], ◌∷◌, length, sym, refl, arith}
use Rattle.std.proofs.lemmas.Bool.Decides.{nat_tests}
use Rattle.doc.specs.Doc.{Doc, nil, text, cat, nest, line, group}
use Rattle.cost.specs.Layout.{Layout}
use Rattle.cost.specs.Best.{beyond, wins, better, first_of}
use Rattle.cost.specs.Price.{price, further}
use Rattle.cost.specs.Row.{Level}
use Rattle.cost.specs.ToGo.{stop, then_text, then_line, line_to_go, group_to_go, to_go}
use Rattle.cost.specs.declared.price.Mode.{Mode}
use Rattle.cost.specs.declared.price.Mode.TheVariants.{Flat, Broken}
use Rattle.cost.proofs.Capped.{further_capped}

pub level_stop : (w : ℕ) → Level w stop
level_stop w = record { further = λ c h. omega arith; as_many = λ c h. refl }

level_text : (w : ℕ) (t : List ℕ) (k : ℕ → Layout) → Level w k → Level w (then_text t k)
level_text w t k l = record {
  further = λ c h. omega (arith, l.further (c + length t) (omega arith), l.further (w + length t) (omega arith));
  as_many = λ c h. omega (arith, l.as_many (c + length t) (omega arith), l.as_many (w + length t) (omega arith));
}

pub level_break : (w i : ℕ) (k : ℕ → Layout) → Level w (then_line w i k)
level_break w i k = record { further = λ c h. omega arith; as_many = λ c h. refl }

level_line : (w i : ℕ) (m : Mode) (k : ℕ → Layout) → Level w k → Level w (line_to_go w i m k)
level_line w i Flat k l = level_text w (32 ∷ []) k l
level_line w i Broken k l = level_break w i k

-- as many more on both sides
wins_more : (b l c m x : ℕ) → wins (b + x) l (c + x) m ≡ wins b l c m
unfolding wins
wins_more b l c m x = grind (arith, nat_tests)

-- which of two is better is alike from the width on
pub level_better : (w : ℕ) (f g : ℕ → Layout) → Level w f → Level w g → (c : ℕ) → w ≤ c → better w (f c) (g c) ≡ better w (f w) (g w)
level_better w f g p q c h =
    rw (p.further c h, p.as_many c h, q.further c h, q.as_many c h) (wins_more _ _ _ _ _)

-- which of two is taken is alike too
level_either : (w : ℕ) (f g : ℕ → Layout) → Level w f → Level w g → Level w (λ c. first_of w (f c) (g c))
level_either w f g p q = record {
  further = λ c h. rw (level_better w g f q p c h) (further c h (better w (g w) (f w)));
  as_many = λ c h. rw (level_better w g f q p c h) (as_many c h (better w (g w) (f w)));
} where
  further : (c : ℕ) → w ≤ c → (b : Bool) → beyond w (cond b (g c) (f c)) ≡ beyond w (cond b (g w) (f w)) + (c - w)
  further c h true = q.further c h
  further c h false = p.further c h

  as_many : (c : ℕ) → w ≤ c → (b : Bool) → (cond b (g c) (f c)).lines ≡ (cond b (g w) (f w)).lines
  as_many c h true = q.as_many c h
  as_many c h false = p.as_many c h

level_group : (w : ℕ) (m : Mode) (f g : ℕ → Layout) → Level w f → Level w g → Level w (λ c. group_to_go w m (f c) (g c))
level_group w Flat f g p q = p
level_group w Broken f g p q = level_either w f g p q

pub level_to_go : (w : ℕ) (d : Doc) (i : ℕ) (m : Mode) (k : ℕ → Layout) → Level w k → Level w (to_go w d i m k)
unfolding to_go
level_to_go w nil i m k l = l
level_to_go w (text t) i m k l = level_text w t k l
level_to_go w (cat a b) i m k l = level_to_go w a i m (to_go w b i m k) (level_to_go w b i m k l)
level_to_go w (nest j a) i m k l = level_to_go w a (j + i) m k l
level_to_go w line i m k l = level_line w i m k l
level_to_go w (group a) i m k l = level_group w m (to_go w a i Flat k) (to_go w a i Broken k) (level_to_go w a i Flat k l) (level_to_go w a i Broken k l)

-- the cost at the width tells the cost at each column past it
pub level_price : (w : ℕ) (k : ℕ → Layout) → Level w k → (c : ℕ) → w ≤ c → price w (k c) ≡ further (price w (k w)) (c - w)
level_price w k l c h = rw (l.further c h, l.as_many c h) (sym (further_capped _ _ _))
