-- Rows that tell what the rest of a document costs, from the row of what is behind it. Assumes nothing.
use Rattle.std.proofs.Common.{◌≡◌, ℕ, suc, ◌+◌, ◌-◌, ◌<◌, ◌≤◌, List, length, get_or, replicate, sym, refl, ap, ◌∙◌, ⊎_elim, add-zero, add_assoc, arith}
use Rattle.std.proofs.lemmas.List.{length-replicate, get_or-replicate}
use Rattle.std.proofs.lemmas.Bool.{cases_lt, le-leb, lt-leb}
use Rattle.doc.specs.Doc.{Doc, nil, text, cat, nest, line, group}
use Rattle.cost.specs.Layout.{Layout}
use Rattle.cost.specs.Best.{beyond}
use Rattle.cost.specs.Price.{beats, capped, price, further, line_more, cheaper}
use Rattle.cost.specs.Row.{no_cost, along, flat_length, Tells, Level}
use Rattle.cost.specs.ToGo.{stop, then_text, then_line, to_go}
use Rattle.cost.specs.Chosen.{breaks, below}
use Rattle.cost.specs.declared.price.Cost.{Cost}
use Rattle.cost.specs.declared.price.Mode.TheVariants.{Flat, Broken}
use Rattle.cost.proofs.Capped.{line_more_capped, cheaper_price}
use Rattle.cost.proofs.Level.{level_stop, level_break, level_to_go, level_price}
use Rattle.cost.proofs.Notes.{length_below, get_or_below}

-- flat, a document only moves the column
pub flat_price : (w : ℕ) (d : Doc) (i : ℕ) (k : ℕ → Layout) (c : ℕ) → price w (to_go w d i Flat k c) ≡ price w (k (c + flat_length d))
unfolding to_go flat_length
flat_price w nil i k c = rw add-zero
flat_price w (text t) i k c = refl
flat_price w (cat a b) i k c = flat_price w a i (to_go w b i Flat k) c ∙ flat_price w b i k (c + flat_length a) ∙ simp add_assoc
flat_price w (nest j a) i k c = flat_price w a (j + i) k c
flat_price w line i k c = refl
flat_price w (group a) i k c = flat_price w a i k c

module _ (w : ℕ) (row : List Cost) (long : length row ≡ suc w) (c : ℕ) where
  pub along_at : c ≤ w → along row c ≡ get_or row c no_cost
  unfolding along
  along_at h = let last : length row - 1 ≡ w = omega arith in rw (last, le-leb c w h)

  pub along_past : w < c → along row c ≡ further (get_or row w no_cost) (c - w)
  unfolding along
  along_past h = let last : length row - 1 ≡ w = omega arith in rw (last, lt-leb c w h)

-- what is level past the width need only be told up to it
tells_level : (w : ℕ) (row : List Cost) (k : ℕ → Layout) →
    length row ≡ suc w → Level w k → ((c : ℕ) → c ≤ w → get_or row c no_cost ≡ price w (k c)) → Tells w row 0 k
tells_level w row k long l h = record {
  long = long;
  costs = λ c. rw add-zero (⊎_elim
      (λ past. along_past w row long c past ∙ ap (λ a. further a (c - w)) (h w (omega arith)) ∙ sym (level_price w k l c (omega arith)))
      (λ at. along_at w row long c at ∙ h c at)
      (cases_lt w c));
}

pub tells_stop : (w : ℕ) → Tells w (replicate (suc w) no_cost) 0 stop
tells_stop w =
    tells_level w _ stop (length-replicate (suc w) no_cost) (level_stop w)
    (λ c h. let e : 0 ≡ beyond w (stop c) = omega arith in get_or-replicate (suc w) c no_cost no_cost (omega arith) ∙ ap (λ b. capped b 0) e)

module _ {w : ℕ} {row : List Cost} {offset : ℕ} {k : ℕ → Layout} (h : Tells w row offset k) where
  -- k from n columns further on costs what the row tells n columns further on
  tells_moved : (n : ℕ) (f : ℕ → Layout) → ((c : ℕ) → price w (f c) ≡ price w (k (c + n))) → Tells w row (offset + n) f
  tells_moved n f e = record {
    long = h.long;
    costs = λ c. let at : c + (offset + n) ≡ c + n + offset = omega arith in ap (along row) at ∙ h.costs (c + n) ∙ sym (e c);
  }

  pub tells_text : (t : List ℕ) → Tells w row (offset + length t) (then_text t k)
  tells_text t = tells_moved (length t) (then_text t k) (λ c. refl)

  pub tells_flat : (d : Doc) (i : ℕ) → Tells w row (offset + flat_length d) (to_go w d i Flat k)
  tells_flat d i = tells_moved (flat_length d) (to_go w d i Flat k) (flat_price w d i k)

  pub tells_line : (i : ℕ) → Tells w (replicate (suc w) (line_more (along row (i + offset)))) 0 (then_line w i k)
  tells_line i =
      tells_level w _ (then_line w i k) (length-replicate (suc w) _) (level_break w i k)
      (λ c at.
      let e : beyond w (k i) ≡ beyond w (then_line w i k c) = omega arith in
      get_or-replicate (suc w) c _ no_cost (omega arith) ∙ ap line_more (h.costs i) ∙ line_more_capped _ _ ∙ ap (λ b. capped b (suc (k i).lines)) e)

-- of a group, with k behind it: the row of k tells what it costs flat, and another what it costs broken
module _ (a : Doc) (i : ℕ) {w : ℕ} {saved row : List Cost} {offset shift : ℕ} {k : ℕ → Layout} (s : Tells w saved offset k) (r : Tells w row shift (to_go w a i Broken k)) where
  pub tells_group : Level w k →
      Tells w (below (λ c. cheaper (along saved (c + (offset + flat_length a))) (along row (c + shift))) (suc w)) 0 (to_go w (group a) i Broken k)
  unfolding to_go
  tells_group l =
      tells_level w _ (to_go w (group a) i Broken k) (length_below _ (suc w)) (level_to_go w (group a) i Broken k l)
      (λ c at. get_or_below _ (suc w) c no_cost (omega arith) ∙ (λ j. cheaper ((tells_flat s a i).costs c j) (r.costs c j)) ∙ cheaper_price w _ _)

  pub notes_group :
      below (λ c. beats (along row (c + shift)) (along saved (c + (offset + flat_length a)))) (suc w)
      ≡ below (λ c. breaks w (to_go w a i Flat k c) (to_go w a i Broken k c)) (suc w)
  notes_group j = below (λ c. beats (r.costs c j) ((tells_flat s a i).costs c j)) (suc w)
