-- What is counted of a layout is what there is in its bytes.
use Rattle.std.proofs.Common.{◌≡◌, ℕ, zero, suc, ◌+◌, ◌-◌, true, false, eqb, List, [], ◌∷◌, ◌++◌, length, replicate, refl, ◌∙◌, append_assoc, append-nil, add-zero, zero-add, arith}
use Rattle.std.specs.List.{AllByRecursion}
use Rattle.std.proofs.ByRecursion.{All-weaker}
use Rattle.std.proofs.lemmas.List.{length-replicate}
use Rattle.std.proofs.lemmas.Bool.{and_parts, or_parts, not-true}
use Rattle.std.proofs.lemmas.Bool.Decides.{nat_tests}
use Rattle.doc.specs.Doc.{Doc, nil, text, cat, nest, line, group}
use Rattle.doc.specs.Encoding.{has_newline}
use Rattle.doc.specs.Laws.{plain}
use Rattle.cost.specs.Layout.{Layout, empty, with_text, with_line, layouts, all_layouts}
use Rattle.cost.specs.Best.{beyond}
use Rattle.cost.specs.Laws.{ends, bytes_beyond, CountedRight}
use Rattle.cost.specs.declared.price.Mode.{Mode}
use Rattle.cost.specs.declared.price.Mode.TheVariants.{Flat, Broken}
use Rattle.cost.proofs.Each.{each_through, each_line, each_group}

-- with anything behind it, a layout has as many ends of lines and bytes beyond the width as are counted, and those of what is behind
Counts : ℕ → Layout → Type 0
Counts w s = (u : List ℕ) → (ends (s.out ++ u) ≡ s.lines + ends u) × (bytes_beyond w 0 (s.out ++ u) ≡ beyond w s + bytes_beyond w s.column u)

blanks_plain : (n : ℕ) → has_newline (replicate n 32) ≡ false
blanks_plain zero = refl
blanks_plain (suc n) = blanks_plain n

module _ (w : ℕ) where
  -- text on one line only moves the column
  plain_counts : (t : List ℕ) → has_newline t ≡ false → (c : ℕ) (u : List ℕ) →
      (ends (t ++ u) ≡ ends u) × ((c - w) + bytes_beyond w c (t ++ u) ≡ ((c + length t) - w) + bytes_beyond w (c + length t) u)
  plain_counts [] h c u = (refl, simp add-zero)
  plain_counts (b ∷ t) h c u =
      let n = or_parts (eqb b 10) (has_newline t) h in
      let ih = plain_counts t n.1 (suc c) u in
      let e : c + suc (length t) ≡ suc c + length t = omega arith in
      rw (n.0, e) (zero-add _ ∙ ih.0, grind (arith, nat_tests))

  text_counts : (t : List ℕ) → has_newline t ≡ false → (s : Layout) → Counts w s → Counts w (with_text t s)
  unfolding Counts
  text_counts t h s k u =
      let p = plain_counts t h s.column u in
      let q = k (t ++ u) in
      rw append_assoc (omega arith, omega arith)

  line_counts : (i : ℕ) (s : Layout) → Counts w s → Counts w (with_line w i s)
  unfolding Counts
  line_counts i s k u =
      let p = simp (length-replicate, zero-add) at (plain_counts (replicate i 32) (blanks_plain i) 0 u) in
      let q = k (10 ∷ (replicate i 32 ++ u)) in
      rw append_assoc (omega arith, omega arith)

  layouts_count : (d : Doc) → plain d ≡ true → (i : ℕ) (m : Mode) (s : Layout) → Counts w s → AllByRecursion (Counts w) (layouts w d i m s)
  unfolding layouts
  layouts_count nil p i m s h = (h, tt)
  layouts_count (text t) p i m s h = (text_counts t (not-true _ p) s h, tt)
  layouts_count (cat a b) p i m s h =
      let both = and_parts _ _ p in
      each_through _ _ _ (layouts_count b both.1 i m) (layouts w a i m s) (layouts_count a both.0 i m s h)
  layouts_count (nest k a) p i m s h = layouts_count a p (k + i) m s h
  layouts_count line p i m s h = each_line _ w i m s (text_counts (32 ∷ []) refl s h) (line_counts i s h)
  layouts_count (group a) p i m s h = each_group _ m _ _ (layouts_count a p i Flat s h) (layouts_count a p i Broken s h)

pub counted_right : CountedRight
unfolding Counts
counted_right w d p = All-weaker (Counts w) _ (λ s h. simp (append-nil, add-zero) at (h [])) (all_layouts w d) (layouts_count w d p 0 Broken empty (λ u. (omega arith, omega arith)))
