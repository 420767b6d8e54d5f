-- Each way of reading a document, from what stands at its first byte. Assumes nothing.
use Rattle.std.proofs.Common.{◌≡◌, ℕ, zero, suc, ◌+◌, ◌<◌, ◌≤◌, false, List, [], ◌∷◌, ◌++◌, length, get_or, take, drop, None, sym, refl, ap, ◌∙◌, subst, append_assoc, arith, length-append, length-drop}
use Rattle.std.proofs.lemmas.List.{drop_all, drop_more, drop-drop, set_at, get_or_at, length-take-le}
use Rattle.std.proofs.lemmas.Bool.{cond-false, cond-true, and_from, le-leb, lt-leb, not_from_false, ne_eqb}
use Rattle.doc.specs.Doc.{Doc, nil, text, cat, nest, line, group}
use Rattle.doc.specs.Encoding.{Parse, doc, no_doc, has_newline, read_byte, read_text, then_read, reads, decode}
use Rattle.doc.specs.Nodes.{size, spells, laid, node, Spelled, RowOf}
use Rattle.doc.specs.Reading.{NotRead, ReadOn, TagAt, closed, no_node}
use Rattle.doc.specs.Tags.{Tells}
use Rattle.doc.specs.declared.tag.Tag.{Tag}
use Rattle.doc.specs.declared.tag.NoTag.{NoTag}
use Rattle.std.specs.Prelude.{Ok, Err, Result}
use Rattle.std.specs.Result.{result_ok}
use Rattle.doc.specs.declared.node.Kind.{Kind}
use Rattle.doc.specs.declared.node.Kind.TheVariants.{Nil, Text, Cat, Nest, Line, Group}
use Rattle.doc.specs.declared.node.Node.{Node}
use Rattle.doc.proofs.Sizes.{length_laid, size_spells, some_node}

-- a node that is closed ends behind what was added after it
pub closed_is : (old xs : List Node) (k : Kind) (e : ℕ) → closed (old ++ node k e ∷ xs) (length old) ≡ old ++ node k (length old + suc (length xs)) ∷ xs
closed_is old xs k e =
    set_at old (node k e) xs _ (length old) refl
    ∙ (λ i. old ++ node (get_or_at old (node k e) xs no_node (length old) refl i).kind (length-append old (node k e ∷ xs) i) ∷ xs)

-- past the end there is no document
pub none_left : (s : List ℕ) (at : ℕ) → length s ≤ at → NotRead s at
unfolding reads
none_left s at h zero l = refl
none_left s at h (suc n) l = rw (drop_all at s h)

module _ (s : List ℕ) (at c : ℕ) (h : at < length s) (is : get_or s at 0 ≡ c) where
  -- what is read by the first byte, which takes one level
  by_tag : (r : Parse) → ((m : ℕ) → length s < at + 1 + m → reads (suc m) (c ∷ drop (at + 1) s) ≡ r) → (n : ℕ) → length s < at + n → reads n (drop at s) ≡ r
  by_tag r f zero l = absurd (omega arith)
  by_tag r f (suc m) l = rw (drop_more s at 0 h) (rw is (f m (omega arith)))

  -- no document begins with a byte above 5
  no_tag : 5 < c → NotRead s at
  unfolding reads
  no_tag above =
      by_tag no_doc
      (λ m _.
      cond-false _ _ _ (ne_eqb c 0 (λ e. omega arith))
      ∙ cond-false _ _ _ (ne_eqb c 1 (λ e. omega arith))
      ∙ cond-false _ _ _ (ne_eqb c 2 (λ e. omega arith))
      ∙ cond-false _ _ _ (ne_eqb c 3 (λ e. omega arith))
      ∙ cond-false _ _ _ (ne_eqb c 4 (λ e. omega arith))
      ∙ cond-false _ _ _ (ne_eqb c 5 (λ e. omega arith)))

  -- what is told of the first byte is told of the document
  pub tag_at : (r : Result Tag NoTag) → Tells c r → TagAt s at (result_ok r)
  tag_at (Ok t) e = (h, is ∙ sym e)
  tag_at (Err e) above = no_tag above

module _ (s : List ℕ) (at : ℕ) (h : at < length s) where
  pub nil_read : get_or s at 0 ≡ 0 → (old new : List Node) → new ≡ old ++ node Nil (length old + 1) ∷ [] → ReadOn s at old new (at + 1)
  unfolding reads spells laid Spelled
  nil_read is old new e =
      record { what = nil; ends = refl; within = omega arith; parsed = by_tag s at 0 h is _ (λ m _. refl); row_is = e; spelled = tt }

  pub line_read : get_or s at 0 ≡ 4 → (old new : List Node) → new ≡ old ++ node Line (length old + 1) ∷ [] → ReadOn s at old new (at + 1)
  unfolding reads spells laid Spelled
  line_read is old new e =
      record { what = line; ends = refl; within = omega arith; parsed = by_tag s at 4 h is _ (λ m _. refl); row_is = e; spelled = tt }

  -- a text stands there, of n bytes
  pub text_read : get_or s at 0 ≡ 1 → (n : ℕ) → at + 1 < length s → n ≡ get_or s (at + 1) 0 → at + 1 + 1 + n ≤ length s → has_newline (take n (drop (at + 1 + 1) s)) ≡ false → n ≤ 255 → (old new : List Node) → new ≡ old ++ node (Text (at + 2) n) (length old + 1) ∷ [] → ReadOn s at old new (at + 2 + n)
  unfolding reads spells laid Spelled
  text_read is n more long within plain few old new e =
      let two : at + 1 + 1 ≡ at + 2 = omega arith in
      let t = take n (drop (at + 2) s) in
      let size-t : length t ≡ n = length-take-le n (drop (at + 2) s) (simp length-drop (omega arith)) in
      let plain-t : has_newline t ≡ false = ap (λ p. has_newline (take n (drop p s))) (sym two) ∙ plain in
      let read : read_text n (drop (at + 2) s) ≡ doc (text t) (drop n (drop (at + 2) s)) =
      cond-true _ _ _ (and_from _ _ (le-leb n (length (drop (at + 2) s)) (simp length-drop (omega arith))) (not_from_false _ plain-t)) in
      record {
        what = text t;
        ends = omega (arith, size-t);
        within = omega arith;
        parsed =
            by_tag s at 1 h is _
            (λ m _.
            ap (λ bs. read_byte bs read_text) (drop_more s (at + 1) 0 more)
            ∙ (λ i. read_text (sym long i) (drop (two i) s))
            ∙ read
            ∙ ap (doc (text t)) (drop-drop n (at + 2) s));
        row_is = e ∙ ap (λ l. old ++ node (Text (at + 2) l) (length old + 1) ∷ []) (sym size-t);
        spelled = (ap (λ l. take l (drop (at + 2) s)) size-t, omega (arith, size-t), omega (arith, size-t), plain-t);
      }

  pub not_text : get_or s at 0 ≡ 1 → read_byte (drop (at + 1) s) read_text ≡ no_doc → NotRead s at
  unfolding reads
  not_text is e = by_tag s at 1 h is no_doc (λ m _. e)

  -- two documents stand there, one behind the other
  pub cat_read : get_or s at 0 ≡ 2 → (old opened rest new exit : List Node) (middle next place : ℕ) → place ≡ length old → opened ≡ old ++ node Cat (length old + 1) ∷ [] → ReadOn s (at + 1) opened rest middle → ReadOn s middle rest new next → exit ≡ closed new place → ReadOn s at old exit next
  unfolding reads spells laid Spelled size
  cat_read is old opened rest new exit middle next place p o ra rb x-is =
      let a = ra.what in
      let b = rb.what in
      let open-node = node Cat (length old + 1) in
      let x : length opened ≡ length old + 1 = ap length o ∙ length-append old (open-node ∷ []) in
      let y : length rest ≡ length old + 1 + size a = ap length ra.row_is ∙ length-append opened _ ∙ (λ i. x i + length_laid a (at + 1) (length opened) i) in
      let la = laid a (at + 1) (length old + 1) in
      let lb = laid b (at + 1 + spells a) (length old + 1 + size a) in
      let rest-is : rest ≡ old ++ open-node ∷ la = ra.row_is ∙ (λ i. o i ++ laid a (at + 1) (x i)) ∙ append_assoc old (open-node ∷ []) la in
      let new_is : new ≡ old ++ open-node ∷ (la ++ lb) =
      rb.row_is ∙ (λ i. rest-is i ++ laid b (ra.ends i) (y i)) ∙ append_assoc old (open-node ∷ la) lb in
      let sizes : length (la ++ lb) ≡ size a + size b = length-append la lb ∙ (λ i. length_laid a (at + 1) (length old + 1) i + length_laid b (at + 1 + spells a) (length old + 1 + size a) i) in
      record {
        what = cat a b;
        ends = omega (arith, ra.ends, rb.ends);
        within = rb.within;
        parsed =
            by_tag s at 2 h is _
            (λ m l.
            rw (ra.parsed m l)
            (rw (rb.parsed m (omega (arith, ra.ends)))));
        row_is = x-is ∙ (λ i. closed (new_is i) (p i)) ∙ closed_is old (la ++ lb) Cat (length old + 1) ∙ ap (λ n. old ++ node Cat (length old + suc n) ∷ (la ++ lb)) sizes;
        spelled = (ra.spelled, subst (Spelled s b) ra.ends rb.spelled);
      }

  pub not_first : get_or s at 0 ≡ 2 → NotRead s (at + 1) → NotRead s at
  unfolding reads
  not_first is f = by_tag s at 2 h is no_doc (λ m l. rw (f m l))

  pub not_second : get_or s at 0 ≡ 2 → (old rest : List Node) (middle : ℕ) → ReadOn s (at + 1) old rest middle → NotRead s middle → NotRead s at
  unfolding reads
  not_second is old rest middle ra f = by_tag s at 2 h is no_doc (λ m l. rw (ra.parsed m l) (rw (f m (omega (arith, ra.ends)))))

  -- the row of a node with one part
  row_of_part : (k : Kind) (a : Doc) (p : ℕ) (old opened new exit : List Node) (place : ℕ) → place ≡ length old → opened ≡ old ++ node k (length old + 1) ∷ [] → new ≡ opened ++ laid a p (length opened) → exit ≡ closed new place → exit ≡ old ++ node k (length old + suc (size a)) ∷ laid a p (length old + 1)
  row_of_part k a p old opened new exit place pl o e x-is =
      let open-node = node k (length old + 1) in
      let la = laid a p (length old + 1) in
      let x : length opened ≡ length old + 1 = ap length o ∙ length-append old (open-node ∷ []) in
      let new_is : new ≡ old ++ open-node ∷ la = e ∙ (λ i. o i ++ laid a p (x i)) ∙ append_assoc old (open-node ∷ []) la in
      x-is ∙ (λ i. closed (new_is i) (pl i)) ∙ closed_is old la k (length old + 1) ∙ ap (λ n. old ++ node k (length old + suc n) ∷ la) (length_laid a p (length old + 1))

  -- a document stands there, nested
  pub nest_read : get_or s at 0 ≡ 3 → (k : ℕ) → at + 1 < length s → k ≡ get_or s (at + 1) 0 → k ≤ 255 → (old opened new exit : List Node) (next place : ℕ) → place ≡ length old → opened ≡ old ++ node (Nest k) (length old + 1) ∷ [] → ReadOn s (at + 2) opened new next → exit ≡ closed new place → ReadOn s at old exit next
  unfolding reads spells laid Spelled size
  nest_read is k more byte few old opened new exit next place p o ra x-is =
      let two : at + 1 + 1 ≡ at + 2 = omega arith in
      record {
        what = nest k ra.what;
        ends = omega (arith, ra.ends);
        within = ra.within;
        parsed =
            by_tag s at 3 h is _
            (λ m l.
            ap (λ bs. read_byte bs (λ j ds. then_read (reads m ds) (λ a es. doc (nest j a) es))) (drop_more s (at + 1) 0 more)
            ∙ (λ i. then_read (reads m (drop (two i) s)) (λ a es. doc (nest (sym byte i) a) es))
            ∙ rw (ra.parsed m (omega arith)));
        row_is = row_of_part (Nest k) ra.what (at + 2) old opened new exit place p o ra.row_is x-is;
        spelled = (few, ra.spelled);
      }

  pub not_byte : get_or s at 0 ≡ 3 → length s ≤ at + 1 → NotRead s at
  unfolding reads
  not_byte is past = by_tag s at 3 h is no_doc (λ m _. rw (drop_all (at + 1) s past))

  pub not_nested : get_or s at 0 ≡ 3 → at + 1 < length s → NotRead s (at + 2) → NotRead s at
  unfolding reads
  not_nested is more f =
      let two : at + 1 + 1 ≡ at + 2 = omega arith in
      by_tag s at 3 h is no_doc (λ m l. rw (drop_more s (at + 1) 0 more) (rw two (rw (f m (omega arith)))))

  -- a document stands there, grouped
  pub group_read : get_or s at 0 ≡ 5 → (old opened new exit : List Node) (next place : ℕ) → place ≡ length old → opened ≡ old ++ node Group (length old + 1) ∷ [] → ReadOn s (at + 1) opened new next → exit ≡ closed new place → ReadOn s at old exit next
  unfolding reads spells laid Spelled size
  group_read is old opened new exit next place p o ra x-is =
      record {
        what = group ra.what;
        ends = omega (arith, ra.ends);
        within = ra.within;
        parsed = by_tag s at 5 h is _ (λ m l. rw (ra.parsed m l));
        row_is = row_of_part Group ra.what (at + 1) old opened new exit place p o ra.row_is x-is;
        spelled = ra.spelled;
      }

  pub not_grouped : get_or s at 0 ≡ 5 → NotRead s (at + 1) → NotRead s at
  unfolding reads
  not_grouped is f = by_tag s at 5 h is no_doc (λ m l. rw (f m l))

-- a row of no more nodes than bytes were read stays so, and grows
pub read_fits : (s : List ℕ) (at : ℕ) (old new : List Node) (next : ℕ) → ReadOn s at old new next → length old ≤ at → (length new ≤ next) × (length old < length new) × (at < next)
read_fits s at old new next r h =
    let n : length new ≡ length old + size r.what = ap length r.row_is ∙ length-append old _ ∙ ap (λ l. length old + l) (length_laid r.what at (length old)) in
    let few = size_spells r.what in
    let some = some_node r.what in
    (omega (arith, r.ends), omega arith, omega (arith, r.ends))

-- a row with one node more
pub longer : (old new : List Node) (n : Node) → new ≡ old ++ n ∷ [] → length new ≡ length old + 1
longer old new n e = ap length e ∙ length-append old (n ∷ [])

-- what the whole of some bytes is, from what was read at their beginning
module _ (s : List ℕ) where
  pub whole_long : 65536 < length s → decode s ≡ None
  unfolding decode
  whole_long h = cond-false _ _ _ (lt-leb (length s) 65536 h)

  pub whole_none : length s ≤ 65536 → NotRead s 0 → decode s ≡ None
  unfolding decode
  whole_none h f = cond-true _ _ _ (le-leb (length s) 65536 h) ∙ rw (f (suc (length s)) (omega arith))

  module _ (old new : List Node) (next : ℕ) (few : length s ≤ 65536) (r : ReadOn s 0 old new next) where
    pub whole_more : next < length s → decode s ≡ None
    unfolding decode
    whole_more h = cond-true _ _ _ (le-leb (length s) 65536 few) ∙ rw (r.parsed (suc (length s)) (omega arith)) (rw (drop_more s next 0 h))

    pub whole_read : length s ≤ next → old ≡ [] → RowOf s new
    unfolding decode
    whole_read h none =
        record {
          what = r.what;
          decoded = cond-true _ _ _ (le-leb (length s) 65536 few) ∙ rw (r.parsed (suc (length s)) (omega arith)) (rw (drop_all next s h));
          row_is = r.row_is ∙ (λ i. none i ++ laid r.what 0 (length (none i)));
          spelled = r.spelled;
          few = omega (arith, size_spells r.what, r.ends, r.within);
        }
