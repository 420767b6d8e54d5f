-- A value's document can be encoded. Assumes nothing.
use Rattle.std.proofs.Common.{◌≡◌, ℕ, zero, suc, ◌≤◌, Bool, true, false, not, ◌&&◌, eqb, leb, List, [], ◌∷◌, ◌++◌, length, take, drop, refl, subst, inl, inr, arith, length-drop, length-take}
use borrow.Author.Tests.{clash}
use Rattle.std.proofs.lemmas.Bool.{and_parts, and_from, or_cases, or_from, not-true, not_from_false, le-leb, leb-true, leb-false, cond_both}
use Rattle.std.proofs.lemmas.Bool.Decides.{nat_tests}
use Rattle.doc.specs.Doc.{Doc, text, cat}
use Rattle.doc.specs.Encoding.{has_newline}
use Rattle.doc.specs.Laws.{bytes, encodable}
use Rattle.calls.specs.Tokens.{blank, marks, in_word}
use Rattle.calls.specs.Values.{Values, none, plain, list, is_none, empty, all_in_word, has_rule, well_formed, fresh, sound_rule, unambiguous, texts, word_doc, list_doc, items_doc}
use Rattle.calls.specs.Emitting.{rule_bytes, value_bytes, ValueEncodable}
use Rattle.calls.specs.declared.rule.Rule.{Rule}
use Rattle.calls.proofs.Emitted.{tail_doc}
use Rattle.calls.proofs.Told.{same_is}

-- bytes, and none ends a line
abbrev fine : List ℕ → Bool
fine [] = true
fine (c ∷ cs) = (leb c 255 && not (eqb c 10)) && fine cs

fine_bytes : (w : List ℕ) → fine w ≡ true → bytes w ≡ true
fine_bytes [] f = refl
fine_bytes (c ∷ w) f =
    let p = and_parts (leb c 255 && not (eqb c 10)) (fine w) f in
    and_from (leb c 255) (bytes w) (and_parts (leb c 255) (not (eqb c 10)) p.0).0 (fine_bytes w p.1)

fine_line : (w : List ℕ) → fine w ≡ true → has_newline w ≡ false
fine_line [] f = refl
fine_line (c ∷ w) f =
    let p = and_parts (leb c 255 && not (eqb c 10)) (fine w) f in
    or_from (eqb c 10) (has_newline w) (not-true _ (and_parts (leb c 255) (not (eqb c 10)) p.0).1) (fine_line w p.1)

fine_take : (n : ℕ) (w : List ℕ) → fine w ≡ true → fine (take n w) ≡ true
fine_take zero w f = refl
fine_take (suc n) [] f = refl
fine_take (suc n) (c ∷ w) f =
    let p = and_parts (leb c 255 && not (eqb c 10)) (fine w) f in
    and_from (leb c 255 && not (eqb c 10)) (fine (take n w)) p.0 (fine_take n w p.1)

fine_drop : (n : ℕ) (w : List ℕ) → fine w ≡ true → fine (drop n w) ≡ true
fine_drop zero w f = f
fine_drop (suc n) [] f = refl
fine_drop (suc n) (c ∷ w) f = fine_drop n w (and_parts (leb c 255 && not (eqb c 10)) (fine w) f).1

fine_append : (v w : List ℕ) → fine v ≡ true → fine w ≡ true → fine (v ++ w) ≡ true
fine_append [] w f g = g
fine_append (c ∷ v) w f g =
    let p = and_parts (leb c 255 && not (eqb c 10)) (fine v) f in
    and_from (leb c 255 && not (eqb c 10)) (fine (v ++ w)) p.0 (fine_append v w p.1 g)

-- a byte that is no blank
fine_byte : (c : ℕ) (w : List ℕ) → leb c 255 ≡ true → not (blank c) ≡ true → fine w ≡ true → fine (c ∷ w) ≡ true
fine_byte c w l b f =
    let n : not (eqb c 10) ≡ true = grind (arith, nat_tests) in
    and_from (leb c 255 && not (eqb c 10)) (fine w) (and_from (leb c 255) (not (eqb c 10)) l n) f

fine_word : (rs : List Rule) (w : List ℕ) → all_in_word rs w ≡ true → bytes w ≡ true → fine w ≡ true
fine_word rs [] i b = refl
fine_word rs (c ∷ w) i b =
    let p = and_parts (in_word rs c) (all_in_word rs w) i in
    let q = and_parts (leb c 255) (bytes w) b in
    fine_byte c w q.0 (and_parts (not (blank c)) (not (marks rs c)) p.0).0 (fine_word rs w p.1 q.1)

fine_text : (w : List ℕ) → fine w ≡ true → length w ≤ 255 → encodable (text w) ≡ true
fine_text w f l =
    and_from (leb (length w) 255) _ (le-leb (length w) 255 l)
    (and_from (bytes w) (not (has_newline w)) (fine_bytes w f) (not_from_false (has_newline w) (fine_line w f)))

fine_texts : (n : ℕ) (w : List ℕ) → length w ≤ n → fine w ≡ true → encodable (texts n w) ≡ true
unfolding texts
fine_texts zero w l f = fine_text w f (omega arith)
fine_texts (suc n) w l f =
    cond_both (leb (length w) 255) (text w) (cat (text (take 255 w)) (texts n (drop 255 w))) (λ d. encodable d ≡ true)
    (λ e. fine_text w f (leb-true (length w) 255 e))
    (λ e.
    let more = leb-false (length w) 255 e in
    and_from (encodable (text (take 255 w))) (encodable (texts n (drop 255 w)))
    (fine_text (take 255 w) (fine_take 255 w f) (simp length-take (omega arith)))
    (fine_texts n (drop 255 w) (simp length-drop (omega arith)) (fine_drop 255 w f)))

fine_word_doc : (w : List ℕ) → fine w ≡ true → encodable (word_doc w) ≡ true
fine_word_doc w f = fine_texts (length w) w (omega arith) f

-- each of the rules is sound
sound_at : (rs : List Rule) (r : Rule) → unambiguous rs ≡ true → has_rule rs r ≡ true → sound_rule r ≡ true
unfolding unambiguous
sound_at [] r u h = absurd (clash h)
sound_at (q ∷ rs) r u h =
    let s = and_parts (sound_rule q) (fresh rs q && unambiguous rs) u in
    elim (or_cases _ _ h) [
      | inl e ↦ subst (λ x. sound_rule x ≡ true) (same_is q r e) s.0
      | inr e ↦ sound_at rs r (and_parts (fresh rs q) (unambiguous rs) s.1).1 e
    ]

-- the bytes of a rule
record FineRule (r : Rule) : Type 0 where
  pub opens : fine (r.open ∷ []) ≡ true
  pub empties : fine (r.open ∷ r.close ∷ []) ≡ true
  pub shuts : fine (r.close ∷ []) ≡ true
  pub parts : fine (r.separator ∷ []) ≡ true
  pub indents : leb r.indent 255 ≡ true

fine_rule : (r : Rule) → sound_rule r ≡ true → rule_bytes r ≡ true → FineRule r
fine_rule r s b =
    let t = (and_parts (not (blank r.open) && (not (blank r.close) && not (blank r.separator))) _ s).0 in
    let x = and_parts (not (blank r.open)) (not (blank r.close) && not (blank r.separator)) t in
    let y = and_parts (not (blank r.close)) (not (blank r.separator)) x.1 in
    let k = and_parts (leb r.open 255) _ b in
    let l = and_parts (leb r.close 255) _ k.1 in
    let m = and_parts (leb r.separator 255) (leb r.indent 255) l.1 in
    let shut = fine_byte r.close [] l.0 y.0 refl in
    record {
      opens = fine_byte r.open [] k.0 x.0 refl;
      empties = fine_byte r.open (r.close ∷ []) k.0 x.0 shut;
      shuts = shut;
      parts = fine_byte r.separator [] m.0 y.1 refl;
      indents = m.1;
    }

fine_list : (name : List ℕ) (r : Rule) (none : Bool) (d : Doc) → fine name ≡ true → FineRule r → encodable d ≡ true → encodable (list_doc name r none d) ≡ true
fine_list name r true d f g e = fine_word_doc (name ++ (r.open ∷ r.close ∷ [])) (fine_append name (r.open ∷ r.close ∷ []) f g.empties)
fine_list name r false d f g e =
    and_from (encodable (word_doc (name ++ (r.open ∷ [])))) _ (fine_word_doc (name ++ (r.open ∷ [])) (fine_append name (r.open ∷ []) f g.opens))
    (and_from (leb r.indent 255 && encodable d) _ (and_from (leb r.indent 255) (encodable d) g.indents e)
    (fine_text (r.close ∷ []) g.shuts (omega arith)))

fine_tail : (c : ℕ) (vs : Values) → fine (c ∷ []) ≡ true → encodable (items_doc c vs) ≡ true → encodable (tail_doc c vs) ≡ true
fine_tail c none f e = refl
fine_tail c (plain w vs) f e = and_from (encodable (text (c ∷ []))) (encodable (items_doc c (plain w vs))) (fine_text (c ∷ []) f (omega arith)) e
fine_tail c (list name r is vs) f e =
    and_from (encodable (text (c ∷ []))) (encodable (items_doc c (list name r is vs))) (fine_text (c ∷ []) f (omega arith)) e

module _ (rs : List Rule) (u : unambiguous rs ≡ true) where
  -- what is known of a list
  record FineList (name : List ℕ) (r : Rule) (is vs : Values) : Type 0 where
    pub word : fine name ≡ true
    pub rule : FineRule r
    pub formed : well_formed rs is ≡ true
    pub in_bytes : value_bytes is ≡ true
    pub next_formed : well_formed rs vs ≡ true
    pub next_bytes : value_bytes vs ≡ true

  list_parts :
      (name : List ℕ) (r : Rule) (is vs : Values) → well_formed rs (list name r is vs) ≡ true → value_bytes (list name r is vs) ≡ true →
      FineList name r is vs
  unfolding well_formed value_bytes
  list_parts name r is vs f b =
      let x = and_parts (all_in_word rs name && has_rule rs r) (well_formed rs is && well_formed rs vs) f in
      let n = and_parts (all_in_word rs name) (has_rule rs r) x.0 in
      let w = and_parts (well_formed rs is) (well_formed rs vs) x.1 in
      let y = and_parts (bytes name && rule_bytes r) (value_bytes is && value_bytes vs) b in
      let m = and_parts (bytes name) (rule_bytes r) y.0 in
      let v = and_parts (value_bytes is) (value_bytes vs) y.1 in
      record {
        word = fine_word rs name n.0 m.0;
        rule = fine_rule r (sound_at rs r u n.1) m.1;
        formed = w.0;
        in_bytes = v.0;
        next_formed = w.1;
        next_bytes = v.1;
      }

  word_parts :
      (w : List ℕ) (vs : Values) → well_formed rs (plain w vs) ≡ true → value_bytes (plain w vs) ≡ true →
      (fine w ≡ true) × (well_formed rs vs ≡ true) × (value_bytes vs ≡ true)
  unfolding well_formed value_bytes
  word_parts w vs f b =
      let x = and_parts (not (empty w) && all_in_word rs w) (well_formed rs vs) f in
      let n = and_parts (not (empty w)) (all_in_word rs w) x.0 in
      let y = and_parts (bytes w) (value_bytes vs) b in
      (fine_word rs w n.1 y.0, x.1, y.1)

  fine_items :
      (c : ℕ) (vs : Values) → fine (c ∷ []) ≡ true → well_formed rs vs ≡ true → value_bytes vs ≡ true → encodable (items_doc c vs) ≡ true
  unfolding items_doc
  fine_items c none g f b = refl
  fine_items c (plain w vs) g f b =
      let p = word_parts w vs f b in
      and_from (encodable (word_doc w)) (encodable (tail_doc c vs)) (fine_word_doc w p.0) (fine_tail c vs g (fine_items c vs g p.1 p.2))
  fine_items c (list name r is vs) g f b =
      let p = list_parts name r is vs f b in
      and_from (encodable (list_doc name r (is_none is) (items_doc r.separator is))) (encodable (tail_doc c vs))
      (fine_list name r (is_none is) _ p.word p.rule (fine_items r.separator is p.rule.parts p.formed p.in_bytes))
      (fine_tail c vs g (fine_items c vs g p.next_formed p.next_bytes))

pub value_encodable : ValueEncodable
value_encodable rs none u f b = refl
value_encodable rs (plain w vs) u f b = fine_word_doc w (word_parts rs u w vs f b).0
value_encodable rs (list name r is vs) u f b =
    let p = list_parts rs u name r is vs f b in
    fine_list name r (is_none is) _ p.word p.rule (fine_items rs u r.separator is p.rule.parts p.formed p.in_bytes)
