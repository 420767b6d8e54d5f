-- A value's tokens make the encoding of its document, where the rules are not ambiguous. Assumes nothing.
use Rattle.std.proofs.Common.{◌≡◌, ℕ, Bool, true, false, cond, not, ◌&&◌, eqb, List, [], ◌∷◌, ◌++◌, Some, None, Option, sym, refl, ap, ◌∙◌, subst, inl, inr, append_assoc, append-nil, arith}
use borrow.Author.Tests.{clash}
use Rattle.std.proofs.lemmas.Bool.{and_parts, or_cases, or_from, or_left, or_right, eq-eqb, cond-true, cond-false}
use Rattle.std.proofs.lemmas.Bool.Decides.{nat_tests}
use Rattle.doc.specs.Doc.{Doc, nil, text, cat}
use Rattle.doc.specs.Laws.{encode}
use Rattle.calls.specs.Tokens.{Token, mark}
use Rattle.calls.specs.Values.{Values, none, plain, list, is_none, named, spelled, empty, has_rule, well_formed, fresh, sound_rule, unambiguous, word_doc, list_doc, items_doc}
use Rattle.calls.specs.Parsing.{opened_by, closes}
use Rattle.calls.specs.Emitting.{held, before_item, closing_bytes, separating_bytes, next_is, empty_list, mark_bytes, emit, EmitsValue}
use Rattle.calls.specs.declared.rule.Rule.{Rule}
use Rattle.calls.proofs.Told.{same_is, told}
use Rattle.calls.proofs.ReadBack.{behind_it, list_spelled, open_not_close}

-- a separator closes none of the rules that are apart from its own
none_shuts : (rs : List Rule) (r : Rule) → fresh rs r ≡ true → closes rs r.separator ≡ false
unfolding fresh
none_shuts [] r e = refl
none_shuts (q ∷ rs) r e =
    let a : eqb r.separator q.close ≡ false = grind (arith, nat_tests) in
    or_from _ _ a (none_shuts rs r (and_parts _ (fresh rs r) e).1)

-- the separator of each rule of a row does not close one that the row is apart from
parts_apart : (rs : List Rule) (q r : Rule) → fresh rs r ≡ true → has_rule rs q ≡ true → eqb q.separator r.close ≡ false
unfolding fresh
parts_apart [] q r e h = absurd (clash h)
parts_apart (p ∷ rs) q r e h =
    let a : eqb p.separator r.close ≡ false = grind (arith, nat_tests) in
    elim (or_cases _ _ h) [
      | inl s ↦ subst (λ x. eqb x.separator r.close ≡ false) (same_is p q s) a
      | inr t ↦ parts_apart rs q r (and_parts _ (fresh rs r) e).1 t
    ]

-- no separator closes
separator_open : (rs : List Rule) (r : Rule) → unambiguous rs ≡ true → has_rule rs r ≡ true → closes rs r.separator ≡ false
unfolding unambiguous
separator_open [] r u h = absurd (clash h)
separator_open (q ∷ rs) r u h =
    let s = and_parts (sound_rule q) _ u in
    let f = and_parts (fresh rs q) _ s.1 in
    elim (or_cases _ _ h) [
      | inl e ↦
          subst (λ x. closes (q ∷ rs) x.separator ≡ false) (same_is q r e)
          (let sound = s.0 in
          let a : eqb q.separator q.close ≡ false = grind (arith, nat_tests) in
          or_from _ _ a (none_shuts rs q f.0))
      | inr e ↦ or_from _ _ (parts_apart rs r q f.0 e) (separator_open rs r f.1 e)
    ]

-- a rule's closing bracket closes
close_closes : (rs : List Rule) (r : Rule) → has_rule rs r ≡ true → closes rs r.close ≡ true
close_closes [] r h = absurd (clash h)
close_closes (q ∷ rs) r h =
    elim (or_cases _ _ h) [
      | inl e ↦ or_left _ _ (eq-eqb r.close q.close (ap (λ x. x.close) (sym (same_is q r e))))
      | inr e ↦ or_right _ _ (close_closes rs r e)
    ]

-- a closing bracket's bytes behind the last value's end
abbrev close_bytes : ℕ → List ℕ
close_bytes c = 2 ∷ 4 ∷ 1 ∷ 1 ∷ c ∷ []

-- the document behind a value of a list
abbrev pub tail_doc : ℕ → Values → Doc
tail_doc c vs = cond (is_none vs) nil (cat (text (c ∷ [])) (items_doc c vs))

at_mark :
    (rs : List Rule) (w : List ℕ) (c : ℕ) (ts : List Token) (o : Option Rule) (b : Bool) → opened_by rs c ≡ o → empty_list o ts ≡ b →
    emit rs w false (mark c ∷ ts) ≡ mark_bytes rs w c o b ++ emit rs [] b ts
unfolding emit
at_mark rs w c ts o b h k =
    ap (λ x. mark_bytes rs w c x (empty_list x ts) ++ emit rs [] (empty_list x ts) ts) h ∙ ap (λ x. mark_bytes rs w c o x ++ emit rs [] x ts) k

-- a name waits for its bracket
at_name : (rs : List Rule) (name : List ℕ) (ts : List Token) → emit rs [] false (named name ts) ≡ emit rs name false ts
unfolding emit
at_name rs [] ts = refl
at_name rs (b ∷ bs) ts = refl

held_is : (w : List ℕ) → not (empty w) ≡ true → held w ≡ encode (word_doc w)
held_is [] h = absurd (clash h)
held_is (b ∷ bs) h = refl

-- a list's values make their document's encoding, up to the closing bracket, wherever they stand
abbrev Emitted : List Rule → Rule → Values → Type 0
Emitted rs r vs =
    (rest : List Token) →
    before_item ++ emit rs [] false (spelled r.separator vs ++ (mark r.close ∷ rest)) ≡ encode (items_doc r.separator vs) ++ (close_bytes r.close ++ emit rs [] false rest)

module _ (rs : List Rule) (u : unambiguous rs ≡ true) (r : Rule) (h : has_rule rs r ≡ true) where
  at_close : (w : List ℕ) (ts : List Token) → emit rs w false (mark r.close ∷ ts) ≡ held w ++ (0 ∷ (close_bytes r.close ++ emit rs [] false ts))
  at_close w ts =
      at_mark rs w r.close ts None false (told rs r u h).shuts refl
      ∙ ap (λ x. (held w ++ x) ++ emit rs [] false ts) (cond-true _ _ _ (close_closes rs r h))
      ∙ append_assoc (held w) (closing_bytes r.close) (emit rs [] false ts)

  at_separator :
      (w : List ℕ) (ts : List Token) →
      emit rs w false (mark r.separator ∷ ts) ≡ held w ++ (2 ∷ 1 ∷ 1 ∷ r.separator ∷ (before_item ++ emit rs [] false ts))
  at_separator w ts =
      at_mark rs w r.separator ts None false (told rs r u h).parts refl
      ∙ ap (λ x. (held w ++ x) ++ emit rs [] false ts) (cond-false _ _ _ (separator_open rs r u h))
      ∙ append_assoc (held w) (separating_bytes r.separator) (emit rs [] false ts)

  next_value :
      (w : List ℕ) (vs : Values) (rest : List Token) → Emitted rs r vs →
      emit rs w false (mark r.separator ∷ (spelled r.separator vs ++ (mark r.close ∷ rest)))
      ≡ held w ++ (2 ∷ 1 ∷ 1 ∷ r.separator ∷ (encode (items_doc r.separator vs) ++ (close_bytes r.close ++ emit rs [] false rest)))
  next_value w vs rest k =
      at_separator w (spelled r.separator vs ++ (mark r.close ∷ rest)) ∙ ap (λ x. held w ++ (2 ∷ 1 ∷ 1 ∷ r.separator ∷ x)) (k rest)

  -- what stands behind a value, with the word that waits
  behind_value :
      (w : List ℕ) (vs : Values) (rest : List Token) → (is_none vs ≡ false → Emitted rs r vs) →
      emit rs w false (behind_it r.separator vs ++ (mark r.close ∷ rest))
      ≡ held w ++ (encode (tail_doc r.separator vs) ++ (close_bytes r.close ++ emit rs [] false rest))
  unfolding encode
  behind_value w none rest k = at_close w rest
  behind_value w (plain v vs) rest k = next_value w (plain v vs) rest (k refl)
  behind_value w (list name q is vs) rest k = next_value w (list name q is vs) rest (k refl)

  -- a list that has values is not closed at once
  not_closed :
      (vs : Values) (xs : List Token) → well_formed rs vs ≡ true → is_none vs ≡ false → next_is r.close (spelled r.separator vs ++ xs) ≡ false
  unfolding spelled well_formed
  not_closed none xs f i = absurd (clash (sym i))
  not_closed (plain v vs) xs f i = refl
  not_closed (list [] q is vs) xs f i = open_not_close rs u q r (and_parts (has_rule rs q) _ f).0 h
  not_closed (list (b ∷ bs) q is vs) xs f i = refl

  -- a list with values, and what stands behind it
  group_emits :
      (name : List ℕ) (is : Values) (ys : List Token) → well_formed rs is ≡ true → is_none is ≡ false → Emitted rs r is →
      emit rs name false (mark r.open ∷ (spelled r.separator is ++ (mark r.close ∷ ys)))
      ≡ encode (list_doc name r false (items_doc r.separator is)) ++ emit rs [] false ys
  unfolding encode
  group_emits name is ys f i k =
      let ts = spelled r.separator is ++ (mark r.close ∷ ys) in
      let front = encode (word_doc (name ++ (r.open ∷ []))) in
      let inner = encode (items_doc r.separator is) in
      at_mark rs name r.open ts (Some r) false (told rs r u h).opens (not_closed is (mark r.close ∷ ys) f i)
      ∙ ap (λ x. 5 ∷ 2 ∷ x)
      (append_assoc front (2 ∷ 3 ∷ r.indent ∷ before_item) (emit rs [] false ts)
      ∙ ap (λ x. front ++ (2 ∷ 3 ∷ r.indent ∷ x)) (k ys ∙ sym (append_assoc inner (close_bytes r.close) (emit rs [] false ys)))
      ∙ sym (append_assoc front (2 ∷ 3 ∷ r.indent ∷ (inner ++ close_bytes r.close)) (emit rs [] false ys)))

  -- a list, and what stands behind it
  list_emits :
      (name : List ℕ) (is : Values) (ys : List Token) → well_formed rs is ≡ true → (is_none is ≡ false → Emitted rs r is) →
      emit rs name false (mark r.open ∷ (spelled r.separator is ++ (mark r.close ∷ ys)))
      ≡ encode (list_doc name r (is_none is) (items_doc r.separator is)) ++ emit rs [] false ys
  unfolding emit spelled
  list_emits name none ys f k =
      at_mark rs name r.open (mark r.close ∷ ys) (Some r) true (told rs r u h).opens (eq-eqb r.close r.close refl)
  list_emits name (plain v vs) ys f k = group_emits name (plain v vs) ys f refl (k refl)
  list_emits name (list n q is vs) ys f k = group_emits name (list n q is vs) ys f refl (k refl)

module _ (rs : List Rule) (u : unambiguous rs ≡ true) where
  items_emit : (vs : Values) (r : Rule) → has_rule rs r ≡ true → well_formed rs vs ≡ true → is_none vs ≡ false → Emitted rs r vs
  unfolding emit encode spelled items_doc well_formed
  items_emit none r h f i = absurd (clash (sym i))
  items_emit (plain w vs) r h f i =
      let a = and_parts _ (well_formed rs vs) f in
      let n = (and_parts (not (empty w)) _ a.0).0 in
      λ rest.
      let end = close_bytes r.close ++ emit rs [] false rest in
      let behind = encode (tail_doc r.separator vs) in
      ap (λ x. before_item ++ x)
      (behind_value rs u r h w vs rest (items_emit vs r h a.1)
      ∙ ap (λ x. x ++ (behind ++ end)) (held_is w n)
      ∙ sym (append_assoc (encode (word_doc w)) behind end))
  items_emit (list name q is vs) r h f i =
      let a = and_parts _ (well_formed rs is && well_formed rs vs) f in
      let b = and_parts (well_formed rs is) (well_formed rs vs) a.1 in
      let d = (and_parts _ (has_rule rs q) a.0).1 in
      λ rest.
      let end = close_bytes r.close ++ emit rs [] false rest in
      let behind = encode (tail_doc r.separator vs) in
      let this = encode (list_doc name q (is_none is) (items_doc q.separator is)) in
      let ys = behind_it r.separator vs ++ (mark r.close ∷ rest) in
      ap (λ x. before_item ++ x)
      (ap (emit rs [] false) (list_spelled r.separator name q is vs (mark r.close ∷ rest))
      ∙ at_name rs name (mark q.open ∷ (spelled q.separator is ++ (mark q.close ∷ ys)))
      ∙ list_emits rs u q d name is ys b.0 (items_emit is q d b.0)
      ∙ ap (λ x. this ++ x) (behind_value rs u r h [] vs rest (items_emit vs r h b.1))
      ∙ sym (append_assoc this behind end))

pub emits_value : EmitsValue
unfolding emit spelled well_formed
emits_value rs none u f o = absurd (clash o)
emits_value rs (plain w none) u f o =
    let a = and_parts (not (empty w) && _) true f in
    held_is w (and_parts (not (empty w)) _ a.0).0
emits_value rs (plain w (plain x vs)) u f o = absurd (clash o)
emits_value rs (plain w (list name q is vs)) u f o = absurd (clash o)
emits_value rs (list name q is none) u f o =
    let a = and_parts _ (well_formed rs is && true) f in
    let b = and_parts (well_formed rs is) true a.1 in
    let d = (and_parts _ (has_rule rs q) a.0).1 in
    at_name rs name (mark q.open ∷ (spelled q.separator is ++ (mark q.close ∷ [])))
    ∙ list_emits rs u q d name is [] b.0 (items_emit rs u is q d b.0)
    ∙ append-nil (encode (list_doc name q (is_none is) (items_doc q.separator is)))
emits_value rs (list name q is (plain x vs)) u f o = absurd (clash o)
emits_value rs (list name q is (list x r js vs)) u f o = absurd (clash o)
