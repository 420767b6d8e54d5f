-- What a source is is read, where the rules are not ambiguous. Assumes nothing.
use Rattle.std.proofs.Common.{◌≡◌, ℕ, zero, suc, ◌+◌, ◌≤◌, Bool, true, false, cond, ◌&&◌, eqb, List, [], ◌∷◌, ◌++◌, length, None, sym, refl, ap, ◌∙◌, subst, append_assoc, append-nil, arith, length-append}
use borrow.Author.Tests.{clash}
use Rattle.std.proofs.lemmas.Bool.{and_parts, eq-eqb, ne_eqb, cond-true, cond-false}
use Rattle.calls.specs.Tokens.{Token, word, mark, Placed, place, tokens}
use Rattle.calls.specs.Values.{Values, none, plain, list, is_none, named, spelled, has_rule, well_formed, single, unambiguous, bare, OneValue}
use Rattle.calls.specs.Parsing.{Fault, no_value, Parsed, faulty, read, then_parsed, opened_by, opening, is_mark, with_next, Reader, inside, list_or, after_word, value, more, items, last, parse, ParseComplete}
use Rattle.calls.specs.declared.rule.Rule.{Rule}
use Rattle.calls.proofs.Told.{told}

-- these values were read, with these tokens behind them
abbrev Has : Values → List Token → Parsed → Type 0
Has v xs (faulty f) = ⊥
Has v xs (read u rest) = (u ≡ v) × (bare rest ≡ xs)

has_then :
    (p : Parsed) (k : Values → List Placed → Parsed) (v u : Values) (xs ys : List Token) → Has v xs p →
    ((rest : List Placed) → bare rest ≡ xs → Has u ys (k v rest)) → Has u ys (then_parsed p k)
has_then (faulty f) k v u xs ys h g = absurd h
has_then (read w rest) k v u xs ys h g = subst (λ x. Has u ys (k x rest)) (sym h.0) (g rest h.1)

-- the first of some tokens, whatever its position
front :
    (P : List Placed → Type 0) (ts : List Placed) (t : Token) (xs : List Token) → bare ts ≡ t ∷ xs →
    ((p : ℕ) (rest : List Placed) → bare rest ≡ xs → P (place p t ∷ rest)) → P ts
front P [] t xs e k = let z : ◌≡◌ {A = ℕ} 0 1 = cc in absurd (omega arith)
front P (s ∷ ts) t xs e k =
    let h : t ≡ s.token = cc in
    subst (λ x. P (place s.at x ∷ ts)) h (k s.at ts (cc))

-- the tokens behind a value of a list
abbrev pub behind_it : ℕ → Values → List Token
behind_it c vs = cond (is_none vs) [] (mark c ∷ spelled c vs)

-- a list's values are read, wherever they stand
abbrev Reads : Reader → Rule → Values → Type 0
Reads it r vs = (p : ℕ) (ts : List Placed) (xs : List Token) → bare ts ≡ spelled r.separator vs ++ (mark r.close ∷ xs) → Has vs xs (it r p ts)

inside_by :
    (it : Reader) (r : Rule) (p : ℕ) (vs : Values) (ts : List Placed) (ys : List Token) (t : Token) (xs : List Token) → bare ts ≡ t ∷ xs →
    is_mark r.close t ≡ false → Has vs ys (it r p ts) → Has vs ys (inside it r p ts)
inside_by it r p vs ts ys t xs e m =
    front (λ s. Has vs ys (it r p s) → Has vs ys (inside it r p s)) ts t xs e (λ q rest f h. subst (Has vs ys) (sym (cond-false _ _ _ m)) h)

module _ (rs : List Rule) (u : unambiguous rs ≡ true) where
  -- a bracket that opens does not close
  pub open_not_close : (q r : Rule) → has_rule rs q ≡ true → has_rule rs r ≡ true → eqb q.open r.close ≡ false
  open_not_close q r h k =
      ne_eqb _ _
      (λ e.
      let a = (told rs q u h).opens in
      let b = (told rs r u k).shuts in
      let d = ap (opened_by rs) e in
      let z : ◌≡◌ {A = ℕ} 0 1 = cc in
      omega arith)

  inside_has :
      (it : Reader) (r : Rule) (p : ℕ) (vs : Values) (ts : List Placed) (xs : List Token) → has_rule rs r ≡ true → well_formed rs vs ≡ true →
      (is_none vs ≡ false → Reads it r vs) → bare ts ≡ spelled r.separator vs ++ (mark r.close ∷ xs) → Has vs xs (inside it r p ts)
  unfolding spelled well_formed
  inside_has it r p none ts xs h w k e =
      front (λ s. Has none xs (inside it r p s)) ts (mark r.close) xs e
      (λ q rest f. subst (Has none xs) (sym (cond-true _ _ _ (eq-eqb r.close r.close refl))) (refl, f))
  inside_has it r p (plain v vs) ts xs h w k e = inside_by it r p (plain v vs) ts xs _ _ e refl (k refl p ts xs e)
  inside_has it r p (list [] q is vs) ts xs h w k e =
      inside_by it r p (list [] q is vs) ts xs _ _ e (open_not_close q r (and_parts (has_rule rs q) _ w).0 h) (k refl p ts xs e)
  inside_has it r p (list (b ∷ bs) q is vs) ts xs h w k e = inside_by it r p (list (b ∷ bs) q is vs) ts xs _ _ e refl (k refl p ts xs e)

  module _ (it : Reader) where
    list_has :
        (name : List ℕ) (r : Rule) (vs : Values) (p : ℕ) (ts : List Placed) (other : Parsed) (xs : List Token) → has_rule rs r ≡ true →
        well_formed rs vs ≡ true → (is_none vs ≡ false → Reads it r vs) → bare ts ≡ spelled r.separator vs ++ (mark r.close ∷ xs) →
        Has (list name r vs none) xs (list_or it name (opened_by rs r.open) p ts other)
    list_has name r vs p ts other xs h w k e =
        subst (λ o. Has (list name r vs none) xs (list_or it name o p ts other)) (sym (told rs r u h).opens)
        (has_then _ _ vs _ xs xs (inside_has it r p vs ts xs h w k e) (λ rest f. (refl, f)))

    value_list :
        (own : ℕ → Bool) (ended : Fault) (name : List ℕ) (r : Rule) (vs : Values) (ts : List Placed) (xs : List Token) → has_rule rs r ≡ true →
        well_formed rs vs ≡ true → (is_none vs ≡ false → Reads it r vs) →
        bare ts ≡ named name (mark r.open ∷ (spelled r.separator vs ++ (mark r.close ∷ xs))) →
        Has (list name r vs none) xs (value rs it own ended ts)
    value_list own ended [] r vs ts xs h w k e =
        front (λ s. Has (list [] r vs none) xs (value rs it own ended s)) ts _ _ e (λ p rest f. list_has [] r vs p rest _ xs h w k f)
    value_list own ended (b ∷ bs) r vs ts xs h w k e =
        front (λ s. Has (list (b ∷ bs) r vs none) xs (value rs it own ended s)) ts _ _ e
        (λ _ rest f.
        front (λ s. Has (list (b ∷ bs) r vs none) xs (after_word rs it (b ∷ bs) s)) rest _ _ f
        (λ p rest' g. list_has (b ∷ bs) r vs p rest' _ xs h w k g))

    -- no bracket opens first
    abbrev Quiet : List Token → Type 0
    Quiet [] = Unit {0}
    Quiet (t ∷ xs) = opening rs t ≡ None

    word_has : (w : List ℕ) (ts : List Placed) (xs : List Token) → Quiet xs → bare ts ≡ xs → Has (plain w none) xs (after_word rs it w ts)
    word_has w [] xs q e = (refl, e)
    word_has w (t ∷ ts) xs q e =
        subst (λ o. Has (plain w none) xs (list_or it w o t.at ts (read (plain w none) (t ∷ ts)))) (sym (subst Quiet (sym e) q)) (refl, e)

    value_word :
        (own : ℕ → Bool) (ended : Fault) (w : List ℕ) (ts : List Placed) (xs : List Token) → Quiet xs → bare ts ≡ word w ∷ xs →
        Has (plain w none) xs (value rs it own ended ts)
    value_word own ended w ts xs q e =
        front (λ s. Has (plain w none) xs (value rs it own ended s)) ts _ _ e (λ _ rest f. word_has w rest xs q f)

    module _ (r : Rule) (h : has_rule rs r ≡ true) where
      quiet_behind : (vs : Values) (xs : List Token) → Quiet (behind_it r.separator vs ++ (mark r.close ∷ xs))
      quiet_behind none xs = (told rs r u h).shuts
      quiet_behind (plain w vs) xs = (told rs r u h).parts
      quiet_behind (list name q is vs) xs = (told rs r u h).parts

      more_next :
          (p : ℕ) (v vs : Values) (ts : List Placed) (xs : List Token) → Reads it r vs →
          bare ts ≡ mark r.separator ∷ (spelled r.separator vs ++ (mark r.close ∷ xs)) → Has (with_next v vs) xs (more rs it r p v ts)
      more_next p v vs ts xs k e =
          front (λ s. Has (with_next v vs) xs (more rs it r p v s)) ts _ _ e
          (λ _ rest f.
          subst (Has (with_next v vs) xs) (sym (cond-true _ _ _ (eq-eqb r.separator r.separator refl)))
          (has_then _ _ vs _ xs xs (k p rest xs f) (λ _ g. (refl, g))))

      more_has :
          (p : ℕ) (v vs : Values) (ts : List Placed) (xs : List Token) → v ≡ with_next v none → (is_none vs ≡ false → Reads it r vs) →
          bare ts ≡ behind_it r.separator vs ++ (mark r.close ∷ xs) → Has (with_next v vs) xs (more rs it r p v ts)
      more_has p v none ts xs i k e =
          front (λ s. Has (with_next v none) xs (more rs it r p v s)) ts _ _ e
          (λ _ rest f.
          subst (Has (with_next v none) xs) (sym (cond-false _ _ _ (told rs r u h).differ ∙ cond-true _ _ _ (eq-eqb r.close r.close refl)))
          (i, f))
      more_has p v (plain w vs) ts xs i k e = more_next p v (plain w vs) ts xs (k refl) e
      more_has p v (list name q is vs) ts xs i k e = more_next p v (list name q is vs) ts xs (k refl) e

named_append : (name : List ℕ) (ts xs : List Token) → named name ts ++ xs ≡ named name (ts ++ xs)
named_append [] ts xs = refl
named_append (b ∷ bs) ts xs = refl

-- the tokens of a list and those behind it
pub list_spelled :
    (c : ℕ) (name : List ℕ) (r : Rule) (is vs : Values) (xs : List Token) →
    spelled c (list name r is vs) ++ xs ≡ named name (mark r.open ∷ (spelled r.separator is ++ (mark r.close ∷ (behind_it c vs ++ xs))))
unfolding spelled
list_spelled c name r is vs xs =
    named_append name _ xs ∙ ap (λ ts. named name (mark r.open ∷ ts)) (append_assoc (spelled r.separator is) (mark r.close ∷ behind_it c vs) xs)

-- how many values there are, with those in lists
abbrev size : Values → ℕ
size none = 0
size (plain w vs) = suc (size vs)
size (list name r is vs) = suc (size is + size vs)

module _ (rs : List Rule) (u : unambiguous rs ≡ true) where
  items_has :
      (n : ℕ) (vs : Values) (r : Rule) → has_rule rs r ≡ true → well_formed rs vs ≡ true → size vs ≤ n → is_none vs ≡ false →
      Reads (items rs n) r vs
  unfolding items spelled well_formed
  items_has n none r h w l i = absurd (clash (sym i))
  items_has zero (plain v vs) r h w l i = absurd (omega arith)
  items_has zero (list name q is vs) r h w l i = absurd (omega arith)
  items_has (suc n) (plain v vs) r h w l i =
      let wf = and_parts _ (well_formed rs vs) w in
      λ p ts xs e.
      has_then _ _ (plain v none) _ _ xs (value_word rs u (items rs n) _ _ v ts _ (quiet_behind rs u (items rs n) r h vs xs) e)
      (λ rest f. more_has rs u (items rs n) r h p (plain v none) vs rest xs refl (items_has n vs r h wf.1 (omega arith)) f)
  items_has (suc n) (list name q is vs) r h w l i =
      let a = and_parts _ (well_formed rs is && well_formed rs vs) w in
      let b = and_parts (well_formed rs is) (well_formed rs vs) a.1 in
      let d = (and_parts _ (has_rule rs q) a.0).1 in
      λ p ts xs e.
      has_then _ _ (list name q is none) _ _ xs
      (value_list rs u (items rs n) _ _ name q is ts _ d b.0 (items_has n is q d b.0 (omega arith)) (e ∙ list_spelled _ name q is vs _))
      (λ rest f. more_has rs u (items rs n) r h p (list name q is none) vs rest xs refl (items_has n vs r h b.1 (omega arith)) f)

  last_has : (v : Values) (ts : List Placed) → bare ts ≡ [] → Has v [] (last rs v ts)
  last_has v [] e = (refl, refl)
  last_has v (t ∷ ts) e = let z : ◌≡◌ {A = ℕ} 0 1 = cc in absurd (omega arith)

  value_has :
      (n : ℕ) (own : ℕ → Bool) (ended : Fault) (ts : List Placed) (v : Values) → single v ≡ true → well_formed rs v ≡ true → size v ≤ n →
      bare ts ≡ spelled 0 v → Has v [] (value rs (items rs n) own ended ts)
  unfolding spelled well_formed
  value_has n own ended ts none o w l e = absurd (clash o)
  value_has n own ended ts (plain v none) o w l e = value_word rs u (items rs n) own ended v ts [] tt e
  value_has n own ended ts (plain v (plain x vs)) o w l e = absurd (clash o)
  value_has n own ended ts (plain v (list name q is vs)) o w l e = absurd (clash o)
  value_has n own ended ts (list name q is none) o w l e =
      let a = and_parts _ (well_formed rs is && true) w in
      let b = and_parts (well_formed rs is) true a.1 in
      let d = (and_parts _ (has_rule rs q) a.0).1 in
      value_list rs u (items rs n) own ended name q is ts [] d b.0 (items_has n is q d b.0 (omega arith))
      (e ∙ sym (append-nil (spelled 0 (list name q is none))) ∙ list_spelled 0 name q is none [])
  value_has n own ended ts (list name q is (plain x vs)) o w l e = absurd (clash o)
  value_has n own ended ts (list name q is (list x r js vs)) o w l e = absurd (clash o)

size_behind : (c : ℕ) (vs : Values) → size vs ≤ length (spelled c vs) → size vs ≤ length (behind_it c vs)
size_behind c none l = omega arith
size_behind c (plain w vs) l = omega arith
size_behind c (list name r is vs) l = omega arith

length_named : (name : List ℕ) (ts : List Token) → length ts ≤ length (named name ts)
length_named [] ts = omega arith
length_named (b ∷ bs) ts = omega arith

-- values are no more than their tokens
size_spelled : (c : ℕ) (vs : Values) → size vs ≤ length (spelled c vs)
unfolding spelled
size_spelled c none = omega arith
size_spelled c (plain w vs) = omega (arith, size_behind c vs (size_spelled c vs))
size_spelled c (list name r is vs) =
    let ts = spelled r.separator is ++ (mark r.close ∷ behind_it c vs) in
    omega (arith, length_named name (mark r.open ∷ ts), length-append (spelled r.separator is) (mark r.close ∷ behind_it c vs), size_spelled r.separator is, size_behind c vs (size_spelled c vs))

length_bare : (ts : List Placed) → length (bare ts) ≡ length ts
length_bare [] = refl
length_bare (t ∷ ts) = ap suc (length_bare ts)

has_all : (v : Values) (p : Parsed) → Has v [] p → p ≡ read v []
has_all v (faulty f) h = absurd h
has_all v (read u []) h = ap (λ x. read x []) h.0
has_all v (read u (t ∷ ts)) h = let e = h.1 in let z : ◌≡◌ {A = ℕ} 0 1 = cc in absurd (omega arith)

pub parse_complete : ParseComplete
unfolding parse
parse_complete rs source v u r =
    let ts = tokens rs 0 source in
    let l : length ts ≡ length (spelled 0 v) = sym (length_bare ts) ∙ ap length r.same in
    let n = suc (length ts) in
    has_all v _
    (has_then (value rs (items rs n) (λ c. false) (no_value (length source)) ts) (last rs) v v [] []
    (value_has rs u n (λ c. false) _ ts v r.one r.formed (omega (arith, size_spelled 0 v)) r.same)
    (last_has rs u v))

pub one_value : OneValue
one_value rs source v w u a b =
    let x = parse_complete rs source v u a in
    let y = parse_complete rs source w u b in
    cc
