-- What is read is what the source is. Assumes nothing.
use Rattle.std.proofs.Common.{◌≡◌, ℕ, zero, suc, Bool, true, false, not, ◌&&◌, eqb, List, [], ◌∷◌, ◌++◌, length, Some, None, Option, sym, refl, ap, ◌∙◌, subst, append_assoc, append-nil, arith}
use borrow.Author.Tests.{clash}
use Rattle.std.proofs.lemmas.Bool.{and_parts, and_from, or_left, or_right, not_from_false, eqb-true, cond-false, cond_both}
use Rattle.std.proofs.lemmas.Bool.Decides.{nat_tests}
use Rattle.calls.specs.Tokens.{Token, word, mark, Placed, blank, marks, in_word, word_next, longer, lengthen, tokens}
use Rattle.calls.specs.Values.{Values, none, plain, list, is_none, named, spelled, empty, all_in_word, same_rule, has_rule, well_formed, single, bare}
use Rattle.calls.specs.Parsing.{Fault, no_value, Parsed, faulty, read, then_parsed, opened_by, opening, is_mark, with_next, Reader, inside, list_or, after_word, value_by, value, more, items, last, parse, ParseSound}
use Rattle.calls.specs.declared.rule.Rule.{Rule}
use Rattle.calls.proofs.ReadBack.{list_spelled}

-- the words are not empty, and made of their bytes alone
abbrev good : List Rule → Token → Bool
good rs (word w) = not (empty w) && all_in_word rs w
good rs (mark c) = true

abbrev worded : List Rule → List Placed → Bool
worded rs [] = true
worded rs (t ∷ ts) = good rs t.token && worded rs ts

good_longer : (rs : List Rule) (c : ℕ) (t : Token) → in_word rs c ≡ true → good rs t ≡ true → good rs (longer c t) ≡ true
good_longer rs c (word w) h g = and_from _ _ h (and_parts (not (empty w)) _ g).1
good_longer rs c (mark m) h g = refl

worded_longer : (rs : List Rule) (p c : ℕ) (ts : List Placed) → in_word rs c ≡ true → worded rs ts ≡ true → worded rs (lengthen p c ts) ≡ true
worded_longer rs p c [] h g = refl
worded_longer rs p c (t ∷ ts) h g = let a = and_parts (good rs t.token) _ g in and_from _ _ (good_longer rs c t.token h a.0) a.1

-- the words of a source are words
tokens_worded : (rs : List Rule) (p : ℕ) (cs : List ℕ) → worded rs (tokens rs p cs) ≡ true
unfolding tokens
tokens_worded rs p [] = refl
tokens_worded rs p (c ∷ cs) =
    let h = tokens_worded rs (suc p) cs in
    cond_both (blank c) _ _ (λ ts. worded rs ts ≡ true) (λ _. h)
    (λ a.
    cond_both (marks rs c) _ _ (λ ts. worded rs ts ≡ true) (λ _. h)
    (λ b.
    let w : in_word rs c ≡ true = and_from _ _ (not_from_false _ a) (not_from_false _ b) in
    cond_both (word_next rs cs) _ _ (λ ts. worded rs ts ≡ true) (λ _. worded_longer rs p c (tokens rs (suc p) cs) w h) (λ _. and_from _ _ (and_from _ _ w refl) h)))

-- what holds of what is read, if it is
abbrev WhenRead : (Values → List Placed → Type 0) → Parsed → Type 0
WhenRead P (faulty f) = Unit {0}
WhenRead P (read v ts) = P v ts

when_then :
    (P Q : Values → List Placed → Type 0) (p : Parsed) (k : Values → List Placed → Parsed) → WhenRead P p →
    ((v : Values) (ts : List Placed) → P v ts → WhenRead Q (k v ts)) → WhenRead Q (then_parsed p k)
when_then P Q (faulty f) k h g = tt
when_then P Q (read v ts) k h g = g v ts h

is_mark_true : (m : ℕ) (t : Token) → is_mark m t ≡ true → t ≡ mark m
is_mark_true m (word w) e = absurd (clash e)
is_mark_true m (mark c) e = ap mark (eqb-true c m e)

-- a rule that is found is one of the rules, and has the bracket
opened_sound : (rs : List Rule) (c : ℕ) (r : Rule) → opened_by rs c ≡ Some r → (r.open ≡ c) × (has_rule rs r ≡ true)
opened_sound [] c r = λ e. let z : ◌≡◌ {A = ℕ} 0 1 = cc in absurd (omega arith)
opened_sound (q ∷ rs) c r =
    cond_both (eqb c q.open) _ _ (λ (o : Option Rule). o ≡ Some r → (r.open ≡ c) × (has_rule (q ∷ rs) r ≡ true))
    (λ a e.
    let s : q ≡ r = cc in
    let b = eqb-true c q.open a in
    subst (λ x. (x.open ≡ c) × (has_rule (q ∷ rs) x ≡ true)) s (sym b, or_left (same_rule q q) _ (grind (arith, nat_tests))))
    (λ _ e. let h = opened_sound rs c r e in (h.0, or_right (same_rule q r) _ h.1))

-- one value was read, and the tokens behind it
record One (rs : List Rule) (ts : List Placed) (v : Values) (rest : List Placed) : Type 0 where
  pub one : single v ≡ true
  pub formed : well_formed rs v ≡ true
  pub left : worded rs rest ≡ true
  pub spelt : (c : ℕ) → bare ts ≡ spelled c v ++ bare rest

-- the values of a list were read, and its closing bracket
record Listed (rs : List Rule) (r : Rule) (ts : List Placed) (vs : Values) (rest : List Placed) : Type 0 where
  pub formed : well_formed rs vs ≡ true
  pub left : worded rs rest ≡ true
  pub spelt : bare ts ≡ spelled r.separator vs ++ (mark r.close ∷ bare rest)

-- the same, and there are some
record SomeListed (rs : List Rule) (r : Rule) (ts : List Placed) (vs : Values) (rest : List Placed) : Type 0 where
  pub listed : Listed rs r ts vs rest
  pub some : is_none vs ≡ false

when_some : (rs : List Rule) (r : Rule) (ts : List Placed) (p : Parsed) → WhenRead (SomeListed rs r ts) p → WhenRead (Listed rs r ts) p
when_some rs r ts (faulty f) h = tt
when_some rs r ts (read vs rest) h = h.listed

named_word : (w : List ℕ) (ts : List Token) → not (empty w) ≡ true → word w ∷ ts ≡ named w ts
named_word [] ts e = absurd (clash e)
named_word (b ∷ bs) ts e = refl

not_none : (v : Values) → single v ≡ true → is_none v ≡ false
not_none none e = absurd (clash e)
not_none (plain w vs) e = refl
not_none (list name r is vs) e = refl

-- a value and more of them
next_some : (v vs : Values) → is_none vs ≡ false → is_none (with_next v vs) ≡ false
next_some none vs e = e
next_some (plain w us) vs e = refl
next_some (list name r is us) vs e = refl

next_formed : (rs : List Rule) (v vs : Values) → well_formed rs v ≡ true → well_formed rs vs ≡ true → well_formed rs (with_next v vs) ≡ true
unfolding well_formed
next_formed rs none vs h k = k
next_formed rs (plain w us) vs h k = and_from _ _ (and_parts (not (empty w) && all_in_word rs w) _ h).0 k
next_formed rs (list name r is us) vs h k =
    let a = and_parts (all_in_word rs name && has_rule rs r) _ h in
    and_from _ _ a.0 (and_from _ _ (and_parts (well_formed rs is) _ a.1).0 k)

next_spelled :
    (c : ℕ) (v vs : Values) → single v ≡ true → is_none vs ≡ false → spelled c (with_next v vs) ≡ spelled c v ++ (mark c ∷ spelled c vs)
unfolding spelled
next_spelled c none vs o s = absurd (clash o)
next_spelled c (plain w none) vs o s = ap (λ ts. word w ∷ ts) (cond-false _ _ _ s)
next_spelled c (plain w (plain x us)) vs o s = absurd (clash o)
next_spelled c (plain w (list x r is us)) vs o s = absurd (clash o)
next_spelled c (list name r is none) vs o s =
    ap (λ ts. named name (mark r.open ∷ (spelled r.separator is ++ (mark r.close ∷ ts)))) (cond-false _ _ _ s)
    ∙ sym (list_spelled c name r is none (mark c ∷ spelled c vs))
next_spelled c (list name r is (plain x us)) vs o s = absurd (clash o)
next_spelled c (list name r is (list x q js us)) vs o s = absurd (clash o)

module _ (rs : List Rule) (it : Reader) (right : (r : Rule) (p : ℕ) (ts : List Placed) → worded rs ts ≡ true → WhenRead (SomeListed rs r ts) (it r p ts)) where
  inside_sound : (r : Rule) (p : ℕ) (ts : List Placed) → worded rs ts ≡ true → WhenRead (Listed rs r ts) (inside it r p ts)
  unfolding spelled well_formed
  inside_sound r p [] g = tt
  inside_sound r p (t ∷ ts) g =
      cond_both (is_mark r.close t.token) _ _ (WhenRead (Listed rs r (t ∷ ts)))
      (λ e.
      record {
        formed = refl;
        left = (and_parts (good rs t.token) _ g).1;
        spelt = ap (λ x. x ∷ bare ts) (is_mark_true r.close t.token e);
      })
      (λ _. when_some rs r (t ∷ ts) _ (right r p (t ∷ ts) g))

  list_sound :
      (name : List ℕ) (c p : ℕ) (us ts : List Placed) (other : Parsed) → all_in_word rs name ≡ true → worded rs ts ≡ true →
      bare us ≡ named name (mark c ∷ bare ts) → WhenRead (One rs us) other → (o : Option Rule) → opened_by rs c ≡ o →
      WhenRead (One rs us) (list_or it name o p ts other)
  unfolding well_formed
  list_sound name c p us ts other n g e h None f = h
  list_sound name c p us ts other n g e h (Some r) f =
      let b = opened_sound rs c r f in
      when_then (Listed rs r ts) (One rs us) (inside it r p ts) _ (inside_sound r p ts g)
      (λ vs rest l.
      record {
        one = refl;
        formed = and_from _ _ (and_from _ _ n b.1) (and_from _ _ l.formed refl);
        left = l.left;
        spelt = λ k. e ∙ (λ i. named name (mark (sym b.0 i) ∷ l.spelt i)) ∙ sym (list_spelled k name r vs none (bare rest));
      })

  -- behind a word, by the next token
  word_sound :
      (w : List ℕ) (us : List Placed) (x : Token) (p : ℕ) (ts : List Placed) (other : Parsed) → good rs (word w) ≡ true → worded rs ts ≡ true →
      bare us ≡ word w ∷ x ∷ bare ts → WhenRead (One rs us) other → WhenRead (One rs us) (list_or it w (opening rs x) p ts other)
  word_sound w us (word y) p ts other n g e h = h
  word_sound w us (mark c) p ts other n g e h =
      let a = and_parts (not (empty w)) _ n in
      list_sound w c p us ts other a.1 g (e ∙ named_word w (mark c ∷ bare ts) a.0) h (opened_by rs c) refl

  one_word : (w : List ℕ) (us ts : List Placed) → good rs (word w) ≡ true → worded rs ts ≡ true → bare us ≡ word w ∷ bare ts → One rs us (plain w none) ts
  unfolding spelled well_formed
  one_word w us ts n g e = record { one = refl; formed = and_from _ _ n refl; left = g; spelt = λ c. e }

  after_sound :
      (w : List ℕ) (us ts : List Placed) → good rs (word w) ≡ true → worded rs ts ≡ true → bare us ≡ word w ∷ bare ts →
      WhenRead (One rs us) (after_word rs it w ts)
  after_sound w us [] n g e = one_word w us [] n g e
  after_sound w us (t ∷ ts) n g e =
      word_sound w us t.token t.at ts (read (plain w none) (t ∷ ts)) n (and_parts (good rs t.token) _ g).1 e (one_word w us (t ∷ ts) n g e)

  by_sound :
      (own : ℕ → Bool) (p : ℕ) (x : Token) (us ts : List Placed) → good rs x ≡ true → worded rs ts ≡ true → bare us ≡ x ∷ bare ts →
      WhenRead (One rs us) (value_by rs it own p x ts)
  by_sound own p (word w) us ts n g e = after_sound w us ts n g e
  by_sound own p (mark c) us ts n g e = list_sound [] c p us ts (faulty _) refl g e tt (opened_by rs c) refl

  value_sound : (own : ℕ → Bool) (ended : Fault) (ts : List Placed) → worded rs ts ≡ true → WhenRead (One rs ts) (value rs it own ended ts)
  value_sound own ended [] g = tt
  value_sound own ended (t ∷ ts) g =
      let a = and_parts (good rs t.token) _ g in
      by_sound own t.at t.token (t ∷ ts) ts a.0 a.1 refl

  more_sound : (r : Rule) (p : ℕ) (us : List Placed) (v : Values) (ts : List Placed) → One rs us v ts → WhenRead (SomeListed rs r us) (more rs it r p v ts)
  more_sound r p us v [] o = tt
  more_sound r p us v (t ∷ ts) o =
      let g = (and_parts (good rs t.token) _ o.left).1 in
      let c = r.separator in
      cond_both (is_mark c t.token) _ _ (WhenRead (SomeListed rs r us))
      (λ e.
      when_then (SomeListed rs r ts) (SomeListed rs r us) (it r p ts) _ (right r p ts g)
      (λ vs rest l.
      record {
        listed =
            record {
              formed = next_formed rs v vs o.formed l.listed.formed;
              left = l.listed.left;
              spelt =
                  o.spelt c
                  ∙ (λ i. spelled c v ++ (is_mark_true c t.token e i ∷ l.listed.spelt i))
                  ∙ sym (append_assoc (spelled c v) (mark c ∷ spelled c vs) (mark r.close ∷ bare rest))
                  ∙ ap (λ xs. xs ++ (mark r.close ∷ bare rest)) (sym (next_spelled c v vs o.one l.some));
            };
        some = next_some v vs l.some;
      }))
      (λ _.
      cond_both (is_mark r.close t.token) _ _ (WhenRead (SomeListed rs r us))
      (λ e.
      record {
        listed =
            record {
              formed = o.formed;
              left = g;
              spelt = o.spelt c ∙ (λ i. spelled c v ++ (is_mark_true r.close t.token e i ∷ bare ts));
            };
        some = not_none v o.one;
      })
      (λ _. tt))

items_sound : (rs : List Rule) (n : ℕ) (r : Rule) (p : ℕ) (ts : List Placed) → worded rs ts ≡ true → WhenRead (SomeListed rs r ts) (items rs n r p ts)
unfolding items
items_sound rs zero r p ts g = tt
items_sound rs (suc n) r p ts g =
    when_then (One rs ts) (SomeListed rs r ts) _ _ (value_sound rs (items rs n) (items_sound rs n) (λ c. eqb c r.close) _ ts g)
    (λ v rest o. more_sound rs (items rs n) (items_sound rs n) r p ts v rest o)

last_sound : (rs : List Rule) (ts : List Placed) (p : Parsed) (v : Values) → WhenRead (One rs ts) p → then_parsed p (last rs) ≡ read v [] → One rs ts v []
last_sound rs ts (faulty f) v h e = let z : ◌≡◌ {A = ℕ} 0 1 = cc in absurd (omega arith)
last_sound rs ts (read u []) v h e = let s : u ≡ v = cc in subst (λ x. One rs ts x []) s h
last_sound rs ts (read u (t ∷ rest)) v h e = let z : ◌≡◌ {A = ℕ} 0 1 = cc in absurd (omega arith)

pub parse_sound : ParseSound
unfolding parse
parse_sound rs source v e =
    let ts = tokens rs 0 source in
    let n = suc (length ts) in
    let o = last_sound rs ts (value rs (items rs n) (λ c. false) (no_value (length source)) ts) v (value_sound rs (items rs n) (items_sound rs n) (λ c. false) _ ts (tokens_worded rs 0 source)) e in
    record { one = o.one; formed = o.formed; same = o.spelt 0 ∙ append-nil (spelled 0 v) }
