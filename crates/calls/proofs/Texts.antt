-- What an encoder adds, and the texts of a word. Assumes nothing.
use Rattle.std.proofs.Common.{◌≡◌, ℕ, zero, suc, ◌+◌, ◌<◌, ◌≤◌, Bool, true, false, cond, leb, List, [], ◌∷◌, ◌++◌, length, take, drop, Some, None, Option, sym, refl, ap, ◌∙◌, subst, inl, inr, append_assoc, arith, length-append}
use Rattle.std.proofs.lemmas.List.{append-nil, length-drop, take_at, drop_at}
use Rattle.std.proofs.lemmas.Bool.{cases_lt, cond-true, cond-false, le-leb, lt-leb}
use Rattle.std.specs.Prelude.{Ok, Err, Result, ⊤}
use Rattle.doc.specs.Doc.{text, cat}
use Rattle.doc.specs.Laws.{encode}
use Rattle.calls.specs.Values.{texts, word_doc, bare}
use Rattle.calls.specs.Parsing.{opened_by}
use Rattle.calls.specs.Tokens.{Token, word, mark, Placed, place}
use Rattle.calls.specs.Emitting.{held, next_is, empty_list, mark_bytes, emit}
use Rattle.calls.specs.Filling.{Adds}
use Rattle.doc.specs.declared.reserved.Full.{Full}
use Rattle.calls.specs.declared.rule.Rule.{Rule}

-- the last part of a whole
pub whole_adds : (a b c x whole : List ℕ) (r : Result ⊤ Full) → b ++ x ≡ a ++ whole → Adds b c x r → Adds a c whole r
whole_adds a b c x whole (Ok u) e h = h ∙ e
whole_adds a b c x whole (Err z) e h = subst (λ (bs : List ℕ). 65536 < length bs) e h

-- a part of a whole, and what is to come
pub goes_on : (b c x rest z whole : List ℕ) → c ≡ b ++ x → x ++ rest ≡ z → b ++ z ≡ whole → c ++ rest ≡ whole
goes_on b c x rest z whole e p q = ap (λ s. s ++ rest) e ∙ append_assoc b x rest ∙ ap (λ s. b ++ s) p ∙ q

-- it does not matter how much more than a word's length is given
enough : (n m : ℕ) (w : List ℕ) → length w ≤ n → length w ≤ m → texts n w ≡ texts m w
unfolding texts
enough zero zero w h k = refl
enough zero (suc m) w h k = sym (cond-true (leb (length w) 255) _ _ (le-leb (length w) 255 (omega arith)))
enough (suc n) zero w h k = cond-true (leb (length w) 255) _ _ (le-leb (length w) 255 (omega arith))
enough (suc n) (suc m) w h k =
    elim (cases_lt 255 (length w)) [
      | inl l ↦
          let f : leb (length w) 255 ≡ false = lt-leb (length w) 255 l in
          cond-false (leb (length w) 255) _ _ f
          ∙ ap (cat (text (take 255 w))) (enough n m (drop 255 w) (simp length-drop (omega arith)) (simp length-drop (omega arith)))
          ∙ sym (cond-false (leb (length w) 255) _ _ f)
      | inr l ↦
          let t : leb (length w) 255 ≡ true = le-leb (length w) 255 l in
          cond-true (leb (length w) 255) _ _ t ∙ sym (cond-true (leb (length w) 255) _ _ t)
    ]

short_word : (w : List ℕ) → length w ≤ 255 → text w ≡ word_doc w
unfolding texts
short_word w h =
    sym (enough (length w) (suc (length w)) w (omega arith) (omega arith) ∙ cond-true (leb (length w) 255) _ _ (le-leb (length w) 255 h))

long_word : (w : List ℕ) → 255 < length w → word_doc w ≡ cat (text (take 255 w)) (word_doc (drop 255 w))
unfolding texts
long_word w h =
    enough (length w) (suc (length w)) w (omega arith) (omega arith)
    ∙ cond-false (leb (length w) 255) _ _ (lt-leb (length w) 255 h)
    ∙ ap (cat (text (take 255 w))) (enough (length w) (length (drop 255 w)) (drop 255 w) (simp length-drop (omega arith)) (omega arith))

-- a short word is one text
pub short_bytes : (w : List ℕ) → length w ≤ 255 → encode (text w) ≡ encode (word_doc w)
short_bytes w h = ap encode (short_word w h)

-- a long one is a cat, a text of 255 bytes, and the others
pub long_bytes : (a b : List ℕ) → length a ≡ 255 → 0 < length b → (2 ∷ []) ++ (encode (text a) ++ encode (word_doc b)) ≡ encode (word_doc (a ++ b))
unfolding encode
long_bytes a b h l =
    sym
    (ap encode (long_word (a ++ b) (simp length-append (omega arith)))
    ∙ (λ i. encode (cat (text (take_at a b 255 h i)) (word_doc (drop_at a b 255 h i)))))

pub text_bytes : (a b : List ℕ) → (1 ∷ (length a + length b) ∷ []) ++ (a ++ b) ≡ encode (text (a ++ b))
unfolding encode
text_bytes a b = ap (λ n. 1 ∷ n ∷ (a ++ b)) (sym (length-append a b))

-- 255 bytes of a word, and the others
pub part_bytes : (rest tail first others : List ℕ) → rest ≡ first ++ others → length first ≡ 255 → 0 < length others → (2 ∷ []) ++ (encode (text (first ++ [])) ++ encode (word_doc (others ++ tail))) ≡ encode (word_doc (rest ++ tail))
part_bytes rest tail first others e h l =
    ap (λ w. (2 ∷ []) ++ (encode (text w) ++ encode (word_doc (others ++ tail)))) (append-nil first)
    ∙ long_bytes first (others ++ tail) h (simp length-append (omega arith))
    ∙ ap (λ w. encode (word_doc w)) (sym (append_assoc first others tail) ∙ ap (λ w. w ++ tail) (sym e))

-- a word that is a little too long for one text
pub end_bytes : (name tail here behind : List ℕ) → tail ≡ here ++ behind → length name + length here ≡ 255 → 0 < length behind → length behind ≤ 2 → (2 ∷ []) ++ (encode (text (name ++ here)) ++ encode (text (behind ++ []))) ≡ encode (word_doc (name ++ tail))
end_bytes name tail here behind e h k l =
    ap (λ w. (2 ∷ []) ++ (encode (text (name ++ here)) ++ encode w)) (ap text (append-nil behind) ∙ short_word behind (omega arith))
    ∙ long_bytes (name ++ here) behind (simp length-append (omega arith)) k
    ∙ ap (λ w. encode (word_doc w)) (append_assoc name here behind ∙ ap (λ w. name ++ w) (sym e))

-- what the next token makes
module _ (rs : List Rule) where
  skipped_by : (b : Bool) (p : ℕ) (x : Token) (ts after : List Placed) → after ≡ drop (cond b 1 0) (place p x ∷ ts) → emit rs [] b (x ∷ bare ts) ≡ emit rs [] false (bare after)
  unfolding emit
  skipped_by true p (word w) ts after e = sym (ap (λ a. emit rs [] false (bare a)) e)
  skipped_by true p (mark c) ts after e = sym (ap (λ a. emit rs [] false (bare a)) e)
  skipped_by false p x ts after e = sym (ap (λ a. emit rs [] false (bare a)) e)

  skipped : (o : Option Rule) (ts after : List Placed) → after ≡ drop (cond (empty_list o (bare ts)) 1 0) ts → emit rs [] (empty_list o (bare ts)) (bare ts) ≡ emit rs [] false (bare after)
  skipped None ts after e = sym (ap (λ a. emit rs [] false (bare a)) e)
  skipped (Some r) [] after e = sym (ap (λ a. emit rs [] false (bare a)) e)
  skipped (Some r) (t ∷ ts) after e = skipped_by (next_is r.close (bare (t ∷ ts))) t.at t.token ts after e

  module _ (waiting : List ℕ) (us ts : List Placed) (at : ℕ) where
    pub word_emitted : (x : Token) (w : List ℕ) → us ≡ place at x ∷ ts → x ≡ word w → held waiting ++ emit rs w false (bare ts) ≡ emit rs waiting false (bare us)
    unfolding emit
    word_emitted x w p e = sym (ap (λ a. emit rs waiting false (bare a)) p ∙ ap (λ y. emit rs waiting false (y ∷ bare ts)) e)

    pub mark_emitted : (x : Token) (c : ℕ) (after : List Placed) → us ≡ place at x ∷ ts → x ≡ mark c → after ≡ drop (cond (empty_list (opened_by rs c) (bare ts)) 1 0) ts → mark_bytes rs waiting c (opened_by rs c) (empty_list (opened_by rs c) (bare ts)) ++ emit rs [] false (bare after) ≡ emit rs waiting false (bare us)
    unfolding emit
    mark_emitted x c after p e a =
        ap (λ z. mark_bytes rs waiting c (opened_by rs c) (empty_list (opened_by rs c) (bare ts)) ++ z) (sym (skipped (opened_by rs c) ts after a))
        ∙ sym (ap (λ l. emit rs waiting false (bare l)) p ∙ ap (λ y. emit rs waiting false (y ∷ bare ts)) e)

  pub none_emitted : (waiting : List ℕ) (us : List Placed) → us ≡ [] → held waiting ≡ emit rs waiting false (bare us)
  unfolding emit
  none_emitted waiting us e = sym (ap (λ a. emit rs waiting false (bare a)) e)
