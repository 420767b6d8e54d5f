-- Tokens of plain lists: blanks, marks and words. Assumes nothing.
use Rattle.std.proofs.Common.{◌≡◌, ℕ, suc, ◌+◌, ◌-◌, ◌<◌, ◌≤◌, Bool, true, false, cond, not, List, [], ◌∷◌, ◌++◌, length, get_or, take, drop, sym, refl, ap, ◌∙◌, arith, length-append}
use Rattle.std.proofs.lemmas.List.{take-append-drop, length-drop}
use Rattle.std.proofs.Math.Numerals.{one-add}
use Rattle.std.proofs.lemmas.List.Folds.{length-prefix_len}
use Rattle.std.proofs.lemmas.Bool.{and_parts, and_from, cond-true, cond-false, not-true, not_from_false}
use Rattle.calls.specs.Tokens.{word, mark, Placed, place, lengthen, blank, marks, in_word, word_next, tokens}
use Rattle.std.specs.List.{prefix_len}
use Rattle.calls.specs.Values.{all_in_word, empty}
use Rattle.calls.specs.declared.rule.Rule.{Rule}

third : {A : Type 0} (a b : Bool) (x y z : A) → a ≡ false → b ≡ false → cond a x (cond b y z) ≡ z
third a b x y z e f = cond-false a x (cond b y z) e ∙ cond-false b y z f

module _ (rs : List Rule) (p c : ℕ) (cs : List ℕ) where
  pub blank_skipped : blank c ≡ true → tokens rs p (c ∷ cs) ≡ tokens rs (suc p) cs
  unfolding tokens
  blank_skipped e = cond-true (blank c) _ _ e

  pub mark_first : blank c ≡ false → marks rs c ≡ true → tokens rs p (c ∷ cs) ≡ place p (mark c) ∷ tokens rs (suc p) cs
  unfolding tokens
  mark_first e f = cond-false (blank c) _ _ e ∙ cond-true (marks rs c) _ _ f

  -- a word's byte is neither a blank nor a mark
  pub word_first : in_word rs c ≡ true → tokens rs p (c ∷ cs) ≡ cond (word_next rs cs) (lengthen p c (tokens rs (suc p) cs)) (place p (word (c ∷ [])) ∷ tokens rs (suc p) cs)
  unfolding tokens
  word_first e =
      let b = and_parts (not (blank c)) (not (marks rs c)) e in
      third (blank c) (marks rs c) _ _ _ (not-true (blank c) b.0) (not-true (marks rs c) b.1)

  pub word_last : in_word rs c ≡ true → word_next rs cs ≡ false → tokens rs p (c ∷ cs) ≡ place p (word (c ∷ [])) ∷ tokens rs (suc p) cs
  word_last e f = word_first e ∙ cond-false (word_next rs cs) _ _ f

  pub word_longer : in_word rs c ≡ true → word_next rs cs ≡ true → tokens rs p (c ∷ cs) ≡ lengthen p c (tokens rs (suc p) cs)
  word_longer e f = word_first e ∙ cond-true (word_next rs cs) _ _ f

-- bytes of words before one that is none are one word
pub one_word : (rs : List Rule) (p c : ℕ) (cs rest : List ℕ) → all_in_word rs (c ∷ cs) ≡ true → word_next rs rest ≡ false → tokens rs p (c ∷ (cs ++ rest)) ≡ place p (word (c ∷ cs)) ∷ tokens rs (p + length (c ∷ cs)) rest
one_word rs p c [] rest e f =
    word_last rs p c rest (and_parts (in_word rs c) true e).0 f ∙ ap (λ n. place p (word (c ∷ [])) ∷ tokens rs n rest) (omega arith)
one_word rs p c (d ∷ ds) rest e f =
    let b = and_parts (in_word rs c) (all_in_word rs (d ∷ ds)) e in
    word_longer rs p c (d ∷ (ds ++ rest)) b.0 (and_parts (in_word rs d) (all_in_word rs ds) b.1).0
    ∙ ap (lengthen p c) (one_word rs (suc p) d ds rest b.1 f)
    ∙ ap (λ n. place p (word (c ∷ d ∷ ds)) ∷ tokens rs n rest) (omega arith)

word_run : (rs : List Rule) (p : ℕ) (w rest : List ℕ) → 0 < length w → all_in_word rs w ≡ true → word_next rs rest ≡ false → tokens rs p (w ++ rest) ≡ place p (word w) ∷ tokens rs (p + length w) rest
word_run rs p [] rest h e f = absurd (omega arith)
word_run rs p (c ∷ cs) rest h e f = one_word rs p c cs rest e f

not_empty : (w : List ℕ) → 0 < length w → empty w ≡ false
not_empty [] h = absurd (omega arith)
not_empty (c ∷ cs) h = refl

-- the tokens of what is left of a source, where the source ends at `end`
abbrev pub left_at : List Rule → (end : ℕ) → (rest : List ℕ) → List Placed
left_at rs end rest = tokens rs (end - length rest) rest

-- one byte of those in front that pass a test, or the first that does not
module _ (test : ℕ → Bool) (x : ℕ) (xs : List ℕ) (n : ℕ) where
  further : drop (1 + n) (x ∷ xs) ≡ drop n xs
  further = ap (λ m. drop m (x ∷ xs)) (one-add n)

  stop_by : (c : ℕ) (cs : List ℕ) (b : Bool) → test x ≡ b → (drop n xs ≡ c ∷ cs → test c ≡ false) → drop (cond b (1 + n) 0) (x ∷ xs) ≡ c ∷ cs → test c ≡ false
  stop_by c cs true e k is = k (sym further ∙ is)
  stop_by c cs false e k is = sym (ap (λ l. test (get_or l 0 0)) is) ∙ e

-- the byte behind those in front that pass a test does not pass it
pub stops_at : (test : ℕ → Bool) (xs : List ℕ) (c : ℕ) (cs : List ℕ) → drop (prefix_len test xs) xs ≡ c ∷ cs → test c ≡ false
stops_at test [] c cs is = let z = ap length is in absurd (omega arith)
stops_at test (x ∷ xs) c cs is = stop_by test x xs (prefix_len test xs) c cs (test x) refl (stops_at test xs c cs) is

module _ (rs : List Rule) (x : ℕ) (xs : List ℕ) (n : ℕ) where
  blank_by : (end : ℕ) → length (x ∷ xs) ≤ end → (b : Bool) → blank x ≡ b → left_at rs end xs ≡ left_at rs end (drop n xs) → left_at rs end (x ∷ xs) ≡ left_at rs end (drop (cond b (1 + n) 0) (x ∷ xs))
  blank_by end h true e k =
      blank_skipped rs (end - length (x ∷ xs)) x xs e
      ∙ ap (λ p. tokens rs p xs) (omega arith)
      ∙ k
      ∙ ap (left_at rs end) (sym (further blank x xs n))
  blank_by end h false e k = refl

  all_by : (b : Bool) → in_word rs x ≡ b → all_in_word rs (take n xs) ≡ true → all_in_word rs (take (cond b (1 + n) 0) (x ∷ xs)) ≡ true
  all_by true e k = ap (λ m. all_in_word rs (take m (x ∷ xs))) (one-add n) ∙ and_from (in_word rs x) _ e k
  all_by false e k = refl

  next_by : (b : Bool) → in_word rs x ≡ b → word_next rs (drop n xs) ≡ false → word_next rs (drop (cond b (1 + n) 0) (x ∷ xs)) ≡ false
  next_by true e k = ap (word_next rs) (further (in_word rs) x xs n) ∙ k
  next_by false e k = e

-- blanks in front are passed
pub blanks_passed : (rs : List Rule) (end : ℕ) (xs : List ℕ) → length xs ≤ end → left_at rs end xs ≡ left_at rs end (drop (prefix_len blank xs) xs)
blanks_passed rs end [] h = refl
blanks_passed rs end (x ∷ xs) h = blank_by rs x xs (prefix_len blank xs) end h (blank x) refl (blanks_passed rs end xs (omega arith))

-- the bytes of a word in front
pub word_made : (rs : List Rule) (xs : List ℕ) → all_in_word rs (take (prefix_len (in_word rs) xs) xs) ≡ true
word_made rs [] = refl
word_made rs (x ∷ xs) = all_by rs x xs (prefix_len (in_word rs) xs) (in_word rs x) refl (word_made rs xs)

-- no byte of a word stands behind them
word_ended : (rs : List Rule) (xs : List ℕ) → word_next rs (drop (prefix_len (in_word rs) xs) xs) ≡ false
word_ended rs [] = refl
word_ended rs (x ∷ xs) = next_by rs x xs (prefix_len (in_word rs) xs) (in_word rs x) refl (word_ended rs xs)

-- what is read where no blank stands in front
module _ (rs : List Rule) (end c : ℕ) (cs : List ℕ) (h : length (c ∷ cs) ≤ end) (e : blank c ≡ false) where
  pub mark_read : marks rs c ≡ true → left_at rs end (c ∷ cs) ≡ place (end - length (c ∷ cs)) (mark c) ∷ left_at rs end cs
  mark_read f =
      mark_first rs (end - length (c ∷ cs)) c cs e f
      ∙ ap (λ p. place (end - length (c ∷ cs)) (mark c) ∷ tokens rs p cs) (omega arith)

  module _ (f : marks rs c ≡ false) where
    word_length : length (take (prefix_len (in_word rs) (c ∷ cs)) (c ∷ cs)) ≡ 1 + prefix_len (in_word rs) cs
    word_length =
        length-prefix_len (in_word rs) (c ∷ cs)
        ∙ ap (λ b. cond b (1 + prefix_len (in_word rs) cs) 0) (and_from (not (blank c)) (not (marks rs c)) (not_from_false _ e) (not_from_false _ f))

    pub word_not_empty : empty (take (prefix_len (in_word rs) (c ∷ cs)) (c ∷ cs)) ≡ false
    word_not_empty = not_empty _ (omega (arith, word_length))

    pub word_read : left_at rs end (c ∷ cs) ≡ place (end - length (c ∷ cs)) (word (take (prefix_len (in_word rs) (c ∷ cs)) (c ∷ cs))) ∷ left_at rs end (drop (prefix_len (in_word rs) (c ∷ cs)) (c ∷ cs))
    word_read =
        let n = prefix_len (in_word rs) (c ∷ cs) in
        let p : ℕ = end - length (c ∷ cs) in
        let w = take n (c ∷ cs) in
        let rest = drop n (c ∷ cs) in
        let all : length w + length rest ≡ length (c ∷ cs) = sym (length-append w rest) ∙ ap length (take-append-drop n (c ∷ cs)) in
        ap (tokens rs p) (sym (take-append-drop n (c ∷ cs)))
        ∙ word_run rs p w rest (omega (arith, word_length)) (word_made rs (c ∷ cs)) (word_ended rs (c ∷ cs))
        ∙ ap (λ q. place p (word w) ∷ tokens rs q rest) (omega (arith, all, h))

-- what is read of what is left, by its part behind the blanks in front
module _ (rs : List Rule) (end : ℕ) (xs : List ℕ) (n : ℕ) (rest : List ℕ) (h : length xs ≤ end) (is : n ≡ prefix_len blank xs) (behind : rest ≡ drop n xs) where
  passed : left_at rs end xs ≡ left_at rs end rest
  passed = blanks_passed rs end xs h ∙ ap (λ m. left_at rs end (drop m xs)) (sym is) ∙ ap (left_at rs end) (sym behind)

  short : length rest ≤ end
  short = let e = ap length behind in omega (arith, e, length-drop n xs)

  pub none_next : rest ≡ [] → left_at rs end xs ≡ []
  unfolding tokens
  none_next e = passed ∙ ap (left_at rs end) e

  module _ (c : ℕ) (cs : List ℕ) (e : rest ≡ c ∷ cs) where
    whole : length (c ∷ cs) ≤ end
    whole = let l = ap length e in omega (arith, l, short)

    not_blank : blank c ≡ false
    not_blank = stops_at blank xs c cs (ap (λ m. drop m xs) (sym is) ∙ sym behind ∙ e)

    pub mark_next : marks rs c ≡ true → left_at rs end xs ≡ place (end - length rest) (mark c) ∷ left_at rs end cs
    mark_next f =
        passed ∙ ap (left_at rs end) e ∙ mark_read rs end c cs whole not_blank f ∙ ap (λ l. place (end - length l) (mark c) ∷ left_at rs end cs) (sym e)

    module _ (m : ℕ) (w others : List ℕ) (f : marks rs c ≡ false) (len : m ≡ prefix_len (in_word rs) rest) (front : w ≡ take m rest) (back : others ≡ drop m rest) where
      pub word_next_is : left_at rs end xs ≡ place (end - length rest) (word w) ∷ left_at rs end others
      word_next_is =
          passed
          ∙ ap (left_at rs end) e
          ∙ word_read rs end c cs whole not_blank f
          ∙ ap (λ l. place (end - length l) (word (take (prefix_len (in_word rs) l) l)) ∷ left_at rs end (drop (prefix_len (in_word rs) l) l)) (sym e)
          ∙ ap (λ k. place (end - length rest) (word (take k rest)) ∷ left_at rs end (drop k rest)) (sym len)
          ∙ ap (λ v. place (end - length rest) (word v) ∷ left_at rs end (drop m rest)) (sym front)
          ∙ ap (λ v. place (end - length rest) (word w) ∷ left_at rs end v) (sym back)

      pub word_is : w ≡ take (prefix_len (in_word rs) (c ∷ cs)) (c ∷ cs)
      word_is = front ∙ ap (λ k. take k rest) len ∙ ap (λ l. take (prefix_len (in_word rs) l) l) e

      pub word_formed : (empty w ≡ false) × (all_in_word rs w ≡ true)
      word_formed = (ap empty word_is ∙ word_not_empty rs end c cs whole not_blank f, ap (all_in_word rs) word_is ∙ word_made rs (c ∷ cs))
