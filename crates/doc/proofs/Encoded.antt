-- What is read is plain, and stands in the bytes as it is encoded; and what is encoded is read. Assumes nothing.
use Rattle.std.proofs.Common.{◌≡◌, ℕ, zero, suc, ◌≤◌, true, cond, eqb, leb, List, [], ◌∷◌, ◌++◌, length, take, drop, Some, Option, sym, refl, ap, ◌∙◌, subst, append_assoc, append-nil, arith, length-append}
use Rattle.std.proofs.lemmas.List.{take-append-drop, length-take-le, take_at, drop_at}
use Rattle.std.proofs.lemmas.Bool.{and_parts, and_from, leb-true, le-leb, eqb-true, cond-true, cond_both}
use Rattle.std.proofs.lemmas.Bool.Decides.{nat_tests}
use Rattle.doc.specs.Doc.{Doc, nil, text, cat, nest, line, group}
use Rattle.doc.specs.Encoding.{Parse, doc, no_doc, read_byte, read_text, then_read, reads, whole, decode}
use Rattle.doc.specs.Laws.{plain, bytes, encodable, encode, ReadsPlain, EncodedOnce, Encoded}

-- what is read, if anything, is plain, and the bytes are its encoding and those behind it
abbrev Right : List ℕ → Parse → Type 0
Right bs no_doc = Unit {0}
Right bs (doc d rest) = (plain d ≡ true) × (bs ≡ encode d ++ rest)

right_then :
    (bs cs : List ℕ) (p : Parse) (f : Doc → List ℕ → Parse) → Right cs p →
    ((d : Doc) (rest : List ℕ) → plain d ≡ true → cs ≡ encode d ++ rest → Right bs (f d rest)) → Right bs (then_read p f)
right_then bs cs no_doc f h k = tt
right_then bs cs (doc d rest) f h k = k d rest h.0 h.1

right_byte : (c : ℕ) (cs : List ℕ) (f : ℕ → List ℕ → Parse) → ((b : ℕ) (bs : List ℕ) → Right (c ∷ b ∷ bs) (f b bs)) → Right (c ∷ cs) (read_byte cs f)
right_byte c [] f k = tt
right_byte c (b ∷ bs) f k = k b bs

right_text : (n : ℕ) (bs : List ℕ) → Right (1 ∷ n ∷ bs) (read_text n bs)
unfolding encode
right_text n bs =
    cond_both _ (doc (text (take n bs)) (drop n bs)) no_doc (Right (1 ∷ n ∷ bs))
    (λ e.
    let h = and_parts (leb n (length bs)) _ e in
    (h.1, λ i. 1 ∷ sym (length-take-le n bs (leb-true n (length bs) h.0)) i ∷ sym (take-append-drop n bs) i))
    (λ _. tt)

-- by the first byte
right_if : (c t : ℕ) (cs : List ℕ) (p q : Parse) → Right (t ∷ cs) p → Right (c ∷ cs) q → Right (c ∷ cs) (cond (eqb c t) p q)
right_if c t cs p q h k = cond_both (eqb c t) p q (Right (c ∷ cs)) (λ e. subst (λ b. Right (b ∷ cs) p) (sym (eqb-true c t e)) h) (λ _. k)

right : (n : ℕ) (bs : List ℕ) → Right bs (reads n bs)
unfolding reads encode
right zero bs = tt
right (suc n) [] = tt
right (suc n) (c ∷ cs) =
    right_if c 0 cs _ _ (refl, refl)
    (right_if c 1 cs _ _ (right_byte 1 cs read_text right_text)
    (right_if c 2 cs _ _
    (right_then _ cs _ _ (right n cs)
    (λ a ds p e.
    right_then _ ds _ _ (right n ds)
    (λ b es q f. (and_from _ _ p q, ap (λ bs. 2 ∷ bs) (e ∙ ap (λ bs. encode a ++ bs) f ∙ sym (append_assoc (encode a) (encode b) es))))))
    (right_if c 3 cs _ _ (right_byte 3 cs _ (λ k ds. right_then _ ds _ _ (right n ds) (λ a es p e. (p, ap (λ bs. 3 ∷ k ∷ bs) e))))
    (right_if c 4 cs _ _ (refl, refl)
    (right_if c 5 cs _ _ (right_then _ cs _ _ (right n cs) (λ a ds p e. (p, ap (λ bs. 5 ∷ bs) e))) tt)))))

right_whole : (bs : List ℕ) (p : Parse) (d : Doc) → Right bs p → whole p ≡ Some d → (plain d ≡ true) × (bs ≡ encode d)
right_whole bs no_doc d h e = let z : ◌≡◌ {A = ℕ} 0 1 = cc in absurd (omega arith)
right_whole bs (doc a []) d h e = let s : a ≡ d = cc in subst (λ x. (plain x ≡ true) × (bs ≡ encode x)) s (h.0, h.1 ∙ append-nil (encode a))
right_whole bs (doc a (b ∷ cs)) d h e = let z : ◌≡◌ {A = ℕ} 0 1 = cc in absurd (omega arith)

-- what bytes are is plain, and they are its encoding
decoded : (bs : List ℕ) (d : Doc) → decode bs ≡ Some d → (plain d ≡ true) × (bs ≡ encode d)
unfolding decode
decoded bs d =
    cond_both _ _ _ (λ (o : Option Doc). o ≡ Some d → (plain d ≡ true) × (bs ≡ encode d))
    (λ _. right_whole bs _ d (right (suc (length bs)) bs))
    (λ _. right_whole bs no_doc d tt)

pub reads_plain : ReadsPlain
reads_plain bs d e = (decoded bs d e).0

pub encoded_once : EncodedOnce
encoded_once bs cs d e f = (decoded bs d e).1 ∙ sym (decoded cs d f).1

-- the first byte takes one level
by_tag :
    (c : ℕ) (cs bs : List ℕ) (r : Parse) → ((m : ℕ) → length cs ≤ m → reads (suc m) (c ∷ bs) ≡ r) →
    (n : ℕ) → suc (length cs) ≤ n → reads n (c ∷ bs) ≡ r
by_tag c cs bs r f zero l = absurd (omega arith)
by_tag c cs bs r f (suc m) l = f m (omega arith)

text_back : (t rest : List ℕ) → encodable (text t) ≡ true → read_text (length t) (t ++ rest) ≡ doc (text t) rest
text_back t rest e =
    rw (take_at t rest (length t) refl, drop_at t rest (length t) refl)
    (cond-true _ _ _ (and_from _ _ (le-leb (length t) (length (t ++ rest)) (simp length-append (omega arith))) (grind (arith, nat_tests))))

-- what is encoded is read, by as many levels as it has bytes
read_back : (d : Doc) (rest : List ℕ) → encodable d ≡ true → (n : ℕ) → length (encode d) ≤ n → reads n (encode d ++ rest) ≡ doc d rest
unfolding reads encode
read_back nil rest e = by_tag 0 [] rest _ (λ m l. refl)
read_back (text t) rest e = by_tag 1 (length t ∷ t) _ _ (λ m l. text_back t rest e)
read_back (cat a b) rest e =
    let h = and_parts _ _ e in
    by_tag 2 (encode a ++ encode b) _ _
    (λ m l.
    let fits = simp length-append at l in
    rw (append_assoc (encode a) (encode b) rest, read_back a (encode b ++ rest) h.0 m (omega arith), read_back b rest h.1 m (omega arith)))
read_back (nest k a) rest e = by_tag 3 (k ∷ encode a) _ _ (λ m l. rw (read_back a rest (and_parts (leb k 255) (encodable a) e).1 m (omega arith)))
read_back line rest e = by_tag 4 [] rest _ (λ m l. refl)
read_back (group a) rest e = by_tag 5 (encode a) _ _ (λ m l. rw (read_back a rest e m l))

bytes_append : (xs ys : List ℕ) → bytes xs ≡ true → bytes ys ≡ true → bytes (xs ++ ys) ≡ true
bytes_append [] ys h k = k
bytes_append (x ∷ xs) ys h k = let p = and_parts _ _ h in and_from _ _ p.0 (bytes_append xs ys p.1 k)

encode_bytes : (d : Doc) → encodable d ≡ true → bytes (encode d) ≡ true
unfolding encode
encode_bytes nil e = refl
encode_bytes (text t) e = grind (arith, nat_tests)
encode_bytes (cat a b) e = let p = and_parts _ _ e in bytes_append (encode a) (encode b) (encode_bytes a p.0) (encode_bytes b p.1)
encode_bytes (nest k a) e = let p = and_parts _ _ e in and_from _ _ p.0 (encode_bytes a p.1)
encode_bytes line e = refl
encode_bytes (group a) e = encode_bytes a e

pub encoded : Encoded
unfolding decode
encoded d e few =
    let back : reads (suc (length (encode d))) (encode d) ≡ doc d [] =
    ap (reads (suc (length (encode d)))) (sym (append-nil (encode d))) ∙ read_back d [] e _ (omega arith) in
    (cond-true _ _ _ (le-leb (length (encode d)) 65536 few) ∙ ap whole back, encode_bytes d e)
