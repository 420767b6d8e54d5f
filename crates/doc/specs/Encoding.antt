-- How documents are encoded in bytes. Assumes nothing: these are definitions.
use Rattle.std.specs.Prelude.{ℕ, zero, suc, Bool, false, cond, not, ◌&&◌, ◌||◌, List, [], ◌∷◌, length, take, drop, Some, None, Option, ◌==◌, nat_le}
use Rattle.doc.specs.Doc.{Doc, nil, text, cat, nest, line, group}

-- some byte ends a line, as none of a text may
abbrev pub has_newline : List ℕ → Bool
has_newline [] = false
has_newline (c ∷ cs) = c == 10 || has_newline cs

-- what is read from the front of some bytes: no document, or one and the bytes behind it
pub data Parse : Type 0 where
  no_doc : Parse
  doc : Doc → List ℕ → Parse

-- what is read goes on behind a document, if there was one
abbrev pub then_read : Parse → (Doc → List ℕ → Parse) → Parse
then_read no_doc f = no_doc
then_read (doc d bs) f = f d bs

-- a text of n bytes
abbrev pub read_text : ℕ → List ℕ → Parse
read_text n bs = cond (nat_le n (length bs) && not (has_newline (take n bs))) (doc (text (take n bs)) (drop n bs)) no_doc

-- one byte, and what is read behind it
abbrev pub read_byte : List ℕ → (ℕ → List ℕ → Parse) → Parse
read_byte [] f = no_doc
read_byte (b ∷ bs) f = f b bs

-- a document of at most n levels: 0 nothing; 1, how many bytes, and these; 2 and two documents; 3, how much, and one nested; 4 a line; 5 and one grouped
unfoldable pub reads : ℕ → List ℕ → Parse
reads zero bs = no_doc
reads (suc n) [] = no_doc
reads (suc n) (c ∷ cs) =
    cond (c == 0) (doc nil cs)
    (cond (c == 1) (read_byte cs read_text)
    (cond (c == 2) (then_read (reads n cs) (λ a ds. then_read (reads n ds) (λ b es. doc (cat a b) es)))
    (cond (c == 3) (read_byte cs (λ k ds. then_read (reads n ds) (λ a es. doc (nest k a) es)))
    (cond (c == 4) (doc line cs)
    (cond (c == 5) (then_read (reads n cs) (λ a ds. doc (group a) ds)) no_doc)))))

-- a document with nothing behind it
abbrev pub whole : Parse → Option Doc
whole no_doc = None
whole (doc d []) = Some d
whole (doc d (b ∷ bs)) = None

-- the document that these bytes are, if they are one, to their end, and at most 65,536
unfoldable pub decode : List ℕ → Option Doc
decode bs = cond (nat_le (length bs) 65536) (whole (reads (suc (length bs)) bs)) None
