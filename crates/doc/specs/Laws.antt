-- What may be relied on of the encoding. Each is a statement, whose proof a function of `laws` asks for. Assumes nothing.
use Rattle.std.specs.Prelude.{◌≡◌, ℕ, ◌≤◌, Bool, true, not, ◌&&◌, List, [], ◌∷◌, ◌++◌, length, Some, nat_le}
use Rattle.doc.specs.Doc.{Doc, nil, text, cat, nest, line, group}
use Rattle.doc.specs.Encoding.{has_newline, decode}

-- no text has the end of a line in it
abbrev pub plain : Doc → Bool
plain nil = true
plain (text t) = not (has_newline t)
plain (cat a b) = plain a && plain b
plain (nest k a) = plain a
plain line = true
plain (group a) = plain a

-- every document that is read is plain
abbrev pub ReadsPlain : Type 0
ReadsPlain = (bs : List ℕ) (d : Doc) → decode bs ≡ Some d → plain d ≡ true

-- all of them are bytes
abbrev pub bytes : List ℕ → Bool
bytes [] = true
bytes (c ∷ cs) = nat_le c 255 && bytes cs

-- its texts are plain, and these and its nests fit in bytes
abbrev pub encodable : Doc → Bool
encodable nil = true
encodable (text t) = nat_le (length t) 255 && (bytes t && not (has_newline t))
encodable (cat a b) = encodable a && encodable b
encodable (nest k a) = nat_le k 255 && encodable a
encodable line = true
encodable (group a) = encodable a

-- how a document is written in bytes
unfoldable pub encode : Doc → List ℕ
encode nil = 0 ∷ []
encode (text t) = 1 ∷ length t ∷ t
encode (cat a b) = 2 ∷ (encode a ++ encode b)
encode (nest k a) = 3 ∷ k ∷ encode a
encode line = 4 ∷ []
encode (group a) = 5 ∷ encode a

-- two encodings of one document are equal
abbrev pub EncodedOnce : Type 0
EncodedOnce = (bs cs : List ℕ) (d : Doc) → decode bs ≡ Some d → decode cs ≡ Some d → bs ≡ cs

-- every document that fits in bytes, and in 65,536 of them, has an encoding, which is bytes
abbrev pub Encoded : Type 0
Encoded = (d : Doc) → encodable d ≡ true → length (encode d) ≤ 65536 → (decode (encode d) ≡ Some d) × (bytes (encode d) ≡ true)
