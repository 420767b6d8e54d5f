-- What each step of reading answers. Assumes nothing: these are definitions.
use Rattle.std.specs.Prelude.{◌≡◌, ℕ, ◌+◌, ◌<◌, ◌≤◌, false, List, [], ◌++◌, length, take, drop, None, Option, Result, MatchOption, MatchResult, slice_index, slice_index_or, slice_set}
use Rattle.doc.specs.Doc.{Doc}
use Rattle.doc.specs.Encoding.{doc, no_doc, has_newline, read_byte, read_text, reads, decode}
use Rattle.doc.specs.Nodes.{spells, laid, Spelled, RowOf, refusal_number, node}
use Rattle.doc.specs.Tags.{byte_of}
use Rattle.doc.specs.declared.tag.Tag.{Tag}
use Rattle.doc.specs.declared.node.Kind.TheVariants.{Nil}
use Rattle.doc.specs.declared.node.Node.{Node}
use Rattle.doc.specs.declared.node.ReadError.{ReadError}

-- the byte of s at a position, or none past its end
abbrev pub ByteAt : List ℕ → ℕ → Option ℕ → Type 0
ByteAt s at r = MatchOption r (length s ≤ at) (λ b. (at < length s) × (b ≡ slice_index s at))

-- the length of the text that stands in s from its length on, or none where there is no text
abbrev pub TextAt : List ℕ → ℕ → Option ℕ → Type 0
TextAt s at r =
    MatchOption r (read_byte (drop at s) read_text ≡ no_doc)
    (λ n. (at < length s) × (n ≡ slice_index s at) × (at + 1 + n ≤ length s) × (has_newline (take n (drop (at + 1) s)) ≡ false))

-- no document begins at a position, however many levels it may have
abbrev pub NotRead : List ℕ → ℕ → Type 0
NotRead s at = (n : ℕ) → length s < at + n → reads n (drop at s) ≡ no_doc

-- the tag of the document that begins at a position, or none where none begins
abbrev pub TagAt : List ℕ → ℕ → Option Tag → Type 0
TagAt s at r = MatchOption r (NotRead s at) (λ t. (at < length s) × (slice_index s at ≡ byte_of t))

-- a document stands in s from a position to the next, and its nodes were added to a row
pub record ReadOn (s : List ℕ) (at : ℕ) (old new : List Node) (next : ℕ) : Type 0 where
  pub what : Doc
  pub ends : next ≡ at + spells what
  pub within : next ≤ length s
  pub parsed : (n : ℕ) → length s < at + n → reads n (drop at s) ≡ doc what (drop next s)
  pub row_is : new ≡ old ++ laid what at (length old)
  pub spelled : Spelled s what at

-- what reading one document answers: where it ends, if there is one
abbrev pub ReadsOn : List ℕ → ℕ → (old new : List Node) → Option ℕ → Type 0
ReadsOn s at old new r = MatchOption r (NotRead s at) (ReadOn s at old new)

-- the bytes are a document, and the row is its own; or they are none
abbrev pub ReadsWhole : List ℕ → List Node → Option (Unit {0}) → Type 0
ReadsWhole s row r = MatchOption r (decode s ≡ None) (λ _. RowOf s row)

-- reading answers a row exactly where the bytes are a document; otherwise it refuses, and the row is empty
abbrev pub ReadSays : List ℕ → List Node → Result (Unit {0}) ReadError → Type 0
ReadSays s row r = MatchResult r (λ _. RowOf s row) (λ e. (refusal_number e ≡ 1) × (decode s ≡ None) × (row ≡ []))

-- a node that is not there, for reading a row past its end
abbrev pub no_node : Node
no_node = node Nil 0

-- a row in which a node ends behind all that stands after it
abbrev pub closed : List Node → ℕ → List Node
closed row place = slice_set row place (node (slice_index_or row place no_node).kind (length row))
