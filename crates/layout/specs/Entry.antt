-- What the entry answers, and what it leaves in the output buffer. Assumes nothing: these are definitions.
use Rattle.std.specs.Prelude.{◌≡◌, ℕ, zero, suc, ◌+◌, ◌*◌, ◌/◌, ◌%◌, ◌<◌, ◌≤◌, cond, List, ◌++◌, length, drop, Some, None, Option, nat_le, Ok, Err, Result, MatchResult, IsOkAnd, IsErrAnd, codes}
use Rattle.std.specs.Fmt.{decimal}
use Rattle.std.specs.Option.{unwrap_or}
use Rattle.doc.specs.Doc.{Doc, nil}
use Rattle.doc.specs.Encoding.{decode}
use Rattle.cost.specs.Layout.{Layout}
use Rattle.cost.specs.Best.{best}
use Rattle.layout.specs.declared.laid.Laid.{Laid}
use Rattle.layout.specs.declared.refusal.Refusal.{Refusal}
use Rattle.layout.specs.declared.refusal.Refusal.TheVariants.{NotDocument, TooWide, TooLong, NoRoom}
use Rattle.layout.specs.declared.reply.Reply.{Reply}
use Rattle.layout.specs.declared.reply.Reply.TheVariants.{Lines, Refused}

-- a layout's bytes are too many, or more than there is room for
abbrev pub length_refusal : (length room : ℕ) → ℕ
length_refusal n room = cond (nat_le n 131072) (cond (nat_le n room) 0 4) 3

-- the number of the first refusal that applies to what was read
abbrev pub refusal_of : (width room : ℕ) → Option Doc → ℕ
refusal_of w room None = 1
refusal_of w room (Some d) = cond (nat_le w 255) (length_refusal (length (best w d).out) room) 2

-- the number of the first refusal that applies, or 0: 1 not a document, 2 a width above 255, 3 a layout of more than 131,072 bytes, 4 a buffer shorter than the layout
unfoldable pub refusal : (spelled : List ℕ) → (width room : ℕ) → ℕ
refusal spelled width room = refusal_of width room (decode spelled)

-- the best layout of an encoded document
unfoldable pub the_best : (spelled : List ℕ) → (width : ℕ) → Layout
the_best spelled width = best width (unwrap_or (decode spelled) nil)

-- the number of a refusal
abbrev pub refusal_number : Refusal → ℕ
refusal_number NotDocument = 1
refusal_number TooWide = 2
refusal_number TooLong = 3
refusal_number NoRoom = 4

-- how a refusal is printed
abbrev pub refusal_text : Refusal → List ℕ
refusal_text e = codes "refused " ++ decimal (refusal_number e)

-- with no refusal: how many lines ended and the layout's length, and the layout at the buffer's beginning, its rest as it was; otherwise the refusal of that number, and the buffer as it was
abbrev pub LaysOut : (spelled : List ℕ) (width : ℕ) (out : List ℕ) → (refusal : ℕ) → Result Laid Refusal → (out₁ : List ℕ) → Type 0
LaysOut spelled width out zero r out₁ =
    IsOkAnd r (λ laid.
    (laid.lines ≡ (the_best spelled width).lines)
    × (laid.length ≡ length (the_best spelled width).out)
    × (out₁ ≡ (the_best spelled width).out ++ drop (length (the_best spelled width).out) out))
LaysOut spelled width out (suc k) r out₁ = IsErrAnd r (λ e. (refusal_number e ≡ suc k) × (out₁ ≡ out))

-- an answer packed in a number: how many lines ended times 2^32 and the layout's length, or the refusal's number
abbrev pub reply_of : Result Laid Refusal → Reply
reply_of (Ok laid) = Lines (laid.lines * 4294967296 + laid.length)
reply_of (Err e) = Refused (refusal_number e)

-- how long the layout is that an answer tells of
abbrev pub reply_length : Reply → ℕ
reply_length (Lines n) = n % 4294967296
reply_length (Refused n) = 0

-- how many lines ended in the layout that an answer tells of
abbrev pub reply_lines : Reply → ℕ
reply_lines (Lines n) = n / 4294967296
reply_lines (Refused n) = 0

-- with no refusal: how many lines ended times 2^32 and the layout's length, and the layout at the buffer's beginning, its rest as it was; otherwise the number, and the buffer as it was
abbrev pub SetSays : (spelled : List ℕ) (width : ℕ) (out : List ℕ) → (refusal : ℕ) → Reply → (out₁ : List ℕ) → Type 0
SetSays spelled width out zero r out₁ =
    (r ≡ Lines (4294967296 * (the_best spelled width).lines + length (the_best spelled width).out))
    × (out₁ ≡ (the_best spelled width).out ++ drop (length (the_best spelled width).out) out)
SetSays spelled width out (suc k) r out₁ = (r ≡ Refused (suc k)) × (out₁ ≡ out)

-- the best layout was written, and what is answered is how many lines ended; or it is too long
abbrev pub LaidOut : {E : Type 0} → (spelled : List ℕ) (width : ℕ) → (written : List ℕ) → Result ℕ E → Type 0
LaidOut spelled width written r =
    MatchResult r
    (λ n. (n ≡ (the_best spelled width).lines) × (n ≤ 131072) × (written ≡ (the_best spelled width).out) × (length written ≤ 131072))
    (λ _. 131072 < length (the_best spelled width).out)
