-- A layout that is told of lies in the buffer. Assumes nothing.
use Rattle.std.proofs.Common.{◌≡◌, ℕ, zero, suc, ◌+◌, ◌%◌, ◌≤◌, List, length, Some, None, Option, unwrap_or, refl, ap, ◌∙◌, mul_comm, arith}
use Rattle.std.proofs.lemmas.Nat.{mod-mul-add}
use Rattle.std.proofs.lemmas.Bool.Decides.{nat_tests}
use Rattle.doc.specs.Doc.{Doc, nil}
use Rattle.doc.specs.Encoding.{decode}
use Rattle.cost.specs.Best.{best}
use Rattle.layout.specs.Entry.{refusal, refusal_of, the_best, reply_length, SetSays}
use Rattle.layout.specs.declared.reply.Reply.{Reply}

short_of : (w room : ℕ) (o : Option Doc) → refusal_of w room o ≡ 0 → (length (best w (unwrap_or o nil)).out ≤ room) × (length (best w (unwrap_or o nil)).out ≤ 131072)
short_of w room None e = absurd (omega arith)
short_of w room (Some d) e = (grind (arith, nat_tests), grind (arith, nat_tests))

by_number : (spelled : List ℕ) (w : ℕ) (out exit : List ℕ) (refused : ℕ) (r : Reply) → refusal spelled w (length out) ≡ refused → SetSays spelled w out refused r exit → reply_length r ≤ length out
unfolding refusal the_best
by_number spelled w out exit zero r e says =
    let short = short_of w (length out) (decode spelled) e in
    let l = the_best spelled w in
    omega (arith, ap reply_length says.0 ∙ ap (λ n. (n + length l.out) % 4294967296) (mul_comm 4294967296 l.lines) ∙ mod-mul-add l.lines 4294967296 (length l.out) (omega arith))
by_number spelled w out exit (suc k) r e says = omega (arith, ap reply_length says.0)

-- the length in an answer is at most the buffer's
pub within_buffer : (spelled : List ℕ) (w : ℕ) (out exit : List ℕ) (r : Reply) → SetSays spelled w out (refusal spelled w (length out)) r exit → reply_length r ≤ length out
within_buffer spelled w out exit r says = by_number spelled w out exit (refusal spelled w (length out)) r refl says
