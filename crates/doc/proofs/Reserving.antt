-- What callers may use of reserved rows. Assumes nothing.
use Rattle.std.proofs.Common.{◌≡◌, List, length, drop}
use Rattle.std.proofs.lemmas.List.{take_at}
use Rattle.std.specs.List.{refill}

-- items that were lent for writing are what was written, if these are as many
pub given_back : {A : Type 0} (old new : List A) → length new ≡ length old → refill (length old) old new ≡ new
given_back old new e = take_at new (drop (length new) old) (length old) e
