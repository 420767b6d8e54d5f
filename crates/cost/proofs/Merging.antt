-- Two rows merged in place, column by column, with the notes that go with it. Assumes nothing.
use Rattle.std.proofs.Common.{◌≡◌, ℕ, ◌+◌, ◌-◌, ◌<◌, ◌≤◌, Bool, cond, ◌≢◌, List, [], ◌∷◌, ◌++◌, length, get_or, set, sym, refl, ◌∙◌, add-one, arith, below_more}
use Rattle.std.proofs.lemmas.List.{append_assoc, append-nil, get_or_default, get_or-set_same, get_or-set_other}
use Rattle.cost.specs.Chosen.{below}
use Rattle.cost.specs.Price.{beats, cheaper}
use Rattle.cost.specs.Row.{along, no_cost}
use Rattle.cost.specs.declared.price.Cost.{Cost}
use Rattle.cost.proofs.Notes.{only_below}

-- a row that has changed only before a column costs the same from there on
pub along_kept : (row old : List Cost) (c d : ℕ)
    → length row ≡ length old → c < length old → ((k : ℕ) → c ≤ k → get_or row k no_cost ≡ get_or old k no_cost) → c ≤ d → along row d ≡ along old d
unfolding along
along_kept row old c d e l h m = simp (e, h d m, h (length old - 1) (omega arith))

-- what costs less at a column, and whether it is the broken row
abbrev pub taken : (flat : List Cost) (reach : ℕ) (broken : List Cost) (shift c : ℕ) → Cost
taken flat reach broken shift c = cheaper (along flat (c + reach)) (along broken (c + shift))

abbrev pub noted : (flat : List Cost) (reach : ℕ) (broken : List Cost) (shift c : ℕ) → Bool
noted flat reach broken shift c = beats (along broken (c + shift)) (along flat (c + reach))

-- both, from costs that are those of the rows
pub picked : (whole parted x flat broken : Cost) (b : Bool)
    → whole ≡ flat → parted ≡ broken → b ≡ beats parted whole → x ≡ cond b parted whole → (x ≡ cheaper flat broken) × (b ≡ beats broken flat)
picked whole parted x flat broken b e f g h = (cc, cc)

-- one value more, behind a list
pub pushed_below : {A : Type 0} (f : ℕ → A) (n : ℕ) (xs : List A) → (xs ++ below f n) ++ (f n ∷ []) ≡ xs ++ below f (n + 1)
unfolding below
pushed_below f n xs = rw add-one (append_assoc xs (below f n) (f n ∷ []))

pub none_below : {A : Type 0} (f : ℕ → A) (xs : List A) → xs ≡ xs ++ below f 0
unfolding below
none_below f xs = sym (append-nil xs)

-- the columns below c have been replaced, and those from c on are as they were
pub record Replaced (f : ℕ → Cost) (old : List Cost) (c : ℕ) (row : List Cost) : Type 0 where
  pub done : (k : ℕ) → k < c → get_or row k no_cost ≡ f k
  pub kept : (k : ℕ) → c ≤ k → get_or row k no_cost ≡ get_or old k no_cost

module _ (f : ℕ → Cost) (old : List Cost) where
  pub replaced_none : Replaced f old 0 old
  replaced_none = record { done = λ k h. absurd (omega arith); kept = λ k h. refl }

  pub replaced_more : (c : ℕ) (row : List Cost) (x : Cost) → c < length row → x ≡ f c → Replaced f old c row → Replaced f old (c + 1) (set row c x)
  replaced_more c row x l e r =
      record {
        done =
            below_more _ _
            (λ k h. let ne : k ≢ c = omega arith in get_or-set_other row c k x no_cost ne ∙ r.done k h)
            (get_or-set_same row c x no_cost l ∙ e);
        kept = λ k h. let ne : k ≢ c = omega arith in get_or-set_other row c k x no_cost ne ∙ r.kept k (omega arith);
      }

  pub replaced_all : (n : ℕ) (row : List Cost) → length row ≡ n → Replaced f old n row → row ≡ below f n
  replaced_all n row e r = only_below f n row e (λ c d h. get_or_default row c d no_cost (omega arith) ∙ r.done c h)
