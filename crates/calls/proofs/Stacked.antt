-- With a stack of open brackets the same is told as by recursion. Assumes nothing.
use Rattle.std.proofs.Common.{◌≡◌, ℕ, zero, suc, ◌<◌, ◌≤◌, Bool, true, false, cond, eqb, List, [], ◌∷◌, length, Some, None, Option, sym, refl, ◌∙◌, subst, arith}
use Rattle.calls.specs.Tokens.{Token, word, mark, Placed, place, tokens}
use Rattle.calls.specs.Values.{Values, none, plain, list}
use Rattle.calls.specs.Parsing.{Fault, left_open, no_value, Parsed, faulty, read, then_parsed, opened_by, not_value, with_next, Reader, inside, list_or, after_word, value_by, value, extra, more, items, last, parse}
use Rattle.calls.specs.Machine.{Frame, Expects, a_value, a_value_or_close, behind_word, behind_value, own_close, at_end, Step, goes, stops, opens_or, step_behind, step_value, then_go, machine, verdict, MachineTells}
use Rattle.calls.specs.declared.rule.Rule.{Rule}

-- what the machine tells is the fault that was found, or what it tells by `k` of the tokens behind what was read, which are at most b
abbrev Follows : Option Fault → (k : List Placed → Option Fault) → (b : ℕ) → Parsed → Type 0
Follows m k b (faulty f) = m ≡ Some f
Follows m k b (read v rest) = (m ≡ k rest) × (length rest ≤ b)

follows_then :
    (m : Option Fault) (j k : List Placed → Option Fault) (a b : ℕ) (p : Parsed) (q : Values → List Placed → Parsed) → Follows m j a p →
    ((v : Values) (rest : List Placed) → length rest ≤ a → Follows (j rest) k b (q v rest)) → Follows m k b (then_parsed p q)
follows_then m j k a b (faulty f) q h g = h
follows_then m j k a b (read v rest) q h g = subst (λ x. Follows x k b (q v rest)) (sym h.0) (g v rest h.1)

-- an open bracket
abbrev framed : Rule → ℕ → Frame
framed r p = record { rule = r; opened = p }

-- a test that both make
by_test :
    (K : List Frame → Expects → Option Fault) (k : List Placed → Option Fault) (b : ℕ) (t : Bool) (s u : Step) (p q : Parsed) →
    Follows (then_go s K) k b p → Follows (then_go u K) k b q → Follows (then_go (cond t s u) K) k b (cond t p q)
by_test K k b true s u p q g h = g
by_test K k b false s u p q g h = h

-- behind a word as behind a value, at the source's end
end_same : (end : ℕ) (stack : List Frame) → at_end end stack behind_word ≡ at_end end stack behind_value
end_same end [] = refl
end_same end (f ∷ fs) = refl

module _
    (rs : List Rule) (end n : ℕ) (it : Reader)
    (right : (r : Rule) (p : ℕ) (ts : List Placed) (stack : List Frame) → length ts < n → Follows (machine rs end (framed r p ∷ stack) a_value ts) (machine rs end stack behind_value) (length ts) (it r p ts)) where
  inside_by :
      (r : Rule) (p q : ℕ) (x : Token) (ts : List Placed) (stack : List Frame) → length (place q x ∷ ts) < n →
      Follows (machine rs end (framed r p ∷ stack) a_value_or_close (place q x ∷ ts)) (machine rs end stack behind_value) (length (place q x ∷ ts)) (inside it r p (place q x ∷ ts))
  unfolding machine
  inside_by r p q (word w) ts stack h = right r p (place q (word w) ∷ ts) stack h
  inside_by r p q (mark c) ts stack h =
      by_test (λ s e. machine rs end s e ts) (machine rs end stack behind_value) (length (place q (mark c) ∷ ts)) (eqb c r.close)
      (goes stack behind_value) (step_value rs (framed r p ∷ stack) q (mark c)) (read none ts) (it r p (place q (mark c) ∷ ts))
      (refl, omega arith) (right r p (place q (mark c) ∷ ts) stack h)

  inside_follows :
      (r : Rule) (p : ℕ) (ts : List Placed) (stack : List Frame) → length ts < n →
      Follows (machine rs end (framed r p ∷ stack) a_value_or_close ts) (machine rs end stack behind_value) (length ts) (inside it r p ts)
  unfolding machine
  inside_follows r p [] stack h = refl
  inside_follows r p (t ∷ ts) stack h = inside_by r p t.at t.token ts stack h

  list_follows :
      (name : List ℕ) (o : Option Rule) (p : ℕ) (ts : List Placed) (stack : List Frame) (other : Parsed) (s : Step) (b : ℕ) →
      length ts < n → length ts ≤ b → Follows (then_go s (λ s₁ e₁. machine rs end s₁ e₁ ts)) (machine rs end stack behind_value) b other →
      Follows (then_go (opens_or stack p o s) (λ s₁ e₁. machine rs end s₁ e₁ ts)) (machine rs end stack behind_value) b (list_or it name o p ts other)
  list_follows name None p ts stack other s b l m h = h
  list_follows name (Some r) p ts stack other s b l m h =
      follows_then (machine rs end (framed r p ∷ stack) a_value_or_close ts) (machine rs end stack behind_value) (machine rs end stack behind_value)
      (length ts) b (inside it r p ts) (λ vs rest. read (list name r vs none) rest) (inside_follows r p ts stack l) (λ vs rest k. (refl, omega arith))

  -- behind a word, by the next token
  word_by :
      (w : List ℕ) (q : ℕ) (x : Token) (ts : List Placed) (stack : List Frame) (b : ℕ) → length (place q x ∷ ts) < n → length (place q x ∷ ts) ≤ b →
      Follows (machine rs end stack behind_word (place q x ∷ ts)) (machine rs end stack behind_value) b (after_word rs it w (place q x ∷ ts))
  unfolding machine
  word_by w q (word y) ts stack b l m = (refl, m)
  word_by w q (mark c) ts stack b l m =
      list_follows w (opened_by rs c) q ts stack (read (plain w none) (place q (mark c) ∷ ts)) (step_behind rs stack q (mark c)) b (omega arith) (omega arith) (refl, m)

  after_follows :
      (w : List ℕ) (ts : List Placed) (stack : List Frame) (b : ℕ) → length ts < n → length ts ≤ b →
      Follows (machine rs end stack behind_word ts) (machine rs end stack behind_value) b (after_word rs it w ts)
  unfolding machine
  after_follows w [] stack b l m = (end_same end stack, m)
  after_follows w (t ∷ ts) stack b l m = word_by w t.at t.token ts stack b l m

  value_follows_by :
      (q : ℕ) (x : Token) (ts : List Placed) (stack : List Frame) → length (place q x ∷ ts) ≤ n →
      Follows (machine rs end stack a_value (place q x ∷ ts)) (machine rs end stack behind_value) (length (place q x ∷ ts)) (value_by rs it (own_close stack) q x ts)
  unfolding machine
  value_follows_by q (word w) ts stack l = after_follows w ts stack (length (place q (word w) ∷ ts)) (omega arith) (omega arith)
  value_follows_by q (mark c) ts stack l =
      let f = not_value rs (own_close stack c) q c in
      list_follows [] (opened_by rs c) q ts stack (faulty f) (stops f) (length (place q (mark c) ∷ ts)) (omega arith) (omega arith) refl

  value_follows :
      (ended : Fault) (ts : List Placed) (stack : List Frame) → at_end end stack a_value ≡ Some ended → length ts ≤ n →
      Follows (machine rs end stack a_value ts) (machine rs end stack behind_value) (length ts) (value rs it (own_close stack) ended ts)
  unfolding machine
  value_follows ended [] stack e l = e
  value_follows ended (t ∷ ts) stack e l = value_follows_by t.at t.token ts stack l

  more_by :
      (r : Rule) (p : ℕ) (v : Values) (q : ℕ) (x : Token) (ts : List Placed) (stack : List Frame) (b : ℕ) →
      length (place q x ∷ ts) ≤ n → length (place q x ∷ ts) ≤ b →
      Follows (machine rs end (framed r p ∷ stack) behind_value (place q x ∷ ts)) (machine rs end stack behind_value) b (more rs it r p v (place q x ∷ ts))
  unfolding machine
  more_by r p v q (word w) ts stack b l m = refl
  more_by r p v q (mark c) ts stack b l m =
      let K : List Frame → Expects → Option Fault = λ s e. machine rs end s e ts in
      let k = machine rs end stack behind_value in
      let f = extra rs (place q (mark c)) in
      let next = then_parsed (it r p ts) (λ vs rest. read (with_next v vs) rest) in
      by_test K k b (eqb c r.separator) (goes (framed r p ∷ stack) a_value) (cond (eqb c r.close) (goes stack behind_value) (stops f))
      next (cond (eqb c r.close) (read v ts) (faulty f))
      (follows_then (machine rs end (framed r p ∷ stack) a_value ts) k k (length ts) b (it r p ts) (λ vs rest. read (with_next v vs) rest)
      (right r p ts stack (omega arith)) (λ vs rest j. (refl, omega arith)))
      (by_test K k b (eqb c r.close) (goes stack behind_value) (stops f) (read v ts) (faulty f) (refl, omega arith) refl)

  more_follows :
      (r : Rule) (p : ℕ) (v : Values) (ts : List Placed) (stack : List Frame) (b : ℕ) → length ts ≤ n → length ts ≤ b →
      Follows (machine rs end (framed r p ∷ stack) behind_value ts) (machine rs end stack behind_value) b (more rs it r p v ts)
  unfolding machine
  more_follows r p v [] stack b l m = refl
  more_follows r p v (t ∷ ts) stack b l m = more_by r p v t.at t.token ts stack b l m

items_follows :
    (rs : List Rule) (end n : ℕ) (r : Rule) (p : ℕ) (ts : List Placed) (stack : List Frame) → length ts < n →
    Follows (machine rs end (framed r p ∷ stack) a_value ts) (machine rs end stack behind_value) (length ts) (items rs n r p ts)
unfolding items
items_follows rs end zero r p ts stack h = absurd (omega arith)
items_follows rs end (suc n) r p ts stack h =
    follows_then (machine rs end (framed r p ∷ stack) a_value ts) (machine rs end (framed r p ∷ stack) behind_value) (machine rs end stack behind_value)
    (length ts) (length ts) (value rs (items rs n) (λ c. eqb c r.close) (left_open p) ts) (more rs (items rs n) r p)
    (value_follows rs end n (items rs n) (items_follows rs end n) (left_open p) ts (framed r p ∷ stack) refl (omega arith))
    (λ v rest l. more_follows rs end n (items rs n) (items_follows rs end n) r p v rest stack (length ts) (omega arith) l)

last_by :
    (rs : List Rule) (end q : ℕ) (x : Token) (ts : List Placed) → machine rs end [] behind_value (place q x ∷ ts) ≡ Some (extra rs (place q x))
unfolding machine
last_by rs end q (word w) ts = refl
last_by rs end q (mark c) ts = refl

last_follows :
    (rs : List Rule) (end : ℕ) (m : Option Fault) (b : ℕ) (p : Parsed) → Follows m (machine rs end [] behind_value) b p → m ≡ verdict (then_parsed p (last rs))
unfolding machine
last_follows rs end m b (faulty f) h = h
last_follows rs end m b (read v []) h = h.0
last_follows rs end m b (read v (t ∷ ts)) h = h.0 ∙ last_by rs end t.at t.token ts

pub machine_tells : MachineTells
unfolding parse
machine_tells rs source =
    let end = length source in
    let ts = tokens rs 0 source in
    let n = suc (length ts) in
    last_follows rs end (machine rs end [] a_value ts) (length ts) (value rs (items rs n) (λ c. false) (no_value end) ts)
    (value_follows rs end n (items rs n) (items_follows rs end n) (no_value end) ts [] refl (omega arith))
