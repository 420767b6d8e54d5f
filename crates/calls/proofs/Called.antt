-- What follows for a call from the check of its source and from its encoding. Assumes nothing.
use Rattle.std.proofs.Common.{◌≡◌, ℕ, suc, ◌<◌, true, false, List, [], ◌∷◌, length, Some, None, Err, Result, sym, refl, ap, ◌∙◌, subst, arith}
use Rattle.doc.specs.Laws.{encode}
use Rattle.doc.proofs.Encoded.{encoded as read_back}
use Rattle.doc.proofs.Parsing.{whole_long}
use Rattle.layout.specs.Entry.{refusal, LaysOut}
use Rattle.layout.specs.declared.laid.Laid.{Laid}
use Rattle.layout.specs.declared.refusal.Refusal.{Refusal}
use Rattle.layout.specs.declared.refusal.Refusal.TheVariants.{NotDocument}
use Rattle.layout.proofs.Answering.{best_is, no_document, says_refused}
use Rattle.calls.specs.Tokens.{Placed, tokens}
use Rattle.calls.specs.Values.{Values, unambiguous, ReadsAs, bare, value_doc}
use Rattle.calls.specs.Parsing.{Fault, Parsed, faulty, read, then_parsed, last, value, items, no_value, parse}
use Rattle.calls.specs.Machine.{machine, a_value, verdict}
use Rattle.calls.specs.Emitting.{emit}
use Rattle.calls.specs.Checking.{fault_of, Tells}
use Rattle.calls.specs.Calling.{LaidOut, CallSays, LaysOutValue}
use Rattle.calls.specs.declared.error.CallError.{CallError}
use Rattle.calls.specs.declared.error.CallError.TheVariants.{Ambiguous, Faulty, NoMemory, Refused}
use Rattle.calls.specs.declared.rule.Rule.{Rule}
use Rattle.calls.proofs.Sound.{parse_sound}
use Rattle.calls.proofs.ReadBack.{parse_complete}
use Rattle.calls.proofs.Stacked.{machine_tells}
use Rattle.calls.proofs.Emitted.{emits_value}
use Rattle.calls.proofs.Encodable.{value_encodable}

-- what is read of a whole source has nothing behind it
pub record Whole (p : Parsed) : Type 0 where
  pub what : Values
  pub is : p ≡ read what []

ends : (rs : List Rule) (v : Values) (ts : List Placed) → verdict (last rs v ts) ≡ None → Whole (last rs v ts)
ends rs v [] e = record { what = v; is = refl }
ends rs v (t ∷ ts) e = let z : ◌≡◌ {A = ℕ} 0 1 = cc in absurd (omega arith)

ends_after : (rs : List Rule) (p : Parsed) → verdict (then_parsed p (last rs)) ≡ None → Whole (then_parsed p (last rs))
ends_after rs (faulty f) e = let z : ◌≡◌ {A = ℕ} 0 1 = cc in absurd (omega arith)
ends_after rs (read v ts) e = ends rs v ts e

-- a source with nothing wrong is a value
pub good : (rs : List Rule) (source : List ℕ) → machine rs (length source) [] a_value (tokens rs 0 source) ≡ None → (v : Values) × ReadsAs rs source v
unfolding parse
good rs source e =
    let w = ends_after rs (value rs (items rs (suc (length (tokens rs 0 source)))) (λ c. false) (no_value (length source)) (tokens rs 0 source)) (sym (machine_tells rs source) ∙ e) in
    (w.what, parse_sound rs source w.what w.is)

told : (p : Parsed) (f : Fault) → verdict p ≡ Some f → p ≡ faulty f
told (faulty g) f e = ap faulty (cc)
told (read v ts) f e = let z : ◌≡◌ {A = ℕ} 0 1 = cc in absurd (omega arith)

-- where something is wrong, the reader of tokens tells the same
pub bad : (rs : List Rule) (source : List ℕ) (f : Fault) → machine rs (length source) [] a_value (tokens rs 0 source) ≡ Some f → parse rs source ≡ faulty f
bad rs source f e = told (parse rs source) f (sym (machine_tells rs source) ∙ e)

-- and then the source is no value
pub no_value_there : (rs : List Rule) (source : List ℕ) (f : Fault) → unambiguous rs ≡ true → parse rs source ≡ faulty f → (v : Values) → ReadsAs rs source v → ⊥
no_value_there rs source f u e v r =
    let one = parse_complete rs source v u r in
    let z : ◌≡◌ {A = ℕ} 0 1 = cc in omega arith

-- the bytes that a value's tokens make are its document's encoding
pub encoded : (rs : List Rule) (source : List ℕ) (v : Values) → unambiguous rs ≡ true → ReadsAs rs source v → emit rs [] false (bare (tokens rs 0 source)) ≡ encode (value_doc v)
encoded rs source v u r = ap (emit rs [] false) r.same ∙ emits_value rs v u r.formed r.one

-- an encoding that is too long is refused as no document
pub long_refused : (bs : List ℕ) (w : ℕ) (out exit : List ℕ) → 65536 < length bs → exit ≡ out → LaysOut bs w out (refusal bs w (length out)) (Err NotDocument) exit
long_refused bs w out exit long e = says_refused bs w out exit _ NotDocument (no_document bs w (length out) (whole_long bs long)) e

module _ (rs : List Rule) (source : List ℕ) (w : ℕ) (out exit : List ℕ) (u : unambiguous rs ≡ true) where
  pub faulty_answer : (z : CallError) → Tells rs source (Err z) → exit ≡ out → CallSays rs source w out (Err z) exit
  faulty_answer Ambiguous tells e = absurd tells
  faulty_answer (Refused r) tells e = absurd tells
  faulty_answer (Faulty f) tells e =
      let p = bad rs source (fault_of f) tells in
      (u, p, no_value_there rs source (fault_of f) u p, e)
  faulty_answer NoMemory tells e = e

  module _ (tells : machine rs (length source) [] a_value (tokens rs 0 source) ≡ None) where
    value_there : (v : Values) × ReadsAs rs source v
    value_there = good rs source tells

    bytes_are : emit rs [] false (bare (tokens rs 0 source)) ≡ encode (value_doc value_there.0)
    bytes_are = encoded rs source value_there.0 u value_there.1

    pub long_answer : 65536 < length (emit rs [] false (bare (tokens rs 0 source))) → exit ≡ out → CallSays rs source w out (Err (Refused NotDocument)) exit
    long_answer long e =
        (u, record { what = value_there.0; reads = value_there.1; says = long_refused _ w out exit (subst (λ bs. 65536 < length bs) bytes_are long) e })

    pub laid_answer : (bs : List ℕ) (r : Result Laid Refusal) → bs ≡ emit rs [] false (bare (tokens rs 0 source)) → LaysOut bs w out (refusal bs w (length out)) r exit → (unambiguous rs ≡ true) × LaidOut rs source w out r exit
    laid_answer bs r e says =
        (u, record { what = value_there.0; reads = value_there.1; says = subst (λ x. LaysOut x w out (refusal x w (length out)) r exit) (e ∙ bytes_are) says })

-- a value's document is read back from its encoding
pub lays_out_value : LaysOutValue
lays_out_value rs v w u formed bytes few =
    best_is (encode (value_doc v)) w 0 (value_doc v) (read_back (value_doc v) (value_encodable rs v u formed bytes) few).0
