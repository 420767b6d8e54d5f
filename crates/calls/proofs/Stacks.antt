-- Stacks of open brackets, and what one token makes of a check. Assumes nothing.
use Rattle.std.proofs.Common.{◌≡◌, ℕ, ◌+◌, ◌-◌, ◌<◌, List, [], ◌∷◌, ◌++◌, length, get_or, take, Some, None, Err, Option, sym, refl, ap, ◌∙◌, arith, Bor}
use Rattle.std.specs.Prelude.{Ok, Err, Result, IsErrAnd}
use Rattle.std.specs.Option.{option_map}
use Rattle.std.specs.Slice.{IsGetResult}
use Rattle.std.proofs.lemmas.List.{take_all, take_more, nil_from_length}
use Rattle.calls.specs.Machine as machine
use Rattle.calls.specs.Lexing.{tokens_left, token_of, Lexed}
use Rattle.calls.specs.Checking.{frame_of, stacked, frames_of, Innermost, StepSays, Told}
use Rattle.calls.specs.declared.error.CallError.{CallError}
use Rattle.calls.specs.declared.error.CallError.TheVariants.{Ambiguous, Faulty, NoMemory, Refused}
use Rattle.calls.specs.declared.lexer.Lexeme.{Lexeme}
use Rattle.calls.specs.declared.lexer.Lexemes.{Lexemes}
use Rattle.calls.specs.declared.reader.Frame.{Frame}
use Rattle.calls.specs.declared.rule.Rule.{Rule}

-- the last bracket is the first
pub stacked_push : (fs : List Frame) (f : Frame) (under : List machine.Frame) → stacked (fs ++ f ∷ []) under ≡ frame_of f ∷ stacked fs under
stacked_push [] f under = refl
stacked_push (g ∷ fs) f under = stacked_push fs f (frame_of g ∷ under)

module _ (fs : List Frame) (f : Frame) (h : 0 < length fs) where
  last_first : frames_of fs ≡ frame_of (get_or fs (length fs - 1) f) ∷ frames_of (take (length fs - 1) fs)
  last_first =
      let n : ℕ = length fs - 1 in
      ap frames_of (sym (take_all (n + 1) fs (omega arith)) ∙ take_more fs n f (omega arith))
      ∙ stacked_push (take n fs) (get_or fs n f) []

  popped_some : machine.popped (frames_of fs) ≡ frames_of (take (length fs - 1) fs)
  popped_some = ap machine.popped last_first

  last_innermost : f ≡ get_or fs (length fs - 1) f → frames_of fs ≡ frame_of f ∷ machine.popped (frames_of fs)
  last_innermost e =
      last_first
      ∙ ap (λ g. frame_of g ∷ frames_of (take (length fs - 1) fs)) (sym e)
      ∙ ap (λ gs. frame_of f ∷ gs) (sym popped_some)

popped_take : (fs : List Frame) → machine.popped (frames_of fs) ≡ frames_of (take (length fs - 1) fs)
popped_take [] = refl
popped_take (f ∷ fs) = popped_some (f ∷ fs) f (omega arith)

-- without the last bracket
pub popped_last : (fs after : List Frame) (n : ℕ) → length fs ≡ n → after ≡ take (n - 1) fs → machine.goes (machine.popped (frames_of fs)) machine.behind_value ≡ machine.goes (frames_of after) machine.behind_value
popped_last fs after n len e =
    ap (λ gs. machine.goes gs machine.behind_value)
    (popped_take fs ∙ ap (λ m. frames_of (take (m - 1) fs)) len ∙ ap frames_of (sym e))

pub innermost_last : (fs : List Frame) (r : Option (Bor Frame)) → IsGetResult fs 0 (length fs - 1) r → Innermost (frames_of fs) (option_map (λ x. x.now) r)
innermost_last fs None i = ap frames_of (nil_from_length fs (omega (arith, i.3)))
innermost_last fs (Some x) i = last_innermost fs x.now i.3.0 (i.3.1 x.now)

module _ (rs : List Rule) (end : ℕ) (stack : List machine.Frame) (e : machine.Expects) (s t : Lexemes) where
  -- after the last token
  pub machine_ends : tokens_left s ≡ [] → machine.machine rs end stack e (tokens_left s) ≡ machine.at_end end stack e
  unfolding machine.machine
  machine_ends none = ap (machine.machine rs end stack e) none

  -- the first token makes a step, and the others go on from there
  machine_steps : (x : Lexeme) → Lexed s x t → machine.machine rs end stack e (tokens_left s) ≡ machine.then_go (machine.step rs stack e x.at (token_of x.token)) (λ stack₁ e₁. machine.machine rs end stack₁ e₁ (tokens_left t))
  unfolding machine.machine
  machine_steps x l = ap (machine.machine rs end stack e) l.read

  -- a token after which reading goes on
  pub machine_goes : (x : Lexeme) (after : List machine.Frame) (f : machine.Expects) → Lexed s x t → machine.step rs stack e x.at (token_of x.token) ≡ machine.goes after f → machine.machine rs end stack e (tokens_left s) ≡ machine.machine rs end after f (tokens_left t)
  machine_goes x after f l step = machine_steps x l ∙ ap (λ u. machine.then_go u (λ stack₁ e₁. machine.machine rs end stack₁ e₁ (tokens_left t))) step

  -- a token after which it does not
  pub machine_told : (x : Lexeme) (after : List machine.Frame) (z : CallError) → Lexed s x t → StepSays (machine.step rs stack e x.at (token_of x.token)) after (Err z) → Told (machine.machine rs end stack e (tokens_left s)) (Err z)
  machine_told x after Ambiguous l says = says
  machine_told x after (Refused r) l says = says
  machine_told x after (Faulty f) l says = machine_steps x l ∙ ap (λ u. machine.then_go u (λ stack₁ e₁. machine.machine rs end stack₁ e₁ (tokens_left t))) says
  machine_told x after NoMemory l says = tt

-- the error that a `?` passes on
pub passed_on : {T E : Type 0} (r : Result T E) (z : E) → IsErrAnd r (λ y. y ≡ z) → r ≡ Err z
passed_on (Ok x) z e = absurd e
passed_on (Err y) z e = ap Err e
