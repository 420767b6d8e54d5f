-- What a mark's byte is, where the rules are not ambiguous. Assumes nothing.
use Rattle.std.proofs.Common.{◌≡◌, true, false, eqb, List, [], ◌∷◌, Some, None, refl, ◌∙◌, subst, inl, inr, arith}
use borrow.Author.Tests.{clash}
use Rattle.std.proofs.lemmas.Bool.{and_parts, or_cases, eq-eqb, cond-true, cond-false}
use Rattle.std.proofs.lemmas.Bool.Decides.{nat_tests}
use Rattle.calls.specs.Values.{same_rule, has_rule, fresh, sound_rule, unambiguous}
use Rattle.calls.specs.Parsing.{opened_by}
use Rattle.calls.specs.declared.rule.Rule.{Rule}

pub same_is : (q r : Rule) → same_rule q r ≡ true → q ≡ r
same_is q r e =
    let a : q.open ≡ r.open = grind (arith, nat_tests) in
    let b : q.close ≡ r.close = grind (arith, nat_tests) in
    let c : q.separator ≡ r.separator = grind (arith, nat_tests) in
    let d : q.indent ≡ r.indent = grind (arith, nat_tests) in
    λ i. record { «open» = a i; close = b i; separator = c i; indent = d i }

-- what a rule's bytes open
pub record Told (rs : List Rule) (r : Rule) : Type 0 where
  pub opens : opened_by rs r.open ≡ Some r
  pub shuts : opened_by rs r.close ≡ None
  pub parts : opened_by rs r.separator ≡ None
  pub differ : eqb r.close r.separator ≡ false

-- the bytes of a rule that are not those of another one
record Apart (q r : Rule) : Type 0 where
  pub open_open : eqb r.open q.open ≡ false
  pub open_close : eqb r.close q.open ≡ false
  pub open_separator : eqb r.separator q.open ≡ false
  pub close_open : eqb q.close r.open ≡ false
  pub separator_open : eqb q.separator r.open ≡ false

apart : (q : Rule) (rs : List Rule) (r : Rule) → fresh (q ∷ rs) r ≡ true → Apart q r
unfolding fresh
apart q rs r e = record { open_open = grind (arith, nat_tests); open_close = grind (arith, nat_tests); open_separator = grind (arith, nat_tests); close_open = grind (arith, nat_tests); separator_open = grind (arith, nat_tests) }

-- a rule that others are apart from opens none of them
none_opens : (rs : List Rule) (r : Rule) → fresh rs r ≡ true → (opened_by rs r.close ≡ None) × (opened_by rs r.separator ≡ None)
unfolding fresh
none_opens [] r e = (refl, refl)
none_opens (q ∷ rs) r e =
    let a = apart q rs r e in
    let h = none_opens rs r (and_parts _ _ e).1 in
    (cond-false _ _ _ a.open_close ∙ h.0, cond-false _ _ _ a.open_separator ∙ h.1)

-- each rule of a row is apart from one that the row is apart from
apart_at : (rs : List Rule) (q r : Rule) → fresh rs r ≡ true → has_rule rs q ≡ true → Apart q r
unfolding fresh
apart_at [] q r e h = absurd (clash h)
apart_at (p ∷ rs) q r e h =
    elim (or_cases _ _ h) [
      | inl s ↦ subst (λ x. Apart x r) (same_is p q s) (apart p rs r e)
      | inr t ↦ apart_at rs q r (and_parts _ _ e).1 t
    ]

pub told : (rs : List Rule) (r : Rule) → unambiguous rs ≡ true → has_rule rs r ≡ true → Told rs r
unfolding unambiguous
told [] r u h = absurd (clash h)
told (q ∷ rs) r u h =
    let s = and_parts (sound_rule q) _ u in
    let f = and_parts (fresh rs q) _ s.1 in
    elim (or_cases _ _ h) [
      | inl e ↦
          subst (Told (q ∷ rs)) (same_is q r e)
          (let n = none_opens rs q f.0 in
          let sound = s.0 in
          record {
            opens = cond-true _ _ _ (eq-eqb q.open q.open refl);
            shuts = cond-false (eqb q.close q.open) _ _ (grind (arith, nat_tests)) ∙ n.0;
            parts = cond-false (eqb q.separator q.open) _ _ (grind (arith, nat_tests)) ∙ n.1;
            differ = grind (arith, nat_tests);
          })
      | inr e ↦
          (let t = told rs r f.1 e in
          let a = apart_at rs r q f.0 e in
          record {
            opens = cond-false (eqb r.open q.open) _ _ (grind (arith, nat_tests, a.open_open)) ∙ t.opens;
            shuts = cond-false _ _ _ a.close_open ∙ t.shuts;
            parts = cond-false _ _ _ a.separator_open ∙ t.parts;
            differ = t.differ;
          })
    ]
