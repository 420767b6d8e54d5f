-- What one step of the writer keeps. Assumes nothing.
use Rattle.std.proofs.Common.{◌≡◌, ℕ, ◌+◌, ◌-◌, ◌<◌, List, [], ◌∷◌, ◌++◌, length, take, replicate, ap, ◌∙◌, append_assoc, add-one, arith, length-append}
use Rattle.std.proofs.lemmas.List.{take_all}
use Rattle.cost.specs.Layout.{Layout, with_text, with_line}
use Rattle.layout.specs.Writing.{Holds}
use Rattle.layout.specs.declared.writer.Writer.{Writer}

-- text that does not fit any more makes the layout too long
pub text_over : {v : Writer} {l : Layout} {n : ℕ} (t : List ℕ) → 131072 < length v.out + length t → Holds v l n → 131072 < length (l.out ++ t)
text_over t big h = simp length-append (omega (arith, ap length h.out_is))

pub text_wrote : (v u : Writer) {l : Layout} {n : ℕ} (t : List ℕ) → u.out ≡ v.out ++ t → u.column ≡ v.column + length t → u.lines ≡ v.lines → u.left ≡ v.left → Holds v l n → Holds u (with_text t l) n
text_wrote v u t o c k f h =
    record {
      out_is = o ∙ ap (λ x. x ++ t) h.out_is;
      column_is = c ∙ ap (λ x. x + length t) h.column_is;
      lines_are = k ∙ h.lines_are;
      left_are = f ∙ h.left_are;
    }

pub line_wrote : (v u : Writer) {l : Layout} {n : ℕ} (w i : ℕ) → u.out ≡ v.out ++ (10 ∷ replicate i 32) → u.column ≡ i → u.lines ≡ v.lines + 1 → u.left ≡ v.left → Holds v l n → Holds u (with_line w i l) n
line_wrote v u w i o c k f h =
    record {
      out_is = o ∙ ap (λ x. x ++ (10 ∷ replicate i 32)) h.out_is;
      column_is = c;
      lines_are = k ∙ ap (λ x. x + 1) h.lines_are ∙ add-one _;
      left_are = f ∙ h.left_are;
    }

-- the end of a line, and then blanks up to a length
pub filled_up : (out pushed exit : List ℕ) (n indent : ℕ) → pushed ≡ out ++ 10 ∷ [] → n ≡ length out + 1 + indent → exit ≡ take n pushed ++ replicate (n - length pushed) 32 → exit ≡ out ++ (10 ∷ replicate indent 32)
filled_up out pushed exit n indent p e x =
    let long : length pushed ≡ length out + 1 = ap length p ∙ length-append out (10 ∷ []) in
    let blanks : n - length pushed ≡ indent = omega arith in
    x ∙ (λ i. (take_all n pushed (omega arith) ∙ p) i ++ replicate (blanks i) 32) ∙ append_assoc out (10 ∷ []) (replicate indent 32)
