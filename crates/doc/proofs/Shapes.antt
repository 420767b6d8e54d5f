-- What stands at an index tells the shape of the document that stands there. Assumes nothing.
use Rattle.std.proofs.Common.{◌≡◌, ℕ, ◌+◌, ◌<◌, List, [], ◌∷◌, ◌++◌, length, get_or, sym, refl, ap, ◌∙◌, subst, append_assoc, arith, length-append}
use Rattle.std.proofs.lemmas.List.{get_or_at}
use Rattle.doc.specs.Doc.{Doc, nil, text, cat, nest, line, group}
use Rattle.doc.specs.Nodes.{size, spells, laid, node, Spelled}
use Rattle.doc.specs.Reading.{no_node}
use Rattle.doc.specs.Standing.{Is, Stands}
use Rattle.doc.specs.declared.node.Kind.{Kind}
use Rattle.doc.specs.declared.node.Kind.TheVariants.{Nil, Text, Cat, Nest, Line, Group}
use Rattle.doc.specs.declared.node.Node.{Node}
use Rattle.doc.proofs.Sizes.{length_laid}

is_at : (ns before : List Node) (n : Node) (after : List Node) (x : ℕ) → ns ≡ before ++ n ∷ after → length before ≡ x → (x < length ns) × (get_or ns x no_node ≡ n)
is_at ns before n after x is e =
    (omega (arith, ap length is ∙ length-append before (n ∷ after)), ap (λ r. get_or r x no_node) is ∙ get_or_at before n after no_node x e)

-- behind a node, and behind its first part
behind : (before xs : List Node) (n : Node) (x y : ℕ) → length before ≡ x → length xs ≡ y → length (before ++ n ∷ xs) ≡ x + 1 + y
behind before xs n x y e f = length-append before (n ∷ xs) ∙ omega arith

regroup : (before xs ys : List Node) (n : Node) → before ++ n ∷ (xs ++ ys) ≡ (before ++ n ∷ xs) ++ ys
regroup before xs ys n = sym (append_assoc before (n ∷ xs) ys)

-- what a document lays down stands there
pub laid_stands : (s : List ℕ) (d : Doc) (p x : ℕ) (ns before after : List Node) → ns ≡ before ++ (laid d p x ++ after) → length before ≡ x → Spelled s d p → Stands ns d p x
unfolding laid Stands Spelled size
laid_stands s nil p x ns before after is e sp = is_at ns before _ after x is e
laid_stands s (text t) p x ns before after is e sp = (is_at ns before _ after x is e, sp.2)
laid_stands s (cat a b) p x ns before after is e sp =
    let n = node Cat (x + size (cat a b)) in
    let la = laid a (p + 1) (x + 1) in
    let lb = laid b (p + 1 + spells a) (x + 1 + size a) in (
      is_at ns before n ((la ++ lb) ++ after) x is e,
      laid_stands s a (p + 1) (x + 1) ns (before ++ n ∷ []) (lb ++ after) (is ∙ ap (λ r. before ++ n ∷ r) (append_assoc la lb after) ∙ regroup before [] (la ++ (lb ++ after)) n) (behind before [] n x 0 e refl ∙ omega arith) sp.0,
      laid_stands s b (p + 1 + spells a) (x + 1 + size a) ns (before ++ n ∷ la) after (is ∙ ap (λ r. before ++ n ∷ r) (append_assoc la lb after) ∙ regroup before la (lb ++ after) n) (behind before la n x (size a) e (length_laid a (p + 1) (x + 1))) sp.1,
    )
laid_stands s (nest k a) p x ns before after is e sp =
    let n = node (Nest k) (x + size (nest k a)) in
    let la = laid a (p + 2) (x + 1) in (
      is_at ns before n (la ++ after) x is e,
      sp.0,
      laid_stands s a (p + 2) (x + 1) ns (before ++ n ∷ []) after (is ∙ regroup before [] (la ++ after) n) (behind before [] n x 0 e refl ∙ omega arith) sp.1,
    )
laid_stands s line p x ns before after is e sp = is_at ns before _ after x is e
laid_stands s (group a) p x ns before after is e sp =
    let n = node Group (x + size (group a)) in
    let la = laid a (p + 1) (x + 1) in (
      is_at ns before n (la ++ after) x is e,
      laid_stands s a (p + 1) (x + 1) ns (before ++ n ∷ []) after (is ∙ regroup before [] (la ++ after) n) (behind before [] n x 0 e refl ∙ omega arith) sp,
    )

-- the node of a document, and where it ends
abbrev kind_of : Doc → ℕ → Kind
kind_of nil p = Nil
kind_of (text t) p = Text (p + 2) (length t)
kind_of (cat a b) p = Cat
kind_of (nest k a) p = Nest k
kind_of line p = Line
kind_of (group a) p = Group

pub stands_is : (ns : List Node) (d : Doc) (p x : ℕ) → Stands ns d p x → Is ns x (kind_of d p) (x + size d)
unfolding Stands size
stands_is ns nil p x h = h
stands_is ns (text t) p x h = h.0
stands_is ns (cat a b) p x h = h.0
stands_is ns (nest k a) p x h = h.0
stands_is ns line p x h = h
stands_is ns (group a) p x h = h.0

-- the document is what the kind of its node says
abbrev pub Shape : Kind → Doc → ℕ → Type 0
Shape Nil d p = d ≡ nil
Shape (Text start len) d p = (t : List ℕ) × (d ≡ text t) × (start ≡ p + 2) × (len ≡ length t)
Shape Cat d p = (a : Doc) × (b : Doc) × (d ≡ cat a b)
Shape (Nest k) d p = (a : Doc) × (d ≡ nest k a)
Shape Line d p = d ≡ line
Shape Group d p = (a : Doc) × (d ≡ group a)

own_shape : (d : Doc) (p : ℕ) → Shape (kind_of d p) d p
own_shape nil p = refl
own_shape (text t) p = (t, refl, refl, refl)
own_shape (cat a b) p = (a, b, refl)
own_shape (nest k a) p = (a, refl)
own_shape line p = refl
own_shape (group a) p = (a, refl)

pub shape : (ns : List Node) (d : Doc) (p x : ℕ) (k : Kind) → Stands ns d p x → (get_or ns x no_node).kind ≡ k → Shape k d p
shape ns d p x k h e = subst (λ j. Shape j d p) (sym (ap (λ n. n.kind) (stands_is ns d p x h).1) ∙ e) (own_shape d p)
