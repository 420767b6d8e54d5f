-- What is to be written of a document's parts, and what has been written in the end. Assumes nothing.
use Rattle.std.proofs.Common.{◌≡◌, ℕ, suc, ◌+◌, ◌-◌, ◌<◌, ◌≤◌, min, Bool, false, List, [], ◌∷◌, ◌++◌, length, get_or, take, drop, Ok, Err, Result, IsErr, MatchResult, sym, refl, ap, ◌∙◌, subst, append_assoc, append-nil, arith, length-append}
use Rattle.std.proofs.lemmas.Bool.{false≢true}
use Rattle.std.proofs.lemmas.List.{take_at, take-take, length-take-le, get_or-append_right, get_or-take}
use Rattle.doc.specs.Doc.{Doc, nil, text, cat, nest, line, group}
use Rattle.doc.specs.Nodes.{size, spells, Spelled}
use Rattle.doc.specs.Reading.{no_node}
use Rattle.doc.specs.Standing.{Stands}
use Rattle.doc.specs.declared.node.Kind.{Kind}
use Rattle.doc.specs.declared.node.Kind.TheVariants.{Nil, Text, Cat, Nest, Line, Group}
use Rattle.doc.proofs.Sizes.{some_node}
use Rattle.doc.proofs.Shapes.{Shape, stands_is, shape}
use Rattle.cost.specs.Layout.{Layout, with_text, with_line}
use Rattle.cost.specs.ToGo.{to_go}
use Rattle.cost.specs.Chosen.{below, breaks, notes, decided, line_chosen, chosen}
use Rattle.cost.specs.declared.price.Mode.{Mode}
use Rattle.cost.specs.declared.price.Mode.TheVariants.{Flat, Broken}
use Rattle.cost.proofs.Notes.{length_below, get_or_below}
use Rattle.layout.specs.Writing.{Holds, SameButLeft, Task, Wrote, Writes}
use Rattle.layout.specs.declared.plan.Plan.{Plan}
use Rattle.doc.specs.declared.reserved.Full.{Full}
use Rattle.layout.specs.declared.writer.Writer.{Writer}

line_grows : (w i : ℕ) (m : Mode) (l : Layout) → length l.out ≤ length (line_chosen w i m l).out
line_grows w i Flat l = simp length-append (omega arith)
line_grows w i Broken l = simp length-append (omega arith)

-- a layout only grows
pub grows : (w : ℕ) (d : Doc) (i : ℕ) (m : Mode) (k : ℕ → Layout) (l : Layout) → length l.out ≤ length (chosen w d i m k l).out
unfolding chosen
grows w nil i m k l = omega arith
grows w (text t) i m k l = simp length-append (omega arith)
grows w (cat a b) i m k l =
    omega (arith, grows w a i m (to_go w b i m k) l, grows w b i m k (chosen w a i m (to_go w b i m k) l))
grows w (nest j a) i m k l = grows w a (j + i) m k l
grows w line i m k l = line_grows w i m l
grows w (group a) i m k l = grows w a i _ k l

-- on one line nothing depends on what stands behind
flat_alike : (w : ℕ) (d : Doc) (i : ℕ) (j k : ℕ → Layout) (l : Layout) → chosen w d i Flat j l ≡ chosen w d i Flat k l
unfolding chosen
flat_alike w nil i j k l = refl
flat_alike w (text t) i j k l = refl
flat_alike w (cat a b) i j k l =
    flat_alike w b i j k _ ∙ ap (chosen w b i Flat k) (flat_alike w a i (to_go w b i Flat j) (to_go w b i Flat k) l)
flat_alike w (nest h a) i j k l = flat_alike w a (h + i) j k l
flat_alike w line i j k l = refl
flat_alike w (group a) i j k l = flat_alike w a i j k l

-- in both modes, the first part is written as if the second were broken
pub chosen_cat : (w : ℕ) (a b : Doc) (i : ℕ) (m : Mode) (k : ℕ → Layout) (l : Layout) → chosen w (cat a b) i m k l ≡ chosen w b i m k (chosen w a i m (to_go w b i Broken k) l)
unfolding chosen
chosen_cat w a b i Flat k l = ap (chosen w b i Flat k) (flat_alike w a i _ _ l)
chosen_cat w a b i Broken k l = refl

-- what is written is this layout, under another name
pub wrote_as : (u : Writer) (l k : Layout) (n m : ℕ) (r : Result (Unit {0}) Full) → l ≡ k → n ≡ m → Wrote u l n r → Wrote u k m r
wrote_as u l k n m r e f h = subst (λ x. Wrote u x m r) e (subst (λ x. Wrote u l x r) f h)

-- a fact of every error holds of a result that is one
pub at_error : {T E : Type 0} (r : Result T E) (P : T → Type 0) (Q : Type 0) → IsErr r → Q → MatchResult r P (λ _. Q)
at_error (Ok x) P Q h q = absurd (false≢true h)
at_error (Err e) P Q h q = q

-- what a writer holds, with its notes by another number
pub left_as : (v : Writer) (l : Layout) (n m : ℕ) → n ≡ m → Holds v l n → Holds v l m
left_as v l n m f h = subst (Holds v l) f h

module _ {plan : Plan} {at i left : ℕ} (t : Task plan at i left) where
  pub place : at < length plan.nodes.now
  place = (stands_is plan.nodes.now t.what t.from at t.stands).0

  pub node_shape : (k : Kind) → (get_or plan.nodes.now at no_node).kind ≡ k → Shape k t.what t.from
  node_shape k e = shape plan.nodes.now t.what t.from at k t.stands e

  pub stands_as : (d : Doc) → t.what ≡ d → Stands plan.nodes.now d t.from at
  stands_as d e = subst (λ x. Stands plan.nodes.now x t.from at) e t.stands

  spelled_as : (d : Doc) → t.what ≡ d → Spelled plan.source.now d t.from
  spelled_as d e = subst (λ x. Spelled plan.source.now x t.from) e t.spelled

  decisions_as : (d : Doc) → t.what ≡ d → take left plan.notes.now ≡ t.before ++ notes plan.width d i t.rest
  decisions_as d e = t.decisions ∙ ap (λ x. t.before ++ notes plan.width x i t.rest) e

  -- a document without groups leaves all notes
  pub none_used : (d : Doc) → t.what ≡ d → notes plan.width d i t.rest ≡ [] → left ≡ length t.before
  none_used d e none =
      sym (length-take-le left plan.notes.now t.within) ∙ ap length (decisions_as d e ∙ ap (λ x. t.before ++ x) none ∙ append-nil t.before)

  pub first_task : (a b : Doc) → t.what ≡ cat a b → Task plan (at + 1) i left
  unfolding Stands Spelled notes
  first_task a b e = record {
    what = a;
    from = t.from + 1;
    rest = to_go plan.width b i Broken t.rest;
    before = t.before ++ notes plan.width b i t.rest;
    stands = (stands_as (cat a b) e).1;
    spelled = (spelled_as (cat a b) e).0;
    decisions = decisions_as (cat a b) e ∙ sym (append_assoc t.before _ _);
    within = t.within;
    shallow = omega (arith, t.shallow);
    few = t.few;
  }

  -- what is left of the notes after those at their end
  earlier : (x y : List Bool) (n : ℕ) → take left plan.notes.now ≡ x ++ y → n ≡ length x → (take n plan.notes.now ≡ x) × (n ≤ length plan.notes.now)
  earlier x y n e f =
      let long : left ≡ length x + length y = sym (length-take-le left plan.notes.now t.within) ∙ ap length e ∙ length-append x y in
      (sym (take-take n left plan.notes.now (omega arith)) ∙ ap (take n) e ∙ take_at x y n (sym f), omega (arith, t.within))

  pub second_task : (a b : Doc) (e : t.what ≡ cat a b) (n : ℕ) → n ≡ length (t.before ++ notes plan.width b i t.rest) → Task plan (at + 1 + size a) i n
  unfolding Stands Spelled notes
  second_task a b e n f =
      let kept = earlier (t.before ++ notes plan.width b i t.rest) _ n (decisions_as (cat a b) e ∙ sym (append_assoc t.before _ _)) f in
      record {
        what = b;
        from = t.from + 1 + spells a;
        rest = t.rest;
        before = t.before;
        stands = (stands_as (cat a b) e).2;
        spelled = (spelled_as (cat a b) e).1;
        decisions = kept.0;
        within = kept.1;
        shallow = omega (arith, t.shallow);
        few = t.few;
      }

  pub nest_task : (j : ℕ) (a : Doc) → t.what ≡ nest j a → Task plan (at + 1) (i + j) left
  unfolding Stands Spelled notes
  nest_task j a e = record {
    what = a;
    from = t.from + 2;
    rest = t.rest;
    before = t.before;
    stands = (stands_as (nest j a) e).2;
    spelled = (spelled_as (nest j a) e).1;
    decisions = decisions_as (nest j a) e ∙ ap (λ x. t.before ++ notes plan.width a x t.rest) (omega arith);
    within = t.within;
    shallow = omega (arith, t.shallow, (stands_as (nest j a) e).1);
    few = t.few;
  }

  -- a group's own notes are the last ones
  own_notes : (a : Doc) → List Bool
  own_notes a = below (λ c. breaks plan.width (to_go plan.width a i Flat t.rest c) (to_go plan.width a i Broken t.rest c)) (suc plan.width)

  group_left : (a : Doc) → t.what ≡ group a → take left plan.notes.now ≡ (t.before ++ notes plan.width a i t.rest) ++ own_notes a
  unfolding notes own_notes
  group_left a e = decisions_as (group a) e ∙ sym (append_assoc t.before _ _)

  group_long : (a : Doc) → t.what ≡ group a → left ≡ length (t.before ++ notes plan.width a i t.rest) + suc plan.width
  unfolding own_notes
  group_long a e =
      sym (length-take-le left plan.notes.now t.within) ∙ ap length (group_left a e) ∙ length-append (t.before ++ notes plan.width a i t.rest) (own_notes a) ∙ ap (λ n. length (t.before ++ notes plan.width a i t.rest) + n) (length_below _ (suc plan.width))

  pub group_some : (a : Doc) → t.what ≡ group a → plan.width + 1 ≤ left
  group_some a e = omega (arith, group_long a e)

  -- the note for a column
  pub group_note : (a : Doc) → t.what ≡ group a → (c : ℕ) → c ≤ plan.width → get_or plan.notes.now (left - (plan.width + 1) + c) false ≡ breaks plan.width (to_go plan.width a i Flat t.rest c) (to_go plan.width a i Broken t.rest c)
  unfolding own_notes
  group_note a e c h =
      let x = t.before ++ notes plan.width a i t.rest in
      let long = group_long a e in
      sym (get_or-take left plan.notes.now (left - (plan.width + 1) + c) false (omega arith))
      ∙ ap (λ r. get_or r (left - (plan.width + 1) + c) false) (group_left a e)
      ∙ get_or-append_right x (own_notes a) (length x) (left - (plan.width + 1) + c) false refl (omega arith)
      ∙ ap (λ n. get_or (own_notes a) n false) (omega arith)
      ∙ get_or_below _ (suc plan.width) c false (omega arith)

  pub group_task : (a : Doc) → t.what ≡ group a → (n : ℕ) → n ≡ left - (plan.width + 1) → Task plan (at + 1) i n
  unfolding Stands Spelled
  group_task a e n f =
      let kept = earlier (t.before ++ notes plan.width a i t.rest) (own_notes a) n (group_left a e) (omega (arith, group_long a e)) in
      record {
        what = a;
        from = t.from + 1;
        rest = t.rest;
        before = t.before;
        stands = (stands_as (group a) e).1;
        spelled = spelled_as (group a) e;
        decisions = kept.0;
        within = kept.1;
        shallow = omega (arith, t.shallow);
        few = t.few;
      }

-- the layout that a writer holds
so_far : Writer → Layout
so_far v = record { out = v.out; column = v.column; over = 0; lines = v.lines }

holds_so_far : (v : Writer) → Holds v (so_far v) v.left
unfolding so_far
holds_so_far v = record { out_is = refl; column_is = refl; lines_are = refl; left_are = refl }

-- a line by its mode
module _ (w i : ℕ) (m : Mode) (v u : Writer) (r : Result (Unit {0}) Full) where
  pub flat_line : m ≡ Flat → ((l : Layout) (left : ℕ) → Holds v l left → Wrote u (with_text (32 ∷ []) l) left r) → (l : Layout) (left : ℕ) → Holds v l left → Wrote u (line_chosen w i m l) left r
  flat_line e f l left h = subst (λ x. Wrote u (line_chosen w i x l) left r) (sym e) (f l left h)

  pub broken_line : m ≡ Broken → ((l : Layout) (left : ℕ) → Holds v l left → Wrote u (with_line w i l) left r) → (l : Layout) (left : ℕ) → Holds v l left → Wrote u (line_chosen w i m l) left r
  broken_line e f l left h = subst (λ x. Wrote u (line_chosen w i x l) left r) (sym e) (f l left h)

module _ (plan : Plan) (at i : ℕ) (m : Mode) (v : Writer) where
  pub text_ready : (start len : ℕ) → (get_or plan.nodes.now at no_node).kind ≡ Text start len → Task plan at i v.left → (start + len ≤ length plan.source.now) × (len ≤ 255)
  unfolding Spelled
  text_ready start len is t =
      let p = node_shape t (Text start len) is in
      let q = spelled_as t (text p.0) p.1 in
      (omega (arith, p.2, p.3, q.1), omega (arith, p.3, q.2))

  pub nil_writes : (get_or plan.nodes.now at no_node).kind ≡ Nil → Writes plan at i m v v (Ok tt)
  unfolding chosen notes
  nil_writes is t l h =
      let e = node_shape t Nil is in
      wrote_as v _ _ _ _ (Ok tt) (ap (λ d. chosen plan.width d i m t.rest l) (sym e)) (none_used t nil e refl) h

  pub text_writes : (start len : ℕ) (u : Writer) (r : Result (Unit {0}) Full) (part : List ℕ) → (get_or plan.nodes.now at no_node).kind ≡ Text start len → part ≡ take len (drop start plan.source.now) → ((l : Layout) (left : ℕ) → Holds v l left → Wrote u (with_text part l) left r) → Writes plan at i m v u r
  unfolding chosen notes Spelled
  text_writes start len u r part is cut f t l h =
      let p = node_shape t (Text start len) is in
      let e = p.1 in
      let q = spelled_as t (text p.0) e in
      let same : part ≡ p.0 = cut ∙ (λ x. take (p.3 x) (drop (p.2 x) plan.source.now)) ∙ q.0 in
      wrote_as u _ _ _ _ r (ap (λ x. with_text x l) same ∙ ap (λ d. chosen plan.width d i m t.rest l) (sym e)) (none_used t (text p.0) e refl) (f l v.left h)

  pub line_writes : (u : Writer) (r : Result (Unit {0}) Full) → (get_or plan.nodes.now at no_node).kind ≡ Line → ((l : Layout) (left : ℕ) → Holds v l left → Wrote u (line_chosen plan.width i m l) left r) → Writes plan at i m v u r
  unfolding chosen notes
  line_writes u r is f t l h =
      let e = node_shape t Line is in
      wrote_as u _ _ _ _ r (ap (λ d. chosen plan.width d i m t.rest l) (sym e)) (none_used t line e refl) (f l v.left h)

  pub nest_ready : (j : ℕ) → (get_or plan.nodes.now at no_node).kind ≡ Nest j → Task plan at i v.left → Task plan (at + 1) (i + j) v.left
  nest_ready j is t = let p = node_shape t (Nest j) is in nest_task t j p.0 p.1

  pub nest_writes : (j : ℕ) (u : Writer) (r : Result (Unit {0}) Full) → (get_or plan.nodes.now at no_node).kind ≡ Nest j → Writes plan (at + 1) (i + j) m v u r → Writes plan at i m v u r
  unfolding chosen nest_task
  nest_writes j u r is f t l h =
      let p = node_shape t (Nest j) is in
      let e = p.1 in
      let swap : i + j ≡ j + i = omega arith in
      wrote_as u _ _ _ _ r (ap (λ x. chosen plan.width p.0 x m t.rest l) swap ∙ ap (λ d. chosen plan.width d i m t.rest l) (sym e)) refl (f (nest_task t j p.0 e) l h)

  module _ (is : (get_or plan.nodes.now at no_node).kind ≡ Cat) where
    -- where the second part stands
    second_at : (t : Task plan at i v.left) → (a b : Doc) → t.what ≡ cat a b → (get_or plan.nodes.now (at + 1) no_node).end ≡ at + 1 + size a
    unfolding Stands
    second_at t a b e = ap (λ n. n.end) (stands_is plan.nodes.now a (t.from + 1) (at + 1) (stands_as t (cat a b) e).1).1

    pub cat_places : Task plan at i v.left → (at + 1 < length plan.nodes.now) × (at + 1 < (get_or plan.nodes.now (at + 1) no_node).end)
    unfolding Stands
    cat_places t =
        let p = node_shape t Cat is in
        ((stands_is plan.nodes.now p.0 (t.from + 1) (at + 1) (stands_as t (cat p.0 p.1) p.2).1).0, omega (arith, second_at t p.0 p.1 p.2, some_node p.0))

    pub first_ready : Task plan at i v.left → Task plan (at + 1) i v.left
    first_ready t = let p = node_shape t Cat is in first_task t p.0 p.1 p.2

    module _ (u : Writer) (r : Result (Unit {0}) Full) (f : Writes plan (at + 1) i m v u r) where
      -- the layout up to the second part, and the notes that are left
      halfway : (t : Task plan at i v.left) (a b : Doc) → t.what ≡ cat a b → (l : Layout) → Holds v l v.left → Wrote u (chosen plan.width a i m (to_go plan.width b i Broken t.rest) l) (length (t.before ++ notes plan.width b i t.rest)) r
      unfolding first_task
      halfway t a b e l h = f (first_task t a b e) l h

    -- how the layout behind both parts is named
    cat_name : (t : Task plan at i v.left) (a b : Doc) → t.what ≡ cat a b → (l : Layout) → chosen plan.width b i m t.rest (chosen plan.width a i m (to_go plan.width b i Broken t.rest) l) ≡ chosen plan.width t.what i m t.rest l
    cat_name t a b e l = sym (chosen_cat plan.width a b i m t.rest l) ∙ ap (λ d. chosen plan.width d i m t.rest l) (sym e)

    -- where the first part makes the layout too long, both do
    pub cat_stops : (u : Writer) (x : Full) → Writes plan (at + 1) i m v u (Err x) → (r : Result (Unit {0}) Full) → IsErr r → Writes plan at i m v u r
    cat_stops u x f r stops t l h =
        let p = node_shape t Cat is in
        let k = t.rest in
        let mid = chosen plan.width p.0 i m (to_go plan.width p.1 i Broken k) l in
        let big : 131072 < length mid.out = halfway u (Err x) f t p.0 p.1 p.2 l h in
        at_error r _ _ stops (omega (arith, big, grows plan.width p.1 i m k mid, ap (λ y. length y.out) (cat_name t p.0 p.1 p.2 l)))

    module _ (u : Writer) (f : Writes plan (at + 1) i m v u (Ok tt)) where
      pub second_ready : Task plan at i v.left → Task plan (get_or plan.nodes.now (at + 1) no_node).end i u.left
      second_ready t =
          let p = node_shape t Cat is in
          let e = p.2 in
          let half : Holds u _ _ = halfway u (Ok tt) f t p.0 p.1 e (so_far v) (holds_so_far v) in
          subst (λ x. Task plan x i u.left) (sym (second_at t p.0 p.1 e)) (second_task t p.0 p.1 e u.left half.left_are)

      pub cat_writes : (x : Writer) (r : Result (Unit {0}) Full) → Writes plan (get_or plan.nodes.now (at + 1) no_node).end i m u x r → Writes plan at i m v x r
      unfolding second_task
      cat_writes x r g t l h =
          let p = node_shape t Cat is in
          let a = p.0 in
          let b = p.1 in
          let e = p.2 in
          let mid = chosen plan.width a i m (to_go plan.width b i Broken t.rest) l in
          let half : Holds u mid (length (t.before ++ notes plan.width b i t.rest)) = halfway u (Ok tt) f t a b e l h in
          wrote_as x _ _ _ _ r (cat_name t a b e l) refl
          (subst (λ y. Writes plan y i m u x r) (second_at t a b e) g (second_task t a b e u.left half.left_are) mid (left_as u mid _ _ (sym half.left_are) half))

  module _ (is : (get_or plan.nodes.now at no_node).kind ≡ Group) where
    pub group_places : Task plan at i v.left → (plan.width + 1 ≤ v.left) × (v.left ≤ length plan.notes.now)
    group_places t = let p = node_shape t Group is in (group_some t p.0 p.1, t.within)

    module _ (u : Writer) (same : SameButLeft v u (v.left - (plan.width + 1))) where
      pub group_ready : Task plan at i v.left → Task plan (at + 1) i u.left
      group_ready t = let p = node_shape t Group is in group_task t p.0 p.1 u.left same.left_is

      pub group_writes : (x : Writer) (inner : Mode) (r : Result (Unit {0}) Full) → inner ≡ decided m (get_or plan.notes.now (v.left - (plan.width + 1) + min v.column plan.width) false) → Writes plan (at + 1) i inner u x r → Writes plan at i m v x r
      unfolding chosen group_task
      group_writes x inner r mode g t l h =
          let p = node_shape t Group is in
          let a = p.0 in
          let e = p.1 in
          let k = t.rest in
          let here : Holds u l u.left = record {
            out_is = same.same_out ∙ h.out_is;
            column_is = same.same_column ∙ h.column_is;
            lines_are = same.same_lines ∙ h.lines_are;
            left_are = refl;
          } in
          let note : get_or plan.notes.now (v.left - (plan.width + 1) + min v.column plan.width) false ≡ breaks plan.width (to_go plan.width a i Flat k (min l.column plan.width)) (to_go plan.width a i Broken k (min l.column plan.width)) =
          ap (λ c. get_or plan.notes.now (v.left - (plan.width + 1) + min c plan.width) false) h.column_is ∙ group_note t a e (min l.column plan.width) (omega arith) in
          let name : chosen plan.width a i inner k l ≡ chosen plan.width t.what i m k l =
          ap (λ y. chosen plan.width a i y k l) (mode ∙ ap (decided m) note) ∙ ap (λ d. chosen plan.width d i m k l) (sym e) in
          wrote_as x _ _ _ _ r name refl (g (group_task t a e u.left same.left_is) l here)
