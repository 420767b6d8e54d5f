-- What each step of the search does to what it holds. Assumes nothing.
use Rattle.std.proofs.Common.{◌≡◌, ℕ, suc, ◌+◌, ◌-◌, ◌*◌, ◌<◌, ◌≤◌, Bool, List, [], ◌++◌, length, get_or, take, drop, replicate, sym, refl, ap, ◌∙◌, subst, append_assoc, append-nil, add_comm, add-one, arith, length-append}
use Rattle.std.proofs.lemmas.List.{take_at, drop_at, take_rest}
use Rattle.doc.specs.Doc.{Doc, nil, text, cat, nest, line, group}
use Rattle.doc.specs.Nodes.{size, spells}
use Rattle.doc.specs.Reading.{no_node}
use Rattle.doc.specs.Standing.{Stands}
use Rattle.doc.specs.declared.node.Kind.TheVariants.{Nil, Text, Cat, Nest, Line, Group}
use Rattle.doc.specs.declared.node.Node.{Node}
use Rattle.doc.proofs.Shapes.{shape, stands_is}
use Rattle.cost.specs.Layout.{Layout}
use Rattle.cost.specs.Chosen.{below, notes}
use Rattle.cost.specs.Price.{beats, cheaper, line_more}
use Rattle.cost.specs.Row.{no_cost, along, flat_length, Tells, Level}
use Rattle.cost.specs.ToGo.{to_go}
use Rattle.cost.specs.declared.price.Cost.{Cost}
use Rattle.cost.specs.declared.price.Mode.TheVariants.{Broken}
use Rattle.cost.proofs.Level.{level_to_go}
use Rattle.cost.proofs.Notes.{length_below}
use Rattle.cost.proofs.Tells.{tells_text, tells_line, tells_group, notes_group}
use Rattle.layout.specs.Searching.{Quest, Found, Saved, Merged, Merges}
use Rattle.layout.specs.declared.search.Search.{Search}

-- a row of nothing, filled anew
pub begun : (w long : ℕ) (old new : List Cost) (nothing : Cost) → long ≡ w + 1 → old ≡ [] → nothing ≡ no_cost → new ≡ take long old ++ replicate (long - length old) nothing → new ≡ replicate (suc w) no_cost
begun w long old new nothing o e f is =
    let n : long - length old ≡ suc w = omega (arith, ap length e) in
    is ∙ (λ i. take ((o ∙ add-one w) i) (e i) ++ replicate (n i) (f i))

-- the row of a line that ends
pub line_row : (w to : ℕ) (row read lent after : List Cost) (at cost : Cost) → read ≡ row → lent ≡ row → length row ≡ w + 1 → at ≡ along read to → cost ≡ line_more at → after ≡ replicate (length lent) cost → after ≡ replicate (suc w) (line_more (along row to))
line_row w to row read lent after at cost r l long a m is =
    let n : length row ≡ suc w = omega arith in
    is ∙ (λ i. replicate ((ap length l ∙ n) i) ((m ∙ ap line_more (a ∙ ap (λ x. along x to) r)) i))

-- the row that was kept last, and those under it
module _ (w base : ℕ) (saved under kept : List Cost) (is : saved ≡ under ++ kept) (long : length kept ≡ w + 1) (b : base ≡ length saved - w - 1) where
  base_is : length under ≡ base
  base_is = omega (arith, ap length is, length-append under kept)

  pub under_kept : take base saved ≡ under
  under_kept = ap (take base) is ∙ take_at under kept base base_is

  pub last_kept : (lent flat : List Cost) → lent ≡ saved → flat ≡ take (length lent - base) (drop base lent) → flat ≡ kept
  last_kept lent flat l f = f ∙ take_rest lent base ∙ ap (drop base) (l ∙ is) ∙ drop_at under kept base base_is

-- the merged row and its notes, of the rows that the code was lent
module _ (w reach shift : ℕ) (row kept broken flat : List Cost) (r : broken ≡ row) (f : flat ≡ kept) (long : length row ≡ w + 1) where
  size_is : length broken ≡ suc w
  size_is = omega (arith, ap length r)

  pub merged_row : (new : List Cost) → new ≡ below (λ c. cheaper (along flat (c + reach)) (along broken (c + shift))) (length broken) → new ≡ below (λ c. cheaper (along kept (c + reach)) (along row (c + shift))) (suc w)
  merged_row new is = is ∙ (λ i. below (λ c. cheaper (along (f i) (c + reach)) (along (r i) (c + shift))) (size_is i))

  pub merged_long : (new : List Cost) (len : ℕ) → new ≡ below (λ c. cheaper (along flat (c + reach)) (along broken (c + shift))) (length broken) → length broken ≡ len → length new ≡ len
  merged_long new len is e = ap length is ∙ length_below _ (length broken) ∙ e

  pub merged_notes : (old new : List Bool) → new ≡ old ++ below (λ c. beats (along broken (c + shift)) (along flat (c + reach))) (length broken) → new ≡ old ++ below (λ c. beats (along row (c + shift)) (along kept (c + reach))) (suc w)
  merged_notes old new is = is ∙ (λ i. old ++ below (λ c. beats (along (r i) (c + shift)) (along (f i) (c + reach))) (size_is i))

-- what a node says of the document that stands there
module _ (ns : List Node) (at : ℕ) (d : Doc) (p : ℕ) (h : Stands ns d p at) (P : Doc → Type 0) where
  as_nil : (get_or ns at no_node).kind ≡ Nil → P nil → P d
  as_nil e f = subst P (sym (shape ns d p at Nil h e)) f

  as_line : (get_or ns at no_node).kind ≡ Line → P line → P d
  as_line e f = subst P (sym (shape ns d p at Line h e)) f

  as_text : (start len : ℕ) → (get_or ns at no_node).kind ≡ Text start len → ((t : List ℕ) → len ≡ length t → P (text t)) → P d
  as_text start len e f =
      let s = shape ns d p at (Text start len) h e in
      subst P (sym s.1) (f s.0 s.3)

  as_cat : (get_or ns at no_node).kind ≡ Cat → ((a b : Doc) → Stands ns a (p + 1) (at + 1) → Stands ns b (p + 1 + spells a) (at + 1 + size a) → P (cat a b)) → P d
  unfolding Stands
  as_cat e f =
      let s = shape ns d p at Cat h e in
      let g : Stands ns (cat s.0 s.1) p at = subst (λ x. Stands ns x p at) s.2 h in
      subst P (sym s.2) (f s.0 s.1 g.1 g.2)

  as_nest : (k : ℕ) → (get_or ns at no_node).kind ≡ Nest k → ((a : Doc) → k ≤ 255 → Stands ns a (p + 2) (at + 1) → P (nest k a)) → P d
  unfolding Stands
  as_nest k e f =
      let s = shape ns d p at (Nest k) h e in
      let g : Stands ns (nest k s.0) p at = subst (λ x. Stands ns x p at) s.1 h in
      subst P (sym s.1) (f s.0 g.1 g.2)

  as_group : (get_or ns at no_node).kind ≡ Group → ((a : Doc) → Stands ns a (p + 1) (at + 1) → P (group a)) → P d
  unfolding Stands
  as_group e f =
      let s = shape ns d p at Group h e in
      let g : Stands ns (group s.0) p at = subst (λ x. Stands ns x p at) s.1 h in
      subst P (sym s.1) (f s.0 g.1)

-- flat, a document is not longer than so many texts
flat_short : (ns : List Node) (d : Doc) (p x : ℕ) → Stands ns d p x → flat_length d ≤ 255 * size d
unfolding Stands flat_length size
flat_short ns nil p x h = omega arith
flat_short ns (text t) p x h = omega (arith, h.1)
flat_short ns (cat a b) p x h = omega (arith, flat_short ns a _ _ h.1, flat_short ns b _ _ h.2)
flat_short ns (nest k a) p x h = omega (arith, flat_short ns a _ _ h.2)
flat_short ns line p x h = omega arith
flat_short ns (group a) p x h = omega (arith, flat_short ns a _ _ h.1)

-- what is to be shown of each document that stands there
abbrev pub Finds : List Node → (at indent : ℕ) (v u : Search) → Type 0
Finds ns at indent v u = (d : Doc) (p : ℕ) → Stands ns d p at → Found d indent v u

-- there is room for what a document needs
abbrev Roomy : Search → ℕ → Doc → Type 0 → Type 0
Roomy v at d X = v.flat + 255 * (at + size d) ≤ 16711680 → length v.notes + 256 * (at + size d) ≤ 16777216 → X

-- what the search holds when a group's part was gone through
pub record Ready (v u : Search) : Type 0 where
  pub further : v.flat ≤ u.flat
  pub kept : u.width + 1 ≤ length u.saved
  pub room : length u.notes + 256 ≤ 16777216
  pub short : u.flat ≤ 16711680

-- a search that is asked for what stands at a node can be asked for its parts
module _ (ns : List Node) (at indent : ℕ) (v : Search) (q : Quest ns at indent v) where
  pub within : at < length ns
  within = (stands_is ns q.what q.from at q.stands).0

  module _ (kind : (get_or ns at no_node).kind ≡ Cat) where
    pub first_within : at + 1 < length ns
    first_within = as_cat ns at q.what q.from q.stands (λ _. at + 1 < length ns) kind (λ a b ha hb. (stands_is ns a _ _ ha).0)

    module _ (second : ℕ) (e : second ≡ (get_or ns (at + 1) no_node).end) where
      pub second_after : at < second
      second_after =
          as_cat ns at q.what q.from q.stands (λ _. at < second) kind
          (λ a b ha hb. omega (arith, e, ap (λ n. n.end) (stands_is ns a _ _ ha).1))

      pub second_quest : Quest ns second indent v
      unfolding size
      second_quest =
          as_cat ns at q.what q.from q.stands (λ d. Roomy v at d (Quest ns second indent v)) kind
          (λ a b ha hb short many.
          let is : second ≡ at + 1 + size a = e ∙ ap (λ n. n.end) (stands_is ns a _ _ ha).1 in
          record {
            what = b;
            from = q.from + 1 + spells a;
            stands = subst (Stands ns b (q.from + 1 + spells a)) (sym is) hb;
            few = q.few;
            shallow = omega (arith, q.shallow);
            short = omega arith;
            deep = omega (arith, q.deep);
            many = omega arith;
          })
          q.short q.many

      pub first_quest : (u : Search) → Finds ns second indent v u → Quest ns (at + 1) indent u
      unfolding size
      first_quest u f =
          as_cat ns at q.what q.from q.stands (λ d. Roomy v at d (Quest ns (at + 1) indent u)) kind
          (λ a b ha hb short many.
          let is : second ≡ at + 1 + size a = e ∙ ap (λ n. n.end) (stands_is ns a _ _ ha).1 in
          let found : Found b indent v u = f b (q.from + 1 + spells a) (subst (Stands ns b (q.from + 1 + spells a)) (sym is) hb) in
          record {
            what = a;
            from = q.from + 1;
            stands = ha;
            few = q.few;
            shallow = omega (arith, q.shallow);
            short = omega (arith, found.longer, flat_short ns b _ _ hb);
            deep = omega (arith, q.deep, ap length found.same_saved);
            many = omega (arith, found.more);
          })
          q.short q.many

  pub nest_quest : (k : ℕ) → (get_or ns at no_node).kind ≡ Nest k → Quest ns (at + 1) (indent + k) v
  unfolding size
  nest_quest k kind =
      as_nest ns at q.what q.from q.stands (λ d. Roomy v at d (Quest ns (at + 1) (indent + k) v)) k kind
      (λ a few ha short many.
      record {
        what = a;
        from = q.from + 2;
        stands = ha;
        few = q.few;
        shallow = omega (arith, q.shallow);
        short = omega arith;
        deep = omega (arith, q.deep);
        many = omega arith;
      })
      q.short q.many

  pub room_to_save : length v.saved + 256 ≤ 16777216
  room_to_save = omega (arith, q.deep, q.few, within)

  -- a group is entered, and its row was kept
  module _ (kind : (get_or ns at no_node).kind ≡ Group) (m : Search) (s : Saved v m) where
    saved_more : length m.saved ≡ length v.saved + (v.width + 1)
    saved_more = omega (arith, ap length s.saved_is ∙ length-append v.saved v.row, v.long)

    notes_same : length m.notes ≡ length v.notes
    notes_same = omega (arith, ap length s.same_notes)

    pub group_quest : Quest ns (at + 1) indent m
    unfolding size
    group_quest =
        as_group ns at q.what q.from q.stands (λ d. Roomy v at d (Quest ns (at + 1) indent m)) kind
        (λ a ha short many.
        record {
          what = a;
          from = q.from + 1;
          stands = ha;
          few = q.few;
          shallow = omega (arith, q.shallow);
          short = omega (arith, s.same_flat);
          deep = omega (arith, q.deep, saved_more, v.long, v.few);
          many = omega (arith, notes_same);
        })
        q.short q.many

    pub group_ready : (u : Search) → Finds ns (at + 1) indent m u → Ready v u
    unfolding size
    group_ready u f =
        as_group ns at q.what q.from q.stands (λ d. Roomy v at d (Ready v u)) kind
        (λ a ha short many.
        let found : Found a indent m u = f a _ ha in
        record {
          further = omega (arith, found.longer, s.same_flat);
          kept = omega (arith, found.same_width, s.same_width, ap length found.same_saved, saved_more);
          room = omega (arith, found.more, notes_same);
          short = omega (arith, found.longer, s.same_flat, flat_short ns a _ _ ha);
        })
        q.short q.many

-- what holds of a row holds of the same row
tells_same : {w offset offset' : ℕ} {row row' : List Cost} {k : ℕ → Layout} → row' ≡ row → offset' ≡ offset → Tells w row offset k → Tells w row' offset' k
tells_same r o t = record { long = ap length r ∙ t.long; costs = λ c. (λ i. along (r i) (c + o i)) ∙ t.costs c }

-- what follows from a row follows from the same row
from_same : (Q : ℕ → (ℕ → Layout) → Type 0) (w w' offset offset' : ℕ) (row row' : List Cost) → w' ≡ w → row' ≡ row → offset' ≡ offset → ((k : ℕ → Layout) → Level w' k → Tells w' row' offset' k → Q w' k) → (k : ℕ → Layout) → Level w k → Tells w row offset k → Q w k
from_same Q w w' offset offset' row row' e r o f =
    subst (λ x. (k : ℕ → Layout) → Level x k → Tells x row offset k → Q x k) e (λ k l t. f k l (tells_same r o t))

-- what is found at a node
module _ (ns : List Node) (at indent : ℕ) (v u : Search) where
  pub nil_found : (get_or ns at no_node).kind ≡ Nil → u.width ≡ v.width → u.saved ≡ v.saved → u.notes ≡ v.notes → u.row ≡ v.row → u.offset ≡ v.offset → u.flat ≡ v.flat → Finds ns at indent v u
  unfolding flat_length size to_go notes
  nil_found kind w s n r o l d p h =
      as_nil ns at d p h (λ x. Found x indent v u) kind
      record {
        same_width = w;
        same_saved = s;
        longer = omega arith;
        more = omega (arith, ap length n);
        tells = λ k _ t. tells_same r o t;
        noted = λ k _ _. n ∙ sym (append-nil _);
      }

  pub text_found : (start len : ℕ) → (get_or ns at no_node).kind ≡ Text start len → u.width ≡ v.width → u.saved ≡ v.saved → u.notes ≡ v.notes → u.row ≡ v.row → u.offset ≡ v.offset + len → u.flat ≡ v.flat + len → Finds ns at indent v u
  unfolding flat_length size to_go notes
  text_found start len kind w s n r o l d p h =
      as_text ns at d p h (λ x. Found x indent v u) start len kind
      (λ t e.
      record {
        same_width = w;
        same_saved = s;
        longer = omega arith;
        more = omega (arith, ap length n);
        tells = λ k _ b. tells_same r (o ∙ ap (λ x. v.offset + x) e) (tells_text b t);
        noted = λ k _ _. n ∙ sym (append-nil _);
      })

  pub line_found : (get_or ns at no_node).kind ≡ Line → u.width ≡ v.width → u.saved ≡ v.saved → u.notes ≡ v.notes → u.row ≡ replicate (suc v.width) (line_more (along v.row (indent + v.offset))) → u.offset ≡ 0 → u.flat ≡ v.flat + 1 → Finds ns at indent v u
  unfolding flat_length size to_go notes
  line_found kind w s n r o l d p h =
      as_line ns at d p h (λ x. Found x indent v u) kind
      record {
        same_width = w;
        same_saved = s;
        longer = l;
        more = omega (arith, ap length n);
        tells = λ k _ b. tells_same r o (tells_line b indent);
        noted = λ k _ _. n ∙ sym (append-nil _);
      }

  pub nest_found : (j : ℕ) → (get_or ns at no_node).kind ≡ Nest j → Finds ns (at + 1) (indent + j) v u → Finds ns at indent v u
  unfolding flat_length size to_go notes
  nest_found j kind f d p h =
      as_nest ns at d p h (λ x. Found x indent v u) j kind
      (λ a _ ha.
      let found : Found a (j + indent) v u = subst (λ i. Found a i v u) (add_comm indent j) (f a _ ha) in
      record {
        same_width = found.same_width;
        same_saved = found.same_saved;
        longer = found.longer;
        more = omega (arith, found.more);
        tells = λ k l t. found.tells k l t;
        noted = λ k l t. found.noted k l t;
      })

  -- first what stands behind, and then what stands before it
  pub cat_found : (second : ℕ) (m : Search) → (get_or ns at no_node).kind ≡ Cat → second ≡ (get_or ns (at + 1) no_node).end → Finds ns second indent v m → Finds ns (at + 1) indent m u → Finds ns at indent v u
  unfolding flat_length size to_go notes
  cat_found second m kind e fb fa d p h =
      as_cat ns at d p h (λ x. Found x indent v u) kind
      (λ a b ha hb.
      let is : second ≡ at + 1 + size a = e ∙ ap (λ n. n.end) (stands_is ns a _ _ ha).1 in
      let behind : Found b indent v m = fb b (p + 1 + spells a) (subst (Stands ns b (p + 1 + spells a)) (sym is) hb) in
      let before : Found a indent m u = fa a _ ha in
      let w : ℕ = v.width in
      let tells : (k : ℕ → Layout) → Level w k → Tells w m.row m.offset k → Tells w u.row u.offset (to_go w a indent Broken k) =
      from_same (λ x k. Tells x u.row u.offset (to_go x a indent Broken k)) w m.width _ _ _ _ behind.same_width refl refl before.tells in
      let noted : (k : ℕ → Layout) → Level w k → Tells w m.row m.offset k → u.notes ≡ m.notes ++ notes w a indent k =
      from_same (λ x k. u.notes ≡ m.notes ++ notes x a indent k) w m.width _ _ _ _ behind.same_width refl refl before.noted in
      record {
        same_width = before.same_width ∙ behind.same_width;
        same_saved = before.same_saved ∙ behind.same_saved;
        longer = omega (arith, before.longer, behind.longer);
        more = omega (arith, before.more, behind.more);
        tells = λ k l t. tells (to_go w b indent Broken k) (level_to_go w b indent Broken k l) (behind.tells k l t);
        noted = λ k l t.
            noted (to_go w b indent Broken k) (level_to_go w b indent Broken k l) (behind.tells k l t)
            ∙ ap (λ x. x ++ notes w a indent (to_go w b indent Broken k)) (behind.noted k l t)
            ∙ append_assoc v.notes (notes w b indent k) (notes w a indent (to_go w b indent Broken k));
      })

  -- its row kept, its part gone through, and the rows merged
  pub group_found : (m n : Search) (reach : ℕ) → (get_or ns at no_node).kind ≡ Group → Saved v m → Finds ns (at + 1) indent m n → reach ≡ n.flat - (v.flat - v.offset) → Merges n reach u → Finds ns at indent v u
  unfolding flat_length size to_go notes
  group_found m n reach kind s f re g d p h =
      as_group ns at d p h (λ x. Found x indent v u) kind
      (λ a ha.
      let found : Found a indent m n = f a _ ha in
      let w : ℕ = v.width in
      let wn : n.width ≡ w = found.same_width ∙ s.same_width in
      let merged : Merged v.saved v.row n reach u =
      g v.saved v.row (found.same_saved ∙ s.saved_is) (omega (arith, v.long)) in
      let longer : length u.notes ≡ length n.notes + suc n.width =
      ap length merged.notes_are ∙ length-append n.notes _ ∙ ap (λ x. length n.notes + x) (length_below _ (suc n.width)) in
      let far : reach ≡ v.offset + flat_length a = omega (arith, v.near, found.longer, s.same_flat) in
      let tells : (k : ℕ → Layout) → Level w k → Tells w v.row v.offset k → Tells w n.row n.offset (to_go w a indent Broken k) =
      from_same (λ x k. Tells x n.row n.offset (to_go x a indent Broken k)) w m.width _ _ _ _ s.same_width s.same_row s.same_offset found.tells in
      let noted : (k : ℕ → Layout) → Level w k → Tells w v.row v.offset k → n.notes ≡ m.notes ++ notes w a indent k =
      from_same (λ x k. n.notes ≡ m.notes ++ notes x a indent k) w m.width _ _ _ _ s.same_width s.same_row s.same_offset found.noted in
      record {
        same_width = merged.same_width ∙ wn;
        same_saved = merged.saved_is;
        longer = omega (arith, merged.same_flat, found.longer, s.same_flat);
        more = omega (arith, longer, found.more, n.long, n.few, ap length s.same_notes);
        tells = λ k l t.
            tells_same
            (merged.row_is ∙ (λ i. below (λ c. cheaper (along v.row (c + far i)) (along n.row (c + n.offset))) (suc (wn i))))
            merged.begins (tells_group a indent t (tells k l t) l);
        noted = λ k l t.
            merged.notes_are
            ∙ (λ i. (noted k l t ∙ ap (λ x. x ++ notes w a indent k) s.same_notes) i ++ below (λ c. beats (along n.row (c + n.offset)) (along v.row (c + far i))) (suc (wn i)))
            ∙ ap (λ x. (v.notes ++ notes w a indent k) ++ x) (notes_group a indent t (tells k l t))
            ∙ append_assoc v.notes (notes w a indent k) _;
      })
