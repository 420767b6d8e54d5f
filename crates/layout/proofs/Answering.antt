-- Which refusal applies, and that what was written is the best layout. Assumes nothing.
use Rattle.std.proofs.Common.{◌≡◌, ℕ, suc, ◌<◌, ◌≤◌, List, [], ◌++◌, length, drop, replicate, Some, None, Ok, Err, Result, MatchResult, unwrap_or, sym, refl, ap, ◌∙◌, subst, ⊎_elim, append-nil, arith}
use Rattle.std.proofs.lemmas.List.{take_all}
use Rattle.std.proofs.lemmas.Bool.{cond-true, cond-false, le-leb, lt-leb, cases_lt}
use Rattle.doc.specs.Doc.{Doc, nil}
use Rattle.doc.specs.Encoding.{decode}
use Rattle.doc.specs.Nodes.{size, RowOf}
use Rattle.doc.specs.Standing.{Stands}
use Rattle.doc.specs.declared.node.Node.{Node}
use Rattle.doc.proofs.Shapes.{laid_stands}
use Rattle.doc.proofs.Sizes.{length_laid}
use Rattle.cost.specs.Layout.{empty}
use Rattle.cost.specs.Best.{beyond, best}
use Rattle.cost.specs.Price.{limit}
use Rattle.cost.specs.ToGo.{stop}
use Rattle.cost.specs.Chosen.{notes, chosen}
use Rattle.cost.specs.declared.price.Mode.TheVariants.{Broken}
use Rattle.cost.specs.Row.{Tells, no_cost}
use Rattle.cost.proofs.Tells.{tells_stop}
use Rattle.cost.proofs.Level.{level_stop}
use Rattle.cost.proofs.Chosen.{chosen_best}
use Rattle.cost.proofs.Counted.{best_counted}
use Rattle.layout.specs.Entry.{refusal, refusal_of, the_best, length_refusal, refusal_number, LaysOut}
use Rattle.layout.specs.Searching.{Begun, Quest, Found}
use Rattle.layout.specs.Writing.{Holds, Task, Wrote, Writes}
use Rattle.layout.specs.declared.search.Search.{Search}
use Rattle.layout.specs.declared.laid.Laid.{Laid}
use Rattle.layout.specs.declared.refusal.Refusal.{Refusal}
use Rattle.layout.specs.declared.refusal.Refusal.TheVariants.{NotDocument, TooWide, TooLong, NoRoom}
use Rattle.layout.specs.declared.plan.Plan.{Plan}
use Rattle.doc.specs.declared.reserved.Full.{Full}
use Rattle.layout.specs.declared.writer.Writer.{Writer}
use Rattle.layout.proofs.Tasks.{left_as}

module _ (spelled : List ℕ) (w room : ℕ) where
  pub no_document : decode spelled ≡ None → refusal spelled w room ≡ 1
  unfolding refusal
  no_document e = ap (refusal_of w room) e

  module _ (d : Doc) (e : decode spelled ≡ Some d) where
    pub best_is : the_best spelled w ≡ best w d
    unfolding the_best
    best_is = ap (λ o. best w (unwrap_or o nil)) e

    pub too_wide : 255 < w → refusal spelled w room ≡ 2
    unfolding refusal
    too_wide h = ap (refusal_of w room) e ∙ cond-false _ _ _ (lt-leb w 255 h)

    -- with a document and a width that can be, the layout's length decides
    pub by_length : w ≤ 255 → refusal spelled w room ≡ length_refusal (length (the_best spelled w).out) room
    unfolding refusal
    by_length h = ap (refusal_of w room) e ∙ cond-true _ _ _ (le-leb w 255 h) ∙ ap (λ l. length_refusal (length l.out) room) (sym best_is)

pub layout_long : (n room : ℕ) → 131072 < n → length_refusal n room ≡ 3
layout_long n room h = cond-false _ _ _ (lt-leb n 131072 h)

pub buffer_short : (n room : ℕ) → n ≤ 131072 → room < n → length_refusal n room ≡ 4
buffer_short n room h less = cond-true _ _ _ (le-leb n 131072 h) ∙ cond-false _ _ _ (lt-leb n room less)

pub all_fits : (n room : ℕ) → n ≤ 131072 → n ≤ room → length_refusal n room ≡ 0
all_fits n room h less = cond-true _ _ _ (le-leb n 131072 h) ∙ cond-true _ _ _ (le-leb n room less)

pub says_refused : (spelled : List ℕ) (w : ℕ) (out exit : List ℕ) (refused : ℕ) (e : Refusal) → refused ≡ refusal_number e → exit ≡ out → LaysOut spelled w out refused (Err e) exit
says_refused spelled w out exit refused NotDocument e x = subst (λ n. LaysOut spelled w out n (Err NotDocument) exit) (sym e) (refl, x)
says_refused spelled w out exit refused TooWide e x = subst (λ n. LaysOut spelled w out n (Err TooWide) exit) (sym e) (refl, x)
says_refused spelled w out exit refused TooLong e x = subst (λ n. LaysOut spelled w out n (Err TooLong) exit) (sym e) (refl, x)
says_refused spelled w out exit refused NoRoom e x = subst (λ n. LaysOut spelled w out n (Err NoRoom) exit) (sym e) (refl, x)

pub says_laid : (spelled : List ℕ) (w : ℕ) (out exit : List ℕ) (refused : ℕ) (laid : Laid) → refused ≡ 0 → laid.lines ≡ (the_best spelled w).lines → laid.length ≡ length (the_best spelled w).out → exit ≡ (the_best spelled w).out ++ drop (length (the_best spelled w).out) out → LaysOut spelled w out refused (Ok laid) exit
says_laid spelled w out exit refused laid e f g h = subst (λ n. LaysOut spelled w out n (Ok laid) exit) (sym e) (f, g, h)

-- what was written in the end: the best layout, or that is too long
pub wrote_best : (w : ℕ) (d : Doc) (v : Writer) (n : ℕ) (r : Result (Unit {0}) Full) → size d ≤ 65536 → Wrote v (chosen w d 0 Broken stop empty) n r → MatchResult r (λ _. (v.out ≡ (best w d).out) × (v.lines ≡ (best w d).lines)) (λ _. 131072 < length (best w d).out)
wrote_best w d v n (Ok t) few h =
    let known = chosen_best w d few in
    ⊎_elim
    (λ near. let same = known.0 near in (h.out_is ∙ ap (λ l. l.out) same, h.lines_are ∙ ap (λ l. l.lines) same))
    (λ far. absurd (omega (arith, known.1 far, ap length h.out_is, v.short)))
    (cases_lt (beyond w (best w d)) limit)
wrote_best w d v n (Err e) few h =
    let known = chosen_best w d few in
    ⊎_elim
    (λ near. omega (arith, h, ap (λ l. length l.out) (known.0 near)))
    (λ far. omega (arith, best_counted w d))
    (cases_lt (beyond w (best w d)) limit)

-- the whole document
module _ (s : List ℕ) (ns : List Node) (r : RowOf s ns) where
  whole_stands : Stands ns r.what 0 0
  whole_stands = laid_stands s r.what 0 0 ns [] [] (r.row_is ∙ sym (append-nil _)) refl r.spelled

  whole_long : length ns ≡ size r.what
  whole_long = ap length r.row_is ∙ length_laid r.what 0 0

  pub whole_quest : (w : ℕ) (v : Search) → Begun w v → Quest ns 0 0 v
  whole_quest w v b =
      let few = r.few in
      let no-saved = ap length b.none_saved in
      let no-notes = ap length b.none_noted in
      record {
        what = r.what;
        from = 0;
        stands = whole_stands;
        few = omega (arith, whole_long);
        shallow = omega arith;
        short = omega (arith, b.flat_is);
        deep = omega arith;
        many = omega arith;
      }

  -- what the search has noted from the end of the document on
  pub whole_notes : (w : ℕ) (v u : Search) → Begun w v → ((d : Doc) (p : ℕ) → Stands ns d p 0 → Found d 0 v u) → u.notes ≡ notes w r.what 0 stop
  whole_notes w v u b found =
      let tells : Tells v.width v.row v.offset stop =
      subst (λ x. Tells x v.row v.offset stop) (sym b.width_is)
      (subst (λ x. Tells w x v.offset stop) (sym b.row_is) (subst (λ x. Tells w (replicate (suc w) no_cost) x stop) (sym b.offset_is) (tells_stop w))) in
      (found r.what 0 whole_stands).noted stop (level_stop v.width) tells
      ∙ (λ i. b.none_noted i ++ notes (b.width_is i) r.what 0 stop)

-- the whole document is to be written
module _ (plan : Plan) (r : RowOf plan.source.now plan.nodes.now) where
  pub whole_task : (left : ℕ) → plan.notes.now ≡ notes plan.width r.what 0 stop → left ≡ length plan.notes.now → Task plan 0 0 left
  whole_task left e f = record {
    what = r.what;
    from = 0;
    rest = stop;
    before = [];
    stands = whole_stands _ _ r;
    spelled = r.spelled;
    decisions = take_all left plan.notes.now (omega arith) ∙ e;
    within = omega arith;
    shallow = omega arith;
    few = omega (arith, whole_long _ _ r, r.few);
  }

  pub whole_written : (v u : Writer) (a : Result (Unit {0}) Full) → plan.notes.now ≡ notes plan.width r.what 0 stop → Holds v empty (length plan.notes.now) → Writes plan 0 0 Broken v u a → MatchResult a (λ _. (u.out ≡ (the_best plan.source.now plan.width).out) × (u.lines ≡ (the_best plan.source.now plan.width).lines)) (λ _. 131072 < length (the_best plan.source.now plan.width).out)
  unfolding whole_task
  whole_written v u a e held writes =
      subst (λ l. MatchResult a (λ _. (u.out ≡ l.out) × (u.lines ≡ l.lines)) (λ _. 131072 < length l.out)) (sym (best_is plan.source.now plan.width 0 r.what r.decoded))
      (wrote_best plan.width r.what u 0 a r.few (writes (whole_task v.left e held.left_are) empty (left_as v empty _ _ (sym held.left_are) held)))

-- how the best layout is answered, once its length is known; the columns are the width
module _ (spelled : List ℕ) (w cols : ℕ) (out exit : List ℕ) (d : Doc) (e : decode spelled ≡ Some d) (same : cols ≡ w) (narrow : w ≤ 255) where
  -- which refusal its length makes
  refused : (n k : ℕ) → length (the_best spelled cols).out ≡ n → length_refusal n (length out) ≡ k → refusal spelled w (length out) ≡ k
  refused n k l r =
      by_length spelled w (length out) d e (omega arith) ∙ ap (λ x. length_refusal (length (the_best spelled x).out) (length out)) (sym same) ∙ ap (λ x. length_refusal x (length out)) l ∙ r

  pub answer_long : 131072 < length (the_best spelled cols).out → exit ≡ out → LaysOut spelled w out (refusal spelled w (length out)) (Err TooLong) exit
  answer_long h x = says_refused spelled w out exit _ TooLong (refused _ 3 refl (layout_long _ _ h)) x

  module _ (written : List ℕ) (is : written ≡ (the_best spelled cols).out) (short : length written ≤ 131072) where
    pub answer_short : length out < length written → exit ≡ out → LaysOut spelled w out (refusal spelled w (length out)) (Err NoRoom) exit
    answer_short h x =
        says_refused spelled w out exit _ NoRoom (refused (length written) 4 (ap length (sym is)) (buffer_short _ _ short h)) x

    pub answer_laid : (laid : Laid) → laid.lines ≡ (the_best spelled cols).lines → laid.length ≡ length written → laid.length ≤ length out → exit ≡ written ++ drop laid.length out → LaysOut spelled w out (refusal spelled w (length out)) (Ok laid) exit
    answer_laid laid lines_is len_is fits x =
        let text : written ≡ (the_best spelled w).out = is ∙ ap (λ c. (the_best spelled c).out) same in
        let long : laid.length ≡ length (the_best spelled w).out = len_is ∙ ap length text in
        let count : laid.lines ≡ (the_best spelled w).lines = lines_is ∙ ap (λ c. (the_best spelled c).lines) same in
        says_laid spelled w out exit _ laid (refused (length written) 0 (ap length (sym is)) (all_fits _ _ short (omega arith))) count long (x ∙ (λ i. text i ++ drop (long i) out))
